-- Who holds a copy: a holder stays until its own outcome, and an owner becomes one only by a yes to an ask that writes the copy. By the cases of a step.
use mathlib.Core.Path.{◌≡◌, refl, sym, ap, ◌∙◌}
use mathlib.Core.Bool.{Bool, true, false, cond, not, ◌&&◌, ◌||◌}
use mathlib.Core.Logic.{◌⊎◌, inl, inr, ⊎_elim}
use mathlib.Core.List.{List, [], ◌∷◌}
use Prim.Native.Nat.{ℕ, ◌≤◌, ◌<◌}
use borrow.Author.Tests.{ne_eqb, eqb-true}
use lib.Dec.{eqb}
use Rattle.numbers.specs.Sizes.{nobody}
use Rattle.wire.specs.declared.Entry.{Entry}
use Rattle.wire.specs.Message.{Message}
use Rattle.wire.specs.Formed.{word_of}
use Rattle.wire.specs.Encode.{All}
use Rattle.image.specs.declared.Copy.{Copy}
use Rattle.image.specs.Layout.{shape, holder_field, holder, serial, copy_of}
use Rattle.image.specs.Change.{freeing}
use Rattle.image.proofs.Each.{same_or_not}
use Rattle.judge.specs.Standing.{standing, active, entered}
use Rattle.judge.specs.Judge.{some, other_holds, held_by_another, newer_here, rivals_of, older_among, votes_no}
use Rattle.replica.specs.Steps.{fetch_image, ask_image, decided, outcome_image}
use Rattle.replica.specs.Receive.{step}
use Rattle.replica.proofs.Spoken.{false_true}
use Rattle.replica.proofs.Delivered.{either_way, or_neither}
use Rattle.replica.proofs.Fields.{writes_to, mark_in, owner_apart, applied_apart, released_copy}
use Rattle.replica.proofs.Late.{late_outcome}
use Rattle.replica.proofs.After.{here_last, fetch_copy, no_copy, yes_copy, early_copy, settled, decided_sound}
use Rattle.replica.proofs.Taken.{Taken, by_kind, fetch_still, ask_still, outcome_cases}

-- ---- what a yes asks of the holders
unbarred : (h o : ℕ) → (not (eqb h nobody) && not (eqb h o)) ≡ false → (h ≡ nobody) ⊎ (h ≡ o)
unbarred h o = by (eqb h nobody) (eqb h o) refl refl
  where
    by : (a b : Bool) → eqb h nobody ≡ a → eqb h o ≡ b → (not a && not b) ≡ false → (h ≡ nobody) ⊎ (h ≡ o)
    by true b p q w = inl (eqb-true h nobody p)
    by false true p q w = inr (eqb-true h o q)
    by false false p q w = false_true (sym w)

free_all : (n : List ℕ) (o : ℕ) (es : List Entry) → some (other_holds n o) es ≡ false
    → All (λ (e : Entry). (holder n e.object ≡ nobody) ⊎ (holder n e.object ≡ o)) es
unfolding some
free_all n o [] w = tt
free_all n o (e ∷ es) w =
    let u = or_neither (other_holds n o e) (some (other_holds n o) es) w in
    (unbarred (holder n e.object) o u.0, free_all n o es u.1)

-- a yes passes all three tests of a vote
pub yes_passes : (n : List ℕ) (m : Message) → votes_no n m ≡ false
    → (held_by_another n m ≡ false) × ((newer_here n m ≡ false) × (older_among n (rivals_of n m) m.owner ≡ false))
unfolding votes_no
yes_passes n m v =
    let a = or_neither (held_by_another n m || newer_here n m) (older_among n (rivals_of n m) m.owner) v in
    let b = or_neither (held_by_another n m) (newer_here n m) a.0 in
    (b.0, (b.1, a.1))

yes_unheld : (n : List ℕ) (m : Message) → votes_no n m ≡ false → some (other_holds n m.owner) m.entries ≡ false
unfolding held_by_another
yes_unheld n m v = (yes_passes n m v).0

-- an ask that is voted yes: no other holds any of its objects
pub yes_only_free : (n : List ℕ) (m : Message) → votes_no n m ≡ false
    → All (λ (e : Entry). (holder n e.object ≡ nobody) ⊎ (holder n e.object ≡ m.owner)) m.entries
yes_only_free n m v = free_all n m.owner m.entries (yes_unheld n m v)

-- ---- what a yes makes of a holder
module _ (n : List ℕ) (o t h : ℕ) (q : holder n t ≡ h) (ne : h ≡ nobody → ⊥) where
  kept_one : (e : Entry) (a b : Bool) → eqb t e.object ≡ b → other_holds n o e ≡ false → cond (a && b) o h ≡ h
  kept_one e false b p v = refl
  kept_one e true false p v = refl
  kept_one e true true p v =
      let r : holder n e.object ≡ h = ap (holder n) (sym (eqb-true t e.object p)) ∙ q in
      ⊎_elim (λ (z : holder n e.object ≡ nobody). absurd (ne (sym r ∙ z))) (λ z. sym z ∙ r) (unbarred (holder n e.object) o v)

  kept_in : (es : List Entry) → some (other_holds n o) es ≡ false → mark_in o es t h ≡ h
  unfolding some mark_in
  kept_in [] w = refl
  kept_in (e ∷ es) w =
      let u = or_neither (other_holds n o e) (some (other_holds n o) es) w in
      ap (mark_in o es t) (kept_one e (not (eqb e.mode 0)) (eqb t e.object) refl u.0) ∙ kept_in es u.1

-- whether some entry writes object t
abbrev pub writes_in : List Entry → ℕ → Bool
writes_in es t = some (λ e. writes_to e t) es

new_one : (b more : Bool) (o h p : ℕ) → ((g : ℕ) → (g ≡ p → ⊥) → cond b o h ≡ g → (p ≡ o) × (more ≡ true)) → (h ≡ p → ⊥)
    → (p ≡ o) × ((b || more) ≡ true)
new_one true more o h p ih ne = ⊎_elim (λ (z : o ≡ p). (sym z, refl)) (λ z. ((ih o z refl).0, refl)) (same_or_not o p)
new_one false more o h p ih ne = ih h ne refl

new_in : (o t p : ℕ) (es : List Entry) (h : ℕ) → mark_in o es t h ≡ p → (h ≡ p → ⊥) → (p ≡ o) × (writes_in es t ≡ true)
unfolding some mark_in
new_in o t p [] h w ne = absurd (ne w)
new_in o t p (e ∷ es) h w ne =
    new_one (writes_to e t) (writes_in es t) o h p (λ g z c. new_in o t p es (cond (writes_to e t) o h) w (λ y. z (sym c ∙ y))) ne

-- ---- the holder after each step
module _ (l : List ℕ) (m : Message) (k : Taken l m) (t : ℕ) (small : t < shape.objects) where
  abbrev o : ℕ
  o = m.owner

  entered_holder : holder (entered l m) t ≡ holder l t
  unfolding entered
  entered_holder =
      either_way (λ (x : List ℕ). holder x t ≡ holder l t) (eqb (standing l m) 4) _ _
      (owner_apart (holder_field shape) t tt tt tt l o m.serial 1 m.stamp) refl

  fetch_holder : holder (fetch_image l m) t ≡ holder l t
  unfolding copy_of
  fetch_holder = by (active l m) refl
    where
      by : (b : Bool) → active l m ≡ b → holder (fetch_image l m) t ≡ holder l t
      by true a = ap (λ (c : Copy). c.holder) (fetch_copy l m k.sound k.owner k.serial k.stamp k.fits a t small)
      by false a = ap (λ (x : List ℕ). holder x t) (fetch_still l m a)

  yes_holder : active l m ≡ true → votes_no (entered l m) m ≡ false → holder (ask_image l m) t ≡ mark_in o m.entries t (holder l t)
  unfolding copy_of
  yes_holder a v = ap (λ (c : Copy). c.holder) (yes_copy l m k.sound k.owner k.serial k.stamp k.fits a v t small)

  no_holder : active l m ≡ true → votes_no (entered l m) m ≡ true → holder (ask_image l m) t ≡ holder l t
  unfolding copy_of
  no_holder a v = ap (λ (c : Copy). c.holder) (no_copy l m k.sound k.owner k.serial k.stamp k.fits a v t small)

  decided_holder : holder (decided l m) t ≡ holder l t
  unfolding decided
  decided_holder =
      either_way (λ (x : List ℕ). holder x t ≡ holder l t) (eqb (word_of m) 1) _ _
      (applied_apart (holder_field shape) t tt tt tt tt l o m.serial m.entries) refl

  here_holder : 1 ≤ standing l m → standing l m ≤ 3 → holder (outcome_image l m) t ≡ freeing o (holder l t)
  unfolding copy_of
  here_holder a b =
      let sound = decided_sound l m k.sound k.owner k.serial k.stamp k.fits in
      ap (λ (x : List ℕ). holder x t) (settled l m k.sound k.owner k.serial k.stamp k.fits a b)
      ∙ ap (λ (c : Copy). c.holder) (released_copy (decided l m) sound t small o) ∙ ap (freeing o) decided_holder

  early_holder : standing l m ≡ 4 → holder (outcome_image l m) t ≡ holder l t
  unfolding copy_of
  early_holder e = ap (λ (c : Copy). c.holder) (early_copy l m k.sound k.owner k.serial k.stamp k.fits e t small)

  -- ---- a holder stays until the outcome of its last transaction
  module _ (h : ℕ) (q : holder l t ≡ h) (ne : h ≡ nobody → ⊥) where
    ask_keeps : holder (ask_image l m) t ≡ h
    ask_keeps = by (active l m) (votes_no (entered l m) m) refl refl
      where
        by : (a v : Bool) → active l m ≡ a → votes_no (entered l m) m ≡ v → holder (ask_image l m) t ≡ h
        by false v x y = ap (λ (n : List ℕ). holder n t) (ask_still l m x) ∙ q
        by true true x y = no_holder x y ∙ q
        by true false x y =
            yes_holder x y ∙ ap (mark_in o m.entries t) q
            ∙ kept_in (entered l m) o t h (entered_holder ∙ q) ne m.entries (yes_unheld (entered l m) m y)

    outcome_keeps : m.kind ≡ 5 → (o ≡ h → m.serial ≡ serial l h → ⊥) → holder (outcome_image l m) t ≡ h
    outcome_keeps e own =
        ⊎_elim (λ (z : standing l m ≡ 0). ap (λ (n : List ℕ). holder n t) (late_outcome l m z) ∙ q)
        (λ x. ⊎_elim (λ (z : standing l m ≡ 4). early_holder z ∙ q)
        (λ z.
        let last = (here_last l m z.0 z.1).0 in
        let other : eqb h o ≡ false = ne_eqb h o (λ w. own (sym w) (sym last ∙ ap (serial l) (sym w))) in
        here_holder z.0 z.1 ∙ ap (freeing o) q ∙ ap (λ (b : Bool). cond b nobody h) other)
        x)
        (outcome_cases l m k e)

    pub holder_stays : (me : ℕ) → (m.kind ≡ 5 → o ≡ h → m.serial ≡ serial l h → ⊥) → holder (step l me m).image t ≡ h
    holder_stays me own =
        by_kind (λ (x : List ℕ). holder x t ≡ h) l me m k (λ e. fetch_holder ∙ q) (λ e. ask_keeps) (λ e. outcome_keeps e (own e))

  -- ---- an owner p becomes the holder only by a yes to its ask, which writes the copy
  pub record VotedYes : Type 0 where
    pub asks : m.kind ≡ 3
    pub judged : active l m ≡ true
    pub yes : votes_no (entered l m) m ≡ false
    pub writes : writes_in m.entries t ≡ true

  module _ (p : ℕ) (someone : p ≡ nobody → ⊥) (new : holder l t ≡ p → ⊥) where
    abbrev Claim : List ℕ → Type 0
    Claim x = holder x t ≡ p → (p ≡ o) × VotedYes

    unchanged : (x : List ℕ) → holder x t ≡ holder l t → Claim x
    unchanged x e w = absurd (new (sym e ∙ w))

    ask_claim : m.kind ≡ 3 → Claim (ask_image l m)
    ask_claim e = by (active l m) (votes_no (entered l m) m) refl refl
      where
        by : (a v : Bool) → active l m ≡ a → votes_no (entered l m) m ≡ v → Claim (ask_image l m)
        by false v x y = unchanged (ask_image l m) (ap (λ (n : List ℕ). holder n t) (ask_still l m x))
        by true true x y = unchanged (ask_image l m) (no_holder x y)
        by true false x y = λ w.
            let r = new_in o t p m.entries (holder l t) (sym (yes_holder x y) ∙ w) new in
            (r.0, record { asks = e; judged = x; yes = y; writes = r.1 })

    freed_claim : (b : Bool) → cond b nobody (holder l t) ≡ p → (p ≡ o) × VotedYes
    freed_claim true w = absurd (someone (sym w))
    freed_claim false w = absurd (new w)

    outcome_claim : m.kind ≡ 5 → Claim (outcome_image l m)
    outcome_claim e w =
        ⊎_elim (λ (z : standing l m ≡ 0). unchanged (outcome_image l m) (ap (λ (n : List ℕ). holder n t) (late_outcome l m z)) w)
        (λ x. ⊎_elim (λ (z : standing l m ≡ 4). unchanged (outcome_image l m) (early_holder z) w)
        (λ z. freed_claim (eqb (holder l t) o) (sym (here_holder z.0 z.1) ∙ w))
        x)
        (outcome_cases l m k e)

    pub held_only_by_yes : (me : ℕ) → holder (step l me m).image t ≡ p → (p ≡ o) × VotedYes
    held_only_by_yes me =
        by_kind Claim l me m k (λ e. unchanged (fetch_image l m) fetch_holder) ask_claim outcome_claim
