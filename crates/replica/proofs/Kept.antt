-- A valid image stays valid under every delivery. Each change of a step keeps an image sound: what holds or lists an owner goes with its state.
use mathlib.Core.Path.{◌≡◌, refl, sym, ap, subst, ◌∙◌}
use mathlib.Core.Bool.{Bool, true, false, cond, ◌||◌}
use mathlib.Core.Logic.{inl, inr, ⊎_elim}
use mathlib.Core.List.{List, [], ◌∷◌}
use Prim.Native.Nat.{ℕ, ◌+◌, ◌^◌, ◌≤◌, ◌<◌}
use native.Mathlib.Omega.{arith}
use borrow.Author.Tests.{eqb-true, leb-true, ltb-true}
use lib.Dec.{T, eqb, ltb}
use Rattle.numbers.specs.Sizes.{nodes}
use Rattle.octets.proofs.Laws.{Bytes}
use Rattle.wire.specs.declared.Entry.{Entry}
use Rattle.wire.specs.Message.{Message}
use Rattle.wire.specs.Formed.{word_of}
use Rattle.wire.specs.Encode.{Fits}
use Rattle.wire.specs.Decode.{decode}
use Rattle.wire.proofs.Theorems.{decoded_fits}
use Rattle.image.specs.Layout.{shape, holder_field, state_field, serial, state, stamp}
use Rattle.image.specs.Valid.{check}
use Rattle.image.specs.Change.{with_owner, with_state, free, unlist}
use Rattle.image.proofs.Each.{same_or_not}
use Rattle.image.proofs.Lens.{of_with, of_with_apart}
use Rattle.image.proofs.Sound.{Sound, OwnerSound, check_sound, sound_check}
use Rattle.image.proofs.Keep.{keeps_value, keeps_version, keeps_holder, keeps_author, keeps_reader, keeps_writer}
use Rattle.image.proofs.Whole.{bytes_free, free_apart, length_unlist, unlist_apart, keeps_free, keeps_unlist}
use Rattle.image.proofs.Idle.{Idle, free_unless_held, unlist_unless_listed, idle_by_state, idle_unlisted, idle_released}
use Rattle.image.proofs.Idle.{unlist_new, keeps_state, keeps_owner, state_of_lem}
use Rattle.judge.specs.Standing.{above_of, standing, active, entered}
use Rattle.judge.specs.Judge.{votes_no}
use Rattle.replica.specs.Steps.{wanted, fetch_image, holding_one, holding, leaves}
use Rattle.replica.specs.Steps.{judged_image, ask_image, applied_one, applied, decided, released, outcome_image}
use Rattle.replica.specs.Receive.{refusal, step, Delivered, deliver}
use Rattle.replica.proofs.Spoken.{named_of}
use Rattle.replica.proofs.Delivered.{either_way, cleared, refused_is, delivered_is}

-- ---- what a standing says of the owner's state
listed_by : (a b : Bool) (st : ℕ) → cond a (above_of st) (cond b st 0) ≡ 1 → st ≡ 1
unfolding above_of
listed_by true b st e = by (eqb st 0) e
  where
    by : (t : Bool) → ◌≡◌ {A = ℕ} (cond t 4 5) 1 → st ≡ 1
    by true f = absurd (let z : ⊥ = omega arith in z)
    by false f = absurd (let z : ⊥ = omega arith in z)
listed_by false true st e = e
listed_by false false st e = absurd (let z : ⊥ = omega arith in z)

fresh_by : (a b : Bool) (st : ℕ) → st ≤ 3 → cond a (above_of st) (cond b st 0) ≡ 4 → st ≡ 0
unfolding above_of
fresh_by true b st h e = by (eqb st 0) refl e
  where
    by : (t : Bool) → eqb st 0 ≡ t → ◌≡◌ {A = ℕ} (cond t 4 5) 4 → st ≡ 0
    by true g f = eqb-true st 0 g
    by false g f = absurd (let z : ⊥ = omega arith in z)
fresh_by false true st h e = absurd (let z : ⊥ = omega arith in z)
fresh_by false false st h e = absurd (let z : ⊥ = omega arith in z)

module _ (l : List ℕ) (m : Message) where
  pub listed_state : standing l m ≡ 1 → state l m.owner ≡ 1
  unfolding standing
  listed_state e = listed_by (ltb (serial l m.owner) m.serial) (eqb (serial l m.owner) m.serial) (state l m.owner) e

  pub fresh_state : state l m.owner ≤ 3 → standing l m ≡ 4 → state l m.owner ≡ 0
  unfolding standing
  fresh_state h e = fresh_by (ltb (serial l m.owner) m.serial) (eqb (serial l m.owner) m.serial) (state l m.owner) h e

-- ---- the clauses of one owner under another state
restated : (n st sp new : ℕ) → new ≤ 3 → (st ≡ 0 → ⊥) → OwnerSound n st sp → OwnerSound n new sp
restated n st sp new h f s =
    record { small = h; named = ⊎_elim (λ p. absurd (f p.2)) (λ p. inr p) s.named }

ended : (n st sp : ℕ) → OwnerSound n st sp → OwnerSound n 0 sp
ended n st sp s = record { small = omega arith; named = ⊎_elim (λ p. inl (p.0, p.1, refl)) (λ p. inr p) s.named }

-- the state is set while the owner is idle
module _ (l : List ℕ) (o : ℕ) (s : Sound l) (small : o < nodes) where
  own : OwnerSound (serial l o) (state l o) (stamp l o)
  own = s.clauses.owners_sound o small

  -- a listed owner leaves all lists, with its vote's state
  pub keeps_vote : (new : ℕ) → new ≤ 3 → state l o ≡ 1 → Sound (leaves l o new)
  unfolding leaves
  keeps_vote new h e =
      let u = keeps_unlist l o s in
      let k : state (unlist l o) o ≡ 1 = unlist_apart l o (state_field shape) o tt tt ∙ e in
      keeps_state (unlist l o) o u small (idle_unlisted l o s small (λ f. let z : ⊥ = omega arith in z)) new
      (restated (serial (unlist l o) o) (state (unlist l o) o) (stamp (unlist l o) o) new h (λ f. let z : ⊥ = omega arith in z)
      (u.clauses.owners_sound o small))

  pub vote_state : (new : ℕ) → new ≤ 3 → state (leaves l o new) o ≡ new
  unfolding leaves
  vote_state new h = of_with (state_field shape) (unlist l o) o new tt (omega (arith, s.size, length_unlist l o)) small (omega arith)

  -- an owner lets go of everything
  pub keeps_release : Sound (released l o)
  unfolding released leaves
  keeps_release =
      let f = free l o in
      let u = keeps_unlist f o (keeps_free l o s) in
      keeps_state (unlist f o) o u small (idle_released l o s small) 0
      (ended (serial (unlist f o) o) (state (unlist f o) o) (stamp (unlist f o) o) (u.clauses.owners_sound o small))

-- the same with less: a held owner is in no list, and another holds nothing
module _ (l : List ℕ) (o : ℕ) (s : Sound l) (small : o < nodes) (b : Bytes l) where
  pub release_held : state l o ≡ 2 → released l o ≡ with_state (free l o) o 0
  unfolding released leaves
  release_held e =
      let k : state (free l o) o ≡ 2 = free_apart l o (state_field shape) o tt ∙ e in
      ap (λ (m : List ℕ). with_state m o 0)
      (unlist_unless_listed (free l o) o (keeps_free l o s) small (bytes_free l o b) (λ f. let z : ⊥ = omega arith in z))

  pub release_other : (state l o ≡ 2 → ⊥) → released l o ≡ leaves l o 0
  unfolding released
  release_other ne = ap (λ (m : List ℕ). leaves m o 0) (free_unless_held l o s small b ne)

-- copies held by an owner in state 2
pub keeps_holding : (l : List ℕ) (o : ℕ) (es : List Entry) → o < nodes → Sound l → state l o ≡ 2 → Sound (holding l o es)
unfolding holding
keeps_holding l o [] h s e = s
keeps_holding l o (x ∷ es) h s e =
    let k : Sound (holding_one l o x) × (state (holding_one l o x) o ≡ 2) =
    either_way (λ (n : List ℕ). Sound n × (state n o ≡ 2)) (eqb x.mode 0) _ _ (s, e)
    (keeps_holder l x.object s o (inr (h, e)), of_with_apart (holder_field shape) (state_field shape) l x.object o o tt ∙ e) in
    keeps_holding (holding_one l o x) o es h k.0 k.1

-- a commit: no clause reads values and versions, and the author is an owner's transaction
module _ (o n : ℕ) (small : o < nodes) (fits : n < 2 ^ 32) (named : 1 ≤ n) where
  pub keeps_applied : (l : List ℕ) (es : List Entry) → Sound l → Sound (applied l o n es)
  unfolding applied
  keeps_applied l [] s = s
  keeps_applied l (x ∷ es) s =
      keeps_applied (applied_one l o n x) es (either_way Sound (eqb x.mode 0) _ _ s
      (keeps_author _ x.object o n (keeps_version _ x.object (keeps_value l x.object s x.value) (x.version + 1)) small fits
      (λ e. let z : ⊥ = omega arith in z)))

-- ---- the steps
pub or_split : (P : Type 0) (a b : Bool) → (a ≡ true → P) → (b ≡ true → P) → (a || b) ≡ true → P
or_split P true b f g e = f refl
or_split P false b f g e = g e

on_true : (P : List ℕ → Type 0) (t : Bool) (x y : List ℕ) → (t ≡ true → P x) → (t ≡ false → P y) → P (cond t x y)
on_true P true x y f g = f refl
on_true P false x y f g = g refl

module _ (l : List ℕ) (m : Message) (s : Sound l) (small : m.owner < nodes) where
  idle_fresh : standing l m ≡ 4 → Idle l m.owner
  idle_fresh e =
      let z = fresh_state l m (s.clauses.owners_sound m.owner small).small e in
      idle_by_state l m.owner s small (λ q. let w : ⊥ = omega arith in w) (λ q. let w : ⊥ = omega arith in w)

  -- one that was not listed before is in no list once it is
  pub unlist_entered : Bytes l → active l m ≡ true → eqb (standing l m) 1 ≡ false → unlist (entered l m) m.owner ≡ entered l m
  unfolding active entered
  unlist_entered b a n =
      or_split (unlist (entered l m) m.owner ≡ entered l m) (eqb (standing l m) 1) (eqb (standing l m) 4)
      (λ e. absurd (subst T (sym e ∙ n) tt))
      (λ e. simp e (unlist_new l m.owner m.serial 1 m.stamp b small (idle_fresh (eqb-true (standing l m) 4 e))))
      a

-- a commit writes, an abort does not: sound either way
pub keeps_decided : (l : List ℕ) (m : Message) → m.owner < nodes → 1 ≤ m.serial → Fits m → Sound l → Sound (decided l m)
unfolding decided
keeps_decided l m small here f s =
    on_true Sound (eqb (word_of m) 1) _ _ (λ t. keeps_applied m.owner m.serial small (omega (arith, f.serial)) here l m.entries s) (λ t. s)

module _ (l : List ℕ) (m : Message) (s : Sound l) (small : m.owner < nodes) (here : 1 ≤ m.serial) (at : 1 ≤ m.stamp) (f : Fits m) where
  begun : (st : ℕ) → st ≤ 3 → OwnerSound m.serial st m.stamp
  begun st h = record { small = h; named = inr (λ q. let w : ⊥ = omega arith in w, λ q. let w : ⊥ = omega arith in w) }

  keeps_begun : (st : ℕ) → st ≤ 3 → standing l m ≡ 4 → Sound (with_owner l m.owner m.serial st m.stamp)
  keeps_begun st h e =
      keeps_owner l m.owner s small (idle_fresh l m s small e) m.serial st m.stamp (omega (arith, f.serial)) (omega (arith, f.stamp)) (begun st h)

  pub keeps_entered : active l m ≡ true → Sound (entered l m) × (state (entered l m) m.owner ≡ 1)
  unfolding active entered
  keeps_entered =
      or_split (Sound (entered l m) × (state (entered l m) m.owner ≡ 1)) (eqb (standing l m) 1) (eqb (standing l m) 4)
      (λ e.
      let q = eqb-true (standing l m) 1 e in
      let n : eqb (standing l m) 4 ≡ false = ap (λ (k : ℕ). eqb k 4) q in
      simp n (s, listed_state l m q))
      (λ e.
      let q = eqb-true (standing l m) 4 e in
      simp e (
        keeps_begun 1 (omega arith) q,
        state_of_lem l m.owner m.serial 1 m.stamp (omega (arith, s.size)) small (omega arith),
      ))

  keeps_fetch : Sound (fetch_image l m)
  unfolding fetch_image
  keeps_fetch =
      on_true Sound (active l m) _ _
      (λ e.
      let k = keeps_entered e in
      either_way Sound (eqb (wanted m).mode 0) _ _ (keeps_reader (entered l m) (wanted m).object m.owner k.0 small k.1)
      (keeps_writer (entered l m) (wanted m).object m.owner k.0 small k.1))
      (λ e. s)

  keeps_ask : Sound (ask_image l m)
  unfolding ask_image judged_image
  keeps_ask =
      on_true Sound (active l m) _ _
      (λ e.
      let k = keeps_entered e in
      let n = entered l m in
      let o = m.owner in
      either_way Sound (votes_no n m) _ _ (keeps_vote n o k.0 small 3 (omega arith) k.1)
      (keeps_holding (leaves n o 2) o m.entries small (keeps_vote n o k.0 small 2 (omega arith) k.1)
      (vote_state n o k.0 small 2 (omega arith))))
      (λ e. s)

  keeps_outcome : Sound (outcome_image l m)
  unfolding outcome_image
  keeps_outcome =
      either_way Sound (eqb (standing l m) 0) _ _ s
      (on_true Sound (eqb (standing l m) 4) _ _ (λ e. keeps_begun 0 (omega arith) (eqb-true (standing l m) 4 e))
      (λ e. keeps_release (decided l m) m.owner (keeps_decided l m small here f s) small))

  pub keeps_step : (me : ℕ) → Sound (step l me m).image
  unfolding step
  keeps_step me =
      let P : Delivered → Type 0 = λ d. Sound d.image in
      either_way P (eqb m.kind 1) _ _ keeps_fetch (either_way P (eqb m.kind 3) _ _ keeps_ask (either_way P (eqb m.kind 5) _ _ keeps_outcome s))

-- ---- the law
pub valid_stays : (size : ℕ) (l : List ℕ) (me : ℕ) (b : List ℕ) → Bytes b → check l ≡ 0 → check (deliver size l me b).image ≡ 0
valid_stays size l me b y v =
    ⊎_elim
    (λ (e : refusal size l me b ≡ 0).
    let k = cleared size l me b e in
    let n = named_of me (decode b) k.node k.formed in
    let w = keeps_step l (decode b) (check_sound l v) (ltb-true (decode b).owner nodes n.owner) (leb-true 1 (decode b).serial n.serial)
    (leb-true 1 (decode b).stamp n.stamp) (decoded_fits b y) me in
    ap (λ (d : Delivered). check d.image) (delivered_is size l me b e) ∙ sound_check (step l me (decode b)).image w)
    (λ e. ap (λ (d : Delivered). check d.image) (refused_is size l me b e) ∙ v)
    (same_or_not (refusal size l me b) 0)
