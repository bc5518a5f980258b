-- What a delivery at a replica makes of each owner's last serial and state: nothing, or the message's transaction is its owner's last now. So what was
-- late stays late, and what was held stays held until it is over. And what the answer says: a done is late here, a yes is held.
use mathlib.Core.Path.{◌≡◌, refl, sym, ◌∙◌, ap, subst}
use mathlib.Core.Logic.{◌⊎◌, inl, inr, by_cases}
use mathlib.Core.Bool.{Bool, true, false, cond}
use mathlib.Core.List.{List}
use Prim.Native.Nat.{ℕ, ◌<◌, ◌≤◌}
use native.Mathlib.Decide.{ℕ_discrete}
use native.Mathlib.Omega.{arith}
use lib.Dec.{eqb}
use borrow.Author.Tests.{eqb-true, ltb-true}
use Rattle.numbers.specs.Sizes.{objects}
use Rattle.octets.proofs.Laws.{Bytes}
use Rattle.wire.specs.declared.Entry.{Entry}
use Rattle.wire.specs.Message.{Message, vote, done}
use Rattle.wire.specs.Formed.{word_of}
use Rattle.wire.specs.Encode.{Fits}
use Rattle.image.specs.Layout.{serial, state, owner_of}
use Rattle.image.specs.Valid.{over, held}
use Rattle.image.proofs.Each.{lt_or_le}
use Rattle.judge.specs.Standing.{standing, active, entered}
use Rattle.judge.specs.Judge.{votes_no, no_serials, serials_of, rivals_of}
use Rattle.replica.specs.Steps.{Answer, silent, says, copy_to, vote_to, done_to, wanted, copy_here, fetch_image, fetch_answer, ask_image, ask_answer}
use Rattle.replica.specs.Steps.{judged_answer}
use Rattle.replica.specs.Steps.{outcome_image}
use Rattle.replica.specs.Receive.{Delivered, step}
use Rattle.replica.proofs.Spoken.{wanted_fits}
use Rattle.replica.proofs.Delivered.{entries_of_lem}
use Rattle.replica.proofs.Fields.{restated, owner_with}
use Rattle.replica.proofs.Late.{late_outcome}
use Rattle.replica.proofs.After.{here_last, listed_owner, fetch_owner, no_owner, yes_owner, outcome_owner, early_owner}
use Rattle.replica.proofs.Taken.{Taken, fetch_still, ask_still, outcome_cases}
use Rattle.arrivals.specs.Receive.{for_replica}
use Rattle.protocol.proofs.Tables.{on}
use Rattle.history.proofs.Rows.{OneOwner}
use Rattle.history.proofs.Images.{owner_from}
use Rattle.history.proofs.Acts.{fresh_above, active_cases, late_standing, behind_stands}
use Rattle.history.proofs.Answers.{done_fits, copy_fits_lem, vote_fits, none_small, yes_fits, here_fits, bytes_entered}
use Rattle.history.proofs.Served.{kind_cases}

-- the transaction (o, s) is late here: a serial below the last, or the last one when over
abbrev pub Behind : List ℕ → ℕ → ℕ → Type 0
Behind l o s = (s < serial l o) ⊎ ((serial l o ≡ s) × (state l o ≡ over))

-- late, or held: what a commit needs
abbrev pub Bound : List ℕ → ℕ → ℕ → Type 0
Bound l o s = Behind l o s ⊎ ((serial l o ≡ s) × (state l o ≡ held))

-- ---- two images
-- all owners are as they were
pub record Still (l k : List ℕ) : Type 0 where
  pub serials : (w : ℕ) → serial k w ≡ serial l w
  pub states : (w : ℕ) → state k w ≡ state l w

-- (o, s) is its owner's last now, in state u; it was not late, and what was held is over
pub record Moved (l k : List ℕ) (o s u : ℕ) : Type 0 where
  pub owner : OneOwner l k o s u
  pub rises : serial l o ≤ s
  pub not_late : Behind l o s → ⊥
  pub lets_go : serial l o ≡ s → state l o ≡ held → u ≡ over

abbrev pub Moves : List ℕ → List ℕ → ℕ → ℕ → Type 0
Moves l k o s = Still l k ⊎ ((u : ℕ) × Moved l k o s u)

same_behind : (l k : List ℕ) (w r : ℕ) → serial k w ≡ serial l w → state k w ≡ state l w → Behind l w r → Behind k w r
same_behind l k w r a b (inl h) = inl (subst (λ (n : ℕ). r < n) (sym a) h)
same_behind l k w r a b (inr z) = inr (a ∙ z.0, b ∙ z.1)

same_bound : (l k : List ℕ) (w r : ℕ) → serial k w ≡ serial l w → state k w ≡ state l w → Bound l w r → Bound k w r
same_bound l k w r a b (inl z) = inl (same_behind l k w r a b z)
same_bound l k w r a b (inr z) = inr (a ∙ z.0, b ∙ z.1)

module _ (l k : List ℕ) (o s u : ℕ) (m : Moved l k o s u) where
  -- a serial below the new last one
  below_last : (r : ℕ) → r < s → Behind k o r
  below_last r h = inl (subst (λ (n : ℕ). r < n) (sym m.owner.its_serial) h)

  moved_behind : (r : ℕ) → Behind l o r → Behind k o r
  moved_behind r (inl h) = below_last r (let g = m.rises in omega (arith, g, h))
  moved_behind r (inr z) = on (lt_or_le r s) (below_last r)
      (λ h. absurd (m.not_late (inr (let g = m.rises in omega (arith, g, h, z.0), z.1))))

  moved_bound : (r : ℕ) → Bound l o r → Bound k o r
  moved_bound r (inl z) = inl (moved_behind r z)
  moved_bound r (inr z) = inl (on (lt_or_le r s) (below_last r)
      (λ h. let g = m.rises in
      let e : serial l o ≡ s = omega (arith, g, h, z.0) in
      let q : s ≡ r = omega (arith, e, z.0) in
      inr (m.owner.its_serial ∙ q, m.owner.its_state ∙ m.lets_go e z.1)))

  pub moved_other : (P : ℕ → ℕ → Type 0) (w : ℕ) → (w ≡ o → ⊥) → P (serial l w) (state l w) → P (serial k w) (state k w)
  moved_other P w e p = subst (λ (n : ℕ). P n (state k w)) (sym (m.owner.serials w e))
      (subst (λ (n : ℕ). P (serial l w) n) (sym (m.owner.states w e)) p)

-- what was late stays late, what was late or held stays so
pub behind_on : (l k : List ℕ) (o s : ℕ) → Moves l k o s → (w r : ℕ) → Behind l w r → Behind k w r
behind_on l k o s (inl z) w r b = same_behind l k w r (z.serials w) (z.states w) b
behind_on l k o s (inr z) w r b = by_cases (ℕ_discrete w o)
    (λ e. subst (λ (p : ℕ). Behind k p r) (sym e) (moved_behind l k o s z.0 z.1 r (subst (λ (p : ℕ). Behind l p r) e b)))
    (λ e. same_behind l k w r (z.1.owner.serials w e) (z.1.owner.states w e) b)

pub bound_on : (l k : List ℕ) (o s : ℕ) → Moves l k o s → (w r : ℕ) → Bound l w r → Bound k w r
bound_on l k o s (inl z) w r b = same_bound l k w r (z.serials w) (z.states w) b
bound_on l k o s (inr z) w r b = by_cases (ℕ_discrete w o)
    (λ e. subst (λ (p : ℕ). Bound k p r) (sym e) (moved_bound l k o s z.0 z.1 r (subst (λ (p : ℕ). Bound l p r) e b)))
    (λ e. same_bound l k w r (z.1.owner.serials w e) (z.1.owner.states w e) b)

-- ---- a delivery that is taken
module _ (l : List ℕ) (m : Message) (t : Taken l m) where
  abbrev o : ℕ
  o = m.owner

  abbrev s : ℕ
  s = m.serial

  small_state : state l o ≤ 3
  small_state = (t.sound.clauses.owners_sound o t.owner).small

  -- it is of the last transaction, which is not over, or of a later one
  moved_by : (k : List ℕ) (u : ℕ) → 1 ≤ standing l m → standing l m ≤ 4 → (standing l m ≡ held → u ≡ over) → OneOwner l k o s u → Moved l k o s u
  moved_by k u low high goes one = on (lt_or_le (standing l m) 4)
      (λ h. let z = here_last l m low (omega (arith, h)) in record {
        owner = one;
        rises = omega (arith, z.0);
        not_late = λ b. let e = behind_stands l m b in let y : ⊥ = omega (arith, e, low) in y;
        lets_go = λ e f. goes (z.1 ∙ f);
      })
      (λ h. let z = fresh_above l m small_state (omega (arith, h, high)) in record {
        owner = one;
        rises = omega (arith, z);
        not_late = λ b. let e = behind_stands l m b in let y : ⊥ = omega (arith, e, low) in y;
        lets_go = λ e f. absurd (let y : ⊥ = omega (arith, z, e) in y);
      })

  active_low : active l m ≡ true → (1 ≤ standing l m) × (standing l m ≤ 4)
  active_low a = on (active_cases l m a) (λ e. (omega (arith, e), omega (arith, e))) (λ e. (omega (arith, e), omega (arith, e)))

  -- a fetch or an ask that counts: its transaction was fresh or listed
  listed_by : (k : List ℕ) (u : ℕ) → active l m ≡ true → OneOwner l k o s u → Moves l k o s
  listed_by k u a one = let z = active_low a in
      inr (
        u,
        moved_by k u z.0 z.1 (λ e. absurd (on (active_cases l m a) (λ q. let y : ⊥ = omega (arith, e, q) in y)
            (λ q. let y : ⊥ = omega (arith, e, q) in y))) one,
      )

  still_as : (k : List ℕ) → k ≡ l → Still l k
  still_as k e = record { serials = λ w. ap (λ (i : List ℕ). serial i w) e; states = λ w. ap (λ (i : List ℕ). state i w) e }

  fetch_one : active l m ≡ true → OneOwner l (fetch_image l m) o s 1
  fetch_one a = owner_from l (fetch_image l m) o (listed_owner l m) t.owner
      (fetch_owner l m t.sound t.owner t.serial t.stamp t.fits a)

  no_one : active l m ≡ true → votes_no (entered l m) m ≡ true → OneOwner l (ask_image l m) o s 3
  no_one a v = owner_from l (ask_image l m) o (restated 3 (listed_owner l m)) t.owner
      (no_owner l m t.sound t.owner t.serial t.stamp t.fits a v)

  yes_one : active l m ≡ true → votes_no (entered l m) m ≡ false → OneOwner l (ask_image l m) o s 2
  yes_one a v = owner_from l (ask_image l m) o (restated 2 (listed_owner l m)) t.owner
      (yes_owner l m t.sound t.owner t.serial t.stamp t.fits a v)

  early_one : standing l m ≡ 4 → OneOwner l (outcome_image l m) o s 0
  early_one e = owner_from l (outcome_image l m) o (owner_with s 0 m.stamp) t.owner
      (early_owner l m t.sound t.owner t.serial t.stamp t.fits e)

  over_one : 1 ≤ standing l m → standing l m ≤ 3 → OneOwner l (outcome_image l m) o s 0
  unfolding owner_of
  over_one low high = subst (λ (n : ℕ). OneOwner l (outcome_image l m) o n 0) (here_last l m low high).0
      (owner_from l (outcome_image l m) o (restated 0 (owner_of l o)) t.owner
      (λ p q. outcome_owner l m t.sound t.owner t.serial t.stamp t.fits low high p q ∙ by p (eqb p o) refl))
    where
      by : (p : ℕ) (b : Bool) → eqb p o ≡ b → cond b (restated 0 (owner_of l p)) (owner_of l p) ≡ cond b (restated 0 (owner_of l o)) (owner_of l p)
      by p true q = ap (λ (y : ℕ). restated 0 (owner_of l y)) (eqb-true p o q)
      by p false q = refl

  -- ---- what the image is, and what the answer a of node n says
  pub record Replied (k : List ℕ) (n : ℕ) (a : Message) : Type 0 where
    pub fits : Fits a
    pub for_owner : for_replica a.kind ≡ false
    pub from : a.from ≡ n
    pub owner : a.owner ≡ o
    pub serial : a.serial ≡ s
    pub a_yes : a.kind ≡ vote → word_of a ≡ 1 → Bound k o s
    pub a_done_lem : a.kind ≡ done → Behind k o s

  abbrev pub Replies : List ℕ → ℕ → Answer → Type 0
  Replies k n silent = Unit {0}
  Replies k n (says a) = Replied k n a

  abbrev pub Served : ℕ → Delivered → Type 0
  Served n d = Moves l d.image o s × Replies d.image n d.answer

  module _ (n : ℕ) (bytes : Bytes l) where
    abbrev e₁ : Entry
    e₁ = wanted m

    copy_replied : (k : List ℕ) → Replied k n (copy_to n m (copy_here l e₁))
    unfolding copy_here
    copy_replied k =
        let z = wanted_fits m.kind m.entries (entries_of_lem m t.formed) in
        let a = ltb-true e₁.object objects z.0 in
        let b = ltb-true e₁.mode 2 z.1 in
        record {
          fits = copy_fits_lem n m t.fits (copy_here l e₁) (here_fits l bytes e₁ (omega (arith, a)) (omega (arith, b)));
          for_owner = refl;
          from = refl;
          owner = refl;
          serial = refl;
          a_yes = λ e. absurd (let y : ⊥ = omega (arith, e) in y);
          a_done_lem = λ e. absurd (let y : ⊥ = omega (arith, e) in y);
        }

    no_replied : (k : List ℕ) → Replied k n (vote_to n m no_serials 0)
    no_replied k = record {
      fits = vote_fits n m t.fits no_serials 0 refl none_small;
      for_owner = refl;
      from = refl;
      owner = refl;
      serial = refl;
      a_yes = λ e f. absurd (let y : ⊥ = omega (arith, f) in y);
      a_done_lem = λ e. absurd (let y : ⊥ = omega (arith, e) in y);
    }

    yes_replied : (k : List ℕ) (ss : List ℕ) → Fits (vote_to n m ss 1) → Bound k o s → Replied k n (vote_to n m ss 1)
    yes_replied k ss f b = record {
      fits = f;
      for_owner = refl;
      from = refl;
      owner = refl;
      serial = refl;
      a_yes = λ e g. b;
      a_done_lem = λ e. absurd (let y : ⊥ = omega (arith, e) in y);
    }

    done_replied : (k : List ℕ) → Behind k o s → Replied k n (done_to n m)
    done_replied k b = record {
      fits = done_fits n m t.fits;
      for_owner = refl;
      from = refl;
      owner = refl;
      serial = refl;
      a_yes = λ e. absurd (let y : ⊥ = omega (arith, e) in y);
      a_done_lem = λ e. b;
    }

    -- a fetch
    fetch_served : (b : Bool) → active l m ≡ b
        → Moves l (fetch_image l m) o s × Replies (fetch_image l m) n (cond b (says (copy_to n m (copy_here l e₁))) silent)
    fetch_served true a = (listed_by (fetch_image l m) 1 a (fetch_one a), copy_replied (fetch_image l m))
    fetch_served false a = (inl (still_as (fetch_image l m) (fetch_still l m a)), tt)

    -- an ask that is judged, or answered again
    judged_served : active l m ≡ true → (v : Bool) → votes_no (entered l m) m ≡ v
        → Moves l (ask_image l m) o s
        × Replies (ask_image l m) n
        (cond v (says (vote_to n m no_serials 0)) (says (vote_to n m (serials_of (entered l m) (rivals_of (entered l m) m)) 1)))
    judged_served a true v = (listed_by (ask_image l m) 3 a (no_one a v), no_replied (ask_image l m))
    judged_served a false v = let one = yes_one a v in (
      listed_by (ask_image l m) 2 a one,
      yes_replied (ask_image l m) _ (yes_fits n m t.fits (entered l m) (bytes_entered l m bytes)) (inr (one.its_serial, one.its_state)),
    )

    again_served : (p q : Bool) → eqb (standing l m) 2 ≡ p
        → Replies l n (cond p (says (vote_to n m no_serials 1)) (cond q (says (vote_to n m no_serials 0)) silent))
    again_served true q e =
        let f = eqb-true (standing l m) 2 e in
        let z = here_last l m (omega (arith, f)) (omega (arith, f)) in
        yes_replied l no_serials (vote_fits n m t.fits no_serials 1 refl none_small) (inr (z.0, sym z.1 ∙ f))
    again_served false true e = no_replied l
    again_served false false e = tt

    ask_served : (b : Bool) → active l m ≡ b
        → Moves l (ask_image l m) o s × Replies (ask_image l m) n (cond b (judged_answer n (entered l m) m)
        (cond (eqb (standing l m) 2) (says (vote_to n m no_serials 1)) (cond (eqb (standing l m) 3) (says (vote_to n m no_serials 0)) silent)))
    unfolding judged_answer
    ask_served true a = judged_served a (votes_no (entered l m) m) refl
    ask_served false a = (
      inl (still_as (ask_image l m) (ask_still l m a)),
      subst (λ (k : List ℕ). Replies k n (cond (eqb (standing l m) 2) (says (vote_to n m no_serials 1))
          (cond (eqb (standing l m) 3) (says (vote_to n m no_serials 0)) silent)))
          (sym (ask_still l m a)) (again_served (eqb (standing l m) 2) (eqb (standing l m) 3) refl),
    )

    -- an outcome: over it is, or late it was
    outcome_served : m.kind ≡ 5 → Moves l (outcome_image l m) o s × Behind (outcome_image l m) o s
    outcome_served e = on (outcome_cases l m t e)
        (λ q. (
          inl (still_as (outcome_image l m) (late_outcome l m q)),
          subst (λ (k : List ℕ). Behind k o s) (sym (late_outcome l m q)) (late_standing l m q),
        ))
        (λ r. on r (λ q. ended (early_one q) (omega (arith, q)) (omega (arith, q))) (λ q. ended (over_one q.0 q.1) q.0 (omega (arith, q.1))))
      where
        ended : OneOwner l (outcome_image l m) o s 0 → 1 ≤ standing l m → standing l m ≤ 4
            → Moves l (outcome_image l m) o s × Behind (outcome_image l m) o s
        ended one low high = (inr (0, moved_by (outcome_image l m) 0 low high (λ f. refl) one), inr (one.its_serial, one.its_state))

    pub served_step : Served n (step l n m)
    unfolding fetch_answer ask_answer
    served_step = kind_cases l n m t (Served n) (λ e. fetch_served (active l m) refl) (λ e. ask_served (active l m) refl)
        (λ e. let z = outcome_served e in (z.0, done_replied (outcome_image l m) z.1))
