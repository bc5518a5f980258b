-- What a delivery at a replica makes of the owners' rows, stamps too: nothing, or the row of the message's owner is of its transaction now. Only an ask
-- makes it held or refused, only an outcome over; its stamp is the message's, or what it was. And only an ask is answered by a vote.
use mathlib.Core.Path.{◌≡◌, refl, sym, ◌∙◌, ap}
use mathlib.Core.Logic.{◌≢◌, ◌⊎◌, inl, inr}
use mathlib.Core.Bool.{Bool, true, false, cond}
use mathlib.Core.List.{List}
use Prim.Native.Nat.{ℕ, ◌≤◌, ◌<◌}
use native.Mathlib.Omega.{arith}
use lib.Dec.{eqb}
use borrow.Author.Tests.{eqb-true, eq-eqb, ne_eqb}
use Rattle.numbers.specs.Sizes.{nodes}
use Rattle.wire.specs.Message.{Message, ask, vote, outcome}
use Rattle.image.specs.declared.Owner.{Owner}
use Rattle.image.specs.Layout.{shape, state, stamp, owner_of, serial_field, state_field, stamp_field}
use Rattle.image.specs.Valid.{over, listed}
use Rattle.image.proofs.Each.{lt_or_le}
use Rattle.image.proofs.Lens.{of_out}
use Rattle.image.proofs.Made.{made_owner}
use Rattle.judge.specs.Standing.{standing, active, entered}
use Rattle.judge.specs.Judge.{votes_no}
use Rattle.replica.specs.Steps.{Answer, silent, says, copy_to, wanted, copy_here, fetch_image, fetch_answer, ask_image, ask_answer, outcome_image}
use Rattle.replica.specs.Receive.{Delivered, step}
use Rattle.replica.proofs.Delivered.{either_way}
use Rattle.replica.proofs.Fields.{restated, owner_with}
use Rattle.replica.proofs.Late.{late_outcome}
use Rattle.replica.proofs.After.{here_last, listed_owner, fetch_owner, no_owner, yes_owner, outcome_owner, early_owner}
use Rattle.replica.proofs.Taken.{Taken, by_kind, fetch_still, ask_still, outcome_cases}
use Rattle.protocol.proofs.Tables.{on}
use Rattle.history.proofs.Acts.{active_cases}
use Rattle.history.proofs.Served.{kind_cases}

-- past the owners a row is zeros, in every image
pub no_owner_row : (l k : List ℕ) (p : ℕ) → nodes ≤ p → owner_of k p ≡ owner_of l p
unfolding owner_of
no_owner_row l k p h = made_owner (of_out (serial_field shape) k p h ∙ sym (of_out (serial_field shape) l p h))
    (of_out (state_field shape) k p h ∙ sym (of_out (state_field shape) l p h)) (of_out (stamp_field shape) k p h ∙ sym (of_out (stamp_field shape) l p h))

module _ (l : List ℕ) (m : Message) where
  abbrev o : ℕ
  o = m.owner

  -- the row r that the message makes of its owner's
  pub record Writes (r : Owner) : Type 0 where
    pub in_turn : 1 ≤ standing l m
    pub its_serial : r.serial ≡ m.serial
    pub its_stamp : r.state ≢ over → (r.stamp ≡ m.stamp) ⊎ ((state l o ≢ over) × (r.stamp ≡ stamp l o))
    pub its_state : (r.state ≡ listed) ⊎ (((m.kind ≡ ask) × (r.state ≢ over)) ⊎ ((m.kind ≡ outcome) × (r.state ≡ over)))

  -- the image k has that row, the others are as they were
  pub record Written (k : List ℕ) : Type 0 where
    pub row : Owner
    pub writes : Writes row
    pub here : owner_of k o ≡ row
    pub elsewhere : (p : ℕ) → p ≢ o → owner_of k p ≡ owner_of l p

  written : (k : List ℕ) (r : Owner) → o < nodes → Writes r → ((p : ℕ) → p < nodes → owner_of k p ≡ cond (eqb p o) r (owner_of l p)) → Written k
  written k r small w h = record {
    row = r;
    writes = w;
    here = h o small ∙ ap (λ (b : Bool). cond b r (owner_of l o)) (eq-eqb o o refl);
    elsewhere = λ p e. on (lt_or_le p nodes) (λ q. h p q ∙ ap (λ (b : Bool). cond b r (owner_of l p)) (ne_eqb p o e)) (no_owner_row l k p);
  }

  module _ (t : Taken l m) where
    -- ---- a fetch or an ask that counts: the stamp is the message's where its transaction is new here
    listed_stamp : active l m ≡ true → ((listed_owner l m).stamp ≡ m.stamp) ⊎ ((state l o ≢ over) × ((listed_owner l m).stamp ≡ stamp l o))
    listed_stamp a = on (active_cases l m a)
        (λ e. inr (
          λ q. let z = (here_last l m (omega (arith, e)) (omega (arith, e))).1 in let y : ⊥ = omega (arith, e, q, z) in y,
          ap (λ (s : ℕ). cond (eqb s 4) m.stamp (stamp l o)) e,
        ))
        (λ e. inl (ap (λ (s : ℕ). cond (eqb s 4) m.stamp (stamp l o)) e))

    counts : active l m ≡ true → 1 ≤ standing l m
    counts a = on (active_cases l m a) (λ e. omega (arith, e)) (λ e. omega (arith, e))

    fetch_rows : (b : Bool) → active l m ≡ b → (fetch_image l m ≡ l) ⊎ Written (fetch_image l m)
    fetch_rows true a = inr (written (fetch_image l m) (listed_owner l m) t.owner
        (record { in_turn = counts a; its_serial = refl; its_stamp = λ q. listed_stamp a; its_state = inl refl })
        (fetch_owner l m t.sound t.owner t.serial t.stamp t.fits a))
    fetch_rows false a = inl (fetch_still l m a)

    -- a vote: held or refused
    voted : m.kind ≡ ask → active l m ≡ true → (u : ℕ) → u ≢ over
        → ((p : ℕ) → p < nodes → owner_of (ask_image l m) p ≡ cond (eqb p o) (restated u (listed_owner l m)) (owner_of l p)) → Written (ask_image l m)
    voted e a u q h = written (ask_image l m) (restated u (listed_owner l m)) t.owner
        (record { in_turn = counts a; its_serial = refl; its_stamp = λ z. listed_stamp a; its_state = inr (inl (e, q)) }) h

    judged_rows : m.kind ≡ ask → active l m ≡ true → (v : Bool) → votes_no (entered l m) m ≡ v → Written (ask_image l m)
    judged_rows e a true v = voted e a 3 (λ z. let y : ⊥ = omega (arith, z) in y)
        (no_owner l m t.sound t.owner t.serial t.stamp t.fits a v)
    judged_rows e a false v = voted e a 2 (λ z. let y : ⊥ = omega (arith, z) in y)
        (yes_owner l m t.sound t.owner t.serial t.stamp t.fits a v)

    ask_rows : m.kind ≡ ask → (b : Bool) → active l m ≡ b → (ask_image l m ≡ l) ⊎ Written (ask_image l m)
    ask_rows e true a = inr (judged_rows e a (votes_no (entered l m) m) refl)
    ask_rows e false a = inl (ask_still l m a)

    -- ---- an outcome: over
    ended : (r : Owner) → m.kind ≡ outcome → 1 ≤ standing l m → r.serial ≡ m.serial → r.state ≡ over → Writes r
    ended r e h s u = record { in_turn = h; its_serial = s; its_stamp = λ q. absurd (q u); its_state = inr (inr (e, u)) }

    ended_here : (p : ℕ) (b : Bool) → eqb p o ≡ b → cond b (restated 0 (owner_of l p)) (owner_of l p) ≡ cond b (restated 0 (owner_of l o)) (owner_of l p)
    ended_here p true q = ap (λ (y : ℕ). restated 0 (owner_of l y)) (eqb-true p o q)
    ended_here p false q = refl

    outcome_rows : m.kind ≡ outcome → (outcome_image l m ≡ l) ⊎ Written (outcome_image l m)
    unfolding owner_of
    outcome_rows e = on (outcome_cases l m t e) (λ q. inl (late_outcome l m q))
        (λ r. on r
        (λ q. inr (written (outcome_image l m) (owner_with m.serial 0 m.stamp) t.owner (ended _ e (omega (arith, q)) refl refl)
        (early_owner l m t.sound t.owner t.serial t.stamp t.fits q)))
        (λ q. inr (written (outcome_image l m) (restated 0 (owner_of l o)) t.owner (ended _ e q.0 (here_last l m q.0 q.1).0 refl)
        (λ p k. outcome_owner l m t.sound t.owner t.serial t.stamp t.fits q.0 q.1 p k ∙ ended_here p (eqb p o) refl))))

    pub step_rows : (n : ℕ) → ((step l n m).image ≡ l) ⊎ Written (step l n m).image
    step_rows n = by_kind (λ (k : List ℕ). (k ≡ l) ⊎ Written k) l n m t (λ e. fetch_rows (active l m) refl) (λ e. ask_rows e (active l m) refl) outcome_rows

    -- ---- the answer
    abbrev pub VoteOfAsk : Answer → Type 0
    VoteOfAsk silent = Unit {0}
    VoteOfAsk (says a) = a.kind ≡ vote → m.kind ≡ ask

    of_ask : m.kind ≡ ask → (a : Answer) → VoteOfAsk a
    of_ask e silent = tt
    of_ask e (says a) = λ q. e

    pub step_votes : (n : ℕ) → VoteOfAsk (step l n m).answer
    unfolding fetch_answer
    step_votes n = kind_cases l n m t (λ (d : Delivered). VoteOfAsk d.answer)
        (λ e. either_way VoteOfAsk (active l m) (says (copy_to n m (copy_here l (wanted m)))) silent (λ q. absurd (let y : ⊥ = omega (arith, q) in y)) tt)
        (λ e. of_ask e (ask_answer n l m)) (λ e q. absurd (let y : ⊥ = omega (arith, q) in y))
