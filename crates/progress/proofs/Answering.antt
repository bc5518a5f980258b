-- What the two ends make of one round. A replica answers an ask that is not late by a vote, and an outcome by a done, each with the message's owner, serial
-- and stamp. A coordinator that has asked for votes counts a participant's yes, one that is finishing an awaited node's done.
use mathlib.Core.Path.{◌≡◌, refl, ◌∙◌, ap, ap₂}
use mathlib.Core.Logic.{◌≢◌}
use mathlib.Core.Bool.{Bool, true, cond, ◌&&◌, ◌||◌}
use mathlib.Core.List.{List}
use Prim.Native.Nat.{ℕ, zero, suc, ◌≤◌}
use native.Mathlib.Omega.{arith}
use lib.Dec.{eqb, ltb}
use borrow.Author.Tests.{eq-eqb}
use Rattle.mask.specs.Mask.{contains, only, joined}
use Rattle.wire.specs.Message.{Message, ask, vote, outcome, done}
use Rattle.wire.specs.Decode.{kind_of, from_of, serial_of, stamp_of, rival_count}
use Rattle.wire.specs.Items.{word_of}
use Rattle.image.specs.Layout.{serial, state}
use Rattle.judge.specs.Standing.{above_of, standing, active, entered}
use Rattle.judge.specs.Judge.{votes_no, no_serials, serials_of, rivals_of}
use Rattle.replica.specs.Steps.{Answer, silent, says, vote_to, done_to, ask_answer, judged_answer}
use Rattle.replica.specs.Receive.{wrong_turn, step}
use Rattle.replica.proofs.Delivered.{either_way}
use Rattle.replica.proofs.Taken.{Taken}
use Rattle.coordinator.specs.declared.Coordinator.{Coordinator}
use Rattle.coordinator.specs.System.{System}
use Rattle.coordinator.specs.State.{voting_phase, finishing_phase, awaited}
use Rattle.coordinator.specs.Calls.{ended_aborted}
use Rattle.arrivals.specs.Receive.{brought, answers, copy_taken, raise_from, with_yes, vote_taken, with_done, done_taken, yield_taken, delivered}
use Rattle.history.proofs.Tests.{no_both}

-- ---- a replica
module _ (l : List ℕ) (n : ℕ) (m : Message) (t : Taken l m) where
  abbrev Votes : Answer → Type 0
  Votes a = (serials : List ℕ) × (word : ℕ) × (a ≡ says (vote_to n m serials word))

  standing_small : standing l m ≤ 5
  unfolding standing above_of
  standing_small =
      let small = (t.sound.clauses.owners_sound m.owner t.owner).small in
      let S : ℕ → Type 0 = λ s. s ≤ 5 in
      either_way S (ltb (serial l m.owner) m.serial) _ _ (either_way S (eqb (state l m.owner) 0) 4 5 (omega arith) (omega arith))
      (either_way S (eqb (serial l m.owner) m.serial) (state l m.owner) 0 (omega (arith, small)) (omega arith))

  in_turn : m.kind ≡ ask → standing l m ≢ 5
  unfolding wrong_turn standing
  in_turn e q = let z = t.turn in no_both (eq-eqb (standing l m) 5 q) (rw e at z)

  judged_votes : Votes (judged_answer n (entered l m) m)
  unfolding judged_answer
  judged_votes = either_way Votes (votes_no (entered l m) m) _ _ (no_serials, 0, refl) (serials_of (entered l m) (rivals_of (entered l m) m), 1, refl)

  pub ask_answered : m.kind ≡ ask → standing l m ≢ 0 → Votes (step l n m).answer
  unfolding step ask_answer active
  ask_answered e late = simp e (by (standing l m) standing_small late (in_turn e))
    where
      by : (s : ℕ) → s ≤ 5 → s ≢ 0 → s ≢ 5 → Votes (cond (eqb s 1 || eqb s 4) (judged_answer n (entered l m) m)
          (cond (eqb s 2) (says (vote_to n m no_serials 1)) (cond (eqb s 3) (says (vote_to n m no_serials 0)) silent)))
      by zero h p q = absurd (p refl)
      by (suc zero) h p q = judged_votes
      by (suc (suc zero)) h p q = (no_serials, 1, refl)
      by (suc (suc (suc zero))) h p q = (no_serials, 0, refl)
      by (suc (suc (suc (suc zero)))) h p q = judged_votes
      by (suc (suc (suc (suc (suc zero))))) h p q = absurd (q refl)
      by (suc (suc (suc (suc (suc (suc s)))))) h p q = absurd (let y : ⊥ = omega (arith, h) in y)

  pub outcome_answered : m.kind ≡ outcome → (step l n m).answer ≡ says (done_to n m)
  unfolding step
  outcome_answered e = simp e

-- ---- a coordinator
module _ (s : System) (c : Coordinator) (b : List ℕ) where
  answering : (phase nodes : ℕ) → c.phase ≡ phase → serial_of b ≡ c.serial → stamp_of b ≡ c.timestamp → contains nodes (from_of b) ≡ true
      → answers c phase nodes b ≡ true
  answering phase nodes p q r e = ap₂ ◌&&◌ (eq-eqb c.phase phase p)
      (ap₂ ◌&&◌ (eq-eqb (serial_of b) c.serial q) (ap₂ ◌&&◌ (eq-eqb (stamp_of b) c.timestamp r) e))

  pub yes_taken_lem : kind_of b ≡ vote → c.phase ≡ voting_phase → serial_of b ≡ c.serial → stamp_of b ≡ c.timestamp
      → contains c.participants (from_of b) ≡ true → word_of b ≡ 1
      → delivered s c b ≡ with_yes c (joined c.yes (only (from_of b))) (raise_from b (rival_count b) 0 c.rivals)
  unfolding delivered vote_taken
  yes_taken_lem k p q r e word =
      let yes = with_yes c (joined c.yes (only (from_of b))) (raise_from b (rival_count b) 0 c.rivals) in
      ap (λ (k : ℕ). cond (eqb k 2) (copy_taken s c b) (cond (eqb k 4) (vote_taken c b) (cond (eqb k 6) (done_taken c b)
      (cond (eqb k 7) (yield_taken c b) (brought 0 c))))) k
      ∙ ap (λ (x : Bool). cond x (cond (eqb (word_of b) 0) (brought 2 (ended_aborted c)) yes) (brought 0 c))
      (answering voting_phase c.participants p q r e)
      ∙ ap (λ (w : ℕ). cond (eqb w 0) (brought 2 (ended_aborted c)) yes) word

  pub done_taken_lem : kind_of b ≡ done → c.phase ≡ finishing_phase → serial_of b ≡ c.serial → stamp_of b ≡ c.timestamp
      → contains (awaited c) (from_of b) ≡ true → delivered s c b ≡ with_done c (joined c.done (only (from_of b)))
  unfolding delivered done_taken
  done_taken_lem k p q r e =
      ap (λ (k : ℕ). cond (eqb k 2) (copy_taken s c b) (cond (eqb k 4) (vote_taken c b) (cond (eqb k 6) (done_taken c b)
      (cond (eqb k 7) (yield_taken c b) (brought 0 c))))) k
      ∙ ap (λ (x : Bool). cond x (with_done c (joined c.done (only (from_of b)))) (brought 0 c)) (answering finishing_phase (awaited c) p q r e)
