-- A call by its cases: refused, or none of its refusals fits and the record is the one after it; and what holds of a transaction that ends aborted.
use mathlib.Core.Path.{◌≡◌, refl}
use mathlib.Core.Bool.{Bool, true, false, cond, ◌||◌}
use mathlib.Core.List.{List}
use mathlib.Core.Logic.{◌⊎◌, inl, inr}
use Prim.Native.Nat.{ℕ}
use lib.Dec.{T, eqb}
use borrow.Author.Tests.{eqb-true, eqb-false, not-false}
use Rattle.numbers.specs.Refusal.{Refusal, first_of}
use Rattle.coordinator.specs.declared.Coordinator.{Coordinator}
use Rattle.coordinator.specs.Step.{Step}
use Rattle.coordinator.specs.State.{step_of, open_phase, voting_phase, finishing_phase, aborted, idle_after, awaited}
use Rattle.coordinator.proofs.Refusals.{Clear, numbered, clear}
use Rattle.coordinator.specs.Calls.{with_phase, ended_aborted, abort_refusals, abort_of}
use Rattle.clauses.proofs.Parts.{on_cond}

-- ---- a call: what holds of the record before it, and of the record after it where nothing refuses, holds of what the call leaves
pub step_keeps : (P : Coordinator → Type 0) (rs : List Refusal) (answer : ℕ) (c d : Coordinator) → T (numbered rs) → P c → (Clear rs → P d)
    → P (step_of (first_of rs) answer c d).coordinator
unfolding step_of
step_keeps P rs answer c d t p f = by (eqb (first_of rs) 0) refl
  where
    by : (b : Bool) → eqb (first_of rs) 0 ≡ b
        → P (cond {A = Step} b (record { number = 0; answer = answer; coordinator = d })
        (record { number = first_of rs; answer = 0; coordinator = c })).coordinator
    by true e = f (clear rs t (eqb-true (first_of rs) 0 e))
    by false e = p

-- one of two tests does
pub either_of : {P Q : Type 0} (a b : Bool) → (a ≡ true → P) → (b ≡ true → Q) → (a || b) ≡ true → P ⊎ Q
either_of true b f g e = inl (f refl)
either_of false b f g e = inr (g e)

-- ---- a transaction that ends aborted
abbrev pub OpenOrVoting : Coordinator → Type 0
OpenOrVoting c = (c.phase ≡ open_phase) ⊎ (c.phase ≡ voting_phase)

-- idle where nobody is awaited, else finishing
pub record Endings (P : Coordinator → Type 0) (c : Coordinator) : Type 0 where
  pub gone : OpenOrVoting c → awaited c ≡ 0 → P (idle_after c.serial c.timestamp aborted)
  pub aborting : OpenOrVoting c → (awaited c ≡ 0 → ⊥) → P (with_phase c finishing_phase aborted c.participants c.yes c.done c.rivals)

pub one_of : (c : Coordinator) → (eqb c.phase open_phase || eqb c.phase voting_phase) ≡ true → OpenOrVoting c
one_of c e = either_of (eqb c.phase open_phase) (eqb c.phase voting_phase) (eqb-true c.phase open_phase) (eqb-true c.phase voting_phase) e

module _ (P : Coordinator → Type 0) (c : Coordinator) where
  pub ended : Endings P c → OpenOrVoting c → P (ended_aborted c)
  unfolding ended_aborted
  ended e p =
      on_cond P (eqb (awaited c) 0) (idle_after c.serial c.timestamp aborted)
      (with_phase c finishing_phase aborted c.participants c.yes c.done c.rivals) (λ k. e.gone p (eqb-true (awaited c) 0 k))
      (λ k. e.aborting p (eqb-false (awaited c) 0 k))

  pub abort_cases : (me : ℕ) → P c → Endings P c → P (abort_of c me).coordinator
  unfolding abort_of abort_refusals
  abort_cases me p e =
      step_keeps P (abort_refusals c me) 0 c (ended_aborted c) tt p
      (λ k. ended e (one_of c (not-false (eqb c.phase open_phase || eqb c.phase voting_phase) k.1.0)))
