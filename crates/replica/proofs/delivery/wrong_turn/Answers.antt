-- `replica::delivery::wrong_turn`: by the kind.
use mathlib.Core.Path.{◌≡◌, sym, ap, ◌∙◌}
use borrow.Author.Tests.{ne_eqb}
use Prim.Native.Nat.{ℕ}
use lib.Dec.{eqb}
use mathlib.Core.Bool.{true, false}
use Rattle.wire.specs.Decode.{decode}
use Rattle.wire.specs.Decode.{kind_of}
use Rattle.replica.specs.Receive.{wrong_turn}
use Rattle.replica.proofs.Passes.{first_word_lem}
use Rattle.replica.proofs.delivery.wrong_turn.Goals as goal

pub returns-in-1 : goal.returns-in-1
unfolding wrong_turn decode
returns-in-1 c = let e = sym c.kind.ensures ∙ c.in-1.is in
    let b = c.args.message.now in
    let k1 : eqb (kind_of b) 1 ≡ true = ap (λ (k : ℕ). eqb k 1) e in
    simp k1 (rw c.standing-s.ensures)

pub returns-in-3 : goal.returns-in-3
unfolding wrong_turn decode
returns-in-3 c = let e = sym c.kind.ensures ∙ c.in-3.is in
    let b = c.args.message.now in
    let k1 : eqb (kind_of b) 1 ≡ false = ap (λ (k : ℕ). eqb k 1) e in
    let k3 : eqb (kind_of b) 3 ≡ true = ap (λ (k : ℕ). eqb k 3) e in
    simp (k1, k3) (rw c.standing-s.ensures)

pub returns-in-5 : goal.returns-in-5
unfolding wrong_turn decode
returns-in-5 c = let e = sym c.kind.ensures ∙ c.in-5.is in
    let b = c.args.message.now in
    let k1 : eqb (kind_of b) 1 ≡ false = ap (λ (k : ℕ). eqb k 1) e in
    let k3 : eqb (kind_of b) 3 ≡ false = ap (λ (k : ℕ). eqb k 3) e in
    let k5 : eqb (kind_of b) 5 ≡ true = ap (λ (k : ℕ). eqb k 5) e in
    simp (k1, k3, k5) (rw (c.outcome_wrong_turn.ensures, c.word.ensures, first_word_lem b, c.standing-s.ensures))

pub returns-in_default : goal.returns-in_default
unfolding wrong_turn decode
returns-in_default c = let ne = c.in_default.in_default-own.rest in
    let e = c.kind.ensures in
    rw (← e) (simp (ne_eqb _ 1 ne.0.0.1, ne_eqb _ 3 ne.0.1, ne_eqb _ 5 ne.1))
