-- `record::verify::votes_meet`: each test in turn.
use native.Mathlib.Omega.{arith}
use mathlib.Core.Path.{◌≡◌, sym, ◌∙◌}
use mathlib.Core.Bool.{Bool, cond}
use mathlib.Core.List.{List}
use Prim.Native.Nat.{ℕ}
use borrow.Author.Tests.{eq-eqb, ne_eqb}
use lib.Dec.{eqb}
use lib.ListN.{get_or}
use Rattle.octets.specs.Octets.{get}
use Rattle.mask.specs.Mask.{within}
use Rattle.clauses.specs.Clauses.{votes_meet}
use Rattle.record.specs.Record.{record_of}
use Rattle.record.proofs.Zero.{last_true}
use Rattle.record.proofs.verify.votes_meet.Goals as goal

-- the votes and the participants as the fields that they are read from
voted : (l : List ℕ) (agreed participants : ℕ) (r : Bool) → agreed ≡ get 2 l 245 → participants ≡ get 2 l 243 → r ≡ within agreed participants
    → (b : Bool) → r ≡ b → within (get 2 l 245) (get 2 l 243) ≡ b
voted l agreed participants r e f g b h = cc

-- voting is not finishing
two_three : (n : ℕ) → n ≡ 2 → n ≡ 3 → ⊥
two_three n e f = omega arith

-- the outcome by whether all agreed
chosen : (b t r : Bool) (m n : ℕ) → r ≡ cond b (eqb m 1) (eqb m 2) → b ≡ t → m ≡ n → r ≡ cond t (eqb n 1) (eqb n 2)
chosen b t r m n e f g = cc

pub returns-then-not-subset : goal.returns-then-not-subset
unfolding votes_meet record_of
returns-then-not-subset c = let l = c.args.bytes.now in
    simp (voted l _ _ _ c.get_u16.ensures c.get_u16-2.ensures c.subset.ensures _
    c.if-not-subset.true)

pub returns-then-phase-eq-VOTING : goal.returns-then-phase-eq-VOTING
unfolding votes_meet record_of
returns-then-phase-eq-VOTING c = let l = c.args.bytes.now in
    let y = voted l _ _ _ c.get_u16.ensures c.get_u16-2.ensures
    c.subset.ensures _ c.if-not-subset.false in
    let h : get_or l 9 0 ≡ 2 = sym c.get_u8-phase.ensures ∙ c.if-phase-eq-VOTING.true in
    simp (y, eq-eqb (get_or l 9 0) 2 h, ne_eqb (get_or l 9 0) 3 (two_three (get_or l 9 0) h), last_true) (rw c.is_agreed-all.ensures)

pub returns-then-phase-eq-FINISHING : goal.returns-then-phase-eq-FINISHING
unfolding votes_meet record_of
returns-then-phase-eq-FINISHING c = let l = c.args.bytes.now in
    let y = voted l _ _ _ c.get_u16.ensures
    c.get_u16-2.ensures c.subset.ensures _
    c.if-not-subset.false in
    let h : get_or l 9 0 ≡ 2 → ⊥ = λ e. c.if-phase-eq-VOTING.false
    (c.get_u8-phase.ensures ∙ e) in
    let k : get_or l 9 0 ≡ 3 = sym c.get_u8-phase.ensures ∙ c.if-phase-eq-FINISHING.true in
    simp (y, ne_eqb (get_or l 9 0) 2 h, eq-eqb (get_or l 9 0) 3 k)
    (chosen _ _ _ _ _ c.choose.ensures c.is_agreed-all.ensures
    c.get_u8-outcome.ensures)

pub returns-else-phase-eq-FINISHING : goal.returns-else-phase-eq-FINISHING
unfolding votes_meet record_of
returns-else-phase-eq-FINISHING c = let l = c.args.bytes.now in
    let y = voted l _ _ _ c.get_u16.ensures
    c.get_u16-2.ensures c.subset.ensures _
    c.if-not-subset.false in
    let h : get_or l 9 0 ≡ 2 → ⊥ = λ e. c.if-phase-eq-VOTING.false (c.get_u8-phase.ensures ∙ e) in
    let k : get_or l 9 0 ≡ 3 → ⊥ = λ e. c.if-phase-eq-FINISHING.false (c.get_u8-phase.ensures ∙ e) in
    simp (y, ne_eqb (get_or l 9 0) 2 h, ne_eqb (get_or l 9 0) 3 k)
