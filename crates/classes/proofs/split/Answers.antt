-- `classes::split`: each place filled so far is the grams, and the tenths left over, of its sum.
use Prim.Native.Nat.{ℕ, ◌+◌, ◌/◌, ◌%◌}
use native.Mathlib.Omega.{arith}
use lib.ListN.{get_or}
use Rattle.classes.specs.Classes.{most_classes}
use Rattle.classes.proofs.Laws.{up_all}
use Rattle.classes.proofs.split.Goals as goal

pub returns-clause-grams_value : goal.returns-clause-grams_value
returns-clause-grams_value c = let l = c.loop-i in
    let x = c.args in
    up_all (λ (j : ℕ). (get_or x.waiting j 0 + get_or x.sums j 0) / 10) most_classes l.grams l.invariant.0 (λ j h. l.invariant.2 j (omega arith))

pub returns-clause-left_value : goal.returns-clause-left_value
returns-clause-left_value c = let l = c.loop-i in
    let x = c.args in
    up_all (λ (j : ℕ). (get_or x.waiting j 0 + get_or x.sums j 0) % 10) most_classes l.left l.invariant.1 (λ j h. l.invariant.3 j (omega arith))
