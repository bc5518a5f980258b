-- `record::load::object_of`: the object of a part, or of what is left.
use mathlib.Core.Path.{◌≡◌, refl, sym, ap, ◌∙◌}
use mathlib.Core.List.{List}
use Prim.Native.Nat.{ℕ, ◌+◌, ◌-◌, ◌≤◌}
use native.Mathlib.Omega.{arith}
use lib.ListN.{length, drop, length-drop, drop_of_length-le}
use lib.Seq.{take_all}
use Rattle.record.specs.Record.{object_of}
use Rattle.record.proofs.Valid.{object_part, object_rest}
use Rattle.record.proofs.load.object_of.Goals as goal

pub returns-then-end-bytes : goal.returns-then-end-bytes
returns-then-end-bytes c = let x = c.args in
    let s : x.at + 25 - x.at ≡ 25 = omega arith in
    c.object_in.ensures ∙ object_part x.bytes.now x.at _ s

pub returns-then-at-bytes : goal.returns-then-at-bytes
returns-then-at-bytes c = let x = c.args in
    let l = x.bytes.now in
    let n : length (drop x.at l) ≤ length l - x.at = (let z = length-drop x.at l in omega arith) in
    c.object_in-then-at-bytes.ensures ∙ ap (λ (m : List ℕ). object_of m 0) (take_all (length l - x.at) (drop x.at l) n) ∙ object_rest l x.at 25 refl

pub returns : goal.returns
returns c = let x = c.args in
    let l = x.bytes.now in
    c.object_in-2.ensures ∙ ap (λ (m : List ℕ). object_of m 0) (sym (drop_of_length-le l c.if-at-bytes.false)) ∙ object_rest l x.at 25 refl
