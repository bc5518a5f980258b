-- `letters::write::put_rivals`: storing the rivals that are left from here on gives what storing all of them gives.
use mathlib.Core.Path.{◌≡◌, sym, ap, ap₂, ◌∙◌}
use Prim.Native.Nat.{ℕ, ◌+◌}
use native.Mathlib.Omega.{arith}
use mathlib.Core.List.{List, ◌++◌}
use lib.ListN.{length, get_or, drop, length-append}
use lib.Seq.{sets}
use Rattle.numbers.specs.Sizes.{nodes}
use Rattle.wire.specs.declared.Rival.{Rival}
use Rattle.wire.specs.Encode.{encode_rival, together}
use Rattle.letters.specs.Write.{one_rival, rivals_by}
use Rattle.letters.proofs.ByOwner.{one_count, rivals_step, rivals_end, rivals_then}
use borrow.Author.Rules.{rules}
use Rattle.letters.proofs.write.put_rivals.Goals as goal

pub loop-i-preserved : goal.loop-i-preserved
loop-i-preserved c =
    let p = rw c.from.ensures at c.put_by_owner-next.ensures in
    let l = c.loop-i in
    let ss = c.args.serials in
    let full : length ss ≡ nodes = search rules in
    let one : List Rival = one_rival l.i (get_or ss l.i 0) in
    let rest : List Rival = rivals_by (l.i + 1) (drop (l.i + 1) ss) in
    let small = (one_count l.i 0 (get_or ss l.i 0)).1 in
    let step : rivals_by l.i (drop l.i ss) ≡ one ++ rest = rivals_step l.i ss (omega arith) in
    let count : length (rivals_by l.i (drop l.i ss)) ≡ length one + length rest = ap length step ∙ length-append one rest in (
      omega (arith, p.value),
      omega (arith, p.value),
      ap₂ (λ (m : List ℕ) (j : ℕ). sets m j (together encode_rival rest)) p.out_after p.value ∙ sym (rivals_then one rest l.out l.next)
          ∙ ap (λ (rs : List Rival). sets l.out l.next (together encode_rival rs)) (sym step) ∙ l.invariant.2,
    )

pub returns-clause-value : goal.returns-clause-value
unfolding together
returns-clause-value c =
    let l = c.loop-i in
    let ss = c.args.serials in
    let full : length ss ≡ nodes = search rules in
    let count : length (rivals_by l.i (drop l.i ss)) ≡ 0 = ap length (rivals_end l.i ss (omega arith)) in omega arith

pub returns-clause-out_after : goal.returns-clause-out_after
unfolding together
returns-clause-out_after c =
    let l = c.loop-i in
    let ss = c.args.serials in
    let full : length ss ≡ nodes = search rules in
    let none = rivals_end l.i ss (omega arith) in
    sym (ap (λ (rs : List Rival). sets l.out l.next (together encode_rival rs)) none) ∙ l.invariant.2
