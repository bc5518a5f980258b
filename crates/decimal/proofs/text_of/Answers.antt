-- `decimal::text_of` meets its contract. The loop's invariant: the text of what is left, in front of the bytes written, is the whole text.
use Prim.Native.Nat.{ℕ, suc, ◌+◌, ◌-◌, ◌/◌, ◌%◌, ◌<◌}
use native.Mathlib.Omega.{arith}
use mathlib.Core.Path.{◌≡◌, refl, ap, ◌∙◌}
use mathlib.Core.List.{◌++◌, append-nil}
use lib.ListN.{drop, set, length-set}
use Rattle.decimal.specs.Decimal.{digits, decimal}
use Rattle.decimal.specs.Laws.{digits_turn, digits_last, tenth, one_more}
use Rattle.decimal.proofs.text_of.Goals as goal

pub loop-rest-init : goal.loop-rest-init
unfolding decimal
loop-rest-init c = (omega arith, refl, omega arith, append-nil (digits 20 c.args.n))

pub loop-rest-preserved : goal.loop-rest-preserved
loop-rest-preserved c = let l = c.loop-rest in
    let p : 0 < l.from = one_more l.from l.rest l.invariant.2 (omega arith) in
    let e : suc (l.from - 1) ≡ l.from = omega arith in (
      omega arith,
      length-set l.bytes l.from _ ∙ l.invariant.1,
      rw e (tenth l.from l.rest l.invariant.2),
      ap (λ (k : ℕ). digits k (l.rest / 10) ++ drop k (set l.bytes l.from (48 + l.rest % 10))) e
          ∙ digits_turn l.from l.rest l.bytes (omega arith) (omega arith)
          ∙ l.invariant.3,
    )

pub returns-clause-text : goal.returns-clause-text
returns-clause-text c = let l = c.loop-rest in
    digits_last l.from l.rest l.bytes (omega arith) (omega arith) ∙ l.invariant.3
