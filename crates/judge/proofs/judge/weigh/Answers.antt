-- `judge::judge::weigh`: found so far, and at the entries from here on.
use Prim.Native.Nat.{ℕ}
use native.Mathlib.Omega.{arith}
use mathlib.Core.Path.{sym, ap, ◌∙◌}
use mathlib.Core.Bool.{◌||◌}
use Rattle.wire.specs.Decode.{owner_of, decode}
use Rattle.judge.specs.Judge.{some, other_holds, held_by_another, newer, newer_here, gathered, rivals_of}
use Rattle.judge.specs.Weighing.{barred as bar}
use Rattle.judge.proofs.Passes.{rest_first, some_either, some_again, some_end, gathered_again, gathered_end}
use Rattle.judge.proofs.judge.weigh.Goals as goal

pub loop-i-init : goal.loop-i-init
loop-i-init c = let x = c.args in (
  ap (some (bar x.image.now (owner_of x.message.now))) (rest_first x.message.now),
  ap (gathered x.image.now 0) (rest_first x.message.now),
)

pub loop-i-preserved : goal.loop-i-preserved
loop-i-preserved c = let l = c.loop-i in
    let x = c.args in
    let e = c.nth_entry-e in
    let f = c.either-barred.ensures ∙ ap (◌||◌ l.barred) (c.bars.ensures
    ∙ ap (λ (k : ℕ). bar x.image.now k e.result) c.owner-o.ensures) in (
      some_again (bar x.image.now (owner_of x.message.now)) x.message.now l.i l.barred c.either-barred.result e.result _
          e.ensures f
          (omega (arith, c.entries-n.ensures.0)) l.invariant.0,
      rw (c.join-found.ensures, c.rivals_at.ensures, e.ensures)
          (sym (gathered_again x.image.now x.message.now l.i l.found (omega (arith, c.entries-n.ensures.0))) ∙ l.invariant.1),
    )

pub returns : goal.returns
unfolding rivals_of held_by_another newer_here decode
returns c = let l = c.loop-i in
    let x = c.args in
    let i = x.image.now in
    let b = x.message.now in
    let p = bar i (owner_of b) in
    let e = sym (gathered_end i b l.i l.found (omega (arith, c.entries-n.ensures.0))) ∙ l.invariant.1 in
    record {
      bars = sym (some_end p b l.i l.barred (omega (arith, c.entries-n.ensures.0))) ∙ l.invariant.0
          ∙ some_either (other_holds i (owner_of b)) (newer i) (decode b).entries;
      rivals = rw (c.without-rivals.ensures, c.single.ensures, c.owner-o.ensures, e);
    }
