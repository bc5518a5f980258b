-- `lists::lay`: the bytes so far, with those of the numbers that are left behind them, are all of them.
use Prim.Native.Nat.{◌≤◌, ◌<◌}
use native.Mathlib.Omega.{arith}
use mathlib.Core.Path.{◌≡◌, refl, sym, ◌∙◌}
use mathlib.Core.Bool.{true, false}
use lib.ListN.{length, get_or, take}
use Rattle.std.proofs.lemmas.List.{take_min}
use Rattle.octets.proofs.Laws.{length_put}
use Rattle.lists.specs.Lists.{width, limit, fits, laid}
use Rattle.lists.proofs.Laws.{fits_over, fits_few, fit_stop, fit_again, fit_end, lay_again, lay_end}
use Rattle.lists.proofs.lay.Goals as goal
use Rattle.lists.proofs.lay.Goals.{After-min-2, Then-limit-v, After-loop-i}

-- what is laid is the listed front of the list
front : (c : After-min-2) → take c.args.listed c.args.list.now ≡ take c.min.result c.args.list.now
front c = rw c.min.ensures (sym (take_min c.args.listed c.args.list.now))

pub returns-then-min-numbers-clause-fits : goal.returns-then-min-numbers-clause-fits
returns-then-min-numbers-clause-fits c =
    let a = c.args in
    rw (front (goal.at.returns-then-min-numbers-clause-fits c).After-min-2) (sym (fits_over a.shape (length a.out.now) _ (omega arith)))

pub returns-then-min-numbers-clause-bytes : goal.returns-then-min-numbers-clause-bytes
returns-then-min-numbers-clause-bytes c =
    let a = c.args in
    rw (front (goal.at.returns-then-min-numbers-clause-bytes c).After-min-2, fits_over a.shape (length a.out.now) (take c.min.result a.list.now) (omega arith))

pub loop-i-init : goal.loop-i-init
unfolding laid
loop-i-init c =
    let lead = c.lead-at.ensures in
    let first = c.first-n.ensures.0 in
    record {
      at = lead.long.0;
      room = omega (arith, lead.long.1, c.min-2.ensures, c.if-min-numbers.false);
      fit = rw first refl;
      laid = rw
          (lead.bytes, first) refl;
    }

-- a number that does not fit its place
over : (c : Then-limit-v) → fits c.args.shape (length c.args.out.now) (take c.args.listed c.args.list.now) ≡ false
over c =
    let a = c.args in
    let l = c.loop-i in
    let numbers = take c.min.result a.list.now in
    let n = c.first-n.result in
    let large : limit (width a.shape n l.i) ≤ get_or numbers l.i 0 = rw (← c.width-w.ensures.0, ← c.limit.ensures.0) c.if-limit-v.true in
    rw (front (goal.at.returns-then-limit-v-clause-fits c).After-min-2, fits_few a.shape (length a.out.now) numbers (omega arith))
    (sym (fit_stop a.shape n l.i numbers _ l.invariant.fit c.loop-i-test.true large))

pub returns-then-limit-v-clause-fits : goal.returns-then-limit-v-clause-fits
returns-then-limit-v-clause-fits c = sym (over c)

pub returns-then-limit-v-clause-bytes : goal.returns-then-limit-v-clause-bytes
returns-then-limit-v-clause-bytes c = rw (over c)

pub loop-i-preserved : goal.loop-i-preserved
loop-i-preserved c =
    let l = c.loop-i in
    let a = c.args in
    let numbers = take c.min.result a.list.now in
    let n = c.first-n.result in
    let w = c.width-w.ensures in
    let under : get_or numbers l.i 0 < limit (width a.shape n l.i) = rw (← w.0, ← c.limit.ensures.0) c.if-limit-v.false in
    let put = c.put_u32.ensures in
    let next = lay_again a.shape n l.i numbers l.out l.at c.loop-i-test.true (omega arith) (omega arith) in
    record {
      at = omega arith;
      room = simp (put, length_put) l.invariant.room;
      fit = fit_again a.shape n l.i numbers _ l.invariant.fit c.loop-i-test.true under;
      laid = rw (put, w.0) (next ∙ l.invariant.laid);
    }

-- each number fits its place
all_fit : (c : After-loop-i) → fits c.args.shape (length c.args.out.now) (take c.args.listed c.args.list.now) ≡ true
all_fit c =
    let a = c.args in
    let l = c.loop-i in
    let numbers = take c.min.result a.list.now in
    let all : l.i ≡ length numbers = omega arith in
    rw (front (goal.at.returns-clause-fits c).After-min-2, fits_few a.shape (length a.out.now) numbers (omega arith))
    (sym (fit_end a.shape c.first-n.result l.i numbers _ l.invariant.fit all))

pub returns-clause-fits : goal.returns-clause-fits
returns-clause-fits c = sym (all_fit c)

pub returns-clause-bytes : goal.returns-clause-bytes
returns-clause-bytes c =
    let a = c.args in
    let l = c.loop-i in
    let numbers = take c.min.result a.list.now in
    let all : l.i ≡ length numbers = omega arith in
    rw (all_fit c, front (goal.at.returns-clause-bytes c).After-min-2) (sym (lay_end a.shape c.first-n.result l.i numbers l.out l.at all) ∙ l.invariant.laid)
