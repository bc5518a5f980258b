-- `closing::tenths::lines`: the loop puts one node's line after another.
use native.Mathlib.Omega.{arith}
use Rattle.numbers.specs.Sizes.{nodes}
use Rattle.report.specs.Each.{one_more, all_put}
use Rattle.closing.specs.Texts.{nth_node_texts}
use Rattle.closing.proofs.tenths.lines.Goals as goal

pub loop-n-preserved : goal.loop-n-preserved
loop-n-preserved c = let l = c.loop-n in
    let x = c.args in
    let o = c.node_at-a in
    one_more (nth_node_texts x.records.now x.settings.now) nodes x.out.now x.at l.out l.a l.n o.new.out o.result
    c.loop-n-test.true l.invariant o.ensures

pub returns : goal.returns
returns c = let l = c.loop-n in
    let x = c.args in
    all_put (nth_node_texts x.records.now x.settings.now) nodes x.out.now x.at l.out l.a l.n
    (omega (arith, c.loop-n-test.false)) l.invariant
