-- `quorum_lines::header` meets its contract, which is that of `decimal::append` at the header.
use native.Mathlib.Omega.{arith}
use mathlib.Core.Path.{ap, ◌∙◌}
use lib.ListN.{length}
use Rattle.decimal.specs.Laws.{next_within, length_put}
use Rattle.quorum_lines.specs.Reply.{header_text}
use Rattle.quorum_lines.proofs.header.Goals as goal

pub returns-clause-written : goal.returns-clause-written
unfolding header_text
returns-clause-written c = let l = c.args.out.now in
    let r = c.append.ensures in r.next

pub returns-clause-buffer : goal.returns-clause-buffer
unfolding header_text
returns-clause-buffer c = let l = c.args.out.now in
    let r = c.append.ensures in r.buffer

pub returns-clause-within : goal.returns-clause-within
unfolding header_text
returns-clause-within c = let l = c.args.out.now in
    let r = c.append.ensures in omega (arith, r.next, next_within l 0 header_text (omega arith), ap length r.buffer ∙ length_put l 0 header_text)
