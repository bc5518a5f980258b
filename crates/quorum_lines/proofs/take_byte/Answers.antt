-- `quorum_lines::take_byte` meets its contract: byte 10 ends a line and calls for its reply; any other byte is one of the line.
use Prim.Native.Nat.{ℕ, ◌+◌}
use native.Mathlib.Omega.{arith}
use mathlib.Core.Path.{◌≡◌, sym, ap, ◌∙◌}
use mathlib.Core.List.{List, []}
use lib.ListN.{length}
use Rattle.decimal.specs.Decimal.{put_at}
use Rattle.decimal.specs.Laws.{put_nothing}
use Rattle.quorum_lines.specs.Line.{ended}
use Rattle.quorum_lines.specs.Reply.{reply}
use Rattle.quorum_lines.specs.Output.{reply_at}
use Rattle.quorum_lines.specs.Laws.{reply_newline, next_newline, reply_other, next_other}
use Rattle.quorum_lines.proofs.take_byte.Goals as goal

pub returns-then-b-eq10-clause-line : goal.returns-then-b-eq10-clause-line
returns-then-b-eq10-clause-line c = let x = c.args in
    let r = c.put_reply-next in
    let h = c.if-b-eq10.true in
    let e : reply (ended x.line) ≡ reply_at x.line x.b = sym (reply_newline x.line x.b h) in
    c.fresh-l.ensures ∙ sym (next_newline x.line x.b h)

pub returns-then-b-eq10-clause-next : goal.returns-then-b-eq10-clause-next
returns-then-b-eq10-clause-next c = let x = c.args in
    let r = c.put_reply-next in
    let h = c.if-b-eq10.true in
    let e : reply (ended x.line) ≡ reply_at x.line x.b = sym (reply_newline x.line x.b h) in
    r.ensures.next ∙ ap (λ (t : List ℕ). x.at + length t) e

pub returns-then-b-eq10-clause-buffer : goal.returns-then-b-eq10-clause-buffer
returns-then-b-eq10-clause-buffer c = let x = c.args in
    let r = c.put_reply-next in
    let h = c.if-b-eq10.true in
    let e : reply (ended x.line) ≡ reply_at x.line x.b = sym (reply_newline x.line x.b h) in r.ensures.buffer ∙ ap (put_at x.out.now x.at) e

pub returns-then-b-eq10-clause-within : goal.returns-then-b-eq10-clause-within
returns-then-b-eq10-clause-within c = let x = c.args in
    let r = c.put_reply-next in
    let h = c.if-b-eq10.true in
    let e : reply (ended x.line) ≡ reply_at x.line x.b = sym (reply_newline x.line x.b h) in omega (arith, ap length e, r.ensures.within)

pub returns-clause-line : goal.returns-clause-line
returns-clause-line c = let x = c.args in
    let h = c.if-b-eq10.false in
    let e : reply_at x.line x.b ≡ [] = reply_other x.line x.b h in
    c.step-l.ensures ∙ sym (next_other x.line x.b h)

pub returns-clause-next : goal.returns-clause-next
returns-clause-next c = let x = c.args in
    let h = c.if-b-eq10.false in
    let e : reply_at x.line x.b ≡ [] = reply_other x.line x.b h in
    omega (arith, ap length e)

pub returns-clause-buffer : goal.returns-clause-buffer
returns-clause-buffer c = let x = c.args in
    let h = c.if-b-eq10.false in
    let e : reply_at x.line x.b ≡ [] = reply_other x.line x.b h in sym (put_nothing x.out.now x.at (omega arith)) ∙ sym (ap (put_at x.out.now x.at) e)

pub returns-clause-within : goal.returns-clause-within
returns-clause-within c = let x = c.args in
    let h = c.if-b-eq10.false in
    let e : reply_at x.line x.b ≡ [] = reply_other x.line x.b h in omega (arith, ap length e)
