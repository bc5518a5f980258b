-- `quorum_lines::finish` meets its contract: by the room, and by whether a line is begun.
use native.Mathlib.Omega.{arith}
use mathlib.Core.Path.{◌≡◌, sym, ap, ◌∙◌}
use mathlib.Core.Bool.{true, false}
use mathlib.Core.List.{[]}
use lib.ListN.{length}
use Rattle.decimal.specs.Decimal.{put_at}
use Rattle.decimal.specs.Laws.{put_nothing, length_put}
use Rattle.quorum_lines.specs.Line.{ended}
use Rattle.quorum_lines.specs.Reply.{reply}
use Rattle.quorum_lines.specs.Output.{last_in}
use Rattle.quorum_lines.specs.Laws.{last_over, last_fits}
use Rattle.quorum_lines.proofs.finish.Goals as goal

pub returns-then-out-lt-LONGEST_ROW-clause-written : goal.returns-then-out-lt-LONGEST_ROW-clause-written
returns-then-out-lt-LONGEST_ROW-clause-written c = let x = c.args in
    let l = x.out.now in
    let e : last_in (length l) x.line ≡ [] = last_over (length l) x.line (omega arith) in sym (ap length e)

pub returns-then-out-lt-LONGEST_ROW-clause-buffer : goal.returns-then-out-lt-LONGEST_ROW-clause-buffer
returns-then-out-lt-LONGEST_ROW-clause-buffer c = let x = c.args in
    let l = x.out.now in
    let e : last_in (length l) x.line ≡ [] = last_over (length l) x.line (omega arith) in sym (put_nothing l 0 (omega arith)) ∙ sym (ap (put_at l 0) e)

pub returns-then-out-lt-LONGEST_ROW-clause-within : goal.returns-then-out-lt-LONGEST_ROW-clause-within
returns-then-out-lt-LONGEST_ROW-clause-within c = let x = c.args in
    let l = x.out.now in
    let e : last_in (length l) x.line ≡ [] = last_over (length l) x.line (omega arith) in omega arith

pub returns-then-is_begun-clause-written : goal.returns-then-is_begun-clause-written
returns-then-is_begun-clause-written c = let x = c.args in
    let l = x.out.now in
    let r = c.put_reply in
    let e : last_in (length l) x.line ≡ reply (ended x.line) =
    last_fits (length l) x.line true (omega arith) (sym c.is_begun.ensures ∙ c.if-is_begun.true) in
    omega (arith, ap length e, r.ensures.next)

pub returns-then-is_begun-clause-buffer : goal.returns-then-is_begun-clause-buffer
returns-then-is_begun-clause-buffer c = let x = c.args in
    let l = x.out.now in
    let r = c.put_reply in
    let e : last_in (length l) x.line ≡ reply (ended x.line) =
    last_fits (length l) x.line true (omega arith) (sym c.is_begun.ensures ∙ c.if-is_begun.true) in
    r.ensures.buffer ∙ sym (ap (put_at l 0) e)

pub returns-then-is_begun-clause-within : goal.returns-then-is_begun-clause-within
returns-then-is_begun-clause-within c = let x = c.args in
    let l = x.out.now in
    let r = c.put_reply in
    let e : last_in (length l) x.line ≡ reply (ended x.line) =
    last_fits (length l) x.line true (omega arith) (sym c.is_begun.ensures ∙ c.if-is_begun.true) in
    omega (arith, r.ensures.next, r.ensures.within, ap length r.ensures.buffer ∙ length_put l 0 (reply (ended x.line)))

pub returns-clause-written : goal.returns-clause-written
returns-clause-written c = let x = c.args in
    let l = x.out.now in
    let e : last_in (length l) x.line ≡ [] =
    last_fits (length l) x.line false (omega arith) (sym c.is_begun.ensures ∙ c.if-is_begun.false) in sym (ap length e)

pub returns-clause-buffer : goal.returns-clause-buffer
returns-clause-buffer c = let x = c.args in
    let l = x.out.now in
    let e : last_in (length l) x.line ≡ [] =
    last_fits (length l) x.line false (omega arith) (sym c.is_begun.ensures ∙ c.if-is_begun.false) in sym (put_nothing l 0 (omega arith))
    ∙ sym (ap (put_at l 0) e)

pub returns-clause-within : goal.returns-clause-within
returns-clause-within c = let x = c.args in
    let l = x.out.now in
    let e : last_in (length l) x.line ≡ [] =
    last_fits (length l) x.line false (omega arith) (sym c.is_begun.ensures ∙ c.if-is_begun.false) in omega arith
