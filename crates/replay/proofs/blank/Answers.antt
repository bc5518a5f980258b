-- `replay::blank`: refused and left, or zeros from the first cell to the last.
use mathlib.Core.Path.{◌≡◌, sym, ◌∙◌}
use lib.ListN.{length, replicate}
use Rattle.replay.specs.Layout.{size}
use Rattle.replay.specs.Sheet.{sheet_number, blank_after}
use Rattle.replay.proofs.Cells.{all_zeroed, sheet_long}
use Rattle.replay.proofs.Steps.{unless_done, unless_refused}
use Rattle.replay.proofs.blank.Goals as goal

pub returns-then-number-ne0-clause-number : goal.returns-then-number-ne0-clause-number
unfolding blank_after
returns-then-number-ne0-clause-number c = let e = c.sheet_number-number.ensures in e

pub returns-then-number-ne0-clause-sheet : goal.returns-then-number-ne0-clause-sheet
unfolding blank_after
returns-then-number-ne0-clause-sheet c = let e = c.sheet_number-number.ensures in sym (unless_refused _ _ _ (λ z. c.if-number-ne0.true (e ∙ z)))

pub returns-clause-number : goal.returns-clause-number
unfolding blank_after
returns-clause-number c = let x = c.args in
    let l = x.sheet.now in
    let e : sheet_number (length l) ≡ 0 = cc in
    let done = unless_done _ l (replicate size 0) e in
    let zeros = all_zeroed size l (sheet_long l e) in sym e

pub returns-clause-sheet : goal.returns-clause-sheet
unfolding blank_after
returns-clause-sheet c = let x = c.args in
    let l = x.sheet.now in
    let e : sheet_number (length l) ≡ 0 = cc in
    let done = unless_done _ l (replicate size 0) e in
    let zeros = all_zeroed size l (sheet_long l e) in cc
