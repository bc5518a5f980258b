-- `replay::put`: refused and left, or the next place for a first yes.
use mathlib.Core.Path.{◌≡◌, sym, ◌∙◌}
use lib.ListN.{length}
use Rattle.replay.specs.Sheet.{sheet_number, with_put, put_after}
use Rattle.replay.proofs.Steps.{put_when, put_else, unless_done, unless_refused}
use Rattle.replay.proofs.put.Goals as goal

pub returns-then-number-ne0-clause-number : goal.returns-then-number-ne0-clause-number
unfolding put_after
returns-then-number-ne0-clause-number c = let e = c.sheet_number-number.ensures in e

pub returns-then-number-ne0-clause-sheet : goal.returns-then-number-ne0-clause-sheet
unfolding put_after
returns-then-number-ne0-clause-sheet c = let e = c.sheet_number-number.ensures in sym (unless_refused _ _ _ (λ z. c.if-number-ne0.true (e ∙ z)))

pub returns-then-first_yes-clause-number : goal.returns-then-first_yes-clause-number
unfolding put_after
returns-then-first_yes-clause-number c = let x = c.args in
    let l = x.sheet.now in
    let e : sheet_number (length l) ≡ 0 = cc in
    let law = put_when l x.message.now (cc) in
    let done = unless_done _ l (with_put l x.message.now) e in sym e

pub returns-then-first_yes-clause-sheet : goal.returns-then-first_yes-clause-sheet
unfolding put_after
returns-then-first_yes-clause-sheet c = let x = c.args in
    let l = x.sheet.now in
    let e : sheet_number (length l) ≡ 0 = cc in
    let law = put_when l x.message.now (cc) in
    let done = unless_done _ l (with_put l x.message.now) e in cc

pub returns-else-first_yes-clause-number : goal.returns-else-first_yes-clause-number
unfolding put_after
returns-else-first_yes-clause-number c = let x = c.args in
    let l = x.sheet.now in
    let e : sheet_number (length l) ≡ 0 = cc in
    let law = put_else l x.message.now (cc) in
    let done = unless_done _ l (with_put l x.message.now) e in sym e

pub returns-else-first_yes-clause-sheet : goal.returns-else-first_yes-clause-sheet
unfolding put_after
returns-else-first_yes-clause-sheet c = let x = c.args in
    let l = x.sheet.now in
    let e : sheet_number (length l) ≡ 0 = cc in
    let law = put_else l x.message.now (cc) in
    let done = unless_done _ l (with_put l x.message.now) e in cc
