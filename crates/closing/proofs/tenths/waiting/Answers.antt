-- `closing::tenths::waiting`: by the lengths.
use borrow.Author.Tests.{eq-eqb, ne_eqb}
use Rattle.report.specs.Page.{inks}
use Rattle.closing.specs.Texts.{waiting_texts}
use Rattle.closing.proofs.tenths.waiting.Goals as goal

pub returns-then-records-ne-RECORDS : goal.returns-then-records-ne-RECORDS
unfolding waiting_texts inks
returns-then-records-ne-RECORDS c = simp (ne_eqb _ _ c.if-records-ne-RECORDS.true)

pub returns-then-settings-ne-SETTINGS : goal.returns-then-settings-ne-SETTINGS
unfolding waiting_texts inks
returns-then-settings-ne-SETTINGS c = simp (eq-eqb _ _ c.if-records-ne-RECORDS.false, ne_eqb _ _ c.if-settings-ne-SETTINGS.true)

pub returns : goal.returns
unfolding waiting_texts
returns c = simp (eq-eqb _ _ c.if-records-ne-RECORDS.false, eq-eqb _ _ c.if-settings-ne-SETTINGS.false) c.lines.ensures
