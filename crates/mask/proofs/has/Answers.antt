-- `mask::has`: the shifted mask's last digit is the bit; past the width no mask has a bit.
use mathlib.Core.Path.{sym, ◌∙◌}
use borrow.Author.Tests.{le-ltb}
use borrow.Author.Rules.{rules}
use Rattle.mask.proofs.Laws.{contains_high}
use Rattle.mask.proofs.has.Goals as goal

pub returns-else-node-lt16 : goal.returns-else-node-lt16
returns-else-node-lt16 c = le-ltb _ _ c.if-node-lt16.false ∙ sym (contains_high c.args.m c.args.node (search rules) c.if-node-lt16.false)
