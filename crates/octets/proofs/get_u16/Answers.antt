-- `octets::get_u16`: all bytes there, or one by one.
use mathlib.Core.Path.{sym, ◌∙◌}
use borrow.Author.Tests.{leb-true}
use Rattle.octets.proofs.get_u16.Goals as goal

pub two-requires : goal.two-requires
two-requires c = leb-true _ _ (sym c.within.ensures ∙ c.if-within.true)
