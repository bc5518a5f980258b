-- `octets::get_u32`: all bytes there, or one by one.
use mathlib.Core.Path.{sym, ◌∙◌}
use borrow.Author.Tests.{leb-true}
use Rattle.octets.proofs.get_u32.Goals as goal

pub four-requires : goal.four-requires
four-requires c = leb-true _ _ (sym c.within.ensures ∙ c.if-within.true)
