-- `octets::put_u16`: all bytes there, or one by one.
use mathlib.Core.Path.{sym, ◌∙◌}
use borrow.Author.Tests.{leb-true}
use Rattle.octets.proofs.put_u16.Goals as goal

pub put_two-requires : goal.put_two-requires
put_two-requires c = leb-true _ _ (sym c.within.ensures ∙ c.if-within.true)
