-- `octets::put_u32`: all bytes there, or one by one.
use mathlib.Core.Path.{sym, ◌∙◌}
use borrow.Author.Tests.{leb-true}
use Rattle.octets.proofs.put_u32.Goals as goal

pub put_four-requires : goal.put_four-requires
put_four-requires c = leb-true _ _ (sym c.within.ensures ∙ c.if-within.true)
