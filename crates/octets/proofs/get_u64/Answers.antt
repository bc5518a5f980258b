-- `octets::get_u64`: all bytes there, or one by one.
use mathlib.Core.Path.{sym, ◌∙◌}
use borrow.Author.Tests.{leb-true}
use Rattle.octets.proofs.get_u64.Goals as goal

pub eight-requires : goal.eight-requires
eight-requires c = leb-true _ _ (sym c.within.ensures ∙ c.if-within.true)
