-- `octets::put_four`: its halves.
use mathlib.Core.Path.{sym, ap, ◌∙◌}
use mathlib.Core.List.{List}
use Prim.Native.Nat.{ℕ, ◌+◌, ◌/◌}
use Rattle.octets.specs.Octets.{put}
use Rattle.octets.proofs.Laws.{put_four}
use Rattle.octets.proofs.put_four.Goals as goal

pub returns : goal.returns
returns c = let x = c.args in
    c.put_two-2.ensures
    ∙ ap (λ (l : List ℕ). put 2 l (x.at + 2) (x.v / 65536)) c.put_two.ensures
    ∙ sym (put_four x.s.now x.at x.v)
