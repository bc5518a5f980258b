-- `octets::put_eight`: its halves.
use mathlib.Core.Path.{sym, ap, ◌∙◌}
use mathlib.Core.List.{List}
use Prim.Native.Nat.{ℕ, ◌+◌, ◌/◌}
use Rattle.octets.specs.Octets.{put}
use Rattle.octets.proofs.Laws.{put_eight}
use Rattle.octets.proofs.put_eight.Goals as goal

pub returns : goal.returns
returns c = let x = c.args in
    c.put_four-2.ensures
    ∙ ap (λ (l : List ℕ). put 4 l (x.at + 4) (x.v / 4294967296)) c.put_four.ensures
    ∙ sym (put_eight x.s.now x.at x.v)
