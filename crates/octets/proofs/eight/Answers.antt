-- `octets::eight`: its halves.
use Rattle.octets.specs.Octets.{get}
use mathlib.Core.Path.{◌≡◌, sym, ◌∙◌}
use Prim.Native.Nat.{◌+◌, ◌*◌}
use Rattle.octets.proofs.Laws.{get_eight}
use Rattle.octets.proofs.eight.Goals as goal

pub returns : goal.returns
returns c = let a = c.four in
    let b = c.four-2 in
    let e : a.result + 4294967296 * b.result ≡ get 8 c.args.s.now c.args.at =
    (λ i. a.ensures.0 i + 4294967296 * b.ensures.0 i) ∙ sym (get_eight c.args.s.now
    c.args.at) in
    e
