-- `octets::four`: its halves.
use Rattle.octets.specs.Octets.{get}
use native.Mathlib.Omega.{arith}
use mathlib.Core.Path.{◌≡◌, sym, ◌∙◌}
use Prim.Native.Nat.{◌+◌, ◌*◌}
use Rattle.octets.proofs.Laws.{get_four}
use Rattle.octets.proofs.four.Goals as goal

pub returns : goal.returns
returns c = let a = c.two in
    let b = c.two-2 in
    let e : a.result + 65536 * b.result ≡ get 4 c.args.s.now c.args.at =
    (λ i. a.ensures.0 i + 65536 * b.ensures.0 i) ∙ sym (get_four c.args.s.now c.args.at) in
    (e, omega (arith, a.ensures.1, b.ensures.1))
