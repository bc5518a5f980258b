-- `mask::without`: what is left of a, and what it shares with b, is a.
use Prim.Native.Nat.{ℕ, ◌-◌}
use native.Mathlib.Omega.{arith}
use mathlib.Core.Path.{◌≡◌, sym, ap, ◌∙◌}
use borrow.Author.Rules.{rules}
use Rattle.std.specs.Int.Bits.{bit_and, and_comm, and_self, xor_add_and}
use Rattle.std.proofs.lemmas.Nat.{and-not, and_assoc}
use Rattle.mask.proofs.without.Goals as goal

pub returns : goal.returns
returns c =
    let a = c.args.a in
    let b = c.args.b in
    let shared = bit_and a b in
    let again : bit_and a shared ≡ shared = sym (and_assoc b a a) ∙ ap (λ (x : ℕ). bit_and x b) (and_self a) in
    let left = and-not 16 b a (search rules) (search rules) in
    omega (arith, left, xor_add_and a shared, again, and_comm (65535 - b) a, and_comm b a)
