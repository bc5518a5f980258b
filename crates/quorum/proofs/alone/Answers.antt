-- `quorum::alone`: the live test picks the node with its distance and its turns, or nothing.
use mathlib.Core.Path.{◌≡◌, sym, ◌∙◌, subst}
use mathlib.Core.Bool.{Bool, cond}
use Prim.Native.Nat.{ℕ, ◌+◌, ◌*◌, ◌^◌, ◌≤◌, ◌<◌}
use native.Mathlib.Omega.{arith}
use lib.ListN.{get_or}
use Rattle.std.specs.Prelude.{None}
use Rattle.mask.proofs.Laws.{only_small}
use Rattle.quorum.specs.Choice.{quorum_with}
use Rattle.quorum.specs.Levels.{turns_of}
use Rattle.quorum.specs.Key.{Means}
use Rattle.quorum.proofs.alone.Goals as goal

-- the three parts of a key
parts : (far turns one d t m : ℕ) → far ≡ d → turns ≡ t → one ≡ m → far < 65536 → turns ≤ 4 → one < 65536
    → Means 65535 (4294967296 * far + 16777216 * turns + one) (quorum_with m (256 * d + t))
parts far turns one d t m e f g p q r = (omega (arith, e, f, g), omega (arith, g), omega (arith, e, f))

pub returns-then-has-clause-means : goal.returns-then-has-clause-means
returns-then-has-clause-means c = let a = c.args in
    let d = a.distances.now in
    let one = c.from.ensures ∙ c.single.ensures ∙ only_small a.node (omega arith) in
    let many = c.turns in
    let far = c.from-sum in
    let there = sym c.if-has.true ∙ c.has.ensures in
    subst
    (λ (t : Bool). Means 65535 (4294967296 * far.result + 16777216 * many.result + c.from.result)
    (cond t (quorum_with (2 ^ a.node) (256 * get_or d a.node 0 + turns_of a.asker a.height a.node)) None)) there
    (parts far.result many.result c.from.result _ _ _ far.ensures many.ensures.0 one (omega arith) many.ensures.1
    (omega arith))
