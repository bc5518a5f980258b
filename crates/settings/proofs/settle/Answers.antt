-- `settings::settle`: the kind, the tenths that wait and those left over, put one behind the other.
use mathlib.Core.Path.{ap, ◌∙◌}
use mathlib.Core.List.{List}
use Prim.Native.Nat.{ℕ}
use lib.Seq.{sets}
use Rattle.settings.proofs.Finds.{settled}
use Rattle.settings.proofs.settle.Goals as goal

pub returns : goal.returns
returns c = let x = c.args in
    let a = c.put_eight-2.ensures in
    let b = c.put_eight.ensures in
    let k = c.put_u8.ensures in
    a.bytes_after ∙ ap (λ (m : List ℕ). sets m 220 x.left) (b.bytes_after ∙ ap (λ (m : List ℕ). sets m 212 x.waits) k)
    ∙ settled x.settings.now x.waits x.left x.kind c.requires b.list_len a.list_len
