-- `closing::state::record_at`: the node's part read.
use mathlib.Core.Path.{◌≡◌, ◌∙◌, ap₂}
use Prim.Native.Nat.{ℕ, ◌+◌, ◌-◌, ◌*◌}
use native.Mathlib.Omega.{arith}
use lib.ListN.{take, drop}
use Rattle.record.specs.Layout.{record_size}
use Rattle.parts.specs.Parts.{part}
use Rattle.record.specs.Record.{record_of}
use Rattle.buffers.specs.Buffers.{record_at}
use Rattle.closing.proofs.state.record_at.Goals as goal

pub returns : goal.returns
unfolding record_at part
returns c = let w = c.from-start in
    let x = c.args in
    let e : record_size * w.result + record_size - record_size * w.result ≡ record_size = omega arith in
    c.read.ensures ∙ ap₂ (λ (m n : ℕ). record_of (take m (drop (record_size * n) x.records.now))) e w.ensures
