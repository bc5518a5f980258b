-- `closing::tenths::node_at`: the node's parts of both buffers.
use mathlib.Core.Path.{◌≡◌, ap₂, ◌∙◌}
use mathlib.Core.List.{List}
use Prim.Native.Nat.{ℕ, ◌+◌, ◌-◌, ◌*◌}
use native.Mathlib.Omega.{arith}
use lib.ListN.{take, drop}
use Rattle.parts.specs.Parts.{part}
use Rattle.record.specs.Layout.{record_size}
use Rattle.settings.specs.Settings.{settings_size}
use Rattle.buffers.specs.Buffers.{record_at}
use Rattle.service_calls.specs.Lent.{settings_at}
use Rattle.report.specs.Page.{page, inks}
use Rattle.closing.specs.Texts.{node_texts}
use Rattle.closing.proofs.tenths.node_at.Goals as goal

record_part : (l : List ℕ) (w n : ℕ) → w ≡ n → take (record_size * w + record_size - record_size * w) (drop (record_size * w) l) ≡ record_at l n
unfolding record_at part
record_part l w n e =
    let k : record_size * w + record_size - record_size * w ≡ record_size = omega arith in
    ap₂ (λ (m j : ℕ). take m (drop (record_size * j) l)) k e

settings_part : (l : List ℕ) (w n : ℕ) → w ≡ n
    → take (settings_size * w + settings_size - settings_size * w) (drop (settings_size * w) l) ≡ settings_at l n
unfolding settings_at part
settings_part l w n e =
    let k : settings_size * w + settings_size - settings_size * w ≡ settings_size = omega arith in
    ap₂ (λ (m j : ℕ). take m (drop (settings_size * j) l)) k e

pub returns : goal.returns
returns c = let x = c.args in
    let p = page x.out.now x.at in
    c.node.ensures ∙ ap₂ (λ (l s : List ℕ). inks p (node_texts l s x.n))
    (record_part x.records.now _ x.n c.from-a.ensures) (settings_part x.settings.now _ x.n c.from-c.ensures)
