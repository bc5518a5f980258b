-- `telling::tell_node`: by the kind, and by the kind in the settings.
use borrow.Enum.Refused.{opened}
use mathlib.Core.Path.{◌≡◌, sym, ap, ap₂, ◌∙◌}
use mathlib.Core.Bool.{true, false, not}
use mathlib.Core.List.{List}
use Prim.Native.Nat.{ℕ, ◌+◌, ◌-◌, ◌*◌}
use native.Mathlib.Omega.{arith}
use borrow.Author.Tests.{eq-eqb, ne_eqb}
use lib.Dec.{eqb}
use lib.ListN.{get_or, take, drop}
use Rattle.parts.specs.Parts.{part}
use Rattle.record.specs.Layout.{record_size}
use Rattle.record.specs.Record.{record_of}
use Rattle.increments.specs.Deeds.{in_use}
use Rattle.settings.specs.Settings.{adds}
use Rattle.buffers.specs.Buffers.{record_at}
use Rattle.service_calls.specs.Lent.{settings_at}
use Rattle.telling.specs.Telling.{objects_told, told_of}
use Rattle.telling.proofs.Turns.{other_key, kind_at}
use Rattle.telling.proofs.tell_node.Goals as goal

-- the node's record, from the place that was computed
node_record : (l : List ℕ) (w n : ℕ) → w ≡ n → take (record_size * w + record_size - record_size * w) (drop (record_size * w) l) ≡ record_at l n
unfolding record_at part
node_record l w n e =
    let k : record_size * w + record_size - record_size * w ≡ record_size = omega arith in
    ap₂ (λ (m j : ℕ). take m (drop (record_size * j) l)) k e

-- the kind that was read
is_adding : (l : List ℕ) (w n k : ℕ) → w ≡ n → k ≡ get_or l (228 * w + 211) 0 → adds (settings_at l n) ≡ not (eqb k 0)
is_adding l w n k e f = ap (λ (j : ℕ). not (eqb j 0)) (kind_at l n ∙ ap (λ (j : ℕ). get_or l (228 * j + 211) 0) (sym e) ∙ sym f)

pub returns-in-Batch : goal.returns-in-Batch
unfolding told_of
returns-in-Batch c = let a = c.args in
    let e = node_record a.records.now _ a.node c.from-start.ensures in
    simp c.in-Batch.is
    (c.objects.ensures
    ∙ ap (λ (l : List ℕ). objects_told true a.node (in_use (record_of l)) a.sheet.now) e)

pub returns-then-get_u8-ne-OWN : goal.returns-then-get_u8-ne-OWN
unfolding told_of
returns-then-get_u8-ne-OWN c = let a = c.args in
    let e = node_record a.records.now _ a.node c.from-start.ensures in
    let k : adds (settings_at a.settings.now a.node) ≡ true =
    is_adding a.settings.now _ a.node _ c.from.ensures c.get_u8.ensures
    ∙ ap not (ne_eqb _ _ c.if-get_u8-ne-OWN.true) in
    simp (c.in-RequestCommit.is, k)
    (c.objects-then-get_u8-ne-OWN.ensures
    ∙ ap (λ (l : List ℕ). objects_told false a.node (in_use (record_of l)) a.sheet.now) e)

pub returns-else-get_u8-ne-OWN : goal.returns-else-get_u8-ne-OWN
unfolding told_of
returns-else-get_u8-ne-OWN c = let a = c.args in
    let k : adds (settings_at a.settings.now a.node) ≡ false =
    is_adding a.settings.now _ a.node _ c.from.ensures c.get_u8.ensures
    ∙ ap not (eq-eqb _ _ c.if-get_u8-ne-OWN.false) in
    simp (c.in-RequestCommit.is, k)

pub returns-in_default : goal.returns-in_default
returns-in_default c = let a = c.args in
    sym (other_key a.kind (opened c.in_default.in_default-own.keys3) _ _ a.node a.sheet.now)
