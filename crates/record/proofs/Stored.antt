-- What the deeds leave: bytes that are a record are the bytes of that record, so a piece stored over them gives the bytes of the record changed.
use mathlib.Core.Path.{◌≡◌, sym, ap, ◌∙◌}
use mathlib.Core.List.{List}
use Prim.Native.Nat.{ℕ, ◌+◌, ◌*◌, ◌≤◌, ◌<◌}
use lib.ListN.{length, set}
use lib.Seq.{sets}
use Rattle.record.specs.Layout.{record_size}
use Rattle.numbers.specs.Sizes.{most_open}
use Rattle.octets.proofs.Laws.{Bytes}
use Rattle.coordinator.specs.declared.Object.{Object}
use Rattle.coordinator.specs.declared.Coordinator.{Coordinator}
use Rattle.coordinator.specs.Calls.{with_objects, with_phase}
use Rattle.record.specs.Record.{object_bytes, record_of, bytes_of, check}
use Rattle.record.proofs.OnBytes.{checked_length}
use Rattle.record.proofs.Kept.{checked_meets, same_bytes}
use Rattle.record.proofs.Pieces.{object_changed, turned}

-- what the deeds ask of the bytes that they read
pub readable : (l : List ℕ) → check l ≡ 0 → (length l ≡ record_size) × ((record_of l).count ≤ most_open)
readable l e = (checked_length l e, (checked_meets l e).objects.eight_at_most)

module _ (l : List ℕ) (b : Bytes l) (e : check l ≡ 0) where
  abbrev c : Coordinator
  c = record_of l

  -- another object at a place
  pub object_stored : (p : ℕ) (x : Object) → p < most_open
      → sets l (43 + 25 * p) (object_bytes x)
      ≡ bytes_of (with_objects (record_of l) (record_of l).contacted (record_of l).count (set (record_of l).objects p x))
  object_stored p x h =
      let z = (checked_meets l e).sizes in
      ap (λ (m : List ℕ). sets m (43 + 25 * p) (object_bytes x)) (sym (same_bytes l b e))
      ∙ object_changed c z.distances_13 z.objects_8 z.rivals_13 p x h

  -- outcome and phase
  pub turned_stored : (outcome phase : ℕ)
      → set (set l 8 outcome) 9 phase
      ≡ bytes_of (with_phase (record_of l) phase outcome (record_of l).participants (record_of l).yes (record_of l).done (record_of l).rivals)
  turned_stored outcome phase =
      let z = (checked_meets l e).sizes in
      ap (λ (m : List ℕ). set (set m 8 outcome) 9 phase) (sym (same_bytes l b e))
      ∙ turned c z.distances_13 z.objects_8 z.rivals_13 outcome phase
