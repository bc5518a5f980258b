-- What the host's calls leave: pieces stored over the bytes of a record give the bytes of the record changed.
use mathlib.Core.Path.{◌≡◌, refl, sym, ap, ◌∙◌}
use mathlib.Core.Bool.{Bool, true, false, cond, not, ◌||◌}
use mathlib.Core.List.{List}
use Prim.Native.Nat.{ℕ, ◌+◌, ◌*◌, ◌<◌}
use lib.Dec.{eqb}
use lib.ListN.{length, set}
use borrow.Author.Tests.{ltb-true}
use lib.Seq.{sets}
use Rattle.numbers.specs.Sizes.{nodes, most_open}
use Rattle.octets.proofs.Laws.{Bytes}
use Rattle.octets.specs.Octets.{put, le}
use Rattle.wire.specs.Encode.{together}
use Rattle.mask.specs.Mask.{joined}
use Rattle.coordinator.specs.declared.Coordinator.{Coordinator}
use Rattle.coordinator.specs.declared.BeginWith.{BeginWith}
use Rattle.coordinator.specs.State.{idle_after, place_of, is_open}
use Rattle.coordinator.specs.Calls.{begun, with_objects, with_phase, fresh, opened, reselected, requested}
use Rattle.coordinator.specs.System.{tree}
use Rattle.clauses.proofs.Laws.{idle_blank}
use Rattle.record.specs.Record.{front_of, quorum_of, object_bytes, record_of, bytes_of, check}
use Rattle.record.proofs.Kept.{checked_meets, same_bytes}
use Rattle.record.proofs.Pieces.{with_front, tail_bytes, front_changed, live_put, nodes_changed, quorum_changed, object_changed}
use Rattle.record.proofs.Pieces.{participants_put}
use Rattle.record.proofs.Stored.{turned_stored}

-- an object that no refusal calls absent is open, so it stands at a place
pub named_open : (c : Coordinator) (object : ℕ) (t : Bool) → (not (is_open c object) || t) ≡ false → place_of c object < most_open
named_open c object t e = ltb-true (place_of c object) most_open (first (is_open c object) e)
  where
    first : (a : Bool) → (not a || t) ≡ false → a ≡ true
    first true e = refl
    first false e = sym e

module _ (l : List ℕ) (b : Bytes l) (e : check l ≡ 0) where
  abbrev c : Coordinator
  c = record_of l

  -- a transaction begun: an idle record is blank from the objects on, as one that begins
  pub begun_stored : (w : BeginWith) (q : ℕ) → (record_of l).phase ≡ 0 → length w.distances ≡ nodes
      → sets
      (sets (sets l 0 (front_of ((record_of l).serial + 1) w.timestamp (record_of l).outcome 1 w.live)) 12 (together (le 2) w.distances)) 38
      (quorum_of q 0 0) ≡ bytes_of (begun (record_of l) w q)
  unfolding begun idle_after
  begun_stored w q idle n =
      let m = checked_meets l e in
      let z = m.sizes in
      let d : Coordinator = with_front c (c.serial + 1) w.timestamp c.outcome 1 w.live in
      ap (λ (k : List ℕ).
      sets (sets (sets k 0 (front_of (c.serial + 1) w.timestamp c.outcome 1 w.live)) 12 (together (le 2) w.distances)) 38 (quorum_of q 0 0))
      (sym (same_bytes l b e))
      ∙ ap (λ (k : List ℕ). sets (sets k 12 (together (le 2) w.distances)) 38 (quorum_of q 0 0))
      (front_changed c z.distances_13 z.objects_8 z.rivals_13 (c.serial + 1) w.timestamp c.outcome 1 w.live)
      ∙ nodes_changed d z.distances_13 z.objects_8 z.rivals_13 (begun c w q) n refl (ap tail_bytes (idle_blank tree c m idle))

  -- one object more
  pub opened_stored : (object mode : ℕ) → (record_of l).count < most_open
      → sets (sets l 38 (quorum_of (record_of l).quorum (joined (record_of l).contacted (record_of l).quorum) ((record_of l).count + 1)))
      (43 + 25 * (record_of l).count) (object_bytes (fresh object mode)) ≡ bytes_of (opened (record_of l) object mode)
  unfolding opened
  opened_stored object mode h =
      let z = (checked_meets l e).sizes in
      let k : ℕ = joined c.contacted c.quorum in
      let n : ℕ = c.count + 1 in
      let d : Coordinator = with_objects c k n c.objects in
      ap (λ (m : List ℕ). sets (sets m 38 (quorum_of c.quorum k n)) (43 + 25 * c.count) (object_bytes (fresh object mode))) (sym (same_bytes l b e))
      ∙ ap (λ (m : List ℕ). sets m (43 + 25 * c.count) (object_bytes (fresh object mode))) (quorum_changed c z.distances_13 z.objects_8
      z.rivals_13 k n)
      ∙ object_changed d z.distances_13 z.objects_8 z.rivals_13 c.count (fresh object mode) h

  -- a fresh live mask and distances
  pub reselected_stored : (live : ℕ) (distances : List ℕ) (q : ℕ) → length distances ≡ nodes
      → sets (sets (put 2 l 10 live) 12 (together (le 2) distances)) 38
      (quorum_of q (cond (eqb (record_of l).count 0) (record_of l).contacted (joined (record_of l).contacted q)) (record_of l).count)
      ≡ bytes_of (reselected (record_of l) live distances q)
  unfolding reselected
  reselected_stored live distances q n =
      let z = (checked_meets l e).sizes in
      let k : ℕ = cond (eqb c.count 0) c.contacted (joined c.contacted q) in
      let d : Coordinator = with_front c c.serial c.timestamp c.outcome c.phase live in
      ap (λ (m : List ℕ). sets (sets (put 2 m 10 live) 12 (together (le 2) distances)) 38 (quorum_of q k c.count)) (sym (same_bytes l b e))
      ∙ ap (λ (m : List ℕ). sets (sets m 12 (together (le 2) distances)) 38 (quorum_of q k c.count))
      (live_put c z.distances_13 z.objects_8 z.rivals_13 live)
      ∙ nodes_changed d z.distances_13 z.objects_8 z.rivals_13 (reselected c live distances q) n refl refl

  -- votes asked for
  pub requested_stored : (v : ℕ) → put 2 (set (set l 8 (record_of l).outcome) 9 2) 243 v ≡ bytes_of (requested (record_of l) v)
  unfolding requested
  requested_stored v =
      let z = (checked_meets l e).sizes in
      let d : Coordinator = with_phase c 2 c.outcome c.participants c.yes c.done c.rivals in
      ap (λ (m : List ℕ). put 2 m 243 v) (turned_stored l b e c.outcome 2) ∙ participants_put d z.distances_13 z.objects_8 z.rivals_13 v
