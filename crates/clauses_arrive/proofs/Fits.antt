-- A delivery keeps the widths: what a message's bytes say fits.
use mathlib.Core.Path.{refl}
use mathlib.Core.List.{List}
use Prim.Native.Nat.{ℕ, zero, suc, ◌+◌, ◌*◌, ◌^◌, ◌<◌}
use lib.Dec.{ltb, lit<}
use lib.ListN.{get_or}
use Rattle.octets.proofs.Laws.{Bytes, get_small}
use Rattle.wire.specs.declared.Entry.{Entry}
use Rattle.wire.specs.declared.Rival.{Rival}
use Rattle.wire.specs.Decode.{from_of, entry_count, entries_place, entry_at, rival_count, rivals_place, rival_at}
use Rattle.wire.specs.Encode.{entry_size, rival_size}
use Rattle.wire.specs.Items.{no_entry, no_rival, entry_of, rival_of}
use Rattle.coordinator.specs.declared.Object.{Object}
use Rattle.coordinator.specs.declared.Coordinator.{Coordinator}
use Rattle.coordinator.specs.Step.{Step}
use Rattle.coordinator.specs.System.{System}
use Rattle.coordinator.specs.State.{no_object, object_at, place_of}
use Rattle.arrivals.specs.Receive.{better, with_copy, raise, raise_from, receive_of}
use Rattle.clauses.proofs.Parts.{on_cond}
use Rattle.clauses.proofs.Facts.{Meets}
use Rattle.clauses.proofs.Quorums.{Quorums}
use Rattle.clauses_arrive.proofs.Deliveries.{copied_object, after_copy, named, receive_cases}
use Rattle.clauses_arrive.proofs.Deliver.{receive_keeps}
use Rattle.clauses.proofs.Fits.{AllBelow, Valued, Widths, Fits, widths_fit, after_set, over_widths, same_widths, endings_widths}

-- ---- what a message's bytes say fits
module _ (s : System) (c : Coordinator) (me : ℕ) (w : Widths c) (m : List ℕ) (b : Bytes m) where
  entry_small : (i : ℕ) → ((entry_of m i).version < 2 ^ 32) × ((entry_of m i).value < 2 ^ 64)
  unfolding entry_at
  entry_small i =
      let j = entries_place + entry_size * i in
      on_cond (λ (e : Entry). (e.version < 2 ^ 32) × (e.value < 2 ^ 64)) (ltb i (entry_count m)) (entry_at m j) no_entry
      (λ k. (get_small 4 m (j + 2) b, get_small 8 m (j + 6) b)) (λ k. (lit< tt, lit< tt))

  rival_small : (i : ℕ) → (rival_of m i).serial < 2 ^ 32
  unfolding rival_at
  rival_small i =
      let j = rivals_place m + rival_size * i in
      on_cond (λ (r : Rival). r.serial < 2 ^ 32) (ltb i (rival_count m)) (rival_at m j) no_rival (λ k. get_small 4 m (j + 1) b) (λ k. lit< tt)

  raised_small : (n i : ℕ) (rivals : List ℕ) → AllBelow (2 ^ 32) rivals → AllBelow (2 ^ 32) (raise_from m n i rivals)
  unfolding raise_from
  raised_small zero i rivals f = f
  raised_small (suc n) i rivals f =
      let r = rival_of m i in
      raised_small n (i + 1) (raise rivals r)
      (λ j. after_set (λ (x : ℕ). x < 2 ^ 32) 0 rivals r.owner j _
      (on_cond (λ (x : ℕ). x < 2 ^ 32) (ltb (get_or rivals r.owner 0) r.serial) r.serial (get_or rivals r.owner 0) (λ k. rival_small i)
      (λ k. f r.owner)) f)

  copied_valued : (x : Object) → Valued x → Valued (with_copy x (from_of m) (entry_of m 0))
  unfolding with_copy
  copied_valued x v =
      let e = entry_small 0 in
      let t = better x (entry_of m 0) in
      record {
        version_32 = on_cond (λ (n : ℕ). n < 2 ^ 32) t (entry_of m 0).version x.version (λ k. e.0) (λ k. v.version_32);
        value_64 = on_cond (λ (n : ℕ). n < 2 ^ 64) t (entry_of m 0).value x.value (λ k. e.1) (λ k. v.value_64);
        new_64 = v.new_64;
      }

  copy_widths : Widths (after_copy c m)
  copy_widths =
      let p = place_of c (entry_of m 0).object in
      let x = object_at c (entry_of m 0).object in
      record {
        serial_32 = w.serial_32;
        timestamp_32 = w.timestamp_32;
        distances_16 = w.distances_16;
        objects_fit = λ i. after_set Valued no_object c.objects p i (copied_object c m) (copied_valued x (w.objects_fit p)) w.objects_fit;
        rivals_32 = w.rivals_32;
      }

  named_small : AllBelow (2 ^ 32) (named c m)
  named_small = raised_small (rival_count m) 0 c.rivals w.rivals_32

  receive_widths : Widths (receive_of s c me m).coordinator
  receive_widths =
      receive_cases (λ (x : Step). Widths x.coordinator) s c me m
      (record {
        as_before = λ n. w;
        copied = λ f. copy_widths;
        endings = λ r. endings_widths s c me w;
        last_yes = λ f t. same_widths s c me w _ refl refl refl refl named_small;
        one_yes = λ f t. same_widths s c me w _ refl refl refl refl named_small;
        last_done = λ f t. over_widths s c me w c.outcome;
        one_done = λ f t. same_widths s c me w _ refl refl refl refl w.rivals_32;
      })

-- ---- and so all widths
pub receive_fits : (s : System) (q : Quorums s) (c : Coordinator) (me : ℕ) (m : Meets s c) → Fits c → (b : List ℕ) → Bytes b
    → Fits (receive_of s c me b).coordinator
receive_fits s q c me m f b h = widths_fit s _ (receive_keeps s c me b m) (receive_widths s c me f.widths b h)
