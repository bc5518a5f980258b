-- The maker of a blank station: what its number tells, and that what it leaves is blank.
use mathlib.Core.Path.{◌≡◌, refl, sym, ap, subst, ◌∙◌}
use mathlib.Core.Bool.{Bool, true, false, ◌||◌}
use mathlib.Core.List.{List}
use Prim.Native.Nat.{ℕ, ◌<◌, ◌≤◌}
use native.Mathlib.Omega.{arith}
use lib.Dec.{ltb}
use lib.ListN.{length}
use borrow.Author.Tests.{eq-eqb, ne_eqb, le-ltb, ltb-true, ltb-false}
use Rattle.record.specs.Layout.{record_size}
use Rattle.numbers.specs.Sizes.{nodes, every_node}
use Rattle.octets.specs.Octets.{put}
use Rattle.octets.proofs.Laws.{get_put, length_put}
use Rattle.image.specs.Layout.{shape, image_size}
use Rattle.image.specs.Blank.{blank_as}
use Rattle.image.proofs.Blanks.{length_blank}
use Rattle.replica.proofs.Delivered.{past, or_neither}
use Rattle.coordinator.specs.System.{tree}
use Rattle.coordinator.specs.State.{blank_record}
use Rattle.clauses.proofs.Fits.{blank_fits}
use Rattle.record.specs.Record.{bytes_of, record_of, check}
use Rattle.record.proofs.RoundTrip.{record_bytes}
use Rattle.record.proofs.Kept.{blank_checked}
use Rattle.record.proofs.OnBytes.{checked_length}
use Rattle.pool.specs.Change.{blank, blank_after as pool_after}
use Rattle.pool.proofs.Laws.{waiting_blank, check_blank}
use Rattle.steps.specs.Station.{blank_own, blank_station}
use Rattle.buffers.specs.Buffers.{Buffers, wrong, image_at, image_in, record_at, record_in, own_number, own_size}
use Rattle.buffers.specs.Buffers.{on_of, station_of, all, Whole, Blank, images_size, records_size}
use Rattle.station_calls.specs.Calls.{images_blank, records_blank, blank_number, blank_after}
use Rattle.buffers.proofs.First.{long}
use Rattle.pool.specs.Pool.{pool_size}
use Rattle.station_calls.proofs.Parted.{each_length, each_part_lem}

pub record Sized (b : Buffers) (on : ℕ) : Type 0 where
  pub images : length b.images ≡ images_size
  pub records : length b.records ≡ records_size
  pub pool : length b.pool ≡ pool_size
  pub own : length b.own ≡ 2
  pub mask : on ≤ every_node

pub blank_sized : (b : Buffers) (on : ℕ) → blank_number b on ≡ 0 → Sized b on
unfolding blank_number
blank_sized b on e =
    let ends = wrong b.images images_size || wrong b.records records_size in
    let rest = wrong b.pool pool_size || wrong b.own own_size in
    let a = past (ends || rest) 0 _ e in
    let d = past (ltb every_node on) 3 0 a.1 in
    let w = or_neither ends rest a.0 in
    let x = or_neither (wrong b.images images_size) (wrong b.records records_size) w.0 in
    let y = or_neither (wrong b.pool pool_size) (wrong b.own own_size) w.1 in
    record {
      images = long b.images images_size x.0;
      records = long b.records records_size x.1;
      pool = long b.pool pool_size y.0;
      own = long b.own 2 y.1;
      mask = ltb-false every_node on d.0;
    }

pub blank_refused : (b : Buffers) (on : ℕ) → (blank_number b on ≡ 0 → ⊥) → b ≡ blank_after b on
unfolding blank_after
blank_refused b on h = simp (ne_eqb (blank_number b on) 0 h)

pub blank_taken : (b : Buffers) (on : ℕ) → blank_number b on ≡ 0
    → all (images_blank nodes b.images) (records_blank nodes b.records) blank (put 2 b.own 0 on) ≡ blank_after b on
unfolding blank_after
blank_taken b on h = simp (eq-eqb (blank_number b on) 0 h)

pub pool_made : (l : List ℕ) → length l ≡ pool_size → pool_after l ≡ blank
unfolding pool_after
pool_made l e = simp (eq-eqb (length l) pool_size e)

-- ---- what it leaves is blank
module _ (b : Buffers) (on : ℕ) (s : Sized b on) where
  abbrev made : Buffers
  made = all (images_blank nodes b.images) (records_blank nodes b.records) blank (put 2 b.own 0 on)

  abbrev bytes : ℕ
  bytes = length (bytes_of blank_record)

  record_long : length (bytes_of blank_record) ≡ record_size
  record_long = checked_length (bytes_of blank_record) blank_checked

  own_long : length made.own ≡ own_size
  own_long = length_put 2 b.own 0 on ∙ s.own

  on_is : on_of made.own ≡ on
  on_is = let m = s.mask in let l = s.own in get_put 2 b.own 0 on (omega arith) (omega arith)

  image_is : (n : ℕ) → n < nodes → image_at made.images n ≡ blank_as shape
  unfolding image_at
  image_is n h = each_part_lem (image_size shape) nodes (blank_as shape) b.images length_blank s.images nodes (omega arith) n h

  record_is : (n : ℕ) → n < nodes → record_at made.records n ≡ bytes_of blank_record
  unfolding record_at
  record_is n h = each_part_lem record_size nodes (bytes_of blank_record) b.records record_long s.records nodes (omega arith) n h

  images_are : (n : ℕ) → image_in made.images n ≡ blank_as shape
  unfolding image_in
  images_are n = go (ltb n nodes) refl
    where
      go : (t : Bool) → ltb n nodes ≡ t → image_in made.images n ≡ blank_as shape
      go true e = simp e (image_is n (ltb-true n nodes e))
      go false e = simp e

  records_are : (n : ℕ) → record_in made.records n ≡ blank_record
  unfolding record_in
  records_are n = go (ltb n nodes) refl
    where
      go : (t : Bool) → ltb n nodes ≡ t → record_in made.records n ≡ blank_record
      go true e = simp e (ap record_of (record_is n (ltb-true n nodes e)) ∙ record_bytes blank_record (blank_fits tree))
      go false e = simp e

  is_whole : Whole made
  unfolding own_number
  is_whole = record {
    images_long = each_length (image_size shape) nodes (blank_as shape) b.images length_blank s.images nodes (omega arith);
    records_long = each_length record_size nodes (bytes_of blank_record) b.records record_long s.records nodes (omega arith);
    pool_fine = check_blank;
    own_fine = let m = s.mask in
        simp (eq-eqb (length made.own) own_size own_long, le-ltb every_node (on_of made.own) (subst (λ (k : ℕ). k ≤ every_node) (sym on_is) m));
    records_fine = λ n h. ap check (record_is n h) ∙ blank_checked;
  }

  is_station : station_of made ≡ blank_station on
  is_station = λ j. record { images = λ n. images_are n j; records = λ n. records_are n j; pool = waiting_blank j; own = blank_own (on_is j) }

  pub is_blank : Whole made × (station_of made ≡ blank_station on)
  is_blank = (is_whole, is_station)

-- the maker leaves a blank station with the mask's nodes on
pub blank_is_blank : (b : Buffers) (on : ℕ) → blank_number b on ≡ 0 → Blank (blank_after b on) × (on_of (blank_after b on).own ≡ on)
blank_is_blank b on e =
    let s = blank_sized b on e in
    let z = is_blank b on s in
    let o = on_is b on s in
    subst (λ (c : Buffers). Blank c × (on_of c.own ≡ on)) (blank_taken b on e) ((z.0, z.1 ∙ ap blank_station (sym o)), o)
