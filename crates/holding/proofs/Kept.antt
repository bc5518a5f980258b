-- Buffers that hold a station hold, after one part of them is changed, the station that is changed alike.
use mathlib.Core.Path.{◌≡◌, refl, ap, ◌∙◌}
use mathlib.Core.Bool.{Bool, true, false}
use mathlib.Core.Logic.{◌⊎◌, inl, inr}
use mathlib.Core.List.{List}
use Prim.Native.Nat.{ℕ, ◌<◌, ◌≤◌}
use native.Mathlib.Omega.{arith}
use lib.Dec.{ltb}
use lib.ListN.{length}
use borrow.Author.Tests.{eq-eqb, ne_eqb, lt-ltb, le-ltb, ltb-true, ltb-false}
use Rattle.record.specs.Layout.{record_size}
use Rattle.numbers.specs.Sizes.{nodes, every_node}
use Rattle.numbers.specs.Refusal.{lower}
use Rattle.parts.specs.Parts.{part}
use Rattle.image.specs.Layout.{shape, image_size}
use Rattle.image.proofs.Each.{same_or_not}
use Rattle.replica.proofs.Delivered.{past}
use Rattle.coordinator.specs.declared.Coordinator.{Coordinator}
use Rattle.coordinator.specs.System.{tree}
use Rattle.clauses.proofs.Facts.{Meets}
use Rattle.clauses.proofs.Fits.{Fits}
use Rattle.record.specs.Record.{bytes_of, record_of, check}
use Rattle.record.proofs.RoundTrip.{record_bytes}
use Rattle.record.proofs.Kept.{bytes_checked}
use Rattle.record.proofs.OnBytes.{checked_length}
use Rattle.pool.specs.Pool.{waiting}
use Rattle.pool.specs.Pool.{check as checkPool}
use Rattle.steps.specs.Station.{Own, Station, put_at, with_image, with_record, with_pool, with_own}
use Rattle.buffers.specs.Buffers.{Buffers, wrong, image_at, with_image_at, image_in, record_at, with_record_at, own_size}
use Rattle.buffers.specs.Buffers.{record_in, record_damaged, own_number, own_damaged, on_of, images_size, records_size}
use Rattle.buffers.specs.Buffers.{own_of, station_of, host_first, all, Whole}
use Rattle.station.specs.Messages.{buffers_number, lengths_number}
use Rattle.buffers.proofs.First.{long}
use Rattle.station_calls.proofs.Parted.{part_length, part_same, part_kept}
use Rattle.station.proofs.Arriving.{buffers_are}

-- buffers hold a station
abbrev pub Kept : Buffers → Station → Type 0
Kept b st = Whole b × (station_of b ≡ st)

module _ (I R P O : List ℕ) (w : Whole (all I R P O)) where
  abbrev B : Buffers
  B = all I R P O

  abbrev st : Station
  st = station_of B

  pub same_kept : Kept B st
  same_kept = (w, refl)

  -- ---- no buffer refuses a step
  pub record OwnIs : Type 0 where
    pub size : length O ≡ own_size
    pub mask : on_of O ≤ every_node

  pub own_is : OwnIs
  unfolding own_number
  own_is =
      let a = past (wrong O own_size) 0 _ w.own_fine in
      let b = past (own_damaged O) 1 0 a.1 in
      record { size = long O own_size a.0; mask = ltb-false every_node (on_of O) b.0 }

  pub none_damaged : (n : ℕ) → record_damaged R n ≡ false
  unfolding record_damaged
  none_damaged n = by (ltb n nodes) refl
    where
      by : (t : Bool) → ltb n nodes ≡ t → record_damaged R n ≡ false
      by true e = simp (e, w.records_fine n (ltb-true n nodes e))
      by false e = simp e

  pub host_first_lem : (n : ℕ) → host_first B n ≡ 0
  unfolding host_first
  host_first_lem n =
      simp (
        eq-eqb (length R) records_size w.records_long,
        eq-eqb (length O) own_size own_is.size,
        le-ltb every_node (on_of O) own_is.mask,
        none_damaged n,
      )

  pub buffers_first : buffers_number B ≡ 0
  unfolding lower lengths_number
  buffers_first = buffers_are I R P O
      ∙ simp (eq-eqb (length I) images_size w.images_long, eq-eqb (length R) records_size w.records_long, w.pool_fine, w.own_fine)

  -- ---- one image changed
  module _ (n : ℕ) (l : List ℕ) (small : n < nodes) (size : length l ≡ image_size shape) where
    images_put : (i : ℕ) → image_in (with_image_at I n l) i ≡ put_at (image_in I) n l i
    unfolding image_in image_at with_image_at put_at
    images_put i = go (same_or_not i n)
      where
        other : (i ≡ n → ⊥) → (t : Bool) → ltb i nodes ≡ t → image_in (with_image_at I n l) i ≡ image_in I i
        other e true t = simp t (part_kept (image_size shape) nodes I l size w.images_long n small i (ltb-true i nodes t) e)
        other e false t = simp t

        go : (i ≡ n) ⊎ (i ≡ n → ⊥) → image_in (with_image_at I n l) i ≡ put_at (image_in I) n l i
        go (inl e) = simp (eq-eqb i n e) (ap (image_in (with_image_at I n l)) e
            ∙ simp (lt-ltb n nodes small) (part_same (image_size shape) nodes I l size w.images_long n small))
        go (inr e) = simp (ne_eqb i n e) (other e (ltb i nodes) refl)

    pub image_kept : Kept (all (with_image_at I n l) R P O) (with_image st n l)
    unfolding with_image_at
    image_kept = (
      record {
        images_long = part_length (image_size shape) nodes I l size w.images_long n small;
        records_long = w.records_long;
        pool_fine = w.pool_fine;
        own_fine = w.own_fine;
        records_fine = w.records_fine;
      },
      λ j. record { images = λ i. images_put i j; records = record_in R; pool = waiting P; own = own_of O },
    )

  -- ---- one record changed
  module _ (n : ℕ) (c : Coordinator) (small : n < nodes) (m : Meets tree c) (f : Fits c) where
    record_long : length (bytes_of c) ≡ record_size
    record_long = checked_length (bytes_of c) (bytes_checked c m f)

    record_at_lem : (i : ℕ) → i < nodes → (i ≡ n) ⊎ (i ≡ n → ⊥) → ((i ≡ n) × (record_at (with_record_at R n (bytes_of c)) i ≡ bytes_of c))
        ⊎ ((i ≡ n → ⊥) × (record_at (with_record_at R n (bytes_of c)) i ≡ record_at R i))
    unfolding record_at with_record_at
    record_at_lem i h (inl e) = inl (
      e,
      ap (record_at (with_record_at R n (bytes_of c))) e
          ∙ part_same record_size nodes R (bytes_of c) record_long w.records_long n small,
    )
    record_at_lem i h (inr e) = inr (e, part_kept record_size nodes R (bytes_of c) record_long w.records_long n small i h e)

    records_put : (i : ℕ) → record_in (with_record_at R n (bytes_of c)) i ≡ put_at (record_in R) n c i
    unfolding record_in put_at
    records_put i = by (ltb i nodes) refl
      where
        there : ltb i nodes ≡ true → ((i ≡ n) × (record_at (with_record_at R n (bytes_of c)) i ≡ bytes_of c))
            ⊎ ((i ≡ n → ⊥) × (record_at (with_record_at R n (bytes_of c)) i ≡ record_at R i))
            → record_in (with_record_at R n (bytes_of c)) i ≡ put_at (record_in R) n c i
        there t (inl z) = simp (t, eq-eqb i n z.0) (ap record_of z.1 ∙ record_bytes c f)
        there t (inr z) = simp (t, ne_eqb i n z.0) (ap record_of z.1)

        by : (t : Bool) → ltb i nodes ≡ t → record_in (with_record_at R n (bytes_of c)) i ≡ put_at (record_in R) n c i
        by true t = there t (record_at_lem i (ltb-true i nodes t) (same_or_not i n))
        by false t = let h = ltb-false i nodes t in simp (t, ne_eqb i n (λ e. let z : ⊥ = omega arith in z))

    pub record_kept : Kept (all I (with_record_at R n (bytes_of c)) P O) (with_record st n c)
    unfolding with_record_at
    record_kept = (
      record {
        images_long = w.images_long;
        records_long = part_length record_size nodes R (bytes_of c) record_long w.records_long n small;
        pool_fine = w.pool_fine;
        own_fine = w.own_fine;
        records_fine = λ i h. fine i h (record_at_lem i h (same_or_not i n));
      },
      λ j. record { images = image_in I; records = λ i. records_put i j; pool = waiting P; own = own_of O },
    )
      where
        fine : (i : ℕ) → i < nodes → ((i ≡ n) × (record_at (with_record_at R n (bytes_of c)) i ≡ bytes_of c))
            ⊎ ((i ≡ n → ⊥) × (record_at (with_record_at R n (bytes_of c)) i ≡ record_at R i)) → check (record_at (with_record_at R n (bytes_of c)) i) ≡ 0
        fine i h (inl z) = ap check z.1 ∙ bytes_checked c m f
        fine i h (inr z) = ap check z.1 ∙ w.records_fine i h

  -- ---- another pool, another part of the station's own
  pub pool_kept : (p : List ℕ) (l : List (List ℕ)) → checkPool p ≡ 0 → waiting p ≡ l → Kept (all I R p O) (with_pool st l)
  pool_kept p l h e = (
    record { images_long = w.images_long; records_long = w.records_long; pool_fine = h; own_fine = w.own_fine; records_fine = w.records_fine },
    λ j. record { images = image_in I; records = record_in R; pool = e j; own = own_of O },
  )

  pub own_kept : (o : List ℕ) (own : Own) → own_number o ≡ 0 → own_of o ≡ own → Kept (all I R P o) (with_own st own)
  own_kept o own h e = (
    record { images_long = w.images_long; records_long = w.records_long; pool_fine = w.pool_fine; own_fine = h; records_fine = w.records_fine },
    λ j. record { images = image_in I; records = record_in R; pool = waiting P; own = e j },
  )
