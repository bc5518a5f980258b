-- Where older images and the other buffers hold an origin at rest, the buffers hold it converted once all thirteen are taken in.
use mathlib.Core.Path.{◌≡◌, refl, sym, ap, ◌∙◌, subst}
use mathlib.Core.Bool.{Bool, true, false, cond}
use mathlib.Core.Logic.{inl, inr}
use mathlib.Core.List.{List, [], ◌∷◌}
use mathlib.Core.Option.{Option, none, some}
use Prim.Native.Nat.{ℕ, ◌*◌, ◌<◌}
use lib.Dec.{eqb, ltb}
use lib.ListN.{length}
use borrow.Author.Tests.{eq-eqb, ltb-true}
use Rattle.numbers.specs.Sizes.{nodes}
use Rattle.image.specs.Layout.{Shape, shape, image_size}
use Rattle.image.specs.Blank.{blank_as}
use Rattle.intake.specs.Take.{older_shapes, taken_in}
use Rattle.buffers.specs.Buffers.{image_at, image_in}
use Rattle.station_intake.specs.Convert.{station_for, older_station, old_at, all_taken, convert_number, convert_after}
use Rattle.station_intake.proofs.Taken.{length_all, taken_at}
use Rattle.steps.specs.Station.{Station}
use Rattle.protocol.specs.Table.{In}
use Rattle.protocol.specs.Proof.Tables.{clash}
use Rattle.service_calls.specs.Lent.{lent}
use Rattle.conversion.specs.Converted.{taken_station, taken_service}
use Rattle.conversion.proofs.Older.{older_shapes_fit}
use Rattle.conversion.proofs.Rests.{taken_service_rests}
use Rattle.runs.specs.Held.{Holds, GoesOn}

-- the shape that is found is an older one
same_shape : {a s : Shape} → ◌≡◌ {A = Option Shape} (some a) (some s) → s ≡ a
same_shape e = cc

found_in : (ss : List Shape) (n : ℕ) (s : Shape) → station_for ss n ≡ some s → In s ss
found_in [] n s e = absurd (clash (cc))
found_in (a ∷ ss) n s e = by (eqb n (image_size a * nodes)) e (found_in ss n s)
  where
    by : (b : Bool) → cond b (some a) (station_for ss n) ≡ some s → (station_for ss n ≡ some s → In s ss) → In s (a ∷ ss)
    by true q f = inl (same_shape q)
    by false q f = inr (f q)

is_older_lem : (n : ℕ) (s : Shape) → older_station n ≡ some s → In s older_shapes
unfolding older_station
is_older_lem n s e = found_in older_shapes n s e

-- what is left is all of them taken in
after_is : (old images : List ℕ) (s : Shape) → older_station (length old) ≡ some s → convert_number old images ≡ 0 → convert_after old images ≡ all_taken s old
unfolding convert_after
after_is old images s e z = rw (eq-eqb (convert_number old images) 0 z, e)

-- node by node, the image of the converted station
image_is : (s : Shape) (old : List ℕ) (st : Station) → ((n : ℕ) → n < nodes → old_at s old n ≡ st.images n)
    → (n : ℕ) → image_in (all_taken s old) n ≡ (taken_station s st).images n
unfolding image_in
image_is s old st h n = by (ltb n nodes) refl
  where
    by : (b : Bool) → ltb n nodes ≡ b → cond b (image_at (all_taken s old) n) (blank_as shape) ≡ cond b (taken_in s (st.images n)) (blank_as shape)
    by true q = let k = ltb-true n nodes q in taken_at s old n k ∙ ap (taken_in s) (h n k)
    by false q = refl

pub goes_on : (old images : List ℕ) → GoesOn old (convert_number old images) images (convert_after old images)
goes_on old images records pool own settings s o e z h =
    subst (λ (l : List ℕ). Holds (taken_service s o) [] (lent l records pool own settings)) (sym (after_is old images s e z)) (record {
      rested = taken_service_rests s (older_shapes_fit s (is_older_lem (length old) s e)) o h.rested;
      typed = tt;
      whole = record {
        station = record {
          images_long = length_all s old;
          records_long = h.whole.station.records_long;
          pool_fine = h.whole.station.pool_fine;
          own_fine = h.whole.station.own_fine;
          records_fine = h.whole.station.records_fine;
        };
        settings_long = h.whole.settings_long;
        settings_fine = h.whole.settings_fine;
      };
      service = λ i. record {
        machine = record { images = λ n. image_is s old o.machine.station h.images n i; records = h.records i; pool = h.pool i; own = h.own i };
        settings = h.settings i;
      };
    })
