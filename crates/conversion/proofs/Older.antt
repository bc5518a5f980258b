-- Every older shape can be converted from. And what is asked of a station with images of one is not asked in vain: a blank one is at rest.
use mathlib.Core.Path.{◌≡◌, refl, sym, ◌∙◌, ap, subst}
use mathlib.Core.Bool.{Bool, true, ◌&&◌}
use mathlib.Core.List.{List, [], ◌∷◌, cons≢nil}
use mathlib.Core.Logic.{inl, inr}
use Prim.Native.Nat.{ℕ, ◌≤◌}
use lib.Dec.{T}
use Rattle.mask.proofs.Tests.{and_left, and_right}
use Rattle.image.specs.Field.{field_of}
use Rattle.image.specs.Layout.{Shape, shape, value_field, version_field, serial_field, state_field}
use Rattle.image.specs.Layout.{value, version, serial, state}
use Rattle.image.specs.Blank.{blank_as}
use Rattle.image.proofs.Blanks.{bytes_blank_as}
use Rattle.intake.specs.Take.{older_shapes}
use Rattle.intake.proofs.Taken.{taken_serial, taken_state}
use Rattle.intake.proofs.Blank.{fitting, has_room, taken_blank, blank_valid, blank_authors}
use Rattle.coordinator.specs.State.{idle_after, blank_record}
use Rattle.steps.specs.Station.{blank_own}
use Rattle.protocol.specs.Table.{In}
use Rattle.protocol.specs.Refine.Origin.{values_of}
use Rattle.history.specs.Origin.{Origin as Machine, RestedAs as MachineRestedAs, blank_origin as blankMachine}
use Rattle.history.proofs.Origins.{blank_rested}
use Rattle.conversion.specs.Converted.{Convertible}
use Rattle.conversion.proofs.Fields.{version_as, value_as}

-- every shape of a list passes the tests
abbrev all_fit : List Shape → Bool
all_fit [] = true
all_fit (s ∷ ss) = fitting s && all_fit ss

fit_in : (ss : List Shape) → T (all_fit ss) → (s : Shape) → In s ss → T (fitting s)
fit_in [] h s i = absurd i
fit_in (a ∷ ss) h s (inl e) = subst (λ (x : Shape). T (fitting x)) (sym e) (and_left (fitting a) (all_fit ss) h)
fit_in (a ∷ ss) h s (inr i) = fit_in ss (and_right (fitting a) (all_fit ss) h) s i

pub older_shapes_fit : (s : Shape) → In s older_shapes → Convertible s
older_shapes_fit s i = let h = fit_in older_shapes tt s i in record { room = has_room s h; blank = taken_blank s h }

-- ---- the blank station with images of a shape
abbrev pub blank_older : Shape → ℕ → Machine
blank_older s on = record {
  station = record { images = λ n. blank_as s; records = λ n. blank_record; pool = []; own = blank_own on };
  carried = (blankMachine on).carried;
}

module _ (s : Shape) (h : T (fitting s)) where
  -- its fields read as today's blank ones, for these are what they become
  same_version : (t : ℕ) → field_of (version_field s) (blank_as s) t ≡ version (blank_as shape) t
  same_version t = sym (version_as s (has_room s h) (blank_as s) (bytes_blank_as s) t) ∙ ap (λ (l : List ℕ). version l t) (taken_blank s h)

  same_value : (t : ℕ) → field_of (value_field s) (blank_as s) t ≡ value (blank_as shape) t
  same_value t = sym (value_as s (has_room s h) (blank_as s) (bytes_blank_as s) t) ∙ ap (λ (l : List ℕ). value l t) (taken_blank s h)

  same_serial : (w : ℕ) → field_of (serial_field s) (blank_as s) w ≡ serial (blank_as shape) w
  same_serial w = sym (taken_serial s (blank_as s) (has_room s h) (bytes_blank_as s) w) ∙ ap (λ (l : List ℕ). serial l w) (taken_blank s h)

  same_state : (w : ℕ) → field_of (state_field s) (blank_as s) w ≡ state (blank_as shape) w
  same_state w = sym (taken_state s (blank_as s) (has_room s h) (bytes_blank_as s) w) ∙ ap (λ (l : List ℕ). state l w) (taken_blank s h)

  blank_fit_rests : (up : ℕ) → MachineRestedAs s (blank_older s up)
  unfolding values_of idle_after
  blank_fit_rests up = let r = blank_rested up in record {
    sane = r.sane;
    idle = r.idle;
    clauses = r.clauses;
    widths = r.widths;
    valid = λ n. blank_valid s h;
    bytes = λ n. bytes_blank_as s;
    beyond = λ n k. refl;
    all_over = λ n w. same_state w ∙ r.all_over n w;
    below = λ n w. subst (λ (v : ℕ). v ≤ 0) (sym (same_serial w)) (r.below n w);
    once = r.once;
    begun = r.begun;
    write_quorum = r.write_quorum;
    late = λ x n i. absurd i;
    stored = λ x m n t i. absurd (cons≢nil i);
    written = λ n t. subst (λ (v : ℕ). v ≤ 0) (sym (same_version t)) (r.written n t);
    copies = λ n t. same_value t ∙ r.copies n t;
    authors = λ e n t k. inl (blank_authors s h e t k);
    waits = λ b i. absurd i;
    room = r.room;
  }

pub older_blank_rests : (s : Shape) → In s older_shapes → (up : ℕ) → MachineRestedAs s (blank_older s up)
older_blank_rests s i = blank_fit_rests s (fit_in older_shapes tt s i)
