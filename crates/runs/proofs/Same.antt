-- A front end's call and a load of hours are not lent every buffer, and do not look at the others: what they tell and leave is the same whatever stands
-- there.
use mathlib.Core.Path.{◌≡◌, refl, sym, ap, ◌∙◌}
use mathlib.Core.Bool.{Bool, true, false}
use mathlib.Core.List.{List, []}
use Prim.Native.Nat.{ℕ}
use lib.Dec.{eqb}
use Rattle.coordinator.specs.declared.Coordinator.{Coordinator}
use Rattle.coordinator.specs.System.{tree}
use Rattle.record.specs.Record.{bytes_of}
use Rattle.increments.specs.Deeds.{ran}
use Rattle.steps.specs.Station.{Station}
use Rattle.buffers.specs.Buffers.{record_in, station_of, all, with_record_at, host_first}
use Rattle.frontend.specs.Plan.{Call as Front}
use Rattle.service.specs.Service.{front, plan_at, is_on, made, number_of, answer_of, settings_of, load_number, step}
use Rattle.service.proofs.Laws.{put_here, after_at}
use Rattle.service_calls.specs.Lent.{Lent, lent, service_of, told, front_first, front_told, front_records, front_settings, load_first, load_told}
use Rattle.service_calls.specs.Lent.{load_settings}

module _ (I R P O S : List ℕ) where
  abbrev a : Lent
  a = lent [] R [] O S

  abbrev b : Lent
  b = lent I R P O S

  -- ---- a front end's call
  module _ (n : ℕ) (f : Front) where
    pub front_told_lem : front_told a n f ≡ front_told b n f
    unfolding told front_first host_first number_of answer_of
    front_told_lem = refl

    pub front_settings_lem : front_settings a n f ≡ front_settings b n f
    unfolding front_settings front_first host_first settings_of
    front_settings_lem = refl

    -- the record after it, at a node that is on
    record_is : (images pool : List ℕ) → is_on (service_of b) n ≡ true
        → (step (service_of (lent images R pool O S)) (front n f)).service.machine.records n ≡ ran tree (record_in R n) n (plan_at (service_of b) n f).deeds
    unfolding made
    record_is images pool on =
        simp on (ap (λ (s : Station). s.records n) (after_at (station_of (all images R pool O)) n (plan_at (service_of b) n f).deeds on)
        ∙ put_here (record_in R) n _)

    pub front_records_lem : front_records a n f ≡ front_records b n f
    unfolding front_records front_first host_first
    front_records_lem = by (is_on (service_of b) n) (eqb (front_first b n f) 0) refl refl
      where
        by : (x y : Bool) → is_on (service_of b) n ≡ x → eqb (front_first b n f) 0 ≡ y → front_records a n f ≡ front_records b n f
        by true true x y = simp (x, y) (ap (λ (c : Coordinator). with_record_at R n (bytes_of c)) (record_is [] [] x ∙ sym (record_is I P x)))
        by true false x y = simp (x, y)
        by false true x y = simp (x, y)
        by false false x y = simp (x, y)

  -- ---- a load
  pub load_same : (n : ℕ) (list : List ℕ)
      → (load_told (lent [] [] [] O S) n list ≡ load_told b n list) × (load_settings (lent [] [] [] O S) n list ≡ load_settings b n list)
  unfolding told load_settings load_first number_of answer_of settings_of load_number
  load_same n list = go (eqb (load_number (service_of b) n list) 0) refl
    where
      go : (z : Bool) → eqb (load_number (service_of b) n list) 0 ≡ z
          → (load_told (lent [] [] [] O S) n list ≡ load_told b n list) × (load_settings (lent [] [] [] O S) n list ≡ load_settings b n list)
      go true z = simp z (refl, refl)
      go false z = simp z (refl, refl)
