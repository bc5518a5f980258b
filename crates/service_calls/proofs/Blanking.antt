-- The maker of a blank service: refused, and the buffers are left; or a blank station, and zeros for settings.
use mathlib.Core.Path.{◌≡◌, refl, sym, ap}
use mathlib.Core.Bool.{Bool, true, false}
use Prim.Native.Nat.{ℕ, ◌≤◌}
use native.Mathlib.Omega.{arith}
use lib.Dec.{eqb}
use lib.ListN.{length, replicate}
use borrow.Author.Tests.{eq-eqb, ne_eqb, eqb-false, le-ltb}
use Rattle.numbers.specs.Refusal.{lower}
use Rattle.buffers.specs.Buffers.{Buffers}
use Rattle.station_calls.specs.Calls.{blank_number as stationNumber, blank_after as station_after}
use Rattle.station_calls.proofs.Blanking.{blank_refused}
use Rattle.service_calls.specs.Lent.{Lent, all_settings, blank_number, blank_after}
use Rattle.service_calls.proofs.Lending.{lower_zero}

lower_one : (k : ℕ) → lower k 1 ≡ 1
unfolding lower
lower_one k = go (eqb k 0) refl
  where
    go : (x : Bool) → eqb k 0 ≡ x → lower k 1 ≡ 1
    go true e = simp e
    go false e = let h = eqb-false k 0 e in simp (e, le-ltb k 1 (positive k h))
      where
        positive : (k : ℕ) → (k ≡ 0 → ⊥) → 1 ≤ k
        positive k h = omega (arith, h)

module _ (b : Lent) (on : ℕ) where
  abbrev st : Buffers
  st = b.station

  pub short_blank : (length b.settings ≡ all_settings → ⊥) → (1 ≡ blank_number b on) × (b ≡ blank_after b on)
  unfolding blank_after blank_number
  short_blank h =
      let q = ne_eqb (length b.settings) all_settings h in
      let e = lower_one (stationNumber st on) in
      simp (q, e) (refl, refl)

  module _ (l : length b.settings ≡ all_settings) where
    pub same_number : blank_number b on ≡ stationNumber st on
    unfolding blank_number
    same_number = simp (eq-eqb (length b.settings) all_settings l) (lower_zero (stationNumber st on))

    pub refused_blank : (stationNumber st on ≡ 0 → ⊥) → (record { station = station_after st on; settings = b.settings }) ≡ blank_after b on
    unfolding blank_after
    refused_blank h =
        simp (same_number, ne_eqb (stationNumber st on) 0 h)
        (ap (λ (x : Buffers). record { station = x; settings = b.settings }) (sym (blank_refused st on h)))

    pub made_blank : stationNumber st on ≡ 0 → (record { station = station_after st on; settings = replicate (length b.settings) 0 }) ≡ blank_after b on
    unfolding blank_after
    made_blank h =
        simp (same_number, eq-eqb (stationNumber st on) 0 h) (ap (λ (k : ℕ). record { station = station_after st on; settings = replicate k 0 }) l)
