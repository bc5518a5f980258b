-- A load over the buffers: by what refuses it, and by the table in place of the one before.
use mathlib.Core.Path.{◌≡◌, refl, sym, ap, ap₂, ◌∙◌}
use mathlib.Core.Bool.{Bool, true, false}
use mathlib.Core.List.{List, []}
use Prim.Native.Nat.{ℕ, ◌≤◌, ◌<◌}
use native.Mathlib.Omega.{arith}
use lib.Dec.{eqb}
use lib.ListN.{length}
use borrow.Author.Tests.{eq-eqb, ne_eqb, eqb-true, lt-ltb, le-ltb}
use Rattle.numbers.specs.Sizes.{nodes}
use Rattle.numbers.specs.Refusal.{lower}
use Rattle.numbers.proofs.Laws.{lower_none}
use Rattle.mask.specs.Mask.{contains}
use Rattle.hours.specs.Hours.{table_number}
use Rattle.steps.specs.Station.{put_at}
use Rattle.buffers.specs.Buffers.{on_of, own_number, answer_with}
use Rattle.settings.specs.Settings.{settings_number, loaded}
use Rattle.settings.specs.Settings.{load_number as loneNumber, load_after as loneAfter}
use Rattle.service.specs.Service.{number_of, answer_of, settings_of, load_number}
use Rattle.service_calls.specs.Lent.{Lent, lent, all_settings, settings_at, with_settings_at, settings_in, settings_first, told, load_first, load_told}
use Rattle.service_calls.specs.Lent.{load_settings}

module _ (O S : List ℕ) (n : ℕ) (list : List ℕ) where
  abbrev b : Lent
  b = lent [] [] [] O S

  -- the number that comes first, from its parts
  pub first_is : (k l o s t : ℕ) → k ≡ lower l t → l ≡ lower o s → o ≡ own_number O → s ≡ settings_first S n → t ≡ table_number list
      → k ≡ lower (lower (own_number O) (settings_first S n)) (table_number list)
  first_is k l o s t e f p q r = e ∙ ap₂ lower (f ∙ ap₂ lower p q) r

  pub first_told : (k : ℕ) → k ≡ lower (lower (own_number O) (settings_first S n)) (table_number list) → (k ≡ 0 → ⊥)
      → (answer_with k 0 ≡ load_told b n list) × (S ≡ load_settings b n list)
  unfolding told load_first load_settings
  first_told k e h =
      simp (ne_eqb (lower (lower (own_number O) (settings_first S n)) (table_number list)) 0 (λ z. h (e ∙ z))) (ap (λ (j : ℕ). answer_with j 0) e, refl)

  module _ (z : lower (lower (own_number O) (settings_first S n)) (table_number list) ≡ 0) where
    none : (settings_first S n ≡ 0) × (table_number list ≡ 0)
    none = let a = lower_none (lower (own_number O) (settings_first S n)) (table_number list) z
        in ((lower_none (own_number O) (settings_first S n) a.0).1, a.1)

    first : load_first b n list ≡ 0
    unfolding load_first
    first = z

    pub settings_long : length S ≡ all_settings
    unfolding settings_first
    settings_long = go (eqb (length S) all_settings) refl
      where
        go : (x : Bool) → eqb (length S) all_settings ≡ x → length S ≡ all_settings
        go true e = eqb-true (length S) all_settings e
        go false e = absurd (let y : ◌≡◌ {A = ℕ} 1 0 = sym (simp e) ∙ none.0 in omega (arith, y))

    pub stranger_told : nodes ≤ n → (answer_with 4 0 ≡ load_told b n list) × (S ≡ load_settings b n list)
    unfolding told load_settings number_of answer_of settings_of load_number
    stranger_told h = simp (first, none.1, le-ltb n nodes h) (refl, refl)

    module _ (h : n < nodes) where
      pub off_told_lem : contains (on_of O) n ≡ false → (answer_with 5 0 ≡ load_told b n list) × (S ≡ load_settings b n list)
      unfolding told load_settings number_of answer_of settings_of load_number
      off_told_lem e = simp (first, none.1, lt-ltb n nodes h, e) (refl, refl)

      settings_fine : settings_number (settings_at S n) ≡ 0
      unfolding settings_first
      settings_fine = go (eqb (settings_number (settings_at S n)) 0) refl
        where
          go : (x : Bool) → eqb (settings_number (settings_at S n)) 0 ≡ x → settings_number (settings_at S n) ≡ 0
          go true e = eqb-true (settings_number (settings_at S n)) 0 e
          go false e = absurd (let y : ◌≡◌ {A = ℕ} 2 0 = sym (simp (eq-eqb (length S) all_settings settings_long, lt-ltb n nodes h, e)) ∙ none.0
              in omega (arith, y))

      lone : loneAfter (settings_at S n) list ≡ loaded (settings_at S n) list
      unfolding loneAfter loneNumber lower
      lone = simp (settings_fine, none.1)

      pub taken_told : contains (on_of O) n ≡ true
          → (answer_with 0 0 ≡ load_told b n list) × (with_settings_at S n (loneAfter (settings_at S n) list) ≡ load_settings b n list)
      unfolding told load_settings number_of answer_of settings_of load_number put_at settings_in
      taken_told e =
          simp (first, none.1, lt-ltb n nodes h, e, eq-eqb n n refl) (refl, ap (with_settings_at S n) lone)
