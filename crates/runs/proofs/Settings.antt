-- Settings of thirteen nodes that are whole: no step is refused for them, one node's with a table loaded leave them whole, and zeros are blank ones.
use mathlib.Core.Path.{◌≡◌, refl, sym, ap, ◌∙◌}
use mathlib.Core.Bool.{Bool, true, false}
use mathlib.Core.Logic.{◌⊎◌, inl, inr}
use mathlib.Core.List.{List}
use Prim.Native.Nat.{ℕ, ◌+◌, ◌*◌, ◌<◌}
use native.Mathlib.Omega.{arith}
use lib.Dec.{ltb}
use lib.ListN.{length, replicate, length-replicate, get_or-replicate}
use lib.Seq.{ext_get_or}
use borrow.Author.Tests.{eq-eqb, ne_eqb, ltb-true, ltb-false}
use Rattle.numbers.specs.Sizes.{nodes}
use Rattle.parts.proofs.Laws.{length_part, get_d_part}
use Rattle.image.proofs.Each.{same_or_not}
use Rattle.steps.specs.Station.{put_at}
use Rattle.station_calls.proofs.Parted.{part_length, part_same, part_kept}
use Rattle.settings.specs.Settings.{settings_size, blank_settings, settings_number}
use Rattle.settings.proofs.Sound.{blank_number_lem}
use Rattle.service_calls.specs.Lent.{all_settings, settings_at, with_settings_at, settings_in, settings_first}

module _ (S : List ℕ) (long : length S ≡ all_settings) where
  pub at_long : (n : ℕ) → n < nodes → length (settings_at S n) ≡ settings_size
  unfolding settings_at
  at_long n h = length_part settings_size (settings_size * n) S (omega arith)

  -- no step is refused for them
  pub settings_first_lem : ((n : ℕ) → n < nodes → settings_number (settings_at S n) ≡ 0) → (n : ℕ) → settings_first S n ≡ 0
  unfolding settings_first
  settings_first_lem fine n = by (ltb n nodes) refl
    where
      by : (t : Bool) → ltb n nodes ≡ t → settings_first S n ≡ 0
      by true e = simp (eq-eqb (length S) all_settings long, e, fine n (ltb-true n nodes e))
      by false e = simp (eq-eqb (length S) all_settings long, e)

  -- ---- one node's changed
  module _ (n : ℕ) (s : List ℕ) (small : n < nodes) (size : length s ≡ settings_size) where
    pub put_long : length (with_settings_at S n s) ≡ all_settings
    unfolding with_settings_at
    put_long = part_length settings_size nodes S s size long n small

    pub put_at_lem : (i : ℕ) → i < nodes → ((i ≡ n) × (settings_at (with_settings_at S n s) i ≡ s))
        ⊎ ((i ≡ n → ⊥) × (settings_at (with_settings_at S n s) i ≡ settings_at S i))
    unfolding settings_at with_settings_at
    put_at_lem i h = by (same_or_not i n)
      where
        by : (i ≡ n) ⊎ (i ≡ n → ⊥) → ((i ≡ n) × (settings_at (with_settings_at S n s) i ≡ s))
            ⊎ ((i ≡ n → ⊥) × (settings_at (with_settings_at S n s) i ≡ settings_at S i))
        by (inl e) = inl (e, ap (settings_at (with_settings_at S n s)) e ∙ part_same settings_size nodes S s size long n small)
        by (inr e) = inr (e, part_kept settings_size nodes S s size long n small i h e)

    pub put_in : (i : ℕ) → settings_in (with_settings_at S n s) i ≡ put_at (settings_in S) n s i
    unfolding settings_in put_at
    put_in i = by (ltb i nodes) refl
      where
        there : ltb i nodes ≡ true → ((i ≡ n) × (settings_at (with_settings_at S n s) i ≡ s))
            ⊎ ((i ≡ n → ⊥) × (settings_at (with_settings_at S n s) i ≡ settings_at S i))
            → settings_in (with_settings_at S n s) i ≡ put_at (settings_in S) n s i
        there t (inl z) = simp (t, eq-eqb i n z.0) z.1
        there t (inr z) = simp (t, ne_eqb i n z.0) z.1

        by : (t : Bool) → ltb i nodes ≡ t → settings_in (with_settings_at S n s) i ≡ put_at (settings_in S) n s i
        by true t = there t (put_at_lem i (ltb-true i nodes t))
        by false t = let h = ltb-false i nodes t in simp (t, ne_eqb i n (λ e. let z : ⊥ = omega arith in z))

-- ---- zeros
abbrev zeros : List ℕ
zeros = replicate all_settings 0

pub zeros_long : length zeros ≡ all_settings
zeros_long = length-replicate {A = ℕ} all_settings 0

zeros_at : (n : ℕ) → n < nodes → settings_at zeros n ≡ blank_settings
unfolding settings_at
zeros_at n h =
    let e = zeros_long in
    let p = length_part settings_size (settings_size * n) zeros (omega arith) in
    ext_get_or 0 (settings_at zeros n) blank_settings (p ∙ sym (length-replicate {A = ℕ} settings_size 0))
    (λ j i. let k : j < settings_size = omega arith in
    get_d_part settings_size (settings_size * n) zeros j k ∙ get_or-replicate {A = ℕ} all_settings (settings_size * n + j) 0 0 (omega arith)
    ∙ sym (get_or-replicate {A = ℕ} settings_size j 0 0 k))

pub zeros_fine : (n : ℕ) → n < nodes → settings_number (settings_at zeros n) ≡ 0
zeros_fine n h = ap settings_number (zeros_at n h) ∙ blank_number_lem

pub zeros_in : (n : ℕ) → settings_in zeros n ≡ blank_settings
unfolding settings_in
zeros_in n = by (ltb n nodes) refl
  where
    by : (t : Bool) → ltb n nodes ≡ t → settings_in zeros n ≡ blank_settings
    by true e = simp e (zeros_at n (ltb-true n nodes e))
    by false e = simp e
