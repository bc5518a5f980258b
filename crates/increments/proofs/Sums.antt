-- The laws of sums: what `past` says, and that it is seen by the signs: two values of one sign, and the sum of the other.
use Rattle.std.proofs.Common.{◌≡◌, ℕ, suc, ◌+◌, ◌-◌, ◌%◌, ◌^◌, ◌<◌, ◌≤◌, Bool, true, false, cond, not, ◌&&◌, ltb, leb, ℤ, pos, negsuc, ◌+ℤ◌, sym, refl, ap}
use Rattle.std.proofs.Common.{◌∙◌, ap₂, arith, w64, ltb-false, ltb-true, le-ltb, lt-ltb, leb-false, leb-true}
use lib.IntN.{ℤ_discrete, pos-ne-negsuc, sub_ℕ, +ℤ_comm}
use mir.ValLaws.{to_z_pos, to_z-neg}
use Rattle.octets.specs.Signed.{signed_of}
use Rattle.clauses.proofs.Parts.{by_test}
use Rattle.increments.specs.Sums.{sum64, differs, past}

pub sum_small : (a g : ℕ) → sum64 a g < 2 ^ 64
unfolding sum64
sum_small a g = omega arith

-- ---- past says that the bits are not the sum
alike : {m n : ℤ} (d : Dec (m ≡ n)) → m ≡ n → differs d ≡ false
alike (yes p) e = refl
alike (no p) e = absurd (p e)

unlike : {m n : ℤ} (d : Dec (m ≡ n)) → (m ≡ n → ⊥) → differs d ≡ true
unlike (yes p) f = absurd (f p)
unlike (no p) f = refl

alike_out : {m n : ℤ} (d : Dec (m ≡ n)) → differs d ≡ false → m ≡ n
alike_out (yes p) e = p
alike_out (no p) e = absurd (let z : ◌≡◌ {A = ℕ} 0 1 = cc in let w : ⊥ = omega arith in w)

module _ (a g : ℕ) where
  abbrev Exact : Type 0
  Exact = signed_of (sum64 a g) ≡ signed_of a +ℤ signed_of g

  pub sum_exact : past a g ≡ false → signed_of (sum64 a g) ≡ signed_of a +ℤ signed_of g
  unfolding past
  sum_exact e = alike_out (ℤ_discrete (signed_of (sum64 a g)) (signed_of a +ℤ signed_of g)) e

  exact_sum : Exact → past a g ≡ false
  unfolding past
  exact_sum e = alike (ℤ_discrete (signed_of (sum64 a g)) (signed_of a +ℤ signed_of g)) e

  inexact_sum : (Exact → ⊥) → past a g ≡ true
  unfolding past
  inexact_sum f = unlike (ℤ_discrete (signed_of (sum64 a g)) (signed_of a +ℤ signed_of g)) f

-- ---- the signs
signed_low : (n : ℕ) → n < 2 ^ 63 → signed_of n ≡ pos n
signed_low n h = to_z_pos w64 n h

signed_high : (n : ℕ) → 2 ^ 63 ≤ n → n < 2 ^ 64 → signed_of n ≡ negsuc (2 ^ 64 - suc n)
signed_high n h k =
    let e : n ≡ 2 ^ 64 - suc (2 ^ 64 - suc n) = omega arith in
    ap signed_of e ∙ to_z-neg w64 (2 ^ 64 - suc n) (omega arith)

-- the number of a difference of two naturals
sub_below : (m n : ℕ) → m < n → sub_ℕ m n ≡ negsuc (n - suc m)
sub_below m n h = simp (lt-ltb m n h)

sub_above : (m n : ℕ) → n ≤ m → sub_ℕ m n ≡ pos (m - n)
sub_above m n h = simp (le-ltb m n h)

module _ (a g : ℕ) where
  under : a + g < 2 ^ 64 → sum64 a g ≡ a + g
  unfolding sum64
  under h = omega arith

  over : 2 ^ 64 ≤ a + g → a + g < 2 ^ 65 → sum64 a g ≡ a + g - 2 ^ 64
  unfolding sum64
  over h k = omega arith

  -- two that are not negative
  pub both_low : a < 2 ^ 63 → g < 2 ^ 63 → sum64 a g < 2 ^ 63 → past a g ≡ false
  both_low h k s =
      let u = under (omega arith) in
      let e : signed_of a +ℤ signed_of g ≡ pos (a + g) = rw (signed_low a h, signed_low g k) refl in
      exact_sum a g (signed_low (sum64 a g) s ∙ ap pos u ∙ sym e)

  pub both_low_past : a < 2 ^ 63 → g < 2 ^ 63 → 2 ^ 63 ≤ sum64 a g → past a g ≡ true
  both_low_past h k s =
      let e : signed_of a +ℤ signed_of g ≡ pos (a + g) = rw (signed_low a h, signed_low g k) refl in
      inexact_sum a g (λ z. pos-ne-negsuc (a + g) (2 ^ 64 - suc (sum64 a g)) (sym e ∙ sym z ∙ signed_high (sum64 a g) s (sum_small a g)))

  -- one that is, and one that is not: the sum lies between them
  pub low_high : a < 2 ^ 63 → 2 ^ 63 ≤ g → g < 2 ^ 64 → past a g ≡ false
  low_high h k w =
      let e : signed_of a +ℤ signed_of g ≡ sub_ℕ a (suc (2 ^ 64 - suc g)) = rw (signed_low a h, signed_high g k w) refl in
      by_sum e
    where
      by_sum : signed_of a +ℤ signed_of g ≡ sub_ℕ a (suc (2 ^ 64 - suc g)) → past a g ≡ false
      by_sum e =
          by_test (past a g ≡ false) (ltb (a + g) (2 ^ 64))
          (λ t. let b : a + g < 2 ^ 64 = ltb-true (a + g) (2 ^ 64) t in
          let u = under b in
          let s = signed_high (sum64 a g) (omega arith) (sum_small a g) in
          let d = sub_below a (suc (2 ^ 64 - suc g)) (omega arith) in
          exact_sum a g (s ∙ ap negsuc (omega arith) ∙ sym d ∙ sym e))
          (λ t. let b : 2 ^ 64 ≤ a + g = ltb-false (a + g) (2 ^ 64) t in
          let u = over b (omega arith) in
          let s = signed_low (sum64 a g) (omega arith) in
          let d = sub_above a (suc (2 ^ 64 - suc g)) (omega arith) in
          exact_sum a g (s ∙ ap pos (omega arith) ∙ sym d ∙ sym e))

  -- two that are negative
  pub both_high : 2 ^ 63 ≤ a → a < 2 ^ 64 → 2 ^ 63 ≤ g → g < 2 ^ 64 → 2 ^ 63 ≤ sum64 a g → past a g ≡ false
  both_high h v k w s =
      let u = over (omega arith) (omega arith) in
      let e : signed_of a +ℤ signed_of g ≡ negsuc (suc (2 ^ 64 - suc a + (2 ^ 64 - suc g))) = rw (signed_high a h v, signed_high g k w) refl in
      exact_sum a g (signed_high (sum64 a g) s (sum_small a g) ∙ ap negsuc (omega arith) ∙ sym e)

  pub both_high_past : 2 ^ 63 ≤ a → a < 2 ^ 64 → 2 ^ 63 ≤ g → g < 2 ^ 64 → sum64 a g < 2 ^ 63 → past a g ≡ true
  both_high_past h v k w s =
      let e : signed_of a +ℤ signed_of g ≡ negsuc (suc (2 ^ 64 - suc a + (2 ^ 64 - suc g))) = rw (signed_high a h v, signed_high g k w) refl in
      inexact_sum a g (λ z. pos-ne-negsuc (sum64 a g) (suc (2 ^ 64 - suc a + (2 ^ 64 - suc g))) (sym (signed_low (sum64 a g) s) ∙ z ∙ e))

-- the other way round: a sum does not mind the order
past_turned : (a g : ℕ) → past a g ≡ past g a
unfolding past sum64
past_turned a g =
    let e : a + g ≡ g + a = omega arith in
    ap₂ (λ (m : ℕ) (z : ℤ). differs (ℤ_discrete (signed_of (m % 2 ^ 64)) z)) e (+ℤ_comm (signed_of a) (signed_of g))

pub high_low : (a g : ℕ) → 2 ^ 63 ≤ a → a < 2 ^ 64 → g < 2 ^ 63 → past a g ≡ false
high_low a g h v k = past_turned a g ∙ low_high g a k h v

-- ---- so it is seen by the signs
abbrev pub past_by_signs : ℕ → ℕ → Bool
past_by_signs a g = cond (ltb a (2 ^ 63)) (ltb g (2 ^ 63) && leb (2 ^ 63) (sum64 a g)) (leb (2 ^ 63) g && not (leb (2 ^ 63) (sum64 a g)))

pub past_signs : (a g : ℕ) → a < 2 ^ 64 → g < 2 ^ 64 → past a g ≡ past_by_signs a g
past_signs a g v w =
    by_test (past a g ≡ past_by_signs a g) (ltb a (2 ^ 63))
    (λ t. let h = ltb-true a (2 ^ 63) t in
    by_test (past a g ≡ past_by_signs a g) (ltb g (2 ^ 63))
    (λ r. let k = ltb-true g (2 ^ 63) r in
    by_test (past a g ≡ past_by_signs a g) (leb (2 ^ 63) (sum64 a g))
    (λ q. both_low_past a g h k (leb-true (2 ^ 63) (sum64 a g) q) ∙ sym (simp (t, r, q)))
    (λ q. both_low a g h k (leb-false (2 ^ 63) (sum64 a g) q) ∙ sym (simp (t, r, q))))
    (λ r. low_high a g h (ltb-false g (2 ^ 63) r) w ∙ sym (simp (t, r))))
    (λ t. let h = ltb-false a (2 ^ 63) t in
    by_test (past a g ≡ past_by_signs a g) (leb (2 ^ 63) g)
    (λ r. let k = leb-true (2 ^ 63) g r in
    by_test (past a g ≡ past_by_signs a g) (leb (2 ^ 63) (sum64 a g))
    (λ q. both_high a g h v k w (leb-true (2 ^ 63) (sum64 a g) q) ∙ sym (simp (t, r, q)))
    (λ q. both_high_past a g h v k w (leb-false (2 ^ 63) (sum64 a g) q) ∙ sym (simp (t, r, q))))
    (λ r. high_low a g h v (leb-false (2 ^ 63) g r) ∙ sym (simp (t, r))))
