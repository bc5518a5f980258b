-- How many bytes texts have together: a number has at most twenty digits, a value a sign besides.
use Prim.Native.Nat.{ℕ, zero, suc, ◌+◌, ◌*◌, ◌-◌, ◌/◌, ◌%◌, ◌≤◌, ◌<◌}
use native.Mathlib.Omega.{arith}
use native.Mathlib.Nat.{mul-suc}
use mathlib.Core.Path.{◌≡◌}
use mathlib.Core.Bool.{Bool, true, false, cond}
use mathlib.Core.List.{List, [], ◌∷◌, ◌++◌}
use lib.Dec.{ltb}
use lib.ListN.{length, length-append}
use Rattle.decimal.specs.Decimal.{digits, decimal}
use Rattle.report.specs.Page.{joined}
use Rattle.report.specs.Each.{each_from}
use Rattle.report.specs.Texts.{Text, number_texts, value_texts, minus_text}

abbrev pub long : List Text → ℕ
long ts = length (joined ts)

pub long_append : (a b : List Text) → long (a ++ b) ≡ long a + long b
unfolding joined
long_append [] b = omega arith
long_append (t ∷ a) b =
    let e = length-append t (joined (a ++ b)) in
    let f = long_append a b in
    let g = length-append t (joined a) in
    omega arith

digits_long : (k n : ℕ) → length (digits k n) ≤ k
unfolding digits
digits_long zero n = omega arith
digits_long (suc k) n = by (ltb n 10) (digits_long k (n / 10)) (length-append (digits k (n / 10)) ((48 + n % 10) ∷ []))
  where
    by : (b : Bool) → length (digits k (n / 10)) ≤ k
        → length (digits k (n / 10) ++ ((48 + n % 10) ∷ [])) ≡ length (digits k (n / 10)) + 1
        → length (cond b ((48 + n) ∷ []) (digits k (n / 10) ++ ((48 + n % 10) ∷ []))) ≤ suc k
    by true h e = omega arith
    by false h e = omega arith

pub decimal_long : (n : ℕ) → length (decimal n) ≤ 20
unfolding decimal
decimal_long n = digits_long 20 n

-- a number behind a label
pub number_as : (label : Text) (n : ℕ) → long (number_texts label n) ≡ length label + length (decimal n)
unfolding number_texts joined
number_as label n =
    let e = length-append label (decimal n ++ []) in
    let f : length (decimal n ++ []) ≡ length (decimal n) + 0 = length-append (decimal n) [] in
    omega arith

pub number_long : (label : Text) (n : ℕ) → long (number_texts label n) ≤ length label + 20
number_long label n = let e = number_as label n in let h = decimal_long n in omega arith

pub value_long : (label : Text) (v : ℕ) → long (value_texts label v) ≤ length label + 21
unfolding value_texts joined
value_long label v = by (ltb v 9223372036854775808)
  where
    below : ℕ
    below = 18446744073709551615 - v + 1

    by : (b : Bool) → long (cond b (number_texts label v) (label ∷ number_texts minus_text below)) ≤ length label + 21
    by true = let h = number_long label v in omega arith
    by false = let e = length-append label (joined (number_texts minus_text below)) in let h = number_long minus_text below in omega arith

-- several items, of at most m bytes each
pub each_long : (f : ℕ → List Text) (m n i : ℕ) → ((j : ℕ) → j < i + n → long (f j) ≤ m) → long (each_from f n i) ≤ m * n
unfolding each_from joined
each_long f m zero i h = omega arith
each_long f m (suc n) i h =
    let e = long_append (f i) (each_from f n (i + 1)) in
    let a = h i (omega arith) in
    let b = each_long f m n (i + 1) (λ j p. h j (omega arith)) in
    let d = mul-suc m n in
    omega arith
