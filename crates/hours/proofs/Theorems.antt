-- What is kept of a table is the table: its bytes read the same at every place, zeros behind the end.
use mathlib.Core.Path.{◌≡◌, refl, ap, ap₂, subst, ◌∙◌}
use mathlib.Core.Bool.{Bool, true, false, not, cond, ◌||◌}
use mathlib.Core.List.{List, [], ◌∷◌, ◌++◌, append-nil}
use Prim.Native.Nat.{ℕ, zero, suc, ◌+◌, ◌-◌, ◌*◌, ◌≤◌}
use native.Mathlib.Omega.{arith}
use lib.Dec.{eqb, ltb}
use lib.ListN.{length, get_or, take, drop, set, replicate, drop_of_length-le}
use lib.Seq.{take_all}
use borrow.Author.Tests.{eqb-true, eq-eqb, ltb-false}
use Rattle.octets.specs.Octets.{get}
use Rattle.wire.specs.Formed.{every}
use Rattle.wire.specs.Decode.{items_from}
use Rattle.parts.specs.Parts.{padded}
use Rattle.parts.proofs.Laws.{length_padded, padded_same}
use Rattle.hours.specs.Hours.{Window, most_windows, most_dates, window_at, window_size, date_at, date_size, window_count, dates_place, date_count, windows}
use Rattle.hours.specs.Hours.{dates}
use Rattle.hours.specs.Hours.{list_size, window_ok, faulty, table_number, any_of, in_window, closed_by}
use Rattle.hours.specs.Kept.{kept_size, stored, kept_number, closed}

-- ---- lists that read the same at every place are the same table
module _ (a b : List ℕ) (same : (i : ℕ) → get_or a i 0 ≡ get_or b i 0) where
  same_get : (k i : ℕ) → get k a i ≡ get k b i
  unfolding get
  same_get zero i = refl
  same_get (suc k) i = ap₂ (λ (x y : ℕ). x + 256 * y) (same i) (same_get k (i + 1))

  same_items : {A : Type 0} (at : List ℕ → ℕ → A) (size : ℕ) → ((i : ℕ) → at a i ≡ at b i) → (n i : ℕ) → items_from at size n a i ≡ items_from at size n b i
  unfolding items_from
  same_items at size e zero i = refl
  same_items at size e (suc n) i = ap₂ ◌∷◌ (e i) (same_items at size e n (i + size))

  same_window : (i : ℕ) → window_at a i ≡ window_at b i
  same_window i j = record { start = same_get 2 i j; end = same_get 2 (i + 2) j }

  same_windows : windows a ≡ windows b
  same_windows = same_items window_at window_size same_window (window_count a) 1 ∙ ap (λ (n : ℕ). items_from window_at window_size n b 1) (same 0)

  same_place : dates_place a ≡ dates_place b
  same_place = ap (λ (n : ℕ). 1 + window_size * n) (same 0)

  same_count : date_count a ≡ date_count b
  same_count = same (dates_place a) ∙ ap (λ (i : ℕ). get_or b i 0) same_place

  same_dates : dates a ≡ dates b
  same_dates = same_items date_at date_size (same_get 4) (date_count a) (dates_place a + 1)
      ∙ ap₂ (λ (n i : ℕ). items_from date_at date_size n b (i + 1)) same_count same_place

  pub same_faulty : faulty a ≡ faulty b
  unfolding faulty
  same_faulty = ap₂ (λ (n : ℕ) (r : Bool). ltb most_windows n || r) (same 0)
      (ap₂ (λ (d : ℕ) (ws : List Window). ltb most_dates d || not (every window_ok ws)) same_count same_windows)

  pub same_closed : (day minute : ℕ) → closed_by a day minute ≡ closed_by b day minute
  unfolding closed_by
  same_closed day minute = ap₂ (λ (ds : List ℕ) (ws : List Window). any_of (eqb day) ds || not (any_of (in_window minute) ws)) same_dates same_windows

-- ---- what is stored
pub length_stored : (l : List ℕ) → length (stored l) ≡ kept_size
length_stored l = ap suc (length_padded 186 l)

-- the mark stored, and a table laid behind it
pub laid_behind : (k l last : List ℕ) (n : ℕ) → length k ≡ kept_size → n ≡ length (set k 0 1) - 1
    → last ≡ padded (length (take n (drop 1 (set k 0 1)))) l → take 1 (set k 0 1) ++ (last ++ drop n (drop 1 (set k 0 1))) ≡ stored l
laid_behind [] l last n h m e = absurd (let z : ⊥ = omega (arith, h) in z)
laid_behind (x ∷ t) l last n h m e =
    let a : length (take n t) ≡ 186 = ap length (take_all n t (omega (arith, h, m))) ∙ (omega (arith, h)) in
    ap (λ (r : List ℕ). 1 ∷ r) (
    ap₂ (λ (u v : List ℕ). u ++ v) (e ∙ ap (λ (i : ℕ). padded i l) a) (drop_of_length-le t {i = n} (omega (arith, h, m))) ∙ append-nil (padded 186 l)
    )

-- ---- THE THEOREMS: what loading accepts is kept whole, and closes what the table closes
neither : (a b : Bool) → (a || b) ≡ false → (a ≡ false) × (b ≡ false)
neither true b e = absurd (subst (λ (x : Bool). cond x (Unit {0}) ⊥) e tt)
neither false b e = (refl, e)

-- an accepted table is not faulty, and fits
pub accepted : (l : List ℕ) → table_number l ≡ 0 → (faulty l ≡ false) × (length l ≤ 186)
unfolding table_number faulty
accepted l = by (eqb (length l) (list_size l)) (faulty l) refl refl
  where
    by : (a b : Bool) → eqb (length l) (list_size l) ≡ a → faulty l ≡ b → ◌≡◌ {A = ℕ} (cond (not a) 1 (cond b 2 0)) 0
        → (faulty l ≡ false) × (length l ≤ 186)
    by true true p q e = absurd (let z : ⊥ = omega (arith, e) in z)
    by true false p q e =
        let n = neither (ltb most_windows (window_count l)) (ltb most_dates (date_count l) || not (every window_ok (windows l))) q in
        let d = neither (ltb most_dates (date_count l)) (not (every window_ok (windows l))) n.1 in
        let u = ltb-false most_windows (window_count l) n.0 in
        let v = ltb-false most_dates (date_count l) d.0 in
        let m = eqb-true (length l) (list_size l) p in
        (q, omega (arith, u, v, m))
    by false b p q e = absurd (let z : ⊥ = omega (arith, e) in z)

pub loaded_closes : (l : List ℕ) → table_number l ≡ 0 → (day minute : ℕ) → closed (stored l) day minute ≡ closed_by l day minute
unfolding closed
loaded_closes l e = same_closed (padded 186 l) l (padded_same 186 l (accepted l e).1)

pub loaded_sound : (l : List ℕ) → table_number l ≡ 0 → kept_number (stored l) ≡ 0
unfolding kept_number
loaded_sound l e = let a = accepted l e in
    simp (eq-eqb (length (stored l)) kept_size (length_stored l), same_faulty (padded 186 l) l (padded_same 186 l a.1) ∙ a.0)

-- before a table is loaded nothing is closed; a table without windows closes everything
pub open_before : (k : List ℕ) (day minute : ℕ) → get_or k 0 0 ≡ 0 → closed k day minute ≡ false
unfolding closed
open_before k day minute e = simp (eq-eqb (get_or k 0 0) 0 e)

pub no_windows : (l : List ℕ) (day minute : ℕ) → window_count l ≡ 0 → closed_by l day minute ≡ true
unfolding closed_by items_from any_of
no_windows l day minute e = ap (λ (n : ℕ). any_of (eqb day) (dates l) || not (any_of (in_window minute) (items_from window_at window_size n l 1))) e
    ∙ always (any_of (eqb day) (dates l))
  where
    always : (b : Bool) → (b || true) ≡ true
    always true = refl
    always false = refl

-- blank bytes are sound
pub blank_sound : kept_number (replicate kept_size 0) ≡ 0
unfolding kept_number faulty items_from
blank_sound = refl
