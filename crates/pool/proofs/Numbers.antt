-- What holds of a pool where no refusal fits.
use mathlib.Core.Path.{◌≡◌, refl}
use mathlib.Core.Bool.{Bool, true, false, cond, not}
use mathlib.Core.List.{List}
use Prim.Native.Nat.{ℕ, ◌<◌, ◌≤◌}
use native.Mathlib.Omega.{arith}
use lib.Dec.{eqb, ltb, leb}
use lib.ListN.{length}
use borrow.Author.Tests.{eqb-true, eqb-false, ltb-false, leb-false, not-false, eq-eqb, le-ltb, lt-leb}
use Rattle.numbers.specs.Sizes.{longest_message, most_waiting}
use Rattle.pool.specs.Pool.{pool_size, count, check}
use Rattle.pool.specs.Change.{added, add_refusals, add_number, add_after, removed, remove_refusals, remove_number, remove_after}

-- one refusal does not fit, and the rest are passed
passed : (b : Bool) (n rest : ℕ) → 0 < n → cond b n rest ≡ 0 → (b ≡ false) × (rest ≡ 0)
passed true n rest h e = absurd (let z : ⊥ = omega arith in z)
passed false n rest h e = (refl, e)

-- the same of a number that refuses where it is not 0
pub passed_number : (n rest : ℕ) → cond (not (eqb n 0)) n rest ≡ 0 → (n ≡ 0) × (rest ≡ 0)
passed_number n rest e = by (eqb n 0) refl e
  where
    by : (b : Bool) → eqb n 0 ≡ b → cond (not b) n rest ≡ 0 → (n ≡ 0) × (rest ≡ 0)
    by true t e = (eqb-true n 0 t, e)
    by false t e = absurd (eqb-false n 0 t e)

pub record Fine (l : List ℕ) : Type 0 where
  pub long : length l ≡ pool_size
  pub room : count l ≤ most_waiting

pub fine : (l : List ℕ) → check l ≡ 0 → Fine l
unfolding check
fine l e =
    let a = passed (not (eqb (length l) pool_size)) 1 _ (omega arith) e in
    let b = passed (ltb most_waiting (count l)) 2 0 (omega arith) a.1 in
    record { long = eqb-true (length l) pool_size (not-false (eqb (length l) pool_size) a.0); room = ltb-false most_waiting (count l) b.0 }

pub fine_check : (l : List ℕ) → Fine l → check l ≡ 0
unfolding check
fine_check l f = simp (eq-eqb (length l) pool_size f.long, le-ltb most_waiting (count l) f.room)

-- the number of a pool is 0, 1 or 2
neither : (l : List ℕ) → eqb (check l) 1 ≡ false → eqb (check l) 2 ≡ false → check l ≡ 0
unfolding check
neither l = by (not (eqb (length l) pool_size)) (ltb most_waiting (count l))
  where
    by : (a b : Bool) → eqb (cond a 1 (cond b 2 0)) 1 ≡ false → eqb (cond a 1 (cond b 2 0)) 2 ≡ false → ◌≡◌ {A = ℕ} (cond a 1 (cond b 2 0)) 0
    by true b p q = absurd (eqb-false 1 1 p refl)
    by false true p q = absurd (eqb-false 2 2 q refl)
    by false false p q = refl

pub record Room (l : List ℕ) (n : ℕ) : Type 0 where
  pub pool : Fine l
  pub size : n ≤ longest_message
  pub slot : count l < most_waiting

pub room : (l : List ℕ) (size : ℕ) → add_number l size ≡ 0 → Room l size
unfolding add_number add_refusals
room l size e =
    let a = passed (eqb (check l) 1) 1 _ (omega arith) e in
    let b = passed (ltb longest_message size) 1 _ (omega arith) a.1 in
    let d = passed (eqb (check l) 2) 2 _ (omega arith) b.1 in
    let f = passed (leb most_waiting (count l)) 12 0 (omega arith) d.1 in
    record { pool = fine l (neither l a.0 d.0); size = ltb-false longest_message size b.0; slot = leb-false most_waiting (count l) f.0 }

pub room_number : (l : List ℕ) (size : ℕ) → Room l size → add_number l size ≡ 0
unfolding add_number add_refusals
room_number l size r = simp (fine_check l r.pool, le-ltb longest_message size r.size, lt-leb most_waiting (count l) r.slot)

pub add_after_lem : (l m : List ℕ) → Room l (length m) → add_after l m ≡ added l m
unfolding add_after
add_after_lem l m r = simp (eq-eqb (add_number l (length m)) 0 (room_number l (length m) r))

pub record There (l : List ℕ) (k : ℕ) : Type 0 where
  pub pool : Fine l
  pub message : k < count l

pub there : (l : List ℕ) (k : ℕ) → remove_number l k ≡ 0 → There l k
unfolding remove_number remove_refusals
there l k e =
    let a = passed_number (check l) _ e in
    let b = passed (leb (count l) k) 5 0 (omega arith) a.1 in
    record { pool = fine l a.0; message = leb-false (count l) k b.0 }

pub there_number : (l : List ℕ) (k : ℕ) → There l k → remove_number l k ≡ 0
unfolding remove_number remove_refusals
there_number l k t = simp (fine_check l t.pool, lt-leb (count l) k t.message)

pub remove_after_lem : (l : List ℕ) (k : ℕ) → There l k → remove_after l k ≡ removed l k
unfolding remove_after
remove_after_lem l k t = simp (eq-eqb (remove_number l k) 0 (there_number l k t))
