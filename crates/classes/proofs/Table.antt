-- What loading accepts of a table: few bounds, one fewer than the tallies, that rise; tallies that are some and stand once. It fits into what a node keeps.
use mathlib.Core.Path.{◌≡◌, refl, sym, ap, subst, ◌∙◌}
use mathlib.Core.Bool.{Bool, true, false, cond, not, ◌&&◌, ◌||◌}
use mathlib.Core.List.{List}
use Prim.Native.Nat.{ℕ, ◌+◌, ◌≤◌}
use native.Mathlib.Omega.{arith}
use lib.Dec.{eqb, ltb}
use lib.ListN.{length}
use borrow.Author.Tests.{ltb-false, eqb-true, ne_eqb, not-false}
use Rattle.numbers.specs.Numbers.{wrong_length, no_such_object, busy, bad_bounds, tally_twice}
use Rattle.classes.specs.Classes.{most_bounds, bound_count, tally_count, bounds, list_size, strange, rising, unbounded, twice}
use Rattle.classes.specs.Classes.{length_number, table_number, kept_size, no_table, sound}

pub neither : (a b : Bool) → (a || b) ≡ false → (a ≡ false) × (b ≡ false)
neither true b e = absurd (subst (λ (x : Bool). cond x (Unit {0}) ⊥) e tt)
neither false b e = (refl, e)

pub both_of : (a b : Bool) → (a && b) ≡ true → (a ≡ true) × (b ≡ true)
both_of true b e = (refl, e)
both_of false b e = absurd (subst (λ (x : Bool). cond x ⊥ (Unit {0})) e tt)

-- none of the refusals of a list
all_clear : (a w u t : Bool) → ◌≡◌ {A = ℕ} (cond a no_such_object (cond w busy (cond u bad_bounds (cond t tally_twice 0)))) 0
    → (a ≡ false) × (w ≡ false) × (u ≡ false) × (t ≡ false)
all_clear false false false false e = (refl, refl, refl, refl)
all_clear true w u t e = absurd (let z : ⊥ = omega (arith, e) in z)
all_clear false true u t e = absurd (let z : ⊥ = omega (arith, e) in z)
all_clear false false true t e = absurd (let z : ⊥ = omega (arith, e) in z)
all_clear false false false true e = absurd (let z : ⊥ = omega (arith, e) in z)

pub accepted : (working : Bool) (l : List ℕ) → table_number working l ≡ 0
    → (strange l ≡ false) × (working ≡ false) × (unbounded l ≡ false) × (twice l ≡ false)
unfolding table_number
accepted working l e = all_clear (strange l) working (unbounded l) (twice l) e

-- a node that is idle accepts what any accepts
pub accepted_idle : (working : Bool) (l : List ℕ) → table_number working l ≡ 0 → table_number false l ≡ 0
accepted_idle working l e = ap (λ (b : Bool). table_number b l) (sym (accepted working l e).1) ∙ e

pub record Bounded (l : List ℕ) : Type 0 where
  pub few : bound_count l ≤ most_bounds
  pub tallied : tally_count l ≡ bound_count l + 1
  pub rise : rising 0 (bounds l) ≡ true

pub bounded : (l : List ℕ) → unbounded l ≡ false → Bounded l
unfolding unbounded
bounded l e =
    let a = neither (ltb most_bounds (bound_count l)) (not (eqb (tally_count l) (bound_count l + 1)) || not (rising 0 (bounds l))) e in
    let b = neither (not (eqb (tally_count l) (bound_count l + 1))) (not (rising 0 (bounds l))) a.1 in
    record {
      few = ltb-false most_bounds (bound_count l) a.0;
      tallied = eqb-true (tally_count l) (bound_count l + 1) (not-false (eqb (tally_count l) (bound_count l + 1)) b.0);
      rise = not-false (rising 0 (bounds l)) b.1;
    }

pub accepted_bounded : (working : Bool) (l : List ℕ) → table_number working l ≡ 0 → Bounded l
accepted_bounded working l e = bounded l (accepted working l e).2

-- it is a table, and it fits
pub some_table : (l : List ℕ) → Bounded l → no_table l ≡ false
unfolding no_table
some_table l b =
    ap (λ (t : Bool). eqb (bound_count l) 0 && t) (ne_eqb (tally_count l) 0 (λ e. let z : ⊥ = omega (arith, e, b.tallied) in z))
    ∙ never (eqb (bound_count l) 0)
  where
    never : (b : Bool) → (b && false) ≡ false
    never true = refl
    never false = refl

pub table_fits : (l : List ℕ) → length_number l ≡ 0 → Bounded l → length l ≤ kept_size
unfolding length_number
table_fits l e b = let n = by (eqb (length l) (list_size l)) refl e in omega (arith, n, b.few, b.tallied)
  where
    by : (t : Bool) → eqb (length l) (list_size l) ≡ t → ◌≡◌ {A = ℕ} (cond t 0 wrong_length) 0 → length l ≡ list_size l
    by true q z = eqb-true (length l) (list_size l) q
    by false q z = absurd (let y : ⊥ = omega (arith, z) in y)

-- what is sound has few bounds, a table or not
pub sound_few : (k : List ℕ) → sound k ≡ true → bound_count k ≤ most_bounds
unfolding sound no_table
sound_few k = by (eqb (bound_count k) 0) (eqb (tally_count k) 0) (eqb (table_number false k) 0) refl refl
  where
    by : (a b t : Bool) → eqb (bound_count k) 0 ≡ a → eqb (table_number false k) 0 ≡ t → (a && b || t) ≡ true → bound_count k ≤ most_bounds
    by true b t p q e = let z = eqb-true (bound_count k) 0 p in omega (arith, z)
    by false b true p q e = (accepted_bounded false k (eqb-true (table_number false k) 0 q)).few
    by false b false p q e = absurd (subst (λ (x : Bool). cond x ⊥ (Unit {0})) e tt)
