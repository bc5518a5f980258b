-- What the proofs of the level-by-level functions use: one level of each definition, which roots a call may name, and that keys fit.
use mathlib.Core.Path.{◌≡◌, refl, sym, ap}
use mathlib.Core.List.{List}
use Prim.Native.Nat.{ℕ, zero, suc, ◌+◌, ◌-◌, ◌*◌, ◌%◌, ◌^◌, ◌≤◌, ◌<◌}
use native.Mathlib.Nat.{pow-suc}
use native.Mathlib.Omega.{arith}
use lib.ListN.{get_or}
use Rattle.numbers.specs.Sizes.{nodes}
use Rattle.quorum.specs.declared.Kind.{Kind}
use Rattle.quorum.specs.Tree.{last}
use Rattle.quorum.specs.Key.{absent, AllSmall, root_key, best_key, best_pair_key}
use Rattle.quorum.proofs.Keys.{pair_most, root_most}

-- ---- roots
last_mono : (h : ℕ) {r s : ℕ} → r ≤ s → last h r ≤ last h s
last_mono zero e = e
last_mono (suc h) e = last_mono h (omega arith)

pub root_le_last : (h r : ℕ) → r ≤ last h r
root_le_last zero r = omega arith
root_le_last (suc h) r = omega (arith, root_le_last h (3 * r + 3))

less_one : (h : ℕ) → suc h - 1 ≡ h
less_one h = omega arith

pub last_step : (h r : ℕ) → (h ≡ 0 → ⊥) → last h r ≡ last (h - 1) (3 * r + 3)
last_step zero r f = absurd (f refl)
last_step (suc h) r f = ap (λ (k : ℕ). last k (3 * r + 3)) (sym (less_one h))

-- what a call one level down asks of its root
pub child_last : (h r i : ℕ) → i ≤ 3 → last h (3 * r + 3) < nodes → last h (3 * r + i) < nodes
child_last h r i e b = omega (arith, last_mono h {r = 3 * r + i} {s = 3 * r + 3} (omega arith))

pub child_small : (h r : ℕ) → last h (3 * r + 3) < nodes → 3 * r + 3 < nodes
child_small h r b = omega (arith, root_le_last h (3 * r + 3))

-- ---- one level of the keys
pub best_zero : (k : Kind) (ks : List ℕ) (h r : ℕ) → h ≡ 0 → best_key k ks h r ≡ get_or ks r 0
unfolding best_key
best_zero k ks zero r f = refl
best_zero k ks (suc h) r f = absurd (omega arith)

pub best_step : (k : Kind) (ks : List ℕ) (h r : ℕ) → (h ≡ 0 → ⊥) → best_key k ks h r ≡ root_key k (get_or ks r 0) (best_pair_key k ks (h - 1) r)
unfolding best_key best_pair_key
best_step k ks zero r f = absurd (f refl)
best_step k ks (suc h) r f = ap (λ (j : ℕ). root_key k (get_or ks r 0) (best_pair_key k ks j r)) (sym (less_one h))

-- ---- how large keys are
-- the largest key at a height
abbrev most : ℕ → ℕ
most h = absent * 3 ^ h

one_le_pow : (h : ℕ) → 1 ≤ 3 ^ h
one_le_pow zero = omega arith
one_le_pow (suc h) = omega (arith, pow-suc 3 h, one_le_pow h)

best_most : (k : Kind) (ks : List ℕ) → AllSmall ks → (h r : ℕ) → last h r < nodes → best_key k ks h r ≤ most h
unfolding best_key
best_most k ks f zero r b = omega (arith, f r b)
best_most k ks f (suc h) r b =
    let below : (i : ℕ) → i ≤ 3 → best_key k ks h (3 * r + i) ≤ most h = λ i e. best_most k ks f h (3 * r + i) (child_last h r i e b) in
    let own = f r (omega (arith, root_le_last (suc h) r)) in
    let pair = pair_most _ _ _ (most h) (below 1 (omega arith)) (below 2 (omega arith)) (below 3 (omega arith)) in
    omega (arith, root_most k _ _ absent (2 * most h) own pair, pow-suc 3 h, one_le_pow h)

most_small : (h : ℕ) → h ≤ 1 → most h < 2 ^ 60
most_small zero e = omega arith
most_small (suc zero) e = omega arith
most_small (suc (suc h)) e = absurd (omega arith)

pub best_small : (k : Kind) (ks : List ℕ) → AllSmall ks → (h r : ℕ) → h ≤ 1 → last h r < nodes → best_key k ks h r < 2 ^ 60
best_small k ks f h r e b = omega (arith, best_most k ks f h r b, most_small h e)

pub pair_small : (k : Kind) (ks : List ℕ) → AllSmall ks → (h r : ℕ) → h ≤ 1 → last h (3 * r + 3) < nodes → best_pair_key k ks h r < 2 ^ 61
unfolding best_pair_key
pair_small k ks f h r e b =
    let below : (i : ℕ) → i ≤ 3 → best_key k ks h (3 * r + i) ≤ most h = λ i g. best_most k ks f h (3 * r + i) (child_last h r i g b) in
    omega (arith, pair_most _ _ _ (most h) (below 1 (omega arith)) (below 2 (omega arith)) (below 3 (omega arith)), most_small h e)

-- ---- turns
-- 1 shifted by a height: a power of two, from 1 to 4
pub turn_count : (h : ℕ) → h ≤ 2 → ((1 * 2 ^ h) % 2 ^ 64 ≡ 2 ^ h) × (1 ≤ 2 ^ h) × (2 ^ h ≤ 4)
turn_count zero e = (refl, omega arith, omega arith)
turn_count (suc zero) e = (refl, omega arith, omega arith)
turn_count (suc (suc zero)) e = (refl, omega arith, omega arith)
turn_count (suc (suc (suc h))) e = absurd (omega arith)
