-- A set is a quorum exactly when it contains a smallest one: the list of the smallest and the recursive test agree at every mask.
use mathlib.Core.Path.{◌≡◌, refl, sym, ap, ap₂, ◌∙◌}
use mathlib.Core.Bool.{Bool, true, false, ◌&&◌, ◌||◌, or_assoc, and-false, or-false, and-or_distrib_left, and-or_distrib_right}
use mathlib.Core.List.{List, [], ◌∷◌, ◌++◌, map}
use Prim.Native.Nat.{ℕ, zero, suc, ◌^◌}
use lib.Bits.{bit_or}
use Rattle.mask.specs.Mask.{contains, within}
use Rattle.mask.proofs.Laws.{within_joined, within_power}
use Rattle.quorum.specs.declared.Kind.{Kind}
use Rattle.quorum.specs.declared.Kind.TheVariants.{Read, Write}
use Rattle.quorum.specs.Tree.{child}
use Rattle.quorum.specs.Quorum.{two_of, rooted_by, in_subtree}
use Rattle.quorum.specs.Smallest.{each, pairs, with_root_set, smallest_of}

-- some set of the list is inside m
abbrev pub any_within : List ℕ → ℕ → Bool
any_within [] m = false
any_within (q ∷ qs) m = within q m || any_within qs m

pairs_two : (a b c : Bool) → (a && b || (a && c || b && c)) ≡ two_of a b c
pairs_two true true c = refl
pairs_two true false true = refl
pairs_two true false false = refl
pairs_two false b c = refl

two_eq : {a b c x y z : Bool} → a ≡ x → b ≡ y → c ≡ z → two_of a b c ≡ two_of x y z
two_eq p q r = cc

module _ (m : ℕ) where
  any_append : (xs ys : List ℕ) → any_within (xs ++ ys) m ≡ (any_within xs m || any_within ys m)
  any_append [] ys = refl
  any_append (x ∷ xs) ys = ap (◌||◌ (within x m)) (any_append xs ys) ∙ sym (or_assoc (within x m) (any_within xs m) (any_within ys m))

  any_map : (a : ℕ) (bs : List ℕ) → any_within (map (λ (b : ℕ). bit_or a b) bs) m ≡ (within a m && any_within bs m)
  any_map a [] = sym (and-false (within a m))
  any_map a (b ∷ bs) = ap₂ ◌||◌ (within_joined a b m) (any_map a bs) ∙ sym (and-or_distrib_left (within a m) (within b m) (any_within bs m))

  any_each : (xs ys : List ℕ) → any_within (each xs ys) m ≡ (any_within xs m && any_within ys m)
  any_each [] ys = refl
  any_each (x ∷ xs) ys =
      any_append (map (λ (b : ℕ). bit_or x b) ys) (each xs ys) ∙ ap₂ ◌||◌ (any_map x ys) (any_each xs ys)
      ∙ sym (and-or_distrib_right (within x m) (any_within xs m) (any_within ys m))

  any_pairs : (a b c : List ℕ) → any_within (pairs a b c) m ≡ two_of (any_within a m) (any_within b m) (any_within c m)
  any_pairs a b c =
      any_append (each a b) (each a c ++ each b c)
      ∙ ap₂ ◌||◌ (any_each a b) (any_append (each a c) (each b c) ∙ ap₂ ◌||◌ (any_each a c) (any_each b c))
      ∙ pairs_two (any_within a m) (any_within b m) (any_within c m)

  any_root : (k : Kind) (q : ℕ) (ps : List ℕ) → any_within (with_root_set k q ps) m ≡ rooted_by k (within q m) (any_within ps m)
  any_root Read q ps = refl
  any_root Write q ps = any_map q ps

  pub any_smallest : (k : Kind) (h r : ℕ) → any_within (smallest_of k h r) m ≡ in_subtree k (contains m) h r
  any_smallest k zero r = or-false (within (2 ^ r) m) ∙ within_power r m
  any_smallest k (suc h) r =
      any_root k (2 ^ r) (pairs (smallest_of k h (child r 1)) (smallest_of k h (child r 2)) (smallest_of k h (child r 3)))
      ∙ ap₂ (rooted_by k) (within_power r m)
      (any_pairs (smallest_of k h (child r 1)) (smallest_of k h (child r 2)) (smallest_of k h (child r 3))
      ∙ two_eq (any_smallest k h (child r 1)) (any_smallest k h (child r 2)) (any_smallest k h (child r 3)))
