-- Document 01's rule knows no asker: the least sum, then the lowest mask. On the tree the choice with asker 0 is that one, since of any two smallest quorums
-- the one that has node 0 alone has the lower mask too (a computed test over each list).
use mathlib.Core.Path.{◌≡◌, refl, ap, ◌∙◌}
use mathlib.Core.Bool.{Bool, true, false, cond, beq, ◌&&◌, ◌||◌}
use mathlib.Core.List.{List, [], ◌∷◌}
use Prim.Native.Nat.{ℕ}
use lib.Dec.{T, ltb, leb, eqb}
use Rattle.std.specs.Prelude.{Some, None}
use Rattle.mask.specs.Mask.{within}
use Rattle.mask.proofs.Tests.{and_left, and_right}
use Rattle.quorum.specs.Choice.{Choice, quorum_with}
use Rattle.quorum.specs.declared.Kind.{Kind}
use Rattle.quorum.specs.declared.Kind.TheVariants.{Read, Write}
use Rattle.quorum.specs.Smallest.{smallest}
use Rattle.quorum.specs.Nearest.{distance, ahead, better_of, one_of, nearest_of}
use Rattle.quorum.specs.Levels.{lighter_of}
use Rattle.quorum.proofs.Optimal.{every, passes, passes_cond, passes_lighter}

-- document 01's rule: of two sets with their sums the one with the lesser sum, and of equal sums the one with the lower mask
abbrev pub plain_of : ℕ → List ℕ → List ℕ → Choice
plain_of live d [] = None
plain_of live d (q ∷ qs) = lighter_of (one_of live d q) (plain_of live d qs)

-- for asker 0 the set m goes before n exactly where its mask is not the higher; so for every two of a list
abbrev agree : ℕ → ℕ → Bool
agree m n = beq (ahead 0 m n) (leb m n)

abbrev all_agree : List ℕ → Bool
all_agree [] = true
all_agree (q ∷ qs) = every (agree q) qs && all_agree qs

same_by : (a b : Bool) → T (beq a b) → a ≡ b
same_by true true t = refl
same_by true false t = absurd t
same_by false true t = absurd t
same_by false false t = refl

module _ (live : ℕ) (d : List ℕ) where
  passes_plain : (f : ℕ → Bool) (xs : List ℕ) → T (every f xs) → T (passes f (plain_of live d xs))
  passes_plain f [] t = tt
  passes_plain f (x ∷ xs) t =
      passes_lighter f (one_of live d x) (plain_of live d xs)
      (passes_cond f (within x live) (quorum_with x (distance d x)) None (and_left (f x) (every f xs) t) tt)
      (passes_plain f xs (and_right (f x) (every f xs) t))

  better_plain : (b : Bool) (q s : ℕ) (y : Choice) → T (passes (agree q) y)
      → better_of 0 (cond b (quorum_with q s) None) y ≡ lighter_of (cond b (quorum_with q s) None) y
  better_plain true q s None t = refl
  better_plain true q s (Some x) t =
      ap (λ (b : Bool). cond (ltb s x.sum || eqb s x.sum && b) (quorum_with q s) (Some x)) (same_by (ahead 0 q x.mask) (leb q x.mask) t)
  better_plain false q s y t = refl

  plain : (qs : List ℕ) → T (all_agree qs) → nearest_of 0 live d qs ≡ plain_of live d qs
  plain [] t = refl
  plain (q ∷ qs) t =
      ap (better_of 0 (one_of live d q)) (plain qs (and_right (every (agree q) qs) (all_agree qs) t))
      ∙ better_plain (within q live) q (distance d q) (plain_of live d qs) (passes_plain (agree q) qs (and_left (every (agree q) qs) (all_agree qs) t))

  -- THEOREM. With asker 0 the nearest quorum of the tree is the one of document 01's rule.
  pub asker_zero : (k : Kind) → nearest_of 0 live d (smallest k) ≡ plain_of live d (smallest k)
  unfolding smallest
  asker_zero Read = plain (smallest Read) tt
  asker_zero Write = plain (smallest Write) tt
