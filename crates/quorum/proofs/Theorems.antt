-- What holds of quorums and of the choice, one theorem for each sentence.
use mathlib.Core.Path.{◌≡◌, refl, sym, ap, subst, ◌∙◌}
use mathlib.Core.Bool.{Bool, true, false, not, cond, ◌||◌, not-not}
use mathlib.Core.List.{List, [], ◌∷◌}
use Prim.Native.Nat.{ℕ, ◌<◌}
use native.Mathlib.Omega.{arith}
use lib.Dec.{T}
use lib.ListN.{length, get_or}
use Rattle.std.specs.Prelude.{Some, None}
use Rattle.numbers.specs.Numbers.{no_quorum}
use Rattle.mask.specs.Mask.{contains, within}
use Rattle.mask.proofs.Laws.{within_contains, within_self}
use Rattle.quorum.specs.Choice.{Choice, quorum_with}
use Rattle.quorum.specs.declared.Kind.{Kind}
use Rattle.quorum.specs.declared.Kind.TheVariants.{Read, Write}
use Rattle.quorum.specs.Tree.{leaves, root, height}
use Rattle.quorum.specs.Quorum.{is_quorum}
use Rattle.quorum.specs.Smallest.{smallest}
use Rattle.quorum.specs.Nearest.{distance, nearer, better_of, one_of, nearest_of, number_of, mask_of, sum_of}
use Rattle.quorum.proofs.Meet.{meet, write_root, larger}
use Rattle.quorum.proofs.Apart.{apart_from, all_apart, same_place}
use Rattle.quorum.proofs.Contain.{any_within, any_smallest}
use Rattle.quorum.proofs.Near.{as_near, as_near_self, as_near_left, as_near_right}

-- ---- the tree
-- nodes 4 to 12 are the leaves
pub leaves_4_to_12 : leaves height root ≡ 4 ∷ 5 ∷ 6 ∷ 7 ∷ 8 ∷ 9 ∷ 10 ∷ 11 ∷ 12 ∷ []
leaves_4_to_12 = refl

-- ---- quorums
-- node 0 is in every write quorum
pub root_in_write : (w : ℕ) → T (is_quorum Write w) → T (contains w root)
unfolding is_quorum
root_in_write w = write_root (contains w) height root

-- every read quorum meets every write quorum
pub read_meets_write : (m w : ℕ) → T (is_quorum Read m) → T (is_quorum Write w) → (i : ℕ) × T (contains m i) × T (contains w i)
unfolding is_quorum
read_meets_write m w = meet (contains m) (contains w) height root

-- any two write quorums meet
pub write_meets_write : (v w : ℕ) → T (is_quorum Write v) → T (is_quorum Write w) → (i : ℕ) × T (contains v i) × T (contains w i)
write_meets_write v w s t = (root, root_in_write v s, root_in_write w t)

-- a larger set that contains a quorum counts as one too
pub larger_counts : (k : Kind) (a b : ℕ) → T (within a b) → T (is_quorum k a) → T (is_quorum k b)
unfolding is_quorum
larger_counts k a b s = larger k (contains a) (contains b) (within_contains a b s) height root

-- a set is a quorum exactly when it contains a smallest one
pub quorum_contains_smallest : (k : Kind) (m : ℕ) → is_quorum k m ≡ any_within (smallest k) m
unfolding is_quorum smallest
quorum_contains_smallest k m = sym (any_smallest m k height root)

-- there are 49 smallest read quorums and 27 smallest write quorums
pub reads_49 : length (smallest Read) ≡ 49
unfolding smallest
reads_49 = refl

pub writes_27 : length (smallest Write) ≡ 27
unfolding smallest
writes_27 = refl

-- no smallest quorum contains another: one that is inside another of the list stands in the same place
smallest_apart : (k : Kind) → T (all_apart (smallest k))
unfolding smallest apart_from all_apart
smallest_apart Read = tt
smallest_apart Write = tt

pub none_inside : (k : Kind) (i j : ℕ) → i < length (smallest k) → j < length (smallest k)
    → T (within (get_or (smallest k) i 0) (get_or (smallest k) j 0)) → i ≡ j
none_inside k = same_place (smallest k) (smallest_apart k)

-- and none is listed twice
pub listed_once : (k : Kind) (i j : ℕ) → i < length (smallest k) → j < length (smallest k) → get_or (smallest k) i 0 ≡ get_or (smallest k) j 0 → i ≡ j
listed_once k i j h g e = none_inside k i j h g (subst (λ (q : ℕ). T (within (get_or (smallest k) i 0) q)) e (within_self (get_or (smallest k) i 0)))

-- ---- the nearest of a list
pub data In : ℕ → List ℕ → Type 0 where
  here : {q : ℕ} {qs : List ℕ} → In q (q ∷ qs)
  there : {q p : ℕ} {qs : List ℕ} → In q qs → In q (p ∷ qs)

-- no set of the list inside live is nearer than the choice
pub none_nearer : (asker live : ℕ) (d : List ℕ) (q : ℕ) (qs : List ℕ) → In q qs → T (within q live)
    → T (as_near asker (nearest_of asker live d qs) q (distance d q))
none_nearer asker live d q qs (here {qs = rest}) w = as_near_left asker (one_of live d q) (nearest_of asker live d rest) q (distance d q)
    (by (within q live) w)
  where
    by : (b : Bool) → T b → T (as_near asker (cond b (quorum_with q (distance d q)) None) q (distance d q))
    by true t = as_near_self asker q (distance d q)
    by false t = absurd t
none_nearer asker live d q qs (there {p = p} {qs = rest} i) w =
    as_near_right asker (one_of live d p) (nearest_of asker live d rest) q (distance d q) (none_nearer asker live d q rest i w)

-- a choice is one of the list, inside live, with its own sum
abbrev pub Chosen : ℕ → List ℕ → List ℕ → Choice → Type 0
Chosen live d qs None = T true
Chosen live d qs (Some x) = In x.mask qs × T (within x.mask live) × (x.sum ≡ distance d x.mask)

chosen_better : (asker live : ℕ) (d qs : List ℕ) (x y : Choice) → Chosen live d qs x → Chosen live d qs y → Chosen live d qs (better_of asker x y)
chosen_better asker live d qs None y p q = q
chosen_better asker live d qs (Some x) None p q = p
chosen_better asker live d qs (Some x) (Some y) p q = by (nearer asker x.mask x.sum y.mask y.sum)
  where
    by : (b : Bool) → Chosen live d qs (cond b (Some x) (Some y))
    by true = p
    by false = q

chosen_more : (live : ℕ) (d : List ℕ) (q : ℕ) (qs : List ℕ) (x : Choice) → Chosen live d qs x → Chosen live d (q ∷ qs) x
chosen_more live d q qs None p = tt
chosen_more live d q qs (Some x) p = (there p.0, p.1, p.2)

pub chosen : (asker live : ℕ) (d qs : List ℕ) → Chosen live d qs (nearest_of asker live d qs)
chosen asker live d [] = tt
chosen asker live d (q ∷ qs) =
    chosen_better asker live d (q ∷ qs) (one_of live d q) (nearest_of asker live d qs) (by (within q live) (λ t. t))
    (chosen_more live d q qs (nearest_of asker live d qs) (chosen asker live d qs))
  where
    by : (b : Bool) → (T b → T (within q live)) → Chosen live d (q ∷ qs) (cond b (quorum_with q (distance d q)) None)
    by true f = (here, f tt, refl)
    by false f = tt

-- nothing is chosen exactly when no set of the list is inside live
abbrev pub is_nothing : Choice → Bool
is_nothing None = true
is_nothing (Some x) = false

nothing_better : (asker : ℕ) (b : Bool) (q s : ℕ) (y : Choice) → is_nothing (better_of asker (cond b (quorum_with q s) None) y) ≡ not (b || not (is_nothing y))
nothing_better asker true q s None = refl
nothing_better asker true q s (Some x) = by (nearer asker q s x.mask x.sum)
  where
    by : (b : Bool) → is_nothing (cond b (quorum_with q s) (Some x)) ≡ false
    by true = refl
    by false = refl
nothing_better asker false q s None = refl
nothing_better asker false q s (Some x) = refl

pub none_in_list : (asker live : ℕ) (d qs : List ℕ) → is_nothing (nearest_of asker live d qs) ≡ not (any_within qs live)
none_in_list asker live d [] = refl
none_in_list asker live d (q ∷ qs) =
    nothing_better asker (within q live) q (distance d q) (nearest_of asker live d qs)
    ∙ ap (λ (b : Bool). not (within q live || b)) (ap not (none_in_list asker live d qs) ∙ not-not (any_within qs live))

-- 'no quorum' is said exactly when live contains none
pub none_exactly : (k : Kind) (asker live : ℕ) (d : List ℕ) → is_nothing (nearest_of asker live d (smallest k)) ≡ not (is_quorum k live)
unfolding is_quorum smallest
none_exactly k asker live d = none_in_list asker live d (smallest k) ∙ ap not (any_smallest live k height root)

-- ---- document 01's number and values
number_by : (x : Choice) → number_of x ≡ cond (is_nothing x) no_quorum 0
number_by None = refl
number_by (Some x) = refl

not_cond : (b : Bool) → cond (not b) no_quorum 0 ≡ cond b 0 no_quorum
not_cond true = refl
not_cond false = refl

pub number_exactly : (k : Kind) (asker live : ℕ) (d : List ℕ) → number_of (nearest_of asker live d (smallest k)) ≡ cond (is_quorum k live) 0 no_quorum
number_exactly k asker live d =
    number_by (nearest_of asker live d (smallest k)) ∙ ap (λ (b : Bool). cond b no_quorum 0) (none_exactly k asker live d) ∙ not_cond (is_quorum k live)

-- the sum is the set's own, 0 for none
distance_none : (d : List ℕ) → distance d 0 ≡ 0
distance_none [] = refl
distance_none (x ∷ d) = omega (arith, distance_none d)

own_sum : (live : ℕ) (d qs : List ℕ) (x : Choice) → Chosen live d qs x → sum_of x ≡ distance d (mask_of x)
own_sum live d qs None p = sym (distance_none d)
own_sum live d qs (Some x) p = p.2

pub sum_exactly : (asker live : ℕ) (d qs : List ℕ) → sum_of (nearest_of asker live d qs) ≡ distance d (mask_of (nearest_of asker live d qs))
sum_exactly asker live d qs = own_sum live d qs (nearest_of asker live d qs) (chosen asker live d qs)
