-- The distances, one by one, and the answer for the nearest quorum, refusal by refusal.
use mathlib.Core.Path.{◌≡◌, refl, sym, ap, ◌∙◌}
use mathlib.Core.Bool.{true, false, not, not-not}
use mathlib.Core.List.{List}
use Prim.Native.Nat.{ℕ, zero, suc, ◌+◌, ◌*◌, ◌<◌, ◌≤◌}
use native.Mathlib.Omega.{arith}
use borrow.Author.Tests.{eq-eqb, ne_eqb, lt-ltb, le-ltb}
use lib.ListN.{length, get_or}
use lib.Seq.{ext_get_or}
use Rattle.std.specs.Prelude.{Some, None}
use Rattle.numbers.specs.Sizes.{nodes, every_node}
use Rattle.octets.specs.Octets.{get}
use Rattle.quorum.specs.declared.Kind.{Kind}
use Rattle.quorum.specs.Choice.{Choice}
use Rattle.quorum.specs.Quorum.{is_quorum}
use Rattle.quorum.specs.Smallest.{smallest}
use Rattle.quorum.specs.Nearest.{nearest_of, number_of}
use Rattle.quorum.proofs.Theorems.{is_nothing, none_exactly}
use Rattle.host.specs.Nearest.{answer_of, nearest_answer}
use Rattle.host.specs.Distances.{pairs_of, distances_of}

length_pairs : (n : ℕ) (l : List ℕ) (i : ℕ) → length (pairs_of n l i) ≡ n
unfolding pairs_of
length_pairs zero l i = refl
length_pairs (suc n) l i = ap suc (length_pairs n l (i + 2))

get_d_pairs : (n : ℕ) (l : List ℕ) (i j : ℕ) → j < n → get_or (pairs_of n l i) j 0 ≡ get 2 l (i + 2 * j)
unfolding pairs_of
get_d_pairs zero l i j h = absurd (omega arith)
get_d_pairs (suc n) l i zero h = let e : i ≡ i + 2 * 0 = omega arith in ap (get 2 l) e
get_d_pairs (suc n) l i (suc j) h = let e : i + 2 + 2 * j ≡ i + 2 * suc j = omega arith in get_d_pairs n l (i + 2) j (omega arith) ∙ ap (get 2 l) e

-- thirteen elements that are the numbers of two bytes are the distances
pub all_distances : (d l : List ℕ) → length d ≡ nodes → ((j : ℕ) → j < nodes → get_or d j 0 ≡ get 2 l (2 * j)) → d ≡ distances_of l
unfolding distances_of
all_distances d l e f =
    ext_get_or 0 d (pairs_of nodes l 0) (e ∙ sym (length_pairs nodes l 0))
    (λ j h. let z : 2 * j ≡ 0 + 2 * j = omega arith in f j (omega arith) ∙ ap (get 2 l) z ∙ sym (get_d_pairs nodes l 0 j (omega arith)))

-- ---- the answer, refusal by refusal
pub answer_length : (k : Kind) (live : ℕ) (bytes : List ℕ) (asker : ℕ) → (length bytes ≡ 26 → ⊥) → nearest_answer k live bytes asker ≡ answer_of 1 None
unfolding nearest_answer
answer_length k live bytes asker f = simp (ne_eqb (length bytes) 26 f)

pub answer_stranger : (k : Kind) (live : ℕ) (bytes : List ℕ) (asker : ℕ) → length bytes ≡ 26 → every_node < live
    → nearest_answer k live bytes asker ≡ answer_of 4 None
unfolding nearest_answer
answer_stranger k live bytes asker e h = simp (eq-eqb (length bytes) 26 e, lt-ltb every_node live h)

pub answer_no_node : (k : Kind) (live : ℕ) (bytes : List ℕ) (asker : ℕ) → length bytes ≡ 26 → live ≤ every_node → nodes ≤ asker
    → nearest_answer k live bytes asker ≡ answer_of 4 None
unfolding nearest_answer
answer_no_node k live bytes asker e h n = simp (eq-eqb (length bytes) 26 e, le-ltb every_node live h, le-ltb asker nodes n)

-- past these the choice alone decides: nothing is 8
pub answer_choice : (k : Kind) (live : ℕ) (bytes : List ℕ) (asker : ℕ) (x : Choice) → length bytes ≡ 26 → live ≤ every_node → asker < nodes
    → nearest_of asker live (distances_of bytes) (smallest k) ≡ x → nearest_answer k live bytes asker ≡ answer_of (number_of x) x
unfolding nearest_answer
answer_choice k live bytes asker None e h n p =
    let q : is_quorum k live ≡ false = sym (not-not (is_quorum k live)) ∙ ap not (sym (none_exactly k asker live (distances_of bytes)) ∙ ap is_nothing p) in
    simp (eq-eqb (length bytes) 26 e, le-ltb every_node live h, lt-ltb asker nodes n, q)
answer_choice k live bytes asker (Some x) e h n p =
    let q : is_quorum k live ≡ true = sym (not-not (is_quorum k live)) ∙ ap not (sym (none_exactly k asker live (distances_of bytes)) ∙ ap is_nothing p) in
    simp (eq-eqb (length bytes) 26 e, le-ltb every_node live h, lt-ltb asker nodes n, q, p)
