-- `quorum::nearest`: the key at the root means the level-by-level choice, which is the nearness rule (Optimal).
use mathlib.Core.Path.{◌≡◌, sym, ap, subst, ◌∙◌}
use mathlib.Core.Bool.{cond}
use mathlib.Core.List.{List}
use Prim.Native.Nat.{ℕ}
use native.Mathlib.Omega.{arith}
use lib.ListN.{get_or}
use Rattle.numbers.specs.Numbers.{no_quorum}
use Rattle.quorum.specs.Choice.{Choice}
use Rattle.quorum.specs.declared.Kind.{Kind}
use Rattle.quorum.specs.Quorum.{is_quorum}
use Rattle.quorum.specs.Smallest.{smallest}
use Rattle.quorum.specs.Nearest.{distance, nearest_of, number_of, mask_of, sum_of}
use Rattle.quorum.specs.Levels.{best_of}
use Rattle.quorum.specs.Key.{Means, AllMean, AllSmall, root_key, best_key, best_pair_key}
use Rattle.quorum.proofs.Near.{weighed}
use Rattle.quorum.proofs.Optimal.{optimal, mask_small, turns, few_turns}
use Rattle.quorum.proofs.Theorems.{number_exactly, sum_exactly}
use Rattle.quorum.proofs.Steps.{pair_small}
use Rattle.quorum.proofs.Keys.{means_best, meant, meant_nothing}
use Rattle.quorum.proofs.nearest.Goals as goal

-- what holds of the nearest holds of the answer
all_said : (k : Kind) (asker live : ℕ) (d : List ℕ) (r : Choice) → r ≡ nearest_of asker live d (smallest k)
    → (r ≡ nearest_of asker live d (smallest k)) × ((number_of r ≡ cond (is_quorum k live) 0 no_quorum) × (sum_of r ≡ distance d (mask_of r)))
all_said k asker live d r e =
    let s = sum_exactly asker live d (smallest k) in
    (e, (ap number_of e ∙ number_exactly k asker live d, subst (λ (x : Choice). sum_of x ≡ distance d (mask_of x)) (sym e) s))

-- the key at the root means the nearest quorum, weighed
meaning : (k : Kind) (asker live : ℕ) (d ks : List ℕ) (key : ℕ) → AllMean asker live d ks → key ≡ root_key k (get_or ks 0 0) (best_pair_key k ks 1 0)
    → Means 2818005 key (weighed asker (turns k) (nearest_of asker live d (smallest k)))
unfolding best_key best_pair_key
meaning k asker live d ks key f e =
    subst (Means 2818005 key) (optimal asker live d k)
    (subst (λ (n : ℕ). Means 2818005 n (best_of k asker live d 2 0)) (sym e) (means_best k asker live d ks f))

pub best_pair-pair-requires : goal.best_pair-pair-requires
best_pair-pair-requires c = (omega arith, omega arith, λ i h. (c.keys_of-keys.ensures i h).1)

pub with_root-key-requires : goal.with_root-key-requires
with_root-key-requires c = let small : AllSmall c.keys_of-keys.result = λ i h. (c.keys_of-keys.ensures i h).1 in
    omega (arith, small 0 (omega arith), c.best_pair-pair.ensures, pair_small c.args.kind c.keys_of-keys.result small 1 0 (omega arith) (omega arith))

pub returns-then-key-lt-ABSENT-clause-value : goal.returns-then-key-lt-ABSENT-clause-value
returns-then-key-lt-ABSENT-clause-value c = let a = c.args in
    let d = a.distances.now in
    let k = c.with_root-key in
    let ks = c.keys_of-keys.result in
    let e = k.ensures ∙ ap (root_key a.kind (get_or ks 0 0)) c.best_pair-pair.ensures in
    let m = meaning a.kind a.asker a.live d ks k.result c.keys_of-keys.ensures e in
    let small = mask_small a.asker a.live d a.kind in (all_said a.kind a.asker a.live d _
    (meant a.asker (turns a.kind) 2818005 k.result _ (omega arith) (few_turns a.kind) m small c.if-key-lt-ABSENT.true).2).0

pub returns-then-key-lt-ABSENT-clause-result_value : goal.returns-then-key-lt-ABSENT-clause-result_value
returns-then-key-lt-ABSENT-clause-result_value c = let a = c.args in
    let d = a.distances.now in
    let k = c.with_root-key in
    let ks = c.keys_of-keys.result in
    let e = k.ensures ∙ ap (root_key a.kind (get_or ks 0 0)) c.best_pair-pair.ensures in
    let m = meaning a.kind a.asker a.live d ks k.result c.keys_of-keys.ensures e in
    let small = mask_small a.asker a.live d a.kind in (all_said a.kind a.asker a.live d _
    (meant a.asker (turns a.kind) 2818005 k.result _ (omega arith) (few_turns a.kind) m small c.if-key-lt-ABSENT.true).2).1.0

pub returns-then-key-lt-ABSENT-clause-result_value_2 : goal.returns-then-key-lt-ABSENT-clause-result_value_2
returns-then-key-lt-ABSENT-clause-result_value_2 c = let a = c.args in
    let d = a.distances.now in
    let k = c.with_root-key in
    let ks = c.keys_of-keys.result in
    let e = k.ensures ∙ ap (root_key a.kind (get_or ks 0 0)) c.best_pair-pair.ensures in
    let m = meaning a.kind a.asker a.live d ks k.result c.keys_of-keys.ensures e in
    let small = mask_small a.asker a.live d a.kind in (all_said a.kind a.asker a.live d _
    (meant a.asker (turns a.kind) 2818005 k.result _ (omega arith) (few_turns a.kind) m small c.if-key-lt-ABSENT.true).2).1.1

pub returns-else-key-lt-ABSENT-clause-value : goal.returns-else-key-lt-ABSENT-clause-value
returns-else-key-lt-ABSENT-clause-value c = let a = c.args in
    let d = a.distances.now in
    let k = c.with_root-key in
    let ks = c.keys_of-keys.result in
    let e = k.ensures ∙ ap (root_key a.kind (get_or ks 0 0)) c.best_pair-pair.ensures in
    let m = meaning a.kind a.asker a.live d ks k.result c.keys_of-keys.ensures e
    in (all_said a.kind a.asker a.live d _ (meant_nothing a.asker (turns a.kind) 2818005 k.result _ (omega arith) m c.if-key-lt-ABSENT.false)).0

pub returns-else-key-lt-ABSENT-clause-result_value : goal.returns-else-key-lt-ABSENT-clause-result_value
returns-else-key-lt-ABSENT-clause-result_value c = let a = c.args in
    let d = a.distances.now in
    let k = c.with_root-key in
    let ks = c.keys_of-keys.result in
    let e = k.ensures ∙ ap (root_key a.kind (get_or ks 0 0)) c.best_pair-pair.ensures in
    let m = meaning a.kind a.asker a.live d ks k.result c.keys_of-keys.ensures e
    in (all_said a.kind a.asker a.live d _ (meant_nothing a.asker (turns a.kind) 2818005 k.result _ (omega arith) m c.if-key-lt-ABSENT.false)).1.0

pub returns-else-key-lt-ABSENT-clause-result_value_2 : goal.returns-else-key-lt-ABSENT-clause-result_value_2
returns-else-key-lt-ABSENT-clause-result_value_2 c = let a = c.args in
    let d = a.distances.now in
    let k = c.with_root-key in
    let ks = c.keys_of-keys.result in
    let e = k.ensures ∙ ap (root_key a.kind (get_or ks 0 0)) c.best_pair-pair.ensures in
    let m = meaning a.kind a.asker a.live d ks k.result c.keys_of-keys.ensures e
    in (all_said a.kind a.asker a.live d _ (meant_nothing a.asker (turns a.kind) 2818005 k.result _ (omega arith) m c.if-key-lt-ABSENT.false)).1.1
