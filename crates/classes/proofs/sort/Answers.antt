-- `classes::sort`: the sums are those of the definition, place by place.
use mathlib.Core.Path.{◌≡◌, ap, ◌∙◌}
use mathlib.Core.List.{List}
use Prim.Native.Nat.{ℕ, ◌+◌, ◌/◌, ◌%◌, ◌<◌}
use native.Mathlib.Omega.{arith}
use lib.ListN.{get_or}
use Rattle.classes.specs.Classes.{bounds}
use Rattle.classes.specs.Weights.{weights, weighed, together, grams_of, left_of}
use Rattle.classes.proofs.Laws.{up_at, up_same}
use Rattle.classes.proofs.Table.{sound_few}
use Rattle.classes.proofs.sort.Goals as goal

pub weigh-requires : goal.weigh-requires
weigh-requires c = sound_few c.args.kept.now c.requires

pub returns-clause-grams_value : goal.returns-clause-grams_value
unfolding grams_of left_of together
returns-clause-grams_value c = let x = c.args in
    let k = x.kept.now in
    let t = x.list.now in
    let s = c.weigh.result in
    let at : (i : ℕ) → i < 8 → get_or s i 0 ≡ weighed (bounds k) i (weights t) = λ i h.
    ap (λ (r : List ℕ). get_or r i 0) c.weigh.ensures ∙ up_at (λ (j : ℕ). weighed (bounds k) j (weights t)) 8 0 i h
    ∙ ap (λ (j : ℕ). weighed (bounds k) j (weights t)) (let z : 0 + i ≡ i = omega arith in z) in
    c.split.ensures.grams_value ∙ up_same _ _ 8 0 (λ i p h. ap (λ (n : ℕ). (get_or x.waiting i 0 + n) / 10) (at i (omega arith)))

pub returns-clause-left_value : goal.returns-clause-left_value
unfolding grams_of left_of together
returns-clause-left_value c = let x = c.args in
    let k = x.kept.now in
    let t = x.list.now in
    let s = c.weigh.result in
    let at : (i : ℕ) → i < 8 → get_or s i 0 ≡ weighed (bounds k) i (weights t) = λ i h.
    ap (λ (r : List ℕ). get_or r i 0) c.weigh.ensures ∙ up_at (λ (j : ℕ). weighed (bounds k) j (weights t)) 8 0 i h
    ∙ ap (λ (j : ℕ). weighed (bounds k) j (weights t)) (let z : 0 + i ≡ i = omega arith in z) in
    c.split.ensures.left_value ∙ up_same _ _ 8 0 (λ i p h. ap (λ (n : ℕ). (get_or x.waiting i 0 + n) % 10) (at i (omega arith)))
