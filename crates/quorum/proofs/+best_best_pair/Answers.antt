-- The cycle `best`, `best_pair`: each is one level of its definition; keys stay below 2 ^ 64.
use Prim.Native.Nat.{ℕ, ◌<◌, ◌≤◌, ◌+◌, ◌*◌, ◌-◌, ◌^◌}
use native.Mathlib.Omega.{arith}
use mathlib.Core.Path.{sym, ap, ◌∙◌}
use lib.ListN.{get_or}
use Rattle.quorum.specs.Key.{root_key, best_key, best_pair_key}
use Rattle.quorum.proofs.Steps.{root_le_last, last_step, child_last, best_zero, best_step, best_small, pair_small}
use Rattle.quorum.proofs.+best_best_pair.Goals as goal

pub best-bounds-keys-i : goal.best-bounds-keys-i
best-bounds-keys-i t c = omega (arith, root_le_last c.args.height c.args.root, c.requires.0)

pub best-returns-then-height-eq0 : goal.best-returns-then-height-eq0
best-returns-then-height-eq0 t c =
    let a = c.args in
    sym (best_zero a.kind a.keys.now a.height a.root c.if-height-eq0.true)

pub best-with_root-requires : goal.best-with_root-requires
best-with_root-requires t c =
    let a = c.args in
    let f = c.if-height-eq0.false in
    let ks = a.keys.now in
    omega (
      arith,
      c.requires.2 a.root (omega (arith, root_le_last a.height a.root, c.requires.0)),
      c.best_pair-pair.ensures,
      pair_small a.kind ks c.requires.2 (a.height - 1) a.root (omega arith) (omega (arith, last_step a.height a.root f, c.requires.0)),
    )

pub best-returns : goal.best-returns
best-returns t c =
    let a = c.args in
    let ks = a.keys.now in
    c.with_root.ensures ∙ ap (root_key a.kind (get_or ks a.root 0)) c.best_pair-pair.ensures ∙ sym (best_step a.kind ks a.height a.root c.if-height-eq0.false)

pub best_pair-choose_pair-requires : goal.best_pair-choose_pair-requires
best_pair-choose_pair-requires t c =
    let a = c.args in
    let small : (i : ℕ) → i ≤ 3 → best_key a.kind a.keys.now a.height (3 * a.root + i) < 2 ^ 60 = λ i e.
    best_small a.kind a.keys.now c.requires.2 a.height (3 * a.root + i) c.requires.1 (child_last a.height a.root i e c.requires.0) in (
      omega (arith, small 1 (omega arith), c.best-a.ensures),
      omega (arith, small 2 (omega arith), c.best-b.ensures),
      omega (arith, small 3 (omega arith), c.best-c.ensures),
    )

pub best_pair-returns : goal.best_pair-returns
unfolding best_pair_key
best_pair-returns t c = rw (c.choose_pair.ensures, c.best-a.ensures, c.best-b.ensures, c.best-c.ensures)
