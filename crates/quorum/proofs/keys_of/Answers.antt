-- `quorum::keys_of`: each key written so far is that of its node by itself.
use Prim.Native.Nat.{ℕ, ◌≤◌}
use native.Mathlib.Omega.{arith}
use mathlib.Core.Path.{sym, subst, ◌∙◌}
use borrow.Author.Count.{below_more}
use lib.ListN.{length-set}
use lib.Seq.{get_or-set_same, get_or-set_other}
use Rattle.quorum.specs.Levels.{alone_of}
use Rattle.quorum.specs.Key.{absent, Means, height_of}
use Rattle.quorum.proofs.keys_of.Goals as goal

pub loop-i-preserved : goal.loop-i-preserved
loop-i-preserved c = let l = c.loop-i in
    let a = c.args in
    let v = c.alone.result in
    let is : ℕ → ℕ → Type 0 = λ j k. Means 65535 k (alone_of a.asker a.live a.distances.now (height_of j) j) × (k ≤ absent) in
    let here : is l.i v =
    subst (λ (h : ℕ). Means 65535 v (alone_of a.asker a.live a.distances.now h l.i) × (v ≤ absent)) c.height_of.ensures.0
    (c.alone.ensures.means, c.alone.ensures.upper_bound) in (
      length-set l.keys l.i v ∙ l.invariant.0,
      below_more _ l.i (λ j h. subst (is j) (sym (get_or-set_other l.keys l.i j v 0 (λ e. omega arith))) (l.invariant.1 j h))
          (subst (is l.i) (sym (get_or-set_same l.keys l.i v 0 (omega arith))) here),
    )
