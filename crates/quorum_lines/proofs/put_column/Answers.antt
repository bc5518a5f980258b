-- `quorum_lines::put_column` meets its contract: the choice is put behind the space.
use Prim.Native.Nat.{ℕ, ◌+◌}
use native.Mathlib.Omega.{arith}
use mathlib.Core.Path.{◌≡◌, ap, ◌∙◌}
use mathlib.Core.List.{List, [], ◌∷◌, ◌++◌}
use lib.ListN.{length}
use Rattle.decimal.specs.Decimal.{put_at}
use Rattle.decimal.specs.Laws.{put_first, put_next, behind_length}
use Rattle.quorum_lines.specs.Reply.{chosen, choice_text, column}
use Rattle.quorum_lines.proofs.put_column.Goals as goal

pub put_choice-requires : goal.put_choice-requires
put_choice-requires c = let x = c.args in
    let r = c.append-a in
    let s = put_first x.out.now x.at (32 ∷ []) (omega arith) r.ensures.next r.ensures.buffer in
    omega (arith, behind_length x.out.now x.at (32 ∷ []) s)

pub returns-clause-next : goal.returns-clause-next
unfolding chosen column
returns-clause-next c = let x = c.args in
    let l = x.out.now in
    let a = c.append-a in
    let r = c.put_choice.ensures in
    let t = choice_text c.nearest-choice.result in
    let h = c.requires in
    let s = put_first l x.at (32 ∷ []) (omega arith) a.ensures.next a.ensures.buffer in
    let u = put_next l x.at (32 ∷ []) t (omega (arith, r.within)) s (r.next, r.buffer) in
    let e : (32 ∷ []) ++ t ≡ column x.kind x.asker x.live x.distances.now =
    ap (λ k. (32 ∷ []) ++ choice_text k) c.nearest-choice.ensures.value in u.0 ∙ ap (λ (k : List ℕ). x.at + length k) e

pub returns-clause-buffer : goal.returns-clause-buffer
unfolding chosen column
returns-clause-buffer c = let x = c.args in
    let l = x.out.now in
    let a = c.append-a in
    let r = c.put_choice.ensures in
    let t = choice_text c.nearest-choice.result in
    let h = c.requires in
    let s = put_first l x.at (32 ∷ []) (omega arith) a.ensures.next a.ensures.buffer in
    let u = put_next l x.at (32 ∷ []) t (omega (arith, r.within)) s (r.next, r.buffer) in
    let e : (32 ∷ []) ++ t ≡ column x.kind x.asker x.live x.distances.now =
    ap (λ k. (32 ∷ []) ++ choice_text k) c.nearest-choice.ensures.value in u.1 ∙ ap (put_at l x.at) e

pub returns-clause-within : goal.returns-clause-within
unfolding chosen column
returns-clause-within c = let x = c.args in
    let l = x.out.now in
    let a = c.append-a in
    let r = c.put_choice.ensures in
    let t = choice_text c.nearest-choice.result in
    let h = c.requires in
    let s = put_first l x.at (32 ∷ []) (omega arith) a.ensures.next a.ensures.buffer in
    let u = put_next l x.at (32 ∷ []) t (omega (arith, r.within)) s (r.next, r.buffer) in
    let e : (32 ∷ []) ++ t ≡ column x.kind x.asker x.live x.distances.now =
    ap (λ k. (32 ∷ []) ++ choice_text k) c.nearest-choice.ensures.value in omega (arith, ap length e, r.within)
