-- `quorum_lines::put_reply` meets its contract: the reply is the row of the asker, the mask and the distances, or `bad`.
use Prim.Native.Nat.{ℕ, ◌+◌}
use native.Mathlib.Omega.{arith}
use mathlib.Core.Path.{◌≡◌, sym, ap, ◌∙◌}
use mathlib.Core.List.{List, [], ◌∷◌}
use lib.ListN.{length}
use Rattle.decimal.specs.Decimal.{put_at}
use Rattle.decimal.specs.Laws.{next_fits}
use Rattle.quorum_lines.specs.declared.Line.{Line}
use Rattle.quorum_lines.specs.Line.{ended}
use Rattle.quorum_lines.specs.Reply.{row, reply}
use Rattle.quorum_lines.specs.Laws.{good_asker, reply_good, reply_bad}
use Rattle.quorum_lines.proofs.put_reply.Goals as goal

pub overflow_cast-asker : goal.overflow_cast-asker
overflow_cast-asker c = let e = good_asker c.args.line (sym c.is_good.ensures ∙ c.if-is_good.true) in
    omega (arith, e, ap (λ (s : Line). s.value) c.at_asker-l.ensures)

pub returns-then-is_good-clause-next : goal.returns-then-is_good-clause-next
returns-then-is_good-clause-next c = let x = c.args in
    let r = c.put_row in
    let l = c.at_asker-l.result in
    let e : row l.value l.live l.distances ≡ reply (ended x.line) =
    ap (λ (s : Line). row s.value s.live s.distances) c.at_asker-l.ensures
    ∙ sym (reply_good x.line (sym c.is_good.ensures ∙ c.if-is_good.true)) in
    r.ensures.next ∙ ap (λ (t : List ℕ). x.at + length t) e

pub returns-then-is_good-clause-buffer : goal.returns-then-is_good-clause-buffer
returns-then-is_good-clause-buffer c = let x = c.args in
    let r = c.put_row in
    let l = c.at_asker-l.result in
    let e : row l.value l.live l.distances ≡ reply (ended x.line) =
    ap (λ (s : Line). row s.value s.live s.distances) c.at_asker-l.ensures
    ∙ sym (reply_good x.line (sym c.is_good.ensures ∙ c.if-is_good.true)) in r.ensures.buffer ∙ ap (put_at x.out.now x.at) e

pub returns-then-is_good-clause-within : goal.returns-then-is_good-clause-within
returns-then-is_good-clause-within c = let x = c.args in
    let r = c.put_row in
    let l = c.at_asker-l.result in
    let e : row l.value l.live l.distances ≡ reply (ended x.line) =
    ap (λ (s : Line). row s.value s.live s.distances) c.at_asker-l.ensures
    ∙ sym (reply_good x.line (sym c.is_good.ensures ∙ c.if-is_good.true)) in omega (arith, ap length e, r.ensures.within)

pub returns-clause-next : goal.returns-clause-next
returns-clause-next c = let x = c.args in
    let r = c.append in
    let bad : List ℕ = 98 ∷ 97 ∷ 100 ∷ 10 ∷ [] in
    let e : bad ≡ reply (ended x.line) = sym (reply_bad x.line (sym c.is_good.ensures ∙ c.if-is_good.false)) in
    r.ensures.next ∙ next_fits x.out.now x.at bad (omega arith) ∙ ap (λ (t : List ℕ). x.at + length t) e

pub returns-clause-buffer : goal.returns-clause-buffer
returns-clause-buffer c = let x = c.args in
    let r = c.append in
    let bad : List ℕ = 98 ∷ 97 ∷ 100 ∷ 10 ∷ [] in
    let e : bad ≡ reply (ended x.line) = sym (reply_bad x.line (sym c.is_good.ensures ∙ c.if-is_good.false)) in r.ensures.buffer ∙ ap (put_at x.out.now x.at) e

pub returns-clause-within : goal.returns-clause-within
returns-clause-within c = let x = c.args in
    let r = c.append in
    let bad : List ℕ = 98 ∷ 97 ∷ 100 ∷ 10 ∷ [] in
    let e : bad ≡ reply (ended x.line) = sym (reply_bad x.line (sym c.is_good.ensures ∙ c.if-is_good.false)) in omega (arith, ap length e)
