-- `wire::verify::is_accepted`: the counts are the definition's, then the parts in its order.
use mathlib.Core.Path.{sym, ap, ap₂, ◌∙◌}
use Prim.Native.Nat.{ℕ, ◌+◌, ◌*◌}
use lib.ListN.{get_or}
use Rattle.wire.specs.declared.Head.{Head}
use Rattle.wire.specs.Formed.{entry_ok, rival_ok}
use Rattle.wire.specs.Decode.{kind_of, owner_of, to_of, entry_at, rival_at, items_from, entries_place}
use Rattle.wire.specs.Headed.{head_ok}
use Rattle.wire.specs.Run.{run, object_of, owner_in}
use Rattle.wire.proofs.Accepted.{sized_fits, accepted_when, not_accepted}
use Rattle.wire.proofs.verify.is_accepted.Goals as goal

pub returns-then-sized : goal.returns-then-sized
returns-then-sized c = let l = c.args.s.now in
    let n = c.entries-n.ensures.0 in
    let r = c.count_at-r.ensures.0 ∙ ap (λ (k : ℕ). get_or l (entries_place + 14 * k) 0) n in
    let w = c.count_at-w.ensures.0 ∙ ap₂ (λ (k j : ℕ). get_or l (entries_place + 14 * k + 1 + 5 * j) 0) n r in
    let h = c.head-h.ensures in
    let fits = sym (c.sized.ensures ∙ sized_fits l _ _ _ n r w) ∙ c.if-sized.true in
    let e = c.entries_ok.ensures
    ∙ ap₂ (λ (x : Head) (k : ℕ). run object_of (entry_ok x.kind) 0 (items_from entry_at 14 k l entries_place)) h n in
    let v = c.rivals_ok.ensures
    ∙ ap (λ (x : Head). run owner_in (rival_ok x.kind x.owner x.to) 0
    (items_from rival_at 5 c.count_at-r.result l (entries_place + 14 * c.entries-n.result + 1))) h
    ∙ ap₂ (λ (k j : ℕ). run owner_in (rival_ok (kind_of l) (owner_of l) (to_of l)) 0 (items_from rival_at 5 j l (entries_place + 14 * k + 1))) n r in
    simp (c.both.ensures, c.both-listed.ensures) (accepted_when l _ _ _ fits (c.head_ok.ensures ∙ ap head_ok h) e v)

pub returns-else-sized : goal.returns-else-sized
returns-else-sized c = let l = c.args.s.now in
    let n = c.entries-n.ensures.0 in
    let r = c.count_at-r.ensures.0 ∙ ap (λ (k : ℕ). get_or l (entries_place + 14 * k) 0) n in
    let w = c.count_at-w.ensures.0 ∙ ap₂ (λ (k j : ℕ). get_or l (entries_place + 14 * k + 1 + 5 * j) 0) n r in
    sym (not_accepted l (sym (c.sized.ensures ∙ sized_fits l _ _ _ n r w) ∙ c.if-sized.false))
