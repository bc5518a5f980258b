-- `judge::judge::judged`: what was weighed, and whether a rival is older, make the vote.
use mathlib.Core.Path.{◌≡◌}
use mathlib.Core.Bool.{Bool, ◌||◌}
use mathlib.Core.List.{List}
use Prim.Native.Nat.{ℕ}
use Rattle.wire.specs.Decode.{owner_of, decode}
use Rattle.judge.specs.declared.Verdict.{Verdict}
use Rattle.judge.specs.declared.Weighed.{Weighed}
use Rattle.judge.specs.Judge.{older_among, votes_no, verdict_of}
use Rattle.judge.specs.Weighing.{Weighs}
use Rattle.judge.proofs.judge.judged.Goals as goal

made : (l b : List ℕ) (w : Weighed) (o : ℕ) (r old : Bool) → Weighs l (decode b) w → o ≡ owner_of b → old ≡ older_among l w.rivals o
    → r ≡ (w.barred || old) → ◌≡◌ {A = Verdict} (record { no = r; rivals = w.rivals }) (verdict_of l (decode b))
unfolding votes_no decode
made l b w o r old k e f g = rw (g, k.bars, f, k.rivals, e)

pub returns : goal.returns
returns c = let w = c.weigh-w in
    let o = c.owner-o in
    made _ _ w.result o.result c.either-no.result c.older_among.result w.ensures o.ensures c.older_among.ensures
    c.either-no.ensures
