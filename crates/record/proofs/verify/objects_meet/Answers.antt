-- `record::verify::objects_meet`: each test in turn.
use native.Mathlib.Omega.{arith}
use mathlib.Core.Path.{◌≡◌, sym, ap, ◌∙◌}
use Prim.Native.Nat.{ℕ}
use borrow.Author.Tests.{lt-leb, le-leb}
use lib.ListN.{get_or}
use Rattle.numbers.specs.Sizes.{most_open}
use Rattle.clauses.specs.Clauses.{zeros}
use Rattle.record.specs.Record.{record_of}
use Rattle.record.specs.Valid.{places_ok, past_bytes, objects_ok}
use Rattle.record.proofs.verify.objects_meet.Goals as goal

pub returns-then-count-gt-MOST_OPEN : goal.returns-then-count-gt-MOST_OPEN
unfolding objects_ok record_of
returns-then-count-gt-MOST_OPEN c = let l = c.args.bytes.now in
    simp (lt-leb (get_or l 42 0) most_open (omega arith))

pub returns-then-not-places_meet : goal.returns-then-not-places_meet
unfolding objects_ok record_of
returns-then-not-places_meet c = let l = c.args.bytes.now in
    let n : c.wide-count.result ≡ get_or l 42 0 = cc in
    let p = sym (c.places_meet.ensures ∙ ap (λ (k : ℕ). places_ok k l) n) ∙ c.if-not-places_meet.true in
    simp (le-leb (get_or l 42 0) most_open (omega arith), p)

pub returns : goal.returns
unfolding objects_ok record_of
returns c = let l = c.args.bytes.now in
    let n : c.wide-count.result ≡ get_or l 42 0 = cc in
    let p = sym (c.places_meet.ensures ∙ ap (λ (k : ℕ). places_ok k l) n) ∙ c.if-not-places_meet.false in
    simp (le-leb (get_or l 42 0) most_open (omega arith), p) (c.are_zero.ensures ∙ ap (λ (k : ℕ). zeros (past_bytes k l)) n)
