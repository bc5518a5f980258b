-- `record::verify::is_valid`: each test in turn.
use mathlib.Core.Path.{◌≡◌, sym, ◌∙◌}
use mathlib.Core.Bool.{true, false, ◌&&◌}
use Rattle.clauses.specs.Clauses.{votes_meet, dones_meet}
use Rattle.record.specs.Record.{record_of}
use Rattle.record.specs.Valid.{valid_of}
use Rattle.record.proofs.verify.is_valid.Goals as goal

pub returns-then-not-numbers_meet : goal.returns-then-not-numbers_meet
unfolding valid_of
returns-then-not-numbers_meet c = simp (sym c.numbers_meet.ensures ∙ c.if-not-numbers_meet.true)

pub returns-then-not-nodes_meet : goal.returns-then-not-nodes_meet
unfolding valid_of
returns-then-not-nodes_meet c = let a = sym c.numbers_meet.ensures ∙ c.if-not-numbers_meet.false in
    simp (a, sym c.nodes_meet.ensures ∙ c.if-not-nodes_meet.true)

pub returns-then-not-party_meets : goal.returns-then-not-party_meets
unfolding valid_of
returns-then-not-party_meets c = let a = sym c.numbers_meet.ensures ∙ c.if-not-numbers_meet.false in
    let b = sym c.nodes_meet.ensures ∙ c.if-not-nodes_meet.false in
    simp (a, b, sym c.party_meets.ensures ∙ c.if-not-party_meets.true)

pub returns-then-not-both : goal.returns-then-not-both
unfolding valid_of
returns-then-not-both c = let l = c.args.bytes.now in
    let a = sym c.numbers_meet.ensures ∙ c.if-not-numbers_meet.false in
    let b = sym c.nodes_meet.ensures ∙ c.if-not-nodes_meet.false in
    let p = sym c.party_meets.ensures ∙ c.if-not-party_meets.false in
    let e : (votes_meet (record_of l) && dones_meet (record_of l)) ≡ false = cc c.if-not-both.true in
    simp (a, b, p, e)

pub returns : goal.returns
unfolding valid_of
returns c = let l = c.args.bytes.now in
    let a = sym c.numbers_meet.ensures ∙ c.if-not-numbers_meet.false in
    let b = sym c.nodes_meet.ensures ∙ c.if-not-nodes_meet.false in
    let p = sym c.party_meets.ensures ∙ c.if-not-party_meets.false in
    let e : (votes_meet (record_of l) && dones_meet (record_of l)) ≡ true = cc c.if-not-both.false in
    simp (a, b, p, e) c.objects_meet.ensures
