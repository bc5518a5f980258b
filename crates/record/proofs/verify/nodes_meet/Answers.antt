-- `record::verify::nodes_meet`: each test in turn, the three sizes at once.
use mathlib.Core.Path.{◌≡◌, sym, ap, ap₂, ◌∙◌}
use Prim.Native.Nat.{ℕ}
use Rattle.numbers.specs.Sizes.{every_node}
use Rattle.mask.specs.Mask.{within}
use mathlib.Core.Bool.{Bool, ◌&&◌}
use mathlib.Core.List.{List}
use borrow.Author.Tests.{eq-eqb, ne_eqb}
use lib.Dec.{eqb, leb}
use lib.ListN.{get_or}
use Rattle.octets.specs.Octets.{get}
use Rattle.clauses.specs.Clauses.{nodes_meet}
use Rattle.record.specs.Record.{record_of}
use Rattle.record.proofs.Valid.{three}
use Rattle.record.proofs.verify.nodes_meet.Goals as goal

-- the three masks as the fields that they are read from
known : (l : List ℕ) (live quorum contacted : ℕ) (small all : Bool) → live ≡ get 2 l 10 → quorum ≡ get 2 l 38 → contacted ≡ get 2 l 40
    → small ≡ (leb quorum every_node && leb contacted every_node) → all ≡ (leb live every_node && small) → (b : Bool) → all ≡ b
    → (leb (get 2 l 10) every_node && (leb (get 2 l 38) every_node && leb (get 2 l 40) every_node)) ≡ b
known l live quorum contacted small all e f g h i b j = cc

pub returns-then-not-both : goal.returns-then-not-both
unfolding nodes_meet record_of
returns-then-not-both c = let l = c.args.bytes.now in
    let g = known l _ _ _ _ _ c.get_u16.ensures c.get_u16-quorum.ensures
    c.get_u16-contacted.ensures
    c.both-small.ensures c.both.ensures _ c.if-not-both.true in
    rw three (simp g)

pub returns-then-not-are_present : goal.returns-then-not-are_present
unfolding nodes_meet record_of
returns-then-not-are_present c = let l = c.args.bytes.now in
    let g = known l _ _ _ _ _ c.get_u16.ensures
    c.get_u16-quorum.ensures c.get_u16-contacted.ensures
    c.both-small.ensures c.both.ensures _ c.if-not-both.false in
    rw three (simp (g, sym c.are_present.ensures ∙ c.if-not-are_present.true))

pub returns-then-get_u8-eq0 : goal.returns-then-get_u8-eq0
unfolding nodes_meet record_of
returns-then-get_u8-eq0 c = let l = c.args.bytes.now in
    let g = known l _ _ _ _ _ c.get_u16.ensures
    c.get_u16-quorum.ensures
    c.get_u16-contacted.ensures
    c.both-small.ensures c.both.ensures _
    c.if-not-both.false in
    let p = sym c.are_present.ensures ∙ c.if-not-are_present.false in
    let h : get_or l 42 0 ≡ 0 = sym c.get_u8.ensures ∙ c.if-get_u8-eq0.true in
    rw three (simp (g, p, eq-eqb (get_or l 42 0) 0 h) (ap (λ (n : ℕ). eqb n 0)
    c.get_u16-contacted.ensures))

pub returns-else-get_u8-eq0 : goal.returns-else-get_u8-eq0
unfolding nodes_meet record_of
returns-else-get_u8-eq0 c = let l = c.args.bytes.now in
    let g = known l _ _ _ _ _ c.get_u16.ensures
    c.get_u16-quorum.ensures
    c.get_u16-contacted.ensures
    c.both-small.ensures c.both.ensures _
    c.if-not-both.false in
    let p = sym c.are_present.ensures ∙ c.if-not-are_present.false in
    let h : get_or l 42 0 ≡ 0 → ⊥ = λ e. c.if-get_u8-eq0.false (c.get_u8.ensures ∙ e) in
    rw three (simp (g, p, ne_eqb (get_or l 42 0) 0 h)
    (c.subset.ensures
    ∙ ap₂ (λ (a b : ℕ). within a b) c.get_u16-quorum.ensures
    c.get_u16-contacted.ensures))
