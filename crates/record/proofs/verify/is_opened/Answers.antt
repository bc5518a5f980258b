-- `record::verify::is_opened`: each test in turn, the three sizes at once.
use mathlib.Core.Path.{◌≡◌, sym, ap, ◌∙◌}
use mathlib.Core.Bool.{Bool, ◌&&◌}
use mathlib.Core.List.{List}
use Prim.Native.Nat.{ℕ}
use borrow.Author.Tests.{eq-eqb, ne_eqb}
use lib.Dec.{eqb, leb, ltb}
use lib.ListN.{get_or}
use Rattle.numbers.specs.Sizes.{objects}
use Rattle.octets.specs.Octets.{get}
use Rattle.mask.specs.Mask.{within}
use Rattle.clauses.specs.Clauses.{object_meets}
use Rattle.record.specs.Record.{object_of}
use Rattle.record.specs.Valid.{found_in, opened_in}
use Rattle.record.proofs.Valid.{three}
use Rattle.record.proofs.verify.is_opened.Goals as goal

-- the three sizes as the fields that they are read from
sizes : (l : List ℕ) (mode given object : ℕ) (known all : Bool) → mode ≡ get_or l 1 0 → given ≡ get_or l 16 0 → object ≡ get_or l 0 0
    → known ≡ (ltb object objects && ltb mode 2) → all ≡ (leb given 1 && known) → (b : Bool) → all ≡ b
    → (leb (get_or l 16 0) 1 && (ltb (get_or l 0 0) objects && ltb (get_or l 1 0) 2)) ≡ b
sizes l mode given object known all a e d f g b h = cc

-- the copies that came, as the nodes that they are read from
came_in : (l : List ℕ) (contacted came : ℕ) (r : Bool) → came ≡ get 2 l 2 → r ≡ within came contacted → (b : Bool) → r ≡ b → within (get 2 l 2) contacted ≡ b
came_in l contacted came r e f b h = cc

pub returns-then-not-both : goal.returns-then-not-both
unfolding opened_in found_in object_meets object_of
returns-then-not-both c = let l = c.args.x.now in
    let g = sizes l _ _ _ _ _ c.get_u8-mode.ensures c.get_u8-given.ensures
    c.get_u8.ensures c.both-known.ensures
    c.both.ensures _ c.if-not-both.true in
    rw three (simp g)

pub returns-then-not-subset : goal.returns-then-not-subset
unfolding opened_in found_in object_meets object_of
returns-then-not-subset c = let x = c.args in
    let l = x.x.now in
    let g = sizes l _ _ _ _ _ c.get_u8-mode.ensures
    c.get_u8-given.ensures c.get_u8.ensures
    c.both-known.ensures
    c.both.ensures _ c.if-not-both.false in
    let w = came_in l x.contacted _ _ c.get_u16.ensures c.subset.ensures _ c.if-not-subset.true in
    rw three (simp (g, w))

pub returns-then-not-is_found : goal.returns-then-not-is_found
unfolding opened_in found_in object_meets object_of
returns-then-not-is_found c = let x = c.args in
    let l = x.x.now in
    let g = sizes l _ _ _ _ _ c.get_u8-mode.ensures
    c.get_u8-given.ensures
    c.get_u8.ensures
    c.both-known.ensures
    c.both.ensures _ c.if-not-both.false in
    let w = came_in l x.contacted _ _ c.get_u16.ensures c.subset.ensures _
    c.if-not-subset.false in
    rw three (simp (g, w, sym c.is_found.ensures ∙ c.if-not-is_found.true))

pub returns-then-given-eq1 : goal.returns-then-given-eq1
unfolding opened_in found_in object_meets object_of
returns-then-given-eq1 c = let x = c.args in
    let l = x.x.now in
    let g = sizes l _ _ _ _ _ c.get_u8-mode.ensures
    c.get_u8-given.ensures
    c.get_u8.ensures
    c.both-known.ensures
    c.both.ensures _
    c.if-not-both.false in
    let w = came_in l x.contacted _ _ c.get_u16.ensures c.subset.ensures
    _ c.if-not-subset.false in
    let f = sym c.is_found.ensures ∙ c.if-not-is_found.false in
    let h : get_or l 16 0 ≡ 1 = sym c.get_u8-given.ensures ∙ c.if-given-eq1.true in
    rw three (simp (g, w, f, eq-eqb (get_or l 16 0) 1 h) (ap (λ (n : ℕ). eqb n 1)
    c.get_u8-mode.ensures))

pub returns-else-given-eq1 : goal.returns-else-given-eq1
unfolding opened_in found_in object_meets object_of
returns-else-given-eq1 c = let x = c.args in
    let l = x.x.now in
    let g = sizes l _ _ _ _ _ c.get_u8-mode.ensures
    c.get_u8-given.ensures
    c.get_u8.ensures
    c.both-known.ensures
    c.both.ensures _
    c.if-not-both.false in
    let w = came_in l x.contacted _ _ c.get_u16.ensures
    c.subset.ensures _ c.if-not-subset.false in
    let f = sym c.is_found.ensures ∙ c.if-not-is_found.false in
    let h : get_or l 16 0 ≡ 1 → ⊥ = λ e.
    c.if-given-eq1.false (c.get_u8-given.ensures ∙ e) in
    rw three (simp (g, w, f, ne_eqb (get_or l 16 0) 1 h) (ap (λ (n : ℕ). eqb n 0) c.get_u64.ensures))
