-- `record::verify::place_meets`: each test in turn.
use native.Mathlib.Omega.{arith}
use mathlib.Core.Path.{◌≡◌, sym, ap, ◌∙◌}
use Prim.Native.Nat.{◌+◌, ◌*◌, ◌-◌}
use borrow.Author.Tests.{eq-eqb, ne_eqb}
use Rattle.octets.specs.Octets.{get}
use Rattle.record.specs.Record.{record_of, object_of}
use Rattle.record.specs.Valid.{votable, stands_before, place_ok}
use Rattle.record.proofs.Valid.{object_part, opened_at}
use Rattle.record.proofs.verify.place_meets.Goals as goal

pub returns-then-not-is_opened : goal.returns-then-not-is_opened
unfolding place_ok record_of
returns-then-not-is_opened c = let x = c.args in
    let l = x.bytes.now in
    let at = 43 + 25 * x.i in
    let s : at + 25 - at ≡ 25 = omega arith in
    simp (sym (opened_at l at _ s c.get_u16.ensures c.is_opened.ensures) ∙ c.if-not-is_opened.true)

pub returns-then-stands_before : goal.returns-then-stands_before
unfolding place_ok record_of object_of
returns-then-stands_before c = let x = c.args in
    let l = x.bytes.now in
    let at = 43 + 25 * x.i in
    let s : at + 25 - at ≡ 25 = omega arith in
    let o = sym (opened_at l at _ s c.get_u16.ensures c.is_opened.ensures) ∙ c.if-not-is_opened.false in
    simp (o, sym (c.stands_before.ensures ∙ ap (stands_before x.i l) c.get_u8.ensures) ∙ c.if-stands_before.true)

pub returns-then-get_u16-eq0 : goal.returns-then-get_u16-eq0
unfolding place_ok record_of object_of
returns-then-get_u16-eq0 c = let x = c.args in
    let l = x.bytes.now in
    let at = 43 + 25 * x.i in
    let s : at + 25 - at ≡ 25 = omega arith in
    let o =
    sym (opened_at l at _ s c.get_u16.ensures c.is_opened.ensures) ∙ c.if-not-is_opened.false in
    let b =
    sym (c.stands_before.ensures ∙ ap (stands_before x.i l) c.get_u8.ensures) ∙ c.if-stands_before.false in
    simp (o, b, eq-eqb (get 2 l 243) 0 (omega arith))

pub returns-else-get_u16-eq0 : goal.returns-else-get_u16-eq0
unfolding place_ok record_of object_of
returns-else-get_u16-eq0 c = let x = c.args in
    let l = x.bytes.now in
    let at = 43 + 25 * x.i in
    let s : at + 25 - at ≡ 25 = omega arith in
    let o = sym (opened_at l at _ s c.get_u16.ensures c.is_opened.ensures) ∙ c.if-not-is_opened.false in
    let b = sym (c.stands_before.ensures ∙ ap (stands_before x.i l) c.get_u8.ensures) ∙ c.if-stands_before.false in
    simp (o, b, ne_eqb (get 2 l 243) 0 (λ e. omega arith)) (c.is_votable.ensures ∙ ap votable (object_part l at _ s))
