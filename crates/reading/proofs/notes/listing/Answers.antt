-- `reading::notes::listing`: with room, and without.
use Prim.Native.Nat.{◌+◌, min}
use native.Mathlib.Omega.{arith}
use mathlib.Core.Path.{◌≡◌, sym, ap, ◌∙◌}
use mathlib.Core.Bool.{true, false}
use lib.Dec.{leb}
use lib.ListN.{length}
use borrow.Author.Tests.{leb-true}
use Rattle.lists.specs.Lists.{has_room}
use Rattle.reading.specs.declared.Reader.{Reader}
use Rattle.reading.specs.Reading.{next, kept}
use Rattle.reading.specs.Notes.{list_reader, list_texts}
use Rattle.reading.proofs.notes.listing.Goals as goal

pub returns-then-not-append-clause-reader : goal.returns-then-not-append-clause-reader
unfolding list_reader list_texts
returns-then-not-append-clause-reader c = let x = c.args in
    let a = c.append.ensures in
    let p = c.passed.ensures in
    let full : has_room x.list.now x.r.listed x.count ≡ false = sym a.room ∙ c.if-not-append.true in simp full p.reader

pub returns-then-not-append-clause-list : goal.returns-then-not-append-clause-list
unfolding list_reader list_texts
returns-then-not-append-clause-list c = let x = c.args in
    let a = c.append.ensures in
    let p = c.passed.ensures in
    let full : has_room x.list.now x.r.listed x.count ≡ false = sym a.room ∙ c.if-not-append.true in a.list

pub returns-then-not-append-clause-output : goal.returns-then-not-append-clause-output
unfolding list_reader list_texts
returns-then-not-append-clause-output c = let x = c.args in
    let a = c.append.ensures in
    let p = c.passed.ensures in
    let full : has_room x.list.now x.r.listed x.count ≡ false = sym a.room ∙ c.if-not-append.true in simp full p.output

pub listed_after-n-requires : goal.listed_after-n-requires
unfolding has_room
listed_after-n-requires c = let x = c.args in
    let room : leb (x.count + x.r.listed) (min 4097 (length x.list.now)) ≡ true =
    sym c.append.ensures.room ∙ c.if-not-append.false in
    let small = leb-true (x.count + x.r.listed) (min 4097 (length x.list.now)) room in
    omega arith

pub returns-clause-reader : goal.returns-clause-reader
unfolding list_reader list_texts
returns-clause-reader c = let x = c.args in
    let a = c.append.ensures in
    let h = c.heard.ensures in
    let k = c.kept-then.ensures in
    let n = c.listed_after-n.ensures in
    let room : has_room x.list.now x.r.listed x.count ≡ true = sym a.room ∙ c.if-not-append.false
    in simp room (h.reader ∙ ap (λ (t : Reader). next t x.r.going) (k ∙ ap (kept x.r x.r.day x.r.minute) n))

pub returns-clause-list : goal.returns-clause-list
unfolding list_reader list_texts
returns-clause-list c = let x = c.args in
    let a = c.append.ensures in
    let h = c.heard.ensures in
    let k = c.kept-then.ensures in
    let n = c.listed_after-n.ensures in
    let room : has_room x.list.now x.r.listed x.count ≡ true = sym a.room ∙ c.if-not-append.false in a.list

pub returns-clause-output : goal.returns-clause-output
unfolding list_reader list_texts
returns-clause-output c = let x = c.args in
    let a = c.append.ensures in
    let h = c.heard.ensures in
    let k = c.kept-then.ensures in
    let n = c.listed_after-n.ensures in
    let room : has_room x.list.now x.r.listed x.count ≡ true = sym a.room ∙ c.if-not-append.false in simp room h.output
