-- `lists::append`: a copy of the first numbers behind those that were listed.
use Prim.Native.Nat.{ℕ, ◌+◌}
use native.Mathlib.Omega.{arith}
use mathlib.Core.Path.{◌≡◌, sym, ap, ◌∙◌}
use mathlib.Core.Bool.{true, false}
use borrow.Author.Rules.{rules}
use mathlib.Core.List.{List, ◌++◌}
use lib.ListN.{length, take, drop}
use lib.Seq.{length-take-le, take_all}
use Rattle.std.proofs.lemmas.Slice.{put_mid-paste}
use Rattle.lists.specs.Lists.{has_room, appended}
use Rattle.lists.proofs.append.Goals as goal

pub returns-then-not-has_room-clause-room : goal.returns-then-not-has_room-clause-room
unfolding has_room
returns-then-not-has_room-clause-room c = sym c.if-not-has_room.true ∙ c.has_room.ensures

pub returns-then-not-has_room-clause-list : goal.returns-then-not-has_room-clause-list
unfolding appended has_room
returns-then-not-has_room-clause-list c =
    let a = c.args in
    let full : has_room a.list.now a.listed a.count ≡ false = sym c.has_room.ensures ∙ c.if-not-has_room.true in rw full

pub returns-clause-room : goal.returns-clause-room
unfolding has_room
returns-clause-room c = sym c.if-not-has_room.false ∙ c.has_room.ensures

pub returns-clause-list : goal.returns-clause-list
unfolding appended has_room
returns-clause-list c =
    let a = c.args in
    let given : length a.numbers ≡ 16 = search rules in
    let room : has_room a.list.now a.listed a.count ≡ true = sym c.has_room.ensures ∙ c.if-not-has_room.false in
    let n = c.min-n.result in
    let front = take n a.numbers in
    let long : n ≡ length front = sym (length-take-le n a.numbers (omega arith)) in
    rw (room, given, ← c.min-n.ensures)
    (put_mid-paste a.listed _ a.list.now _ front n c.copy_from_slice.ensures.after (omega arith) long
    ∙ ap (λ (t : List ℕ). take a.listed a.list.now ++ t ++ drop (a.listed + n) a.list.now) (take_all n front (omega arith)))
