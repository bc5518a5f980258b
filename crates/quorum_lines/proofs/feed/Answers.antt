-- `quorum_lines::feed` meets its contract. The loop's invariant is `Going`: what is taken so far and what is to be taken are the whole piece.
use Prim.Native.Nat.{◌-◌}
use native.Mathlib.Omega.{arith}
use mathlib.Core.Path.{◌≡◌, sym, ap, ◌∙◌}
use lib.ListN.{length, drop, drop_of_length-le}
use Rattle.quorum_lines.specs.Output.{piece}
use Rattle.quorum_lines.specs.Laws.{piece_full, piece_nothing}
use Rattle.quorum_lines.proofs.Feeding.{begin, turn, stop, kept_length}
use Rattle.quorum_lines.proofs.feed.Goals as goal

pub loop-i-init : goal.loop-i-init
loop-i-init c = let x = c.args in begin x.input.now x.out.now x.line

pub loop-i-preserved : goal.loop-i-preserved
loop-i-preserved c = let l = c.loop-i in
    let r = c.take_byte-t in
    turn l.invariant (omega arith) (omega (arith, kept_length l.invariant)) r.ensures.line (r.ensures.next, r.ensures.buffer) r.ensures.within

pub returns-then-out-at-lt-LONGEST_ROW-clause-line : goal.returns-then-out-at-lt-LONGEST_ROW-clause-line
returns-then-out-at-lt-LONGEST_ROW-clause-line c = let l = c.loop-i in
    let x = c.args in
    (stop l.invariant (piece_full (length x.out.now - l.at) l.l (drop l.i x.input.now) (omega (arith, kept_length l.invariant)))).0

pub returns-then-out-at-lt-LONGEST_ROW-clause-used : goal.returns-then-out-at-lt-LONGEST_ROW-clause-used
returns-then-out-at-lt-LONGEST_ROW-clause-used c = let l = c.loop-i in
    let x = c.args in
    (stop l.invariant (piece_full (length x.out.now - l.at) l.l (drop l.i x.input.now) (omega (arith, kept_length l.invariant)))).1.0

pub returns-then-out-at-lt-LONGEST_ROW-clause-written : goal.returns-then-out-at-lt-LONGEST_ROW-clause-written
returns-then-out-at-lt-LONGEST_ROW-clause-written c = let l = c.loop-i in
    let x = c.args in
    (stop l.invariant (piece_full (length x.out.now - l.at) l.l (drop l.i x.input.now) (omega (arith, kept_length l.invariant)))).1.1.0

pub returns-then-out-at-lt-LONGEST_ROW-clause-buffer : goal.returns-then-out-at-lt-LONGEST_ROW-clause-buffer
returns-then-out-at-lt-LONGEST_ROW-clause-buffer c = let l = c.loop-i in
    let x = c.args in
    (stop l.invariant (piece_full (length x.out.now - l.at) l.l (drop l.i x.input.now) (omega (arith, kept_length l.invariant)))).1.1.1.0

pub returns-clause-line : goal.returns-clause-line
returns-clause-line c = let l = c.loop-i in
    let x = c.args in
    let room = length x.out.now - l.at in
    (stop l.invariant (ap (piece room l.l) (drop_of_length-le x.input.now (omega arith)) ∙ piece_nothing room l.l)).0

pub returns-clause-used : goal.returns-clause-used
returns-clause-used c = let l = c.loop-i in
    let x = c.args in
    let room = length x.out.now - l.at in
    let done : l.i ≡ length x.input.now = omega (arith, l.invariant.within) in
    sym done ∙ (stop l.invariant (ap (piece room l.l) (drop_of_length-le x.input.now (omega arith)) ∙ piece_nothing room l.l)).1.0

pub returns-clause-written : goal.returns-clause-written
returns-clause-written c = let l = c.loop-i in
    let x = c.args in
    let room = length x.out.now - l.at in
    (stop l.invariant (ap (piece room l.l) (drop_of_length-le x.input.now (omega arith)) ∙ piece_nothing room l.l)).1.1.0

pub returns-clause-buffer : goal.returns-clause-buffer
returns-clause-buffer c = let l = c.loop-i in
    let x = c.args in
    let room = length x.out.now - l.at in
    (stop l.invariant (ap (piece room l.l) (drop_of_length-le x.input.now (omega arith)) ∙ piece_nothing room l.l)).1.1.1.0
