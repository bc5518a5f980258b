-- `quorum_lines::put_row` meets its contract: the mask, the two columns and the newline, each put behind what came before; 5, 17, 17 and 1 bytes fit.
use Prim.Native.Nat.{ℕ, ◌+◌, ◌≤◌, ◌<◌}
use native.Mathlib.Omega.{arith}
use mathlib.Core.Path.{◌≡◌}
use mathlib.Core.List.{List, [], ◌∷◌, ◌++◌}
use lib.ListN.{length, length-append}
use Rattle.decimal.specs.Decimal.{decimal, put_at, next_at}
use Rattle.decimal.specs.Laws.{Behind, put_first, put_next, put_behind, behind_length, decimal_short}
use Rattle.quorum.specs.declared.Kind.TheVariants.{Read, Write}
use Rattle.quorum_lines.specs.Reply.{column, row}
use Rattle.quorum_lines.proofs.put_row.Goals as goal

-- a mask takes up to five bytes
mask_first : (l : List ℕ) (at live : ℕ) {m : List ℕ} {to : ℕ}
    → at + 40 ≤ length l
    → live < 65536
    → to ≡ next_at l at (decimal live)
    → m ≡ put_at l at (decimal live)
    → (length (decimal live) ≤ 5) × Behind l at (decimal live) m to
mask_first l at live room h p q =
    let k : length (decimal live) ≤ 5 = decimal_short 5 live (omega arith) (omega arith) in
    (k, put_first l at (decimal live) (omega arith) p q)

pub put_column-b-requires : goal.put_column-b-requires
put_column-b-requires c = let x = c.args in
    let s = mask_first x.out.now x.at x.live (omega arith) (omega arith)
    (rw c.from.ensures at c.put-a.ensures.next) (rw c.from.ensures at c.put-a.ensures.buffer) in
    omega (arith, behind_length x.out.now x.at (decimal x.live) s.1)

pub put_column-c-requires : goal.put_column-c-requires
put_column-c-requires c = let x = c.args in
    let room = c.requires in
    let small : x.live < 65536 = omega (arith, c.ranges.live) in
    let s = mask_first x.out.now x.at x.live room small
    (rw c.from.ensures at c.put-a.ensures.next) (rw c.from.ensures at c.put-a.ensures.buffer) in
    let r = column Read x.asker x.live x.distances.now in
    let t = c.put_column-b.ensures in
    omega (
      arith,
      t.within,
      c.requires,
      behind_length x.out.now x.at (decimal x.live) s.1,
      behind_length c.put-a.new.out c.put-a.result r (t.next, t.buffer),
    )

pub returns-clause-next : goal.returns-clause-next
unfolding row
returns-clause-next c = let x = c.args in
    let l = x.out.now in
    let room = c.requires in
    let s = mask_first l x.at x.live room (omega (arith, c.ranges.live))
    (rw c.from.ensures at c.put-a.ensures.next) (rw c.from.ensures at c.put-a.ensures.buffer) in
    let d = decimal x.live in
    let r = column Read x.asker x.live x.distances.now in
    let w = column Write x.asker x.live x.distances.now in
    let t = c.put_column-b.ensures in
    let u = c.put_column-c.ensures in
    let small : length r ≤ 17 = t.within in
    let small₂ : length w ≤ 17 = u.within in
    let e = length-append d r in
    let e₂ = length-append (d ++ r) w in
    let e₃ = length-append (d ++ r ++ w) (10 ∷ []) in
    let two = put_next l x.at d r (omega arith) s.1 (t.next, t.buffer) in
    let three = put_next l x.at (d ++ r) w (omega arith) two (u.next, u.buffer) in
    let four = put_behind l x.at (d ++ r ++ w) (10 ∷ []) (omega arith) three c.append.ensures.next c.append.ensures.buffer in four.0

pub returns-clause-buffer : goal.returns-clause-buffer
unfolding row
returns-clause-buffer c = let x = c.args in
    let l = x.out.now in
    let room = c.requires in
    let s = mask_first l x.at x.live room (omega (arith, c.ranges.live))
    (rw c.from.ensures at c.put-a.ensures.next) (rw c.from.ensures at c.put-a.ensures.buffer) in
    let d = decimal x.live in
    let r = column Read x.asker x.live x.distances.now in
    let w = column Write x.asker x.live x.distances.now in
    let t = c.put_column-b.ensures in
    let u = c.put_column-c.ensures in
    let small : length r ≤ 17 = t.within in
    let small₂ : length w ≤ 17 = u.within in
    let e = length-append d r in
    let e₂ = length-append (d ++ r) w in
    let e₃ = length-append (d ++ r ++ w) (10 ∷ []) in
    let two = put_next l x.at d r (omega arith) s.1 (t.next, t.buffer) in
    let three = put_next l x.at (d ++ r) w (omega arith) two (u.next, u.buffer) in
    let four = put_behind l x.at (d ++ r ++ w) (10 ∷ []) (omega arith) three c.append.ensures.next c.append.ensures.buffer in four.1

pub returns-clause-within : goal.returns-clause-within
unfolding row
returns-clause-within c = let x = c.args in
    let l = x.out.now in
    let room = c.requires in
    let s = mask_first l x.at x.live room (omega (arith, c.ranges.live))
    (rw c.from.ensures at c.put-a.ensures.next) (rw c.from.ensures at c.put-a.ensures.buffer) in
    let d = decimal x.live in
    let r = column Read x.asker x.live x.distances.now in
    let w = column Write x.asker x.live x.distances.now in
    let t = c.put_column-b.ensures in
    let u = c.put_column-c.ensures in
    let small : length r ≤ 17 = t.within in
    let small₂ : length w ≤ 17 = u.within in
    let e = length-append d r in
    let e₂ = length-append (d ++ r) w in
    let e₃ = length-append (d ++ r ++ w) (10 ∷ []) in
    let two = put_next l x.at d r (omega arith) s.1 (t.next, t.buffer) in
    let three = put_next l x.at (d ++ r) w (omega arith) two (u.next, u.buffer) in
    let four = put_behind l x.at (d ++ r ++ w) (10 ∷ []) (omega arith) three c.append.ensures.next c.append.ensures.buffer in omega arith
