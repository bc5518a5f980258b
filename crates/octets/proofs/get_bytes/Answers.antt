-- `octets::get_bytes`: from the last byte that is there to the first, what was read is the number of the bytes passed.
use Prim.Native.Nat.{ℕ, suc, ◌+◌, ◌-◌, ◌*◌, ◌^◌, ◌≤◌}
use native.Mathlib.Nat.{pow-suc, pow-le-pow_right}
use native.Mathlib.Omega.{arith}
use mathlib.Core.Path.{◌≡◌, ap, ◌∙◌}
use lib.Dec.{lit<}
use Rattle.octets.specs.Octets.{get}
use Rattle.octets.proofs.Laws.{get_there}
use Rattle.octets.proofs.get_bytes.Goals as goal

-- what the number of the bytes read so far is below
small : (n : ℕ) → n ≤ 7 → 256 ^ n ≤ 72057594037927936
small n h = pow-le-pow_right (lit< tt) h

pub loop-i-init : goal.loop-i-init
unfolding get
loop-i-init c =
    let n = c.there-n.result in
    let e : n - n ≡ 0 = omega arith in
    (rw e, rw e (lit< tt))

pub overflow_mul-acc : goal.overflow_mul-acc
overflow_mul-acc c = omega (arith, small (c.there-n.result - c.loop-i.i) (omega arith))

pub overflow_add-acc : goal.overflow_add-acc
overflow_add-acc c =
    let l = c.loop-i in
    omega (arith, c.type_inv.s (c.args.at + (l.i - 1)), small (c.there-n.result - l.i) (omega arith))

pub loop-i-preserved : goal.loop-i-preserved
unfolding get
loop-i-preserved c =
    let l = c.loop-i in
    let x = c.args in
    let n = c.there-n.result in
    let e : n - (l.i - 1) ≡ suc (n - l.i) = omega arith in
    let d : x.at + (l.i - 1) + 1 ≡ x.at + l.i = omega arith in
    let p : 256 ^ suc (n - l.i) ≡ 256 ^ (n - l.i) * 256 = pow-suc 256 (n - l.i) in
    let b = c.type_inv.s (x.at + (l.i - 1)) in
    (rw (e, d) (omega arith), rw e (omega arith))

pub returns : goal.returns
returns c =
    let l = c.loop-i in
    let x = c.args in
    let n = c.there-n.result in
    let e : n - l.i ≡ n = omega arith in
    let d : x.at + l.i ≡ x.at = omega arith in
    let m : n ≤ x.k = omega arith in (
      rw (e, d) at l.invariant.0 ∙ ap (λ (i : ℕ). get i x.s.now x.at) c.there-n.ensures ∙ get_there x.k x.s.now x.at,
      omega (arith, rw e at l.invariant.1, pow-le-pow_right {n = 256} (lit< tt) m),
    )
