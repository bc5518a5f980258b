-- `settings::are_tenths`: what was passed is below 10, and what is left is to be.
use mathlib.Core.Path.{◌≡◌, refl, sym, ◌∙◌}
use mathlib.Core.Bool.{Bool, true, false, ◌&&◌}
use mathlib.Core.List.{List}
use Prim.Native.Nat.{ℕ, suc, ◌+◌, ◌<◌, ◌≤◌}
use native.Mathlib.Numerals.{add-one}
use native.Mathlib.Omega.{arith}
use lib.Dec.{leb}
use lib.ListN.{length, get_or, drop, drop_of_length-le}
use lib.Seq.{drop-cons}
use Rattle.settings.specs.Settings.{below10}
use Rattle.settings.proofs.are_tenths.Goals as goal

regroup : (a b c : Bool) → ((a && b) && c) ≡ (a && (b && c))
regroup true b c = refl
regroup false b c = refl

last_true : (a : Bool) → (a && true) ≡ a
last_true true = refl
last_true false = refl

next : (fine : Bool) (l : List ℕ) (i : ℕ) → i < length l → ((fine && leb (get_or l i 0) 9) && below10 (drop (i + 1) l)) ≡ (fine && below10 (drop i l))
next fine l i h = rw (add-one, drop-cons l i 0) (regroup fine (leb (get_or l i 0) 9) (below10 (drop (suc i) l)))

end : (fine : Bool) (l : List ℕ) (i : ℕ) → length l ≤ i → (fine && below10 (drop i l)) ≡ below10 l → fine ≡ below10 l
end fine l i h e = sym (last_true fine) ∙ (rw (drop_of_length-le l h) at e)

pub loop-x-init : goal.loop-x-init
loop-x-init c = refl

pub loop-x-preserved : goal.loop-x-preserved
loop-x-preserved c = let p = c.loop-x in
    next p.fine c.args.list.now p.x-index (omega arith) ∙ p.invariant

pub returns : goal.returns
returns c = let p = c.loop-x in
    end p.fine c.args.list.now p.x-index (omega arith) p.invariant
