-- Rivals given by owner ascend and are nodes, so only the owner's own serial can be wrong.
use mathlib.Core.Path.{◌≡◌, refl, sym, ap, ◌∙◌}
use mathlib.Core.Bool.{Bool, true, false, ◌&&◌, and-false}
use mathlib.Core.Logic.{⊎_elim}
use mathlib.Core.List.{List, [], ◌∷◌, ◌++◌}
use Prim.Native.Nat.{ℕ, zero, suc, ◌+◌, ◌-◌, ◌≤◌, ◌<◌}
use native.Mathlib.Omega.{arith}
use lib.Dec.{eqb}
use borrow.Author.Tests.{lt-ltb, le-ltb, le-leb, eq-eqb, ne_eqb}
use lib.ListN.{length, get_or}
use Rattle.numbers.specs.Sizes.{nodes}
use Rattle.octets.proofs.Laws.{lt_or_le}
use Rattle.wire.specs.declared.Head.{Head}
use Rattle.wire.specs.declared.Rival.{Rival}
use Rattle.wire.specs.Formed.{rival_ok}
use Rattle.wire.specs.Headed.{head_ok}
use Rattle.wire.specs.Run.{run, owner_in}
use Rattle.letters.specs.Write.{rivals_by}
use Rattle.letters.proofs.ByOwner.{one_some}

module _ (w t : ℕ) where
  abbrev pass : ℕ → List Rival → Bool
  pass lo rs = run owner_in (rival_ok 4 w t) lo rs

  abbrev rival : ℕ → ℕ → Rival
  rival o s = record { owner = o; serial = s }

  -- a rival that is another node, and one that is the owner
  other_ok : (o s : ℕ) → o < nodes → (o ≡ w → ⊥) → rival_ok 4 w t (rival o (suc s)) ≡ true
  unfolding rival_ok
  other_ok o s h f = simp (lt-ltb o nodes h, ne_eqb o w f, le-leb 1 (suc s) (omega arith))

  own_bad : (o s : ℕ) → o ≡ w → rival_ok 4 w t (rival o s) ≡ false
  unfolding rival_ok
  own_bad o s e = simp (eq-eqb o w e, and-false)

  first : (lo o s : ℕ) (rs : List Rival) (b : Bool) → lo ≤ o → rival_ok 4 w t (rival o s) ≡ b → pass lo (rival o s ∷ rs) ≡ (b && pass (o + 1) rs)
  unfolding run
  first lo o s rs b h e = simp (le-leb lo o h, e)

  -- a serial above 0 is a rival
  some : (lo o s : ℕ) (ss : List ℕ) → pass lo (rivals_by o (suc s ∷ ss)) ≡ pass lo (rival o (suc s) ∷ rivals_by (o + 1) ss)
  unfolding rivals_by
  some lo o s ss = ap (λ (rs : List Rival). pass lo (rs ++ rivals_by (o + 1) ss)) (one_some o (suc s) (λ e. omega arith))

  -- above the owner all are others
  above : (o lo : ℕ) (ss : List ℕ) → w < o → lo ≤ o → o + length ss ≤ nodes → pass lo (rivals_by o ss) ≡ true
  unfolding rivals_by run
  above o lo [] h g k = refl
  above o lo (zero ∷ ss) h g k = above (o + 1) lo ss (omega arith) (omega arith) (omega arith)
  above o lo (suc s ∷ ss) h g k =
      some lo o s ss
      ∙ first lo o (suc s) (rivals_by (o + 1) ss) true g (other_ok o s (omega arith) (λ e. omega arith))
      ∙ above (o + 1) (o + 1) ss (omega arith) (omega arith) (omega arith)

  at_here : (o s : ℕ) (ss : List ℕ) → o ≡ w → eqb s 0 ≡ eqb (get_or (s ∷ ss) (w - o) 0) 0
  at_here o s ss e = let z : 0 ≡ w - o = omega arith in ap (λ (j : ℕ). eqb (get_or (s ∷ ss) j 0) 0) z

  at_later : (o s : ℕ) (ss : List ℕ) → o < w → eqb (get_or ss (w - (o + 1)) 0) 0 ≡ eqb (get_or (s ∷ ss) (w - o) 0) 0
  at_later o s ss h = let z : suc (w - (o + 1)) ≡ w - o = omega arith in ap (λ (j : ℕ). eqb (get_or (s ∷ ss) j 0) 0) z

  -- from a node up to the owner on, the owner's serial decides
  upto : (o lo : ℕ) (ss : List ℕ) → o ≤ w → lo ≤ o → o + length ss ≤ nodes → pass lo (rivals_by o ss) ≡ eqb (get_or ss (w - o) 0) 0
  unfolding rivals_by run
  upto o lo [] h g k = refl
  upto o lo (zero ∷ ss) h g k =
      ⊎_elim
      (λ (q : o < w). upto (o + 1) lo ss (omega arith) (omega arith) (omega arith) ∙ at_later o zero ss q)
      (λ (q : w ≤ o). above (o + 1) lo ss (omega arith) (omega arith) (omega arith) ∙ at_here o zero ss (omega arith))
      (lt_or_le o w)
  upto o lo (suc s ∷ ss) h g k =
      some lo o s ss
      ∙ ⊎_elim
      (λ (q : o < w). first lo o (suc s) (rivals_by (o + 1) ss) true g (other_ok o s (omega arith) (λ e. omega arith))
      ∙ upto (o + 1) (o + 1) ss (omega arith) (omega arith) (omega arith) ∙ at_later o (suc s) ss q)
      (λ (q : w ≤ o). first lo o (suc s) (rivals_by (o + 1) ss) false g (own_bad o (suc s) (omega arith))
      ∙ sym (ne_eqb (suc s) 0 (λ e. omega arith)) ∙ at_here o (suc s) ss (omega arith))
      (lt_or_le o w)

-- an owner that is no node is refused by its name
unnamed : (h : Head) → nodes ≤ h.owner → head_ok h ≡ false
unnamed h g = simp (le-ltb h.owner nodes g, and-false)

-- the owner's own serial decides, where the header is right
pub own_decides : (h : Head) (ss : List ℕ) → length ss ≡ nodes
    → (head_ok h && eqb (get_or ss h.owner 0) 0) ≡ (head_ok h && run owner_in (rival_ok 4 h.owner h.to) 0 (rivals_by 0 ss))
own_decides h ss n =
    let z : h.owner ≡ h.owner - 0 = omega arith in
    ⊎_elim
    (λ (q : h.owner < nodes). ap (◌&&◌ (head_ok h))
    (ap (λ (j : ℕ). eqb (get_or ss j 0) 0) z ∙ sym (upto h.owner h.to 0 0 ss (omega arith) (omega arith) (omega arith))))
    (λ (q : nodes ≤ h.owner). simp (unnamed h q))
    (lt_or_le h.owner nodes)
