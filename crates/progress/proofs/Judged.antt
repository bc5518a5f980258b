-- An ask is voted yes on an image where nobody holds its objects, no copy of them is newer, and every other that is listed is younger. Rivals are
-- listed, by the image's own clauses; so none is older.
use mathlib.Core.Path.{◌≡◌, refl, sym, ◌∙◌, ap}
use mathlib.Core.Logic.{◌≢◌, ◌⊎◌, inl, inr}
use mathlib.Core.Bool.{Bool, true, false, cond, not, ◌&&◌, ◌||◌}
use mathlib.Core.List.{List, [], ◌∷◌}
use Prim.Native.Nat.{ℕ, zero, suc, ◌<◌, ◌≤◌}
use native.Mathlib.Omega.{arith}
use lib.Dec.{eqb, ltb}
use borrow.Author.Tests.{eqb-true, eq-eqb, ltb-true, le-ltb}
use Rattle.numbers.specs.Sizes.{nodes, nobody, objects}
use Rattle.mask.specs.Mask.{contains, only, joined, minus}
use Rattle.mask.proofs.Laws.{contains_joined, contains_minus, contains_power, only_small}
use Rattle.age.specs.Age.{older}
use Rattle.wire.specs.declared.Entry.{Entry}
use Rattle.wire.specs.Message.{Message}
use Rattle.image.specs.Layout.{version, holder, readers, writers, state, stamp}
use Rattle.image.specs.Valid.{listed}
use Rattle.image.proofs.Sound.{Sound, CopySound}
use Rattle.judge.specs.Judge.{some, some_below, other_holds, held_by_another, newer, newer_here, against, rivals_at, gathered, rivals_of}
use Rattle.judge.specs.Judge.{older_in, older_among, votes_no}
use Rattle.clauses.proofs.Parts.{true-T}
use Rattle.protocol.specs.Table.{In}
use Rattle.protocol.proofs.Tables.{on}
use Rattle.history.proofs.Tests.{no_both, and-true, or-true, not-true}
use Rattle.history.proofs.Quiet.{no_bit}

-- what is supposed of an image for an ask of owner o with timestamp ts and these entries
pub record Lets (l : List ℕ) (o ts : ℕ) (es : List Entry) : Type 0 where
  pub oldest : (w : ℕ) → w ≢ o → state l w ≡ listed → older ts o (stamp l w) w ≡ true
  pub free : (e : Entry) → In e es → holder l e.object ≡ nobody
  pub current : (e : Entry) → In e es → version l e.object ≤ e.version
  pub small : (e : Entry) → In e es → e.object < objects

or-false : (a b : Bool) → a ≡ false → b ≡ false → (a || b) ≡ false
or-false true b p q = p
or-false false b p q = q

false_if : (b : Bool) → (b ≡ true → ⊥) → b ≡ false
false_if true f = absurd (f refl)
false_if false f = refl

pub some_false : (p : Entry → Bool) (es : List Entry) → ((e : Entry) → In e es → p e ≡ false) → some p es ≡ false
unfolding some
some_false p [] h = refl
some_false p (e ∷ es) h = or-false (p e) (some p es) (h e (inl refl)) (some_false p es (λ f i. h f (inr i)))

some_below_false : (n : ℕ) (p : ℕ → Bool) → ((i : ℕ) → p i ≡ false) → some_below n p ≡ false
unfolding some_below
some_below_false zero p h = refl
some_below_false (suc n) p h = or-false (some_below n p) (p n) (some_below_false n p h) (h n)

-- of two, one is not older than the other and younger
younger_not : (a o b w : ℕ) → older a o b w ≡ true → older b w a o ≡ true → ⊥
younger_not a o b w e f =
    on (or-true (ltb a b) (eqb a b && ltb o w) e)
    (λ p. let h = ltb-true a b p in on (or-true (ltb b a) (eqb b a && ltb w o) f)
    (λ q. let k = ltb-true b a q in let z : ⊥ = omega (arith, h, k) in z)
    (λ q. let k = eqb-true b a (and-true (eqb b a) (ltb w o) q).0 in let z : ⊥ = omega (arith, h, k) in z))
    (λ p. let h = and-true (eqb a b) (ltb o w) p in let i = eqb-true a b h.0 in let j = ltb-true o w h.1 in
    on (or-true (ltb b a) (eqb b a && ltb w o) f)
    (λ q. let k = ltb-true b a q in let z : ⊥ = omega (arith, i, k) in z)
    (λ q. let k = ltb-true w o (and-true (eqb b a) (ltb w o) q).1 in let z : ⊥ = omega (arith, j, k) in z))

module _ (l : List ℕ) (s : Sound l) where
  -- whoever is gathered was there or is a rival at an entry
  gathered_from : (found : ℕ) (es : List Entry) (r : ℕ) → contains (gathered l found es) r ≡ true
      → (contains found r ≡ true) ⊎ ((e : Entry) × In e es × (contains (rivals_at l e) r ≡ true))
  unfolding gathered
  gathered_from found [] r c = inl c
  gathered_from found (e ∷ es) r c = on (gathered_from (joined found (rivals_at l e)) es r c)
      (λ d. on (or-true (contains found r) (contains (rivals_at l e) r) (sym (contains_joined found (rivals_at l e) r) ∙ d)) inl (λ f. inr (e, inl refl, f)))
      (λ z. inr (z.0, inr z.1, z.2))

  -- a rival is listed
  against_listed : (e : Entry) (r : ℕ) → e.object < objects → contains (against l e) r ≡ true → state l r ≡ listed
  against_listed e r h = by (eqb e.mode 0)
    where
      c : CopySound (state l) (holder l e.object) (readers l e.object) (writers l e.object)
      c = s.clauses.copies_sound e.object h

      in_writers : contains (writers l e.object) r ≡ true → state l r ≡ listed
      in_writers q = (c.writing r (true-T (contains (writers l e.object) r) q)).1

      by : (b : Bool) → contains (cond b (writers l e.object) (joined (readers l e.object) (writers l e.object))) r ≡ true → state l r ≡ listed
      by true q = in_writers q
      by false q = on (or-true (contains (readers l e.object) r) (contains (writers l e.object) r)
          (sym (contains_joined (readers l e.object) (writers l e.object) r) ∙ q))
          (λ p. (c.reading r (true-T (contains (readers l e.object) r) p)).1) in_writers

  rival_listed : (e : Entry) (r : ℕ) → e.object < objects → contains (rivals_at l e) r ≡ true → state l r ≡ listed
  rival_listed e r h = by (eqb (version l e.object) e.version)
    where
      by : (b : Bool) → contains (cond b (against l e) 0) r ≡ true → state l r ≡ listed
      by true q = against_listed e r h q
      by false q = absurd (no_bit r q)

  module _ (m : Message) (small : m.owner < nodes) (p : Lets l m.owner (stamp l m.owner) m.entries) where
    abbrev o : ℕ
    o = m.owner

    nobody_holds : held_by_another l m ≡ false
    unfolding held_by_another
    nobody_holds = some_false (other_holds l o) m.entries
        (λ e i. ap (λ (h : ℕ). not (eqb h nobody) && not (eqb h o)) (p.free e i))

    none_newer : newer_here l m ≡ false
    unfolding newer_here
    none_newer = some_false (newer l) m.entries (λ e i. le-ltb e.version (version l e.object) (p.current e i))

    other : (r : ℕ) → contains (only o) r ≡ false → r ≢ o
    other r q e = no_both (ap (λ (k : ℕ). contains k r) (only_small o (omega (arith, small))) ∙ contains_power o r ∙ eq-eqb o r (sym e)) q

    none_older : older_among l (rivals_of l m) o ≡ false
    unfolding older_among rivals_of
    none_older = some_below_false nodes (older_in l (minus (gathered l 0 m.entries) (only o)) o) (λ r. false_if _ (λ e.
        let z = and-true (contains (minus (gathered l 0 m.entries) (only o)) r) (older (stamp l r) r (stamp l o) o) e in
        let c = and-true (contains (gathered l 0 m.entries) r) (not (contains (only o) r))
        (sym (contains_minus (gathered l 0 m.entries) (only o) r) ∙ z.0) in
        on (gathered_from 0 m.entries r c.0) (λ d. no_bit r d)
        (λ d. younger_not (stamp l o) o (stamp l r) r
        (p.oldest r (other r (not-true (contains (only o) r) c.1)) (rival_listed d.0 r (p.small d.0 d.1) d.2)) z.1)))

    -- THE LEMMA
    pub voted_yes_lem : votes_no l m ≡ false
    unfolding votes_no
    voted_yes_lem = or-false (held_by_another l m || newer_here l m) (older_among l (rivals_of l m) o)
        (or-false (held_by_another l m) (newer_here l m) nobody_holds none_newer) none_older
