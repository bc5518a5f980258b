-- Every answer of a step is well formed, so that it is written whole: names come from an accepted message, and rivals are named by owner, never the owner.
use mathlib.Core.Path.{◌≡◌, refl, sym, ap, ap₂, subst, ◌∙◌}
use mathlib.Core.Bool.{Bool, true, false, cond, not, ◌&&◌}
use mathlib.Core.Logic.{⊎_elim}
use mathlib.Core.List.{List, [], ◌∷◌, ◌++◌, map}
use Prim.Native.Nat.{ℕ, zero, suc, ◌+◌, ◌^◌, ◌≤◌, ◌<◌}
use native.Mathlib.Omega.{arith}
use borrow.Author.Tests.{lt-ltb, le-leb, leb-true, ltb-true, eq-eqb, ne_eqb, eqb-false}
use lib.Dec.{T, eqb, ltb, leb}
use lib.ListN.{length, get_or, set, length-set, get_or-replicate}
use lib.Seq.{get_or-set_same, get_or-set_other}
use Rattle.numbers.specs.Sizes.{nodes, objects}
use Rattle.mask.specs.Mask.{contains, only}
use Rattle.mask.proofs.Laws.{contains_minus, contains_power}
use Rattle.wire.specs.declared.Entry.{Entry}
use Rattle.wire.specs.declared.Rival.{Rival}
use Rattle.wire.specs.Message.{Message}
use Rattle.wire.specs.Formed.{counts_ok, names_ok, ascend, every, entry_ok, rival_ok, entries_ok, rivals_ok, well_formed}
use Rattle.wire.specs.Items.{no_entry}
use Rattle.letters.specs.Write.{rivals_by}
use Rattle.letters.proofs.ByOwner.{rivals_length}
use Rattle.image.specs.Layout.{serial}
use Rattle.image.proofs.Each.{same_or_not}
use Rattle.judge.specs.Judge.{gathered, rivals_of, named, no_serials, named_below, serials_of}
use Rattle.replica.specs.Steps.{copy_to, vote_to, done_to}

-- ---- tests joined
pub both_true : {a b : Bool} → a ≡ true → b ≡ true → (a && b) ≡ true
both_true {a} {b} p q = ap₂ ◌&&◌ p q

pub false_true : {P : Type 0} → false ≡ true → P
false_true e = absurd (subst (λ (x : Bool). T (not x)) e tt)

pub left_true : (a b : Bool) → (a && b) ≡ true → a ≡ true
left_true true b e = refl
left_true false b e = e

pub right_true : (a b : Bool) → (a && b) ≡ true → b ≡ true
right_true true b e = e
right_true false b e = false_true e

pub and-false : (a : Bool) → (a && false) ≡ false
and-false true = refl
and-false false = refl

positive : (s : ℕ) → (s ≡ 0 → ⊥) → 1 ≤ s
positive zero h = absurd (h refl)
positive (suc s) h = omega arith

-- ---- what an accepted message says of its names
pub record Named (me : ℕ) (m : Message) : Type 0 where
  pub node : ltb me nodes ≡ true
  pub owner : ltb m.owner nodes ≡ true
  pub serial : leb 1 m.serial ≡ true
  pub stamp : leb 1 m.stamp ≡ true

pub named_of : (me : ℕ) (m : Message) → me < nodes → well_formed m ≡ true → Named me m
unfolding well_formed
named_of me m h w =
    let n = left_true (names_ok m) _ (right_true (counts_ok m.kind _ _ _ _) _ w) in
    let o = right_true (ltb m.to nodes) _ (right_true (ltb m.from nodes) _ n) in
    let s = right_true (ltb m.owner nodes) _ o in
    record {
      node = lt-ltb me nodes h;
      owner = left_true (ltb m.owner nodes) _ o;
      serial = left_true (leb 1 m.serial) _ s;
      stamp = right_true (leb 1 m.serial) _ s;
    }

-- the names and the direction of an answer
module _ (me : ℕ) (m : Message) (n : Named me m) where
  names : (ltb me nodes && (ltb m.owner nodes && (ltb m.owner nodes && (leb 1 m.serial && leb 1 m.stamp)))) ≡ true
  names = both_true n.node (both_true n.owner (both_true n.owner (both_true n.serial n.stamp)))

  back : eqb m.owner m.owner ≡ true
  back = eq-eqb m.owner m.owner refl

  pub done_formed : well_formed (done_to me m) ≡ true
  unfolding well_formed counts_ok entries_ok rivals_ok ascend
  done_formed = both_true names (both_true back refl)

  pub vote_formed : (word : ℕ) → leb word 1 ≡ true → well_formed (vote_to me m no_serials word) ≡ true
  unfolding well_formed counts_ok entries_ok rivals_ok ascend rivals_by
  vote_formed zero h = both_true names (both_true back refl)
  vote_formed (suc zero) h = both_true names (both_true back refl)
  vote_formed (suc (suc k)) h = absurd (let z : ⊥ = omega (arith, leb-true (suc (suc k)) 1 h) in z)

  pub copy_formed : (e : Entry) → ltb e.object objects ≡ true → ltb e.mode 2 ≡ true → well_formed (copy_to me m e) ≡ true
  unfolding well_formed counts_ok entries_ok rivals_ok ascend entry_ok
  copy_formed e h k =
      both_true names
      (both_true back
      (both_true (both_true (both_true (le-leb 0 e.object (omega arith)) refl) (both_true (both_true h (both_true k refl)) refl)) refl))

-- ---- the object and the mode of what is fetched
pub wanted_fits : (kind : ℕ) (es : List Entry) → every (entry_ok kind) es ≡ true
    → (ltb (get_or es 0 no_entry).object objects ≡ true) × (ltb (get_or es 0 no_entry).mode 2 ≡ true)
unfolding entry_ok
wanted_fits kind [] w = (refl, refl)
wanted_fits kind (e ∷ es) w =
    let f = left_true (entry_ok kind e) (every (entry_ok kind) es) w in
    (left_true (ltb e.object objects) _ f, left_true (ltb e.mode 2) _ (right_true (ltb e.object objects) _ f))

-- ---- rivals by owner
later : (lo hi : ℕ) (xs : List ℕ) → lo ≤ hi → ascend hi xs ≡ true → ascend lo xs ≡ true
unfolding ascend
later lo hi [] h w = refl
later lo hi (x ∷ xs) h w =
    both_true (le-leb lo x (omega (arith, leb-true hi x (left_true (leb hi x) _ w)))) (right_true (leb hi x) _ w)

abbrev owners_in : List Rival → List ℕ
owners_in rs = map (λ (r : Rival). r.owner) rs

one_ascends : (o s : ℕ) (b : Bool) (rs : List Rival) → ascend (o + 1) (owners_in rs) ≡ true
    → ascend o (owners_in (cond b [] (record { owner = o; serial = s } ∷ []) ++ rs)) ≡ true
unfolding ascend
one_ascends o s true rs w = later o (o + 1) (owners_in rs) (omega arith) w
one_ascends o s false rs w = both_true (le-leb o o (omega arith)) w

by_ascends : (o : ℕ) (ss : List ℕ) → ascend o (owners_in (rivals_by o ss)) ≡ true
unfolding rivals_by ascend
by_ascends o [] = refl
by_ascends o (s ∷ ss) = one_ascends o s (eqb s 0) (rivals_by (o + 1) ss) (by_ascends (o + 1) ss)

-- one owner of those is no rival: fewer rivals than owners
fewer : (o : ℕ) (ss : List ℕ) (i : ℕ) → i < length ss → get_or ss i 0 ≡ 0 → length (rivals_by o ss) < length ss
unfolding rivals_by
fewer o [] i h e = absurd (let z : ⊥ = omega arith in z)
fewer o (s ∷ ss) zero h e =
    let f : eqb s 0 ≡ true = eq-eqb s 0 e in
    simp f (omega (arith, rivals_length (o + 1) ss))
fewer o (s ∷ ss) (suc i) h e = by (eqb s 0) (fewer (o + 1) ss i (omega arith) e)
  where
    by : (b : Bool) → length (rivals_by (o + 1) ss) < length ss
        → length (cond b [] (record { owner = o; serial = s } ∷ []) ++ rivals_by (o + 1) ss) < length (s ∷ ss)
    by true f = omega arith
    by false f = omega arith

-- each is another node than the owner
one_fits : (owner to o s : ℕ) (b : Bool) (rs : List Rival) → eqb s 0 ≡ b → o < nodes → (o ≡ owner → s ≡ 0) → every (rival_ok 4 owner to) rs ≡ true
    → every (rival_ok 4 owner to) (cond b [] (record { owner = o; serial = s } ∷ []) ++ rs) ≡ true
unfolding rival_ok
one_fits owner to o s true rs f h k w = w
one_fits owner to o s false rs f h k w =
    let n : eqb o owner ≡ false = ne_eqb o owner (λ e. eqb-false s 0 f (k e)) in
    let p : 1 ≤ s = positive s (eqb-false s 0 f) in
    both_true (both_true (lt-ltb o nodes h) (both_true (ap not n) (both_true (le-leb 1 s p) refl))) w

by_fits : (owner to o : ℕ) (ss : List ℕ) → o + length ss ≤ nodes → ((i : ℕ) → i < length ss → o + i ≡ owner → get_or ss i 0 ≡ 0)
    → every (rival_ok 4 owner to) (rivals_by o ss) ≡ true
unfolding rivals_by
by_fits owner to o [] h k = refl
by_fits owner to o (s ∷ ss) h k =
    one_fits owner to o s (eqb s 0) (rivals_by (o + 1) ss) refl (omega arith) (λ e. k 0 (omega arith) (omega arith))
    (by_fits owner to (o + 1) ss (omega arith) (λ i a e. k (suc i) (omega arith) (omega arith)))

-- ---- the serials that a yes names: thirteen, and the owner's is 0
pub length_named : (l : List ℕ) (rivals n : ℕ) → length (named_below l rivals n) ≡ nodes
unfolding named_below
length_named l rivals zero = refl
length_named l rivals (suc n) = length-set (named_below l rivals n) n (named l rivals n) ∙ length_named l rivals n

unnamed : (l : List ℕ) (rivals n o : ℕ) → n ≤ nodes → o < nodes → contains rivals o ≡ false → get_or (named_below l rivals n) o 0 ≡ 0
unfolding named_below
unnamed l rivals zero o h k e = get_or-replicate nodes o 0 0 k
unnamed l rivals (suc n) o h k e =
    ⊎_elim
    (λ (p : o ≡ n).
    ap (λ (j : ℕ). get_or (set (named_below l rivals n) n (named l rivals n)) j 0) p
    ∙ get_or-set_same (named_below l rivals n) n (named l rivals n) 0 (omega (arith, length_named l rivals n))
    ∙ ap (λ (t : Bool). cond t (serial l n) 0) (ap (contains rivals) (sym p) ∙ e))
    (λ p. get_or-set_other (named_below l rivals n) n o (named l rivals n) 0 p ∙ unnamed l rivals n o (omega arith) k e)
    (same_or_not o n)

-- the owner is no rival of its own
pub not_own : (l : List ℕ) (m : Message) → m.owner < nodes → contains (rivals_of l m) m.owner ≡ false
unfolding rivals_of
not_own l m h =
    let o = m.owner in
    let g = gathered l 0 m.entries in
    let s : contains (only o) o ≡ true =
    ap (λ (t : Bool). contains (cond t (2 ^ o) 0) o) (lt-ltb o 16 (omega arith)) ∙ contains_power o o ∙ eq-eqb o o refl in
    contains_minus g (only o) o ∙ ap (λ (t : Bool). contains g o && not t) s ∙ and-false (contains g o)

pub yes_formed : (me : ℕ) (m : Message) (l : List ℕ) → Named me m → well_formed (vote_to me m (serials_of l (rivals_of l m)) 1) ≡ true
unfolding well_formed counts_ok entries_ok rivals_ok ascend serials_of
yes_formed me m l n =
    let ss = serials_of l (rivals_of l m) in
    let o : m.owner < nodes = ltb-true m.owner nodes n.owner in
    let k : length ss ≡ nodes = length_named l (rivals_of l m) nodes in
    let z : get_or ss m.owner 0 ≡ 0 = unnamed l (rivals_of l m) nodes m.owner (omega arith) o (not_own l m o) in
    let few : length (rivals_by 0 ss) < length ss = fewer 0 ss m.owner (omega arith) z in
    let fits = by_fits m.owner m.owner 0 ss (omega arith) (λ i a e. let q : i ≡ m.owner = omega arith in ap (λ (j : ℕ). get_or ss j 0) q ∙ z) in
    both_true (both_true (le-leb (length (rivals_by 0 ss)) 12 (omega arith)) refl)
    (both_true (names me m n) (both_true (back me m n) (both_true refl (both_true (by_ascends 0 ss) fits))))
