-- What a commit writes: each object that its message writes takes the entry's value and version plus 1, every other keeps both; and where the ask was voted
-- yes, versions rise. Entries ascend strictly, so no object is written twice.
use mathlib.Core.Path.{◌≡◌, refl, ap, ◌∙◌}
use mathlib.Core.Bool.{Bool, true, false, cond, not, ◌&&◌, ◌||◌}
use mathlib.Core.List.{List, [], ◌∷◌, map}
use Prim.Native.Nat.{ℕ, ◌+◌, ◌≤◌, ◌<◌}
use native.Mathlib.Omega.{arith}
use borrow.Author.Tests.{eq-eqb, ne_eqb, ltb-true, ltb-false, leb-true}
use lib.Dec.{eqb, ltb, leb}
use Rattle.numbers.specs.Sizes.{objects}
use Rattle.wire.specs.declared.Entry.{Entry}
use Rattle.wire.specs.Message.{Message}
use Rattle.wire.specs.Formed.{counts_ok, names_ok, direction_ok, ascend, every, entry_ok, entries_ok, rivals_ok, well_formed, word_of}
use Rattle.wire.specs.Encode.{All}
use Rattle.image.specs.declared.Copy.{Copy}
use Rattle.image.specs.Layout.{shape, value, version, copy_of}
use Rattle.judge.specs.Standing.{standing}
use Rattle.judge.specs.Judge.{some, newer, newer_here}
use Rattle.replica.specs.Steps.{outcome_image}
use Rattle.replica.proofs.Spoken.{and-false, left_true, right_true}
use Rattle.replica.proofs.Delivered.{or_neither, entries_of_lem, commit_raises}
use Rattle.replica.proofs.Fields.{writes_to, value_in, version_in}
use Rattle.replica.proofs.After.{commit_copy}
use Rattle.replica.proofs.Taken.{Taken}
use Rattle.replica.proofs.Holders.{writes_in}

-- ---- an object that no entry writes
pub unwritten : (t : ℕ) (es : List Entry) → writes_in es t ≡ false → (v w : ℕ) → (value_in es t v ≡ v) × (version_in es t w ≡ w)
unfolding some value_in version_in
unwritten t [] e v w = (refl, refl)
unwritten t (x ∷ xs) e v w =
    let n = or_neither (writes_to x t) (writes_in xs t) e in
    let r = unwritten t xs n.1 v w in (
      ap (λ (b : Bool). value_in xs t (cond b x.value v)) n.0 ∙ r.0,
      ap (λ (b : Bool). version_in xs t (cond b (x.version + 1) w)) n.0 ∙ r.1,
    )

-- entries that ascend from above t do not write it
beyond : (t lo : ℕ) (es : List Entry) → ascend lo (map (λ (e : Entry). e.object) es) ≡ true → t < lo → writes_in es t ≡ false
unfolding some ascend
beyond t lo [] a h = refl
beyond t lo (x ∷ xs) a h =
    let k : lo ≤ x.object = leb-true lo x.object (left_true (leb lo x.object) _ a) in
    let n : eqb t x.object ≡ false = ne_eqb t x.object (λ e. let z : ⊥ = omega arith in z) in
    ap (λ (b : Bool). not (eqb x.mode 0) && b || writes_in xs t) n
    ∙ ap (λ (b : Bool). b || writes_in xs t) (and-false (not (eqb x.mode 0)))
    ∙ beyond t (x.object + 1) xs (right_true (leb lo x.object) _ a) (omega arith)

-- ---- an object that an entry writes
abbrev Written : List Entry → Entry → Type 0
Written es e = (e.mode ≡ 0 → ⊥) → (v w : ℕ) → (value_in es e.object v ≡ e.value) × (version_in es e.object w ≡ e.version + 1)

all_then : {P Q : Entry → Type 0} → ((e : Entry) → P e → Q e) → (es : List Entry) → All P es → All Q es
all_then f [] a = tt
all_then f (e ∷ es) a = (f e a.0, all_then f es a.1)

first_written : (x : Entry) (xs : List Entry) → ascend (x.object + 1) (map (λ (e : Entry). e.object) xs) ≡ true → Written (x ∷ xs) x
unfolding value_in version_in
first_written x xs a ne v w =
    let y : writes_to x x.object ≡ true =
    ap (λ (b : Bool). not b && eqb x.object x.object) (ne_eqb x.mode 0 ne) ∙ eq-eqb x.object x.object refl in
    let r = unwritten x.object xs (beyond x.object (x.object + 1) xs a (omega arith)) x.value (x.version + 1) in (
      ap (λ (b : Bool). value_in xs x.object (cond b x.value v)) y ∙ r.0,
      ap (λ (b : Bool). version_in xs x.object (cond b (x.version + 1) w)) y ∙ r.1,
    )

pub all_written : (lo : ℕ) (es : List Entry) → ascend lo (map (λ (e : Entry). e.object) es) ≡ true → All (Written es) es
unfolding ascend value_in version_in
all_written lo [] a = tt
all_written lo (x ∷ xs) a =
    let b = right_true (leb lo x.object) _ a in (
      first_written x xs b,
      all_then
          (λ e f ne v w.
          f ne (cond (writes_to x e.object) x.value v) (cond (writes_to x e.object) (x.version + 1) w))
          xs (all_written (x.object + 1) xs b),
    )

-- ---- a commit of a held transaction
ascending : (m : Message) → well_formed m ≡ true → ascend 0 (map (λ (e : Entry). e.object) m.entries) ≡ true
unfolding well_formed entries_ok
ascending m w =
    let d = right_true (names_ok m) _ (right_true (counts_ok m.kind _ _ _ _) _ w) in
    let e = left_true (entries_ok m) (rivals_ok m) (right_true (direction_ok m) _ d) in
    left_true (ascend 0 (map (λ (e : Entry). e.object) m.entries)) _ e

all_with : (q : Entry → Bool) (P : Entry → Type 0) (es : List Entry) → every q es ≡ true → All P es → All (λ (e : Entry). (q e ≡ true) × P e) es
all_with q P [] w a = tt
all_with q P (e ∷ es) w a = ((left_true (q e) _ w, a.0), all_with q P es (right_true (q e) _ w) a.1)

there : (kind : ℕ) (e : Entry) → entry_ok kind e ≡ true → e.object < shape.objects
unfolding entry_ok
there kind e w = ltb-true e.object objects (left_true (ltb e.object objects) _ w)

module _ (l : List ℕ) (m : Message) (k : Taken l m) (kind : m.kind ≡ 5) (held : standing l m ≡ 2) (word : word_of m ≡ 1) where
  after : (t : ℕ) → t < shape.objects
      → (value (outcome_image l m) t ≡ value_in m.entries t (value l t)) × (version (outcome_image l m) t ≡ version_in m.entries t (version l t))
  unfolding copy_of
  after t h =
      let c = commit_copy l m k.sound k.owner k.serial k.stamp k.fits held word (commit_raises m k.formed kind) t h in
      (ap (λ (x : Copy). x.value) c, ap (λ (x : Copy). x.version) c)

  -- each object that the message writes
  pub commit_writes : All (λ (e : Entry). (e.mode ≡ 0 → ⊥)
      → (value (outcome_image l m) e.object ≡ e.value) × (version (outcome_image l m) e.object ≡ e.version + 1)) m.entries
  commit_writes =
      all_then
      (λ e p ne.
      let a = after e.object (there m.kind e p.0) in
      let w = p.1 ne (value l e.object) (version l e.object) in
      (a.0 ∙ w.0, a.1 ∙ w.1))
      m.entries
      (all_with (entry_ok m.kind) (Written m.entries) m.entries (entries_of_lem m k.formed) (all_written 0 m.entries (ascending m k.formed)))

  -- every other object
  pub commit_others : (t : ℕ) → t < shape.objects → writes_in m.entries t ≡ false
      → (value (outcome_image l m) t ≡ value l t) × (version (outcome_image l m) t ≡ version l t)
  commit_others t h n =
      let a = after t h in
      let u = unwritten t m.entries n (value l t) (version l t) in
      (a.0 ∙ u.0, a.1 ∙ u.1)

-- ---- where no copy here is newer than the ask found it, its commit's versions are above those here
none_newer : (l : List ℕ) (es : List Entry) → some (newer l) es ≡ false → All (λ (e : Entry). version l e.object < e.version + 1) es
unfolding some
none_newer l [] n = tt
none_newer l (e ∷ es) n =
    let u = or_neither (newer l e) (some (newer l) es) n in
    (omega (arith, ltb-false e.version (version l e.object) u.0), none_newer l es u.1)

pub version_rises : (l : List ℕ) (m : Message) → newer_here l m ≡ false → All (λ (e : Entry). version l e.object < e.version + 1) m.entries
unfolding newer_here
version_rises l m n = none_newer l m.entries n

-- so such a commit of a held transaction raises the version of each object that it writes
all_both : (P Q : Entry → Type 0) (es : List Entry) → All P es → All Q es → All (λ (e : Entry). P e × Q e) es
all_both P Q [] a b = tt
all_both P Q (e ∷ es) a b = ((a.0, b.0), all_both P Q es a.1 b.1)

pub commit_above : (l : List ℕ) (m : Message) → Taken l m → m.kind ≡ 5 → standing l m ≡ 2 → word_of m ≡ 1 → newer_here l m ≡ false
    → All (λ (e : Entry). (e.mode ≡ 0 → ⊥) → version l e.object < version (outcome_image l m) e.object) m.entries
commit_above l m k kind held word n =
    let after = outcome_image l m in
    all_then (λ e p ne. omega (arith, p.0, (p.1 ne).1)) m.entries
    (all_both (λ e. version l e.object < e.version + 1)
    (λ e. (e.mode ≡ 0 → ⊥) → (value after e.object ≡ e.value) × (version after e.object ≡ e.version + 1))
    m.entries (version_rises l m n) (commit_writes l m k kind held word))
