-- What a message that is late, or that comes again, is answered; and who is in the lists of readers and writers (document 000: PR and PW) after a fetch
-- and after an outcome. One law for each sentence.
use mathlib.Core.Path.{◌≡◌, refl, sym, ap, subst, ◌∙◌}
use mathlib.Core.Bool.{Bool, true, false, cond}
use mathlib.Core.List.{List}
use Prim.Native.Nat.{ℕ, ◌≤◌, ◌<◌}
use native.Mathlib.Omega.{arith}
use borrow.Author.Tests.{eq-eqb, ltb-true}
use lib.Dec.{T, eqb, eqb_refl}
use Rattle.numbers.specs.Sizes.{nodes, objects}
use Rattle.mask.specs.Mask.{contains, only}
use Rattle.mask.proofs.Laws.{contains_joined}
use Rattle.mask.proofs.Tests.{or_right}
use Rattle.wire.specs.Message.{Message}
use Rattle.wire.specs.Formed.{word_of}
use Rattle.image.specs.declared.Copy.{Copy}
use Rattle.image.specs.Layout.{shape, readers_field, writers_field, state_field, readers, writers, copy_of}
use Rattle.image.specs.Change.{listing, free, unlist}
use Rattle.image.proofs.Lens.{of_with_apart}
use Rattle.image.proofs.Marks.{contains_only}
use Rattle.image.proofs.Whole.{keeps_free, unlist_no_reader, unlist_no_writer}
use Rattle.judge.specs.Standing.{standing, active}
use Rattle.judge.specs.Judge.{no_serials}
use Rattle.replica.specs.Steps.{says, wanted, copy_to, vote_to, done_to, copy_here, fetch_image, fetch_answer, ask_image, ask_answer}
use Rattle.replica.specs.Steps.{leaves, decided, released, outcome_image}
use Rattle.replica.specs.Receive.{outcome_wrong_turn, wrong_turn, gives, step}
use Rattle.replica.proofs.Spoken.{wanted_fits}
use Rattle.replica.proofs.Delivered.{entries_of_lem}
use Rattle.replica.proofs.After.{step_fetch, step_outcome, fetch_copy, settled, decided_sound}
use Rattle.replica.proofs.Taken.{Taken}

module _ (l : List ℕ) (me : ℕ) (m : Message) where
  -- a late outcome is in turn, changes nothing and gets done
  pub late_gets_done : m.kind ≡ 5 → standing l m ≡ 0 → (wrong_turn l m ≡ false) × (step l me m ≡ gives l (says (done_to me m)))
  unfolding wrong_turn outcome_wrong_turn step outcome_image
  late_gets_done e z = (simp (e, z) (by (eqb (word_of m) 1)), simp (e, z))
    where
      by : (b : Bool) → cond b false false ≡ false
      by true = refl
      by false = refl

  -- an ask that is held already is in turn, changes nothing and answers yes again, and one that is refused no; neither names a rival
  pub held_yes_again : m.kind ≡ 3 → standing l m ≡ 2 → (wrong_turn l m ≡ false) × (step l me m ≡ gives l (says (vote_to me m no_serials 1)))
  unfolding wrong_turn step active ask_image ask_answer
  held_yes_again e z = (simp (e, z), simp (e, z))

  pub refused_no_again : m.kind ≡ 3 → standing l m ≡ 3 → (wrong_turn l m ≡ false) × (step l me m ≡ gives l (says (vote_to me m no_serials 0)))
  unfolding wrong_turn step active ask_image ask_answer
  refused_no_again e z = (simp (e, z), simp (e, z))

  -- Algorithm 1, 13 and 29: a fetch that is listed is answered with the copy here
  pub fetch_gets_copy : m.kind ≡ 1 → active l m ≡ true → (step l me m).answer ≡ says (copy_to me m (copy_here l (wanted m)))
  unfolding step fetch_answer
  fetch_gets_copy e a = simp (e, a)

in_listing : (o m : ℕ) → o < nodes → T (contains (listing o m) o)
in_listing o m small =
    subst T (sym (contains_joined m (only o) o))
    (or_right (contains m o) (contains (only o) o) (subst T (sym (contains_only o o (omega arith))) (eqb_refl o)))

module _ (l : List ℕ) (me : ℕ) (m : Message) (k : Taken l m) where
  abbrev o : ℕ
  o = m.owner

  -- ---- Algorithm 1, 12 and 28: a fetch to read puts its owner into the object's readers, a fetch to write into its writers
  module _ (e : m.kind ≡ 1) (a : active l m ≡ true) where
    abbrev x : ℕ
    x = (wanted m).object

    there : x < objects
    there = ltb-true x objects (wanted_fits m.kind m.entries (entries_of_lem m k.formed)).0

    pub fetch_joins_readers : (wanted m).mode ≡ 0 → T (contains (readers (step l me m).image x) o)
    unfolding copy_of
    fetch_joins_readers q =
        let r = ap (λ (c : Copy). c.readers) (fetch_copy l m k.sound k.owner k.serial k.stamp k.fits a x there) in
        let z : readers (fetch_image l m) x ≡ listing o (readers l x) = r ∙ simp (q, eq-eqb x x refl) in
        subst (λ (s : ℕ). T (contains s o)) (sym (ap (λ (n : List ℕ). readers n x) (step_fetch l me m e) ∙ z)) (in_listing o (readers l x) k.owner)

    pub fetch_joins_writers : (wanted m).mode ≡ 1 → T (contains (writers (step l me m).image x) o)
    unfolding copy_of
    fetch_joins_writers q =
        let r = ap (λ (c : Copy). c.writers) (fetch_copy l m k.sound k.owner k.serial k.stamp k.fits a x there) in
        let z : writers (fetch_image l m) x ≡ listing o (writers l x) = r ∙ simp (q, eq-eqb x x refl) in
        subst (λ (s : ℕ). T (contains s o)) (sym (ap (λ (n : List ℕ). writers n x) (step_fetch l me m e) ∙ z)) (in_listing o (writers l x) k.owner)

  -- ---- Algorithm 3, 26: after the outcome of the transaction that is here, commit or abort, its owner is in no list of any object
  module _ (e : m.kind ≡ 5) (a : 1 ≤ standing l m) (b : standing l m ≤ 3) (t : ℕ) (h : t < shape.objects) where
    abbrev left : List ℕ
    left = unlist (free (decided l m) o) o

    lets_go : (step l me m).image ≡ leaves (free (decided l m) o) o 0
    unfolding released
    lets_go = step_outcome l me m e ∙ settled l m k.sound k.owner k.serial k.stamp k.fits a b

    pub outcome_leaves_readers : T (contains (readers (step l me m).image t) o) → ⊥
    unfolding leaves
    outcome_leaves_readers c =
        unlist_no_reader (free (decided l m) o) o
        (keeps_free (decided l m) o (decided_sound l m k.sound k.owner k.serial k.stamp k.fits)) k.owner t h
        (subst (λ (s : ℕ). T (contains s o))
        (ap (λ (n : List ℕ). readers n t) lets_go ∙ of_with_apart (state_field shape) (readers_field shape) left o t 0 tt) c)

    pub outcome_leaves_writers : T (contains (writers (step l me m).image t) o) → ⊥
    unfolding leaves
    outcome_leaves_writers c =
        unlist_no_writer (free (decided l m) o) o
        (keeps_free (decided l m) o (decided_sound l m k.sound k.owner k.serial k.stamp k.fits)) k.owner t h
        (subst (λ (s : ℕ). T (contains s o))
        (ap (λ (n : List ℕ). writers n t) lets_go ∙ of_with_apart (state_field shape) (writers_field shape) left o t 0 tt) c)
