-- What a message of a transaction does at a participant that lets it through (`Member`): where the transaction is not here yet, or is listed, and nothing
-- stands against it, a fetch keeps it so, and an ask is voted yes and makes it held. Where it is held, or over, it stays so; and no vote is ever a no.
use mathlib.Core.Path.{◌≡◌, refl, sym, ◌∙◌, ap, subst}
use mathlib.Core.Logic.{◌≢◌, ◌⊎◌, inl, inr}
use mathlib.Core.Bool.{Bool, true, false, cond, ◌||◌}
use mathlib.Core.List.{List, [], ◌∷◌}
use Prim.Native.Nat.{ℕ, ◌<◌, ◌≤◌}
use native.Mathlib.Omega.{arith}
use lib.Dec.{eqb, ltb}
use borrow.Author.Tests.{eq-eqb, ne_eqb, lt-ltb, ltb-true}
use Rattle.numbers.specs.Sizes.{nodes, nobody, objects}
use Rattle.octets.proofs.Laws.{Bytes}
use Rattle.age.specs.Age.{older}
use Rattle.wire.specs.declared.Entry.{Entry}
use Rattle.wire.specs.Message.{Message, vote}
use Rattle.wire.specs.Formed.{word_of, every, entry_ok}
use Rattle.image.specs.declared.Copy.{Copy}
use Rattle.image.specs.declared.Owner.{Owner}
use Rattle.image.specs.Layout.{shape, version_field, holder_field, stamp_field, version, holder, serial, state, stamp, copy_of, owner_of}
use Rattle.image.specs.Valid.{over, listed}
use Rattle.image.proofs.Each.{lt_or_le}
use Rattle.image.proofs.Lens.{of_out}
use Rattle.judge.specs.Standing.{above_of, standing, active, entered}
use Rattle.judge.specs.Judge.{no_serials, serials_of, rivals_of, votes_no}
use Rattle.replica.specs.Steps.{Answer, silent, says, copy_to, vote_to, wanted, copy_here, fetch_image, fetch_answer, ask_image, ask_answer, judged_answer}
use Rattle.replica.specs.Steps.{outcome_image, outcome_answer}
use Rattle.replica.specs.Receive.{Delivered, gives, step}
use Rattle.replica.proofs.Delivered.{either_way, entries_of_lem}
use Rattle.replica.proofs.Fields.{restated}
use Rattle.replica.proofs.Kept.{keeps_entered}
use Rattle.replica.proofs.After.{listed_owner, entered_copy, entered_owner, fetch_copy, fetch_owner, yes_owner}
use Rattle.replica.proofs.Taken.{Taken}
use Rattle.coordinator.specs.declared.Coordinator.{Coordinator}
use Rattle.coordinator.specs.State.{object_at, is_open}
use Rattle.coordinator.specs.Calls.{with_phase}
use Rattle.protocol.specs.Table.{In}
use Rattle.protocol.specs.Rules.{unused, read, write}
use Rattle.protocol.specs.Proof.Tables.{clash}
use Rattle.protocol.proofs.Tables.{on}
use Rattle.history.proofs.Tests.{and-true}
use Rattle.history.proofs.Sim.{mode_of, contents_of, Match}
use Rattle.history.proofs.Images.{same_field, owner_from}
use Rattle.history.proofs.Acts.{last_stands, behind_stands}
use Rattle.history.proofs.Served.{kind_cases}
use Rattle.history.proofs.Moves.{Bound, Served, bound_on, served_step}
use Rattle.progress.proofs.Judged.{Lets, voted_yes_lem}

-- ---- an image that lets the record's transaction, of owner o, through
-- nothing there stands against it: every other that is listed is younger, and of its objects nobody holds a copy and no copy is newer
pub record Clear (c : Coordinator) (o : ℕ) (l : List ℕ) : Type 0 where
  pub oldest : (w : ℕ) → w ≢ o → state l w ≡ listed → older c.timestamp o (stamp l w) w ≡ true
  pub free : (t : ℕ) → is_open c t ≡ true → holder l t ≡ nobody
  pub current : (t : ℕ) → is_open c t ≡ true → version l t ≤ (object_at c t).version

-- the transaction (o, s) is not here yet, or listed
abbrev pub Entering : List ℕ → ℕ → ℕ → Type 0
Entering l o s = ((serial l o < s) × (state l o ≡ over)) ⊎ ((serial l o ≡ s) × (state l o ≡ listed))

-- it may enter, and nothing stands against it; or it is held, or late
abbrev pub Member : Coordinator → ℕ → List ℕ → Type 0
Member c o l = (Entering l o c.serial × Clear c o l) ⊎ Bound l o c.serial

-- whatever votes and dones the record has
pub member_on : (c : Coordinator) (o : ℕ) (l : List ℕ) (phase outcome participants agreed done : ℕ) (rivals : List ℕ) → Member c o l
    → Member (with_phase c phase outcome participants agreed done rivals) o l
member_on c o l phase outcome participants agreed done rivals (inl z) =
    inl (z.0, record { oldest = z.1.oldest; free = z.1.free; current = z.1.current })
member_on c o l phase outcome participants agreed done rivals (inr b) = inr b

-- an answer that is no vote, or a yes
abbrev pub NotNo : Answer → Type 0
NotNo silent = Unit {0}
NotNo (says a) = a.kind ≡ vote → word_of a ≡ 1

-- ---- what is read of two images
-- the stamps of all owners but one
stamps_from : (l k : List ℕ) (o : ℕ) (x : Owner) → ((p : ℕ) → p < nodes → owner_of k p ≡ cond (eqb p o) x (owner_of l p))
    → (w : ℕ) → w ≢ o → stamp k w ≡ stamp l w
unfolding owner_of
stamps_from l k o x h w e = on (lt_or_le w nodes)
    (λ q. ap (λ (y : Owner). y.stamp) (h w q ∙ ap (λ (b : Bool). cond b x (owner_of l w)) (ne_eqb w o e)))
    (λ q. of_out (stamp_field shape) k w q ∙ sym (of_out (stamp_field shape) l w q))

versions_from : (l k : List ℕ) → ((t : ℕ) → t < shape.objects → (copy_of k t).version ≡ (copy_of l t).version) → (t : ℕ) → version k t ≡ version l t
unfolding copy_of
versions_from l k h = same_field (version_field shape) l k h

holders_from : (l k : List ℕ) → ((t : ℕ) → t < shape.objects → (copy_of k t).holder ≡ (copy_of l t).holder) → (t : ℕ) → holder k t ≡ holder l t
unfolding copy_of
holders_from l k h = same_field (holder_field shape) l k h

clear_on : (c : Coordinator) (o : ℕ) (l k : List ℕ) (x : Owner) → o < nodes
    → ((p : ℕ) → p < nodes → owner_of k p ≡ cond (eqb p o) x (owner_of l p))
    → ((t : ℕ) → t < shape.objects → (copy_of k t).version ≡ (copy_of l t).version)
    → ((t : ℕ) → t < shape.objects → (copy_of k t).holder ≡ (copy_of l t).holder)
    → Clear c o l → Clear c o k
clear_on c o l k x small rows versions holders z =
    let one = owner_from l k o x small rows in
    record {
      oldest = λ w e q. subst (λ (a : ℕ). older c.timestamp o a w ≡ true) (sym (stamps_from l k o x rows w e)) (z.oldest w e (sym (one.states w e) ∙ q));
      free = λ t q. holders_from l k holders t ∙ z.free t q;
      current = λ t q. subst (λ (a : ℕ). a ≤ (object_at c t).version) (sym (versions_from l k versions t)) (z.current t q);
    }

-- what a record asks votes for is open
asked_open : (c : Coordinator) (t m : ℕ) → (contents_of c).mode t ≡ mode_of m → is_open c t ≡ true
asked_open c t m = by (is_open c t) (eqb m 0)
  where
    by : (b d : Bool) → cond b (mode_of (object_at c t).mode) unused ≡ cond d read write → b ≡ true
    by true d e = refl
    by false true e = absurd (clash (cc))
    by false false e = absurd (clash (cc))

entry_small : (kind : ℕ) (es : List Entry) → every (entry_ok kind) es ≡ true → (e : Entry) → In e es → e.object < objects
unfolding entry_ok
entry_small kind [] h e i = absurd i
entry_small kind (x ∷ es) h e (inl q) =
    let z = (and-true (entry_ok kind x) (every (entry_ok kind) es) h).0 in
    subst (λ (y : Entry). y.object < objects) (sym q) (ltb-true x.object objects (and-true (ltb x.object objects) _ z).0)
entry_small kind (x ∷ es) h e (inr i) = entry_small kind es (and-true (entry_ok kind x) (every (entry_ok kind) es) h).1 e i

-- ---- a message of the transaction, taken at node n with the image l
module _ (l : List ℕ) (m : Message) (t : Taken l m) (n : ℕ) (bytes : Bytes l) where
  abbrev o : ℕ
  o = m.owner

  -- one that is late or held answers no ask with a no
  bound_says : Bound l o m.serial → NotNo (ask_answer n l m)
  unfolding ask_answer active
  bound_says b = on b (λ z. says_at 0 (behind_stands l m z) tt) (λ z. says_at 2 (last_stands l m z.0 ∙ z.1) (λ e. refl))
    where
      says_at : (s : ℕ) → standing l m ≡ s
          → NotNo (cond (eqb s 1 || eqb s 4) (judged_answer n (entered l m) m)
          (cond (eqb s 2) (says (vote_to n m no_serials 1)) (cond (eqb s 3) (says (vote_to n m no_serials 0)) silent)))
          → NotNo (ask_answer n l m)
      says_at s e a = subst (λ (u : ℕ). NotNo (cond (eqb u 1 || eqb u 4) (judged_answer n (entered l m) m)
          (cond (eqb u 2) (says (vote_to n m no_serials 1)) (cond (eqb u 3) (says (vote_to n m no_serials 0)) silent)))) (sym e) a

  fetch_says : NotNo (fetch_answer n l m)
  unfolding fetch_answer
  fetch_says = either_way NotNo (active l m) (says (copy_to n m (copy_here l (wanted m)))) silent (λ e. absurd (let z : ⊥ = omega (arith, e) in z)) tt

  outcome_says : NotNo (outcome_answer n m)
  outcome_says e = absurd (let z : ⊥ = omega (arith, e) in z)

  -- so it says no to nothing
  pub bound_not_no : Bound l o m.serial → NotNo (step l n m).answer
  bound_not_no b = kind_cases l n m t (λ (d : Delivered). NotNo d.answer) (λ e. fetch_says) (λ e. bound_says b) (λ e. outcome_says)

  bound_stays : Bound l o m.serial → Bound (step l n m).image o m.serial
  bound_stays b = bound_on l (step l n m).image o m.serial (served_step l m t n bytes).0 o m.serial b

  -- after an outcome it is late
  outcome_bound : m.kind ≡ 5 → Bound (outcome_image l m) o m.serial
  unfolding step
  outcome_bound e = inl ((subst (Served l m t n) is (served_step l m t n bytes)).1.a_done_lem refl)
    where
      is : step l n m ≡ gives (outcome_image l m) (outcome_answer n m)
      is = simp e

  -- ---- of the record's transaction
  module _ (c : Coordinator) (its_serial : m.serial ≡ c.serial) (its_stamp : m.stamp ≡ c.timestamp)
      (stamped : state l o ≢ over → stamp l o ≡ c.timestamp) (entries : m.kind ≡ 3 → Match (contents_of c) m.entries) where
    fresh_stands : serial l o < m.serial → state l o ≡ over → standing l m ≡ 4
    unfolding standing above_of
    fresh_stands h e =
        ap (λ (b : Bool). cond b (cond (eqb (state l o) 0) 4 5) (cond (eqb (serial l o) m.serial) (state l o) 0)) (lt-ltb (serial l o) m.serial h)
        ∙ ap (λ (u : ℕ). cond {A = ℕ} (eqb u 0) 4 5) e

    stands : Entering l o c.serial → (standing l m ≡ 4) ⊎ ((standing l m ≡ 1) × (state l o ≡ listed))
    stands (inl z) = inl (fresh_stands (subst (λ (s : ℕ). serial l o < s) (sym its_serial) z.0) z.1)
    stands (inr z) = inr (last_stands l m (z.0 ∙ sym its_serial) ∙ z.1, z.1)

    counts : Entering l o c.serial → active l m ≡ true
    unfolding active
    counts e = on (stands e) (λ z. ap (λ (s : ℕ). eqb s 1 || eqb s 4) z) (λ z. ap (λ (s : ℕ). eqb s 1 || eqb s 4) z.0)

    module _ (enters : Entering l o c.serial) (clear : Clear c o l) where
      a : active l m ≡ true
      a = counts enters

      -- a fetch
      fetch_member : Member c o (fetch_image l m)
      fetch_member =
          let rows = fetch_owner l m t.sound t.owner t.serial t.stamp t.fits a in
          let copies = fetch_copy l m t.sound t.owner t.serial t.stamp t.fits a in
          let one = owner_from l (fetch_image l m) o (listed_owner l m) t.owner rows in
          inl (
            inr (one.its_serial ∙ its_serial, one.its_state),
            clear_on c o l (fetch_image l m) (listed_owner l m) t.owner rows (λ u q. ap (λ (x : Copy). x.version) (copies u q))
                (λ u q. ap (λ (x : Copy). x.holder) (copies u q)) clear,
          )

      -- an ask: the transaction is entered, with its timestamp, and nothing stands against it
      abbrev k : List ℕ
      k = entered l m

      entered_rows : (p : ℕ) → p < nodes → owner_of k p ≡ cond (eqb p o) (listed_owner l m) (owner_of l p)
      entered_rows = entered_owner l m t.sound t.owner t.serial t.stamp t.fits a

      entered_stamp : stamp k o ≡ c.timestamp
      unfolding owner_of
      entered_stamp =
          ap (λ (x : Owner). x.stamp) (entered_rows o t.owner ∙ ap (λ (b : Bool). cond b (listed_owner l m) (owner_of l o)) (eq-eqb o o refl))
          ∙ on (stands enters)
          (λ z. ap (λ (s : ℕ). cond (eqb s 4) m.stamp (stamp l o)) z ∙ its_stamp)
          (λ z. ap (λ (s : ℕ). cond (eqb s 4) m.stamp (stamp l o)) z.0 ∙ stamped (λ q. let u : ⊥ = omega (arith, q, z.1) in u))

      entered_clear : Clear c o k
      entered_clear =
          let copies = entered_copy l m t.sound t.owner t.serial t.stamp t.fits in
          clear_on c o l k (listed_owner l m) t.owner entered_rows (λ u q. ap (λ (x : Copy). x.version) (copies u q))
          (λ u q. ap (λ (x : Copy). x.holder) (copies u q)) clear

      entered_lets : m.kind ≡ 3 → Lets k o (stamp k o) m.entries
      entered_lets e =
          let match = entries e in
          let opened : (x : Entry) → In x m.entries → is_open c x.object ≡ true = λ x i. asked_open c x.object x.mode (match.mode_as x i) in
          record {
            oldest = λ w q s. subst (λ (ts : ℕ). older ts o (stamp k w) w ≡ true) (sym entered_stamp) (entered_clear.oldest w q s);
            free = λ x i. entered_clear.free x.object (opened x i);
            current = λ x i. subst (λ (v : ℕ). version k x.object ≤ v) (match.version_as x i) (entered_clear.current x.object (opened x i));
            small = entry_small m.kind m.entries (entries_of_lem m t.formed);
          }

      yes : m.kind ≡ 3 → votes_no k m ≡ false
      yes e = voted_yes_lem k (keeps_entered l m t.sound t.owner t.serial t.stamp t.fits a).0 m t.owner (entered_lets e)

      ask_member : m.kind ≡ 3 → Member c o (ask_image l m)
      ask_member e =
          let one = owner_from l (ask_image l m) o (restated 2 (listed_owner l m)) t.owner
          (yes_owner l m t.sound t.owner t.serial t.stamp t.fits a (yes e)) in
          inr (inr (one.its_serial ∙ its_serial, one.its_state))

      ask_says : m.kind ≡ 3 → NotNo (ask_answer n l m)
      unfolding ask_answer judged_answer
      ask_says e = subst (λ (b : Bool). NotNo (cond b (judged_answer n k m)
          (cond (eqb (standing l m) 2) (says (vote_to n m no_serials 1)) (cond (eqb (standing l m) 3) (says (vote_to n m no_serials 0)) silent)))) (sym a)
          (subst (λ (b : Bool). NotNo (cond b (says (vote_to n m no_serials 0)) (says (vote_to n m (serials_of k (rivals_of k m)) 1)))) (sym (yes e))
          (λ q. refl))

      entering_next : Member c o (step l n m).image × NotNo (step l n m).answer
      entering_next = kind_cases l n m t (λ (d : Delivered). Member c o d.image × NotNo d.answer) (λ e. (fetch_member, fetch_says))
          (λ e. (ask_member e, ask_says e)) (λ e. (inr (subst (Bound (outcome_image l m) o) its_serial (outcome_bound e)), outcome_says))

    -- THE LEMMA
    pub member_next : Member c o l → Member c o (step l n m).image × NotNo (step l n m).answer
    member_next (inl z) = entering_next z.0 z.1
    member_next (inr b) =
        let d = subst (Bound l o) (sym its_serial) b in
        (inr (subst (Bound (step l n m).image o) its_serial (bound_stays d)), bound_not_no d)
