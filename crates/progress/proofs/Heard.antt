-- What a message makes of a record that votes, finishes or is idle: a participant's yes and an awaited node's done are counted, and nothing else changes
-- it, but a no and a yield; and a yield never goes to its own owner.
use mathlib.Core.Path.{◌≡◌, refl, sym, ◌∙◌, ap, subst}
use mathlib.Core.Logic.{◌≢◌, ◌⊎◌, inl, inr}
use mathlib.Core.Bool.{Bool, true, cond, not, ◌&&◌}
use mathlib.Core.List.{List, [], ◌∷◌, map}
use Prim.Native.Nat.{ℕ}
use native.Mathlib.Omega.{arith}
use lib.Dec.{eqb, ltb}
use lib.ListN.{length, get_or}
use borrow.Author.Tests.{eqb-true, eq-eqb}
use Rattle.numbers.specs.Sizes.{nodes}
use Rattle.mask.specs.Mask.{contains, within}
use Rattle.mask.proofs.Tests.{T_true}
use Rattle.numbers.specs.Refusal.{first_of}
use Rattle.wire.specs.declared.Rival.{Rival}
use Rattle.wire.specs.Message.{Message, vote, done, yield}
use Rattle.wire.specs.Formed.{counts_ok, names_ok, direction_ok, ascend, every, rival_ok, entries_ok, rivals_ok, well_formed}
use Rattle.wire.specs.Decode.{kind_of, from_of, to_of, owner_of, serial_of, stamp_of, decode, check_of}
use Rattle.wire.specs.Items.{no_rival, word_of}
use Rattle.coordinator.specs.declared.Coordinator.{Coordinator}
use Rattle.coordinator.specs.Step.{Step}
use Rattle.coordinator.specs.System.{System}
use Rattle.coordinator.specs.State.{idle_phase, open_phase, voting_phase, finishing_phase, committed, awaited, idle_after}
use Rattle.coordinator.specs.Calls.{with_phase}
use Rattle.arrivals.specs.Receive.{with_yes, with_done, delivered, receive_refusals, receive_of}
use Rattle.clauses.proofs.Parts.{on_cond}
use Rattle.clauses_arrive.proofs.Deliveries.{said_yes, named, said_done, receive_cases}
use Rattle.protocol.proofs.Tables.{on}
use Rattle.history.proofs.Tests.{no_both, and-true, not-true}
use Rattle.history.proofs.Words.{header, formed_of, formed_yield}
use Rattle.progress.proofs.Answering.{yes_taken_lem, done_taken_lem}

-- ---- a yield goes to another owner
rival_named : (kind owner to : ℕ) (rs : List Rival) → length rs ≡ 1 → every (rival_ok kind owner to) rs ≡ true → (get_or rs 0 no_rival).owner ≢ owner
unfolding rival_ok
rival_named kind owner to [] e f q = let z : ⊥ = omega (arith, e) in z
rival_named kind owner to (r ∷ rs) e f q =
    let a = (and-true (rival_ok kind owner to r) (every (rival_ok kind owner to) rs) f).0 in
    let b = (and-true (ltb r.owner nodes) _ a).1 in
    no_both (eq-eqb r.owner owner q) (not-true (eqb r.owner owner) (and-true (not (eqb r.owner owner)) _ b).0)

yields_other : (m : Message) → well_formed m ≡ true → m.kind ≡ yield → m.to ≢ m.owner
unfolding well_formed counts_ok rivals_ok
yields_other m f k e =
    let counts : Bool = counts_ok m.kind (length m.entries) (length m.rivals) (length m.words) (Rattle.wire.specs.Formed.word_of m) in
    let a = and-true counts (names_ok m && (direction_ok m && (entries_ok m && rivals_ok m))) f in
    let b = and-true (names_ok m) (direction_ok m && (entries_ok m && rivals_ok m)) a.1 in
    let c = and-true (direction_ok m) (entries_ok m && rivals_ok m) b.1 in
    let d = and-true (entries_ok m) (rivals_ok m) c.1 in
    let one : length m.rivals ≡ 1 = eqb-true (length m.rivals) 1 (and-true (eqb (length m.rivals) 1) _
    (subst (λ (k : ℕ). counts_ok k (length m.entries) (length m.rivals) (length m.words) (Rattle.wire.specs.Formed.word_of m) ≡ true) k a.0)).0 in
    rival_named m.kind m.owner m.to m.rivals one
    (and-true (ascend 0 (map (λ (r : Rival). r.owner) m.rivals)) (every (rival_ok m.kind m.owner m.to) m.rivals) d.1).1
    (formed_yield m f k ∙ e)

pub yield_other : (b : List ℕ) → check_of b ≡ 0 → kind_of b ≡ yield → to_of b ≢ owner_of b
yield_other b ok k e = yields_other (decode b) (formed_of b ok) ((header b).0 ∙ k) ((header b).2 ∙ e ∙ sym (header b).3)

-- ---- a message that nothing refuses
module _ (s : System) (c : Coordinator) (n : ℕ) (b : List ℕ) where
  abbrev after : Coordinator
  after = (receive_of s c n b).coordinator

  abbrev Same : Step → Type 0
  Same r = r.coordinator ≡ c

  -- no vote of a participant, and no yield
  pub voting_same : c.phase ≡ voting_phase → (kind_of b ≡ vote → contains c.participants (from_of b) ≡ true → ⊥) → kind_of b ≢ yield → after ≡ c
  voting_same p v y = receive_cases Same s c n b (record {
    as_before = λ number. refl;
    copied = λ f. absurd (let i = f.answer.in_phase in let z : ⊥ = omega (arith, p, i) in z);
    endings = λ r. let z : ⊥ = on r (λ f. v f.answer.its_kind (T_true _ f.answer.from_node)) (λ f. y f.its_kind) in
        record { gone = λ u e. absurd z; aborting = λ u e. absurd z };
    last_yes = λ f t. absurd (v f.answer.its_kind (T_true _ f.answer.from_node));
    one_yes = λ f t. absurd (v f.answer.its_kind (T_true _ f.answer.from_node));
    last_done = λ f t. absurd (let i = f.in_phase in let z : ⊥ = omega (arith, p, i) in z);
    one_done = λ f t. absurd (let i = f.in_phase in let z : ⊥ = omega (arith, p, i) in z);
  })

  -- no done of an awaited node, of a record that is not open and does not vote
  settled_same : ((c.phase ≡ open_phase) ⊎ (c.phase ≡ voting_phase) → ⊥)
      → (c.phase ≡ finishing_phase → kind_of b ≡ done → contains (awaited c) (from_of b) ≡ true → ⊥) → after ≡ c
  settled_same p d = receive_cases Same s c n b (record {
    as_before = λ number. refl;
    copied = λ f. absurd (p (inl f.answer.in_phase));
    endings = λ r. record { gone = λ u e. absurd (p u); aborting = λ u e. absurd (p u) };
    last_yes = λ f t. absurd (p (inr f.answer.in_phase));
    one_yes = λ f t. absurd (p (inr f.answer.in_phase));
    last_done = λ f t. absurd (d f.in_phase f.its_kind (T_true _ f.from_node));
    one_done = λ f t. absurd (d f.in_phase f.its_kind (T_true _ f.from_node));
  })

  pub finishing_same : c.phase ≡ finishing_phase → (kind_of b ≡ done → contains (awaited c) (from_of b) ≡ true → ⊥) → after ≡ c
  finishing_same p d = settled_same (λ e. on e (λ q. let z : ⊥ = omega (arith, p, q) in z) (λ q. let z : ⊥ = omega (arith, p, q) in z)) (λ q. d)

  pub idle_same : c.phase ≡ idle_phase → after ≡ c
  idle_same p = settled_same (λ e. on e (λ q. let z : ⊥ = omega (arith, p, q) in z) (λ q. let z : ⊥ = omega (arith, p, q) in z))
      (λ q. absurd (let z : ⊥ = omega (arith, p, q) in z))

  -- ---- an answer that fits
  module _ (clear : first_of (receive_refusals c n b) ≡ 0) (its_serial : serial_of b ≡ c.serial) (its_stamp : stamp_of b ≡ c.timestamp) where
    received : receive_of s c n b ≡ delivered s c b
    unfolding receive_of
    received = ap (λ (x : Bool). cond x (delivered s c b) (record { number = first_of (receive_refusals c n b); answer = 0; coordinator = c }))
        (eq-eqb (first_of (receive_refusals c n b)) 0 clear)

    -- a participant's yes: the last one commits
    pub yes_counted : c.phase ≡ voting_phase → kind_of b ≡ vote → contains c.participants (from_of b) ≡ true → word_of b ≡ 1
        → (after ≡ with_phase c finishing_phase committed c.participants (said_yes c b) c.done (named c b))
        ⊎ (after ≡ with_phase c voting_phase c.outcome c.participants (said_yes c b) c.done (named c b))
    unfolding with_yes
    yes_counted p k e w =
        let last = with_phase c finishing_phase committed c.participants (said_yes c b) c.done (named c b) in
        let one = with_phase c voting_phase c.outcome c.participants (said_yes c b) c.done (named c b) in
        let R : Step → Type 0 = λ r. (r.coordinator ≡ last) ⊎ (r.coordinator ≡ one) in
        subst R (sym (received ∙ yes_taken_lem s c b k p its_serial its_stamp e w))
        (on_cond R (within c.participants (said_yes c b)) _ _ (λ q. inl refl) (λ q. inr refl))

    -- a done of an awaited node: the last one ends it
    pub done_counted : c.phase ≡ finishing_phase → kind_of b ≡ done → contains (awaited c) (from_of b) ≡ true
        → (after ≡ idle_after c.serial c.timestamp c.outcome)
        ⊎ (after ≡ with_phase c c.phase c.outcome c.participants c.yes (said_done c b) c.rivals)
    unfolding with_done
    done_counted p k e =
        let last = idle_after c.serial c.timestamp c.outcome in
        let one = with_phase c c.phase c.outcome c.participants c.yes (said_done c b) c.rivals in
        let R : Step → Type 0 = λ r. (r.coordinator ≡ last) ⊎ (r.coordinator ≡ one) in
        subst R (sym (received ∙ done_taken_lem s c b k p its_serial its_stamp e))
        (on_cond R (within (awaited c) (said_done c b)) _ _ (λ q. inl refl) (λ q. inr refl))
