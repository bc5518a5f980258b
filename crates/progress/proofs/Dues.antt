-- An ask that is due while voting, and an outcome while finishing: each is well formed, so its send puts it at the pool's end where there is room. Why
-- well formed: neither reads the rivals, and a record that names no rivals sends well-formed messages only (due_formed of crate due).
use mathlib.Core.Path.{◌≡◌, refl, sym, ◌∙◌, ap, ap₂, subst}
use mathlib.Core.Logic.{◌≢◌, ◌⊎◌, inl, inr}
use mathlib.Core.Bool.{Bool, true, cond, not, ◌&&◌, ◌||◌}
use mathlib.Core.List.{List, [], ◌∷◌}
use Prim.Native.Nat.{ℕ, zero, suc, ◌<◌}
use native.Mathlib.Omega.{arith}
use lib.Dec.{eqb, ltb}
use lib.ListN.{length, get_or, replicate}
use borrow.Author.Tests.{eq-eqb, ne_eqb, lt-ltb}
use Rattle.numbers.specs.Sizes.{nodes, objects, longest_message, most_waiting}
use Rattle.mask.specs.Mask.{contains}
use Rattle.numbers.specs.Refusal.{refuse, first_of}
use Rattle.wire.specs.declared.Entry.{Entry}
use Rattle.wire.specs.Message.{Message, ask, outcome}
use Rattle.wire.specs.Formed.{well_formed}
use Rattle.wire.specs.Encode.{encode, Fits}
use Rattle.letters.specs.Write.{sent}
use Rattle.replica.proofs.Delivered.{either_way}
use Rattle.coordinator.specs.declared.Coordinator.{Coordinator}
use Rattle.coordinator.specs.System.{System}
use Rattle.coordinator.specs.State.{open_phase, voting_phase, finishing_phase, is_open, awaited}
use Rattle.coordinator.specs.Calls.{with_phase}
use Rattle.clauses.proofs.Facts.{Meets}
use Rattle.clauses.proofs.Fits.{Widths}
use Rattle.clauses.proofs.Keep.{phase_meets}
use Rattle.due.specs.Kind.{due_kind, open_due, voting_due, finishing_due, due_refusals}
use Rattle.due.specs.Due.{with_next, entries_below, entries_of, message_due, write_refusals, is_due}
use Rattle.due.proofs.Formed.{due_formed}
use Rattle.steps.specs.Station.{Station, system}
use Rattle.steps.specs.Step.{send, refused_with, taken, putting, full, when_off, send_number, send_of, step}
use Rattle.history.proofs.Calls.{zero_first}
use Rattle.history.proofs.Sends.{ask_fits, outcome_fits}

-- ---- what is owed to a node: an ask while voting, an outcome while finishing
abbrev pub Owed : Coordinator → ℕ → ℕ → Type 0
Owed c to kind =
    ((kind ≡ ask) × (c.phase ≡ voting_phase) × ((contains c.participants to && not (contains c.yes to)) ≡ true))
    ⊎ ((kind ≡ outcome) × (c.phase ≡ finishing_phase) × ((contains (awaited c) to && not (contains c.done to)) ≡ true))

owed_due : (s : System) (c : Coordinator) (to object kind : ℕ) → Owed c to kind → due_kind s c to object ≡ kind
unfolding due_kind voting_due finishing_due
owed_due s c to object kind (inl z) =
    ap (λ (p : ℕ). cond (eqb p 1) (open_due s c to object) (cond (eqb p 2) (voting_due c to) (cond (eqb p 3) (finishing_due c to) 0))) z.1
    ∙ ap (λ (b : Bool). cond b 3 0) z.2 ∙ sym z.0
owed_due s c to object kind (inr z) =
    ap (λ (p : ℕ). cond (eqb p 1) (open_due s c to object) (cond (eqb p 2) (voting_due c to) (cond (eqb p 3) (finishing_due c to) 0))) z.1
    ∙ ap (λ (b : Bool). cond b 5 (cond (eqb c.outcome 1 && not (eqb (get_or c.rivals to 0) 0)) 7 0)) z.2 ∙ sym z.0

owed_busy : (c : Coordinator) (to kind : ℕ) → Owed c to kind → (c.phase ≢ 0) × (c.phase ≢ open_phase)
owed_busy c to kind (inl z) = let e = z.1 in (λ q. let y : ⊥ = omega (arith, e, q) in y, λ q. let y : ⊥ = omega (arith, e, q) in y)
owed_busy c to kind (inr z) = let e = z.1 in (λ q. let y : ⊥ = omega (arith, e, q) in y, λ q. let y : ⊥ = omega (arith, e, q) in y)

owed_kind : (c : Coordinator) (to kind : ℕ) → Owed c to kind → kind ≢ 0
owed_kind c to kind (inl z) q = let e = z.0 in let y : ⊥ = omega (arith, e, q) in y
owed_kind c to kind (inr z) q = let e = z.0 in let y : ⊥ = omega (arith, e, q) in y

-- its header, and that it fits its bytes
pub record Header (c : Coordinator) (me to kind : ℕ) (a : Message) : Type 0 where
  pub its_kind : a.kind ≡ kind
  pub goes_to : a.to ≡ to
  pub its_owner : a.owner ≡ me
  pub its_serial : a.serial ≡ c.serial
  pub its_stamp : a.stamp ≡ c.timestamp

pub owed_header : (c : Coordinator) (me to object kind : ℕ) → Owed c to kind → Header c me to kind (message_due c me to object kind)
unfolding message_due
owed_header c me to object kind (inl z) = subst (λ (k : ℕ). Header c me to k (message_due c me to object k)) (sym z.0)
    (record { its_kind = refl; goes_to = refl; its_owner = refl; its_serial = refl; its_stamp = refl })
owed_header c me to object kind (inr z) = subst (λ (k : ℕ). Header c me to k (message_due c me to object k)) (sym z.0)
    (either_way (Header c me to 5) (eqb c.outcome 1) _ _
    (record { its_kind = refl; goes_to = refl; its_owner = refl; its_serial = refl; its_stamp = refl })
    (record { its_kind = refl; goes_to = refl; its_owner = refl; its_serial = refl; its_stamp = refl }))

pub owed_fits : {s : System} (c : Coordinator) → Meets s c → Rattle.clauses.proofs.Fits.Fits c → (me to object kind : ℕ) → Owed c to kind
    → Fits (message_due c me to object kind)
unfolding message_due
owed_fits c m f me to object kind (inl z) = subst (λ (k : ℕ). Fits (message_due c me to object k)) (sym z.0) (ask_fits c m f me to)
owed_fits c m f me to object kind (inr z) = subst (λ (k : ℕ). Fits (message_due c me to object k)) (sym z.0) (outcome_fits c m f me to)

-- ---- the same record with no rivals named
abbrev no_rivals : List ℕ
no_rivals = replicate nodes 0

abbrev alone : Coordinator → Coordinator
alone c = with_phase c c.phase c.outcome c.participants c.yes c.done no_rivals

no_rival : (k i : ℕ) → ◌≡◌ {A = ℕ} (get_or (replicate k 0) i 0) 0
no_rival zero i = refl
no_rival (suc k) zero = refl
no_rival (suc k) (suc i) = no_rival k i

entries_alone : (c : Coordinator) (n : ℕ) → entries_below (alone c) n ≡ entries_below c n
unfolding entries_below with_next
entries_alone c zero = refl
entries_alone c (suc n) = ap (with_next c n) (entries_alone c n)

owed_alone : (c : Coordinator) (me to object kind : ℕ) → Owed c to kind → message_due (alone c) me to object kind ≡ message_due c me to object kind
unfolding message_due entries_of
owed_alone c me to object kind (inl z) =
    ap (message_due (alone c) me to object) z.0 ∙ ap (λ (es : List Entry). sent to me c.serial c.timestamp 3 es [] []) (entries_alone c objects)
    ∙ ap (message_due c me to object) (sym z.0)
owed_alone c me to object kind (inr z) =
    ap (message_due (alone c) me to object) z.0
    ∙ ap (λ (es : List Entry). cond (eqb c.outcome 1) (sent to me c.serial c.timestamp 5 es [] (1 ∷ []))
    (sent to me c.serial c.timestamp 5 [] [] (0 ∷ []))) (entries_alone c objects)
    ∙ ap (message_due c me to object) (sym z.0)

module _ (s : System) (c : Coordinator) (m : Meets s c) (w : Widths c) (me to object kind : ℕ) (hm : me < nodes) (hn : to < nodes)
    (owed : Owed c to kind) where
  alone_meets : Meets s (alone c)
  alone_meets =
      let busy = (owed_busy c to kind owed).0 in
      phase_meets s c m busy c.phase c.outcome c.participants c.yes c.done no_rivals busy m.numbers.phase_known
      m.numbers.outcome_known refl
      (record {
        participants_known = m.party.participants_known;
        no_rivals_lem = λ e. refl;
        full = m.party.full;
        not_asked = m.party.not_asked;
        asked_for = m.party.asked_for;
      })
      m.votes m.dones

  alone_widths : Widths (alone c)
  alone_widths = record {
    serial_32 = w.serial_32;
    timestamp_32 = w.timestamp_32;
    distances_16 = w.distances_16;
    objects_fit = w.objects_fit;
    rivals_32 = λ i. let e = no_rival nodes i in omega (arith, e);
  }

  -- ---- nothing refuses it
  pub none_refuses : first_of (due_refusals c me to object) ≡ 0
  unfolding due_refusals
  none_refuses = zero_first (due_refusals c me to object) (
    ap₂ (λ (x y : Bool). not x || not y) (lt-ltb me nodes hm) (lt-ltb to nodes hn),
    (ap (λ (x : Bool). x && (not (ltb object objects) || not (is_open c object))) (ne_eqb c.phase open_phase (owed_busy c to kind owed).1), tt),
  )

  pub owed_formed : well_formed (message_due c me to object kind) ≡ true
  unfolding is_due write_refusals due_refusals
  owed_formed =
      let d = alone c in
      let k = owed_due s d to object kind owed in
      let free : first_of (write_refusals longest_message d me to object) ≡ 0 = zero_first (write_refusals longest_message d me to object) (
        refl,
        (
          ap₂ (λ (x y : Bool). not x || not y) (lt-ltb me nodes hm) (lt-ltb to nodes hn),
          (ap (λ (x : Bool). x && (not (ltb object objects) || not (is_open c object))) (ne_eqb c.phase open_phase (owed_busy c to kind owed).1), tt),
        ),
      ) in
      let due : is_due s longest_message d me to object ≡ true =
      ap₂ ◌&&◌ (eq-eqb (first_of (write_refusals longest_message d me to object)) 0 free)
      (ap (ltb 0) k ∙ lt-ltb 0 kind (let n = owed_kind c to kind owed in omega (arith, n))) in
      subst (λ (a : Message). well_formed a ≡ true) (ap (message_due d me to object) k ∙ owed_alone c me to object kind owed)
      (due_formed s d alone_meets alone_widths me to object hm hn (no_rival nodes me) longest_message due)

-- ---- its send
module _ (st : Station) (n to object kind : ℕ) (m : Meets (system st) (st.records n)) (w : Widths (st.records n)) (hm : n < nodes) (hn : to < nodes)
    (owed : Owed (st.records n) to kind) (up : contains st.own.on n ≡ true) (room : length st.pool < most_waiting) where
  abbrev c : Coordinator
  c = st.records n

  abbrev a : Message
  a = message_due c n to object kind

  send_number_lem : send_number st n to object a true ≡ 0
  unfolding send_number
  send_number_lem =
      let number = first_of (due_refusals c n to object) in
      ap (λ (x : Bool). cond x (first_of (refuse number (not (eqb number 0)) ∷ refuse 3 (not (well_formed a)) ∷ refuse 12 (full st) ∷ [])) (when_off number))
      up
      ∙ zero_first (refuse number (not (eqb number 0)) ∷ refuse 3 (not (well_formed a)) ∷ refuse 12 (full st) ∷ []) (
        ap not (eq-eqb number 0 (none_refuses (system st) c m w n to object kind hm hn owed)),
        (
          ap not (owed_formed (system st) c m w n to object kind hm hn owed),
          (ap not (lt-ltb (length st.pool) most_waiting room), tt),
        ),
      )

  pub owed_put : step st (send n to object) ≡ putting (encode a) st
  unfolding step send_of
  owed_put =
      ap (λ (k : ℕ). cond (eqb (send_number st n to object (message_due c n to object k) (not (eqb k 0))) 0)
      (cond (not (eqb k 0)) (putting (encode (message_due c n to object k)) st) (taken 0 st))
      (refused_with (send_number st n to object (message_due c n to object k) (not (eqb k 0))) st)) (owed_due (system st) c to object kind owed)
      ∙ ap (λ (x : Bool). cond (eqb (send_number st n to object a (not x)) 0) (cond (not x) (putting (encode a) st) (taken 0 st))
      (refused_with (send_number st n to object a (not x)) st)) (ne_eqb kind 0 (owed_kind c to kind owed))
      ∙ ap (λ (x : Bool). cond x (putting (encode a) st) (refused_with (send_number st n to object a true) st))
      (eq-eqb (send_number st n to object a true) 0 send_number_lem)
