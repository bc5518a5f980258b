-- A delivery at a replica: the transitions that it is, and what its answer tells. By the message's kind and how its transaction stands there.
use mathlib.Core.Path.{◌≡◌, refl, sym, ◌∙◌, ap, subst}
use mathlib.Core.Logic.{◌≢◌, inr, by_cases}
use mathlib.Core.Bool.{Bool, true, false, cond, not, ◌&&◌, ◌||◌}
use mathlib.Core.List.{List, ◌∷◌}
use mathlib.Core.Option.{some}
use Prim.Native.Nat.{ℕ, ◌<◌}
use native.Mathlib.Decide.{ℕ_discrete}
use native.Mathlib.Omega.{arith}
use lib.Dec.{eqb, lit<}
use lib.ListN.{get_or}
use borrow.Author.Tests.{eqb-true, eq-eqb, ne_eqb, ltb-true}
use Rattle.numbers.specs.Sizes.{nodes, objects}
use Rattle.octets.proofs.Laws.{Bytes}
use Rattle.wire.specs.declared.Entry.{Entry}
use Rattle.wire.specs.Message.{Message}
use Rattle.wire.specs.Formed.{word_of, well_formed}
use Rattle.wire.specs.Encode.{encode, Fits}
use Rattle.wire.specs.Decode.{from_of}
use Rattle.wire.specs.Items.{no_entry}
use Rattle.image.specs.Layout.{version, value}
use Rattle.judge.specs.Standing.{standing, active, entered}
use Rattle.judge.specs.Judge.{votes_no, no_serials, serials_of, rivals_of}
use Rattle.replica.specs.Steps.{Answer, silent, says, copy_to, vote_to, done_to, wanted, copy_here, fetch_image, fetch_answer, ask_image, ask_answer}
use Rattle.replica.specs.Steps.{judged_answer}
use Rattle.replica.specs.Steps.{outcome_image, outcome_answer}
use Rattle.replica.specs.Receive.{outcome_wrong_turn}
use Rattle.replica.proofs.Spoken.{Named, named_of, done_formed, vote_formed, copy_formed, yes_formed, wanted_fits}
use Rattle.replica.proofs.Delivered.{entries_of_lem}
use Rattle.replica.proofs.Late.{late_outcome}
use Rattle.replica.proofs.Taken.{Taken, fetch_still, ask_still, outcome_cases, turn_outcome}
use Rattle.coordinator.specs.System.{System}
use Rattle.steps.specs.Station.{Station}
use Rattle.protocol.specs.Table.{pick, In}
use Rattle.protocol.specs.State.{Tx, Tx-discrete, fresh, committed, aborted, Copy, Votes, History, State}
use Rattle.protocol.specs.Proof.Tables.{clash}
use Rattle.protocol.proofs.Tables.{on, pick_cases}
use Rattle.protocol.proofs.Lists.{times_none, times_once}
use Rattle.protocol.specs.Refine.Growth.{Late}
use Rattle.history.specs.Ledger.{tx_of, root_yes, first_only, log_put}
use Rattle.history.specs.Sane.{Sane}
use Rattle.history.proofs.Sim.{copy_of_entry, Match, Tells, Sim}
use Rattle.history.proofs.Words.{tx_in, formed_word, kind_of_lem, from_of_lem, tx_of_lem, word_of_lem, entry_of_lem, check_of_lem}
use Rattle.history.proofs.Encoded.{bytes_encode}
use Rattle.history.proofs.Acts.{active_cases, Acted, unmoved, fetched, voted_no, voted_yes_lem, voted_before, late_here, dropped_early, dropped_here}
use Rattle.history.proofs.Acts.{applied_here}
use Rattle.history.proofs.Answers.{done_fits, copy_fits_lem, vote_fits, none_small, yes_fits, here_fits, bytes_entered}

-- ---- what an answer tells
-- whether it is a yes of the root
pub root_yes_lem : (a : Message) → Fits a → root_yes (encode a) ≡ (eqb a.kind 4 && (eqb (word_of a) 1 && eqb a.from 0))
root_yes_lem a f = rw (kind_of_lem a f, word_of_lem a f, from_of_lem a f)

pub tells_answer : (h : History ℕ) (v : Votes) (sent : List (Copy ℕ)) (a : Message) (f : Fits a) → well_formed a ≡ true → (a.kind ≡ 3 → ⊥) → (a.kind ≡ 5 → ⊥)
    → (a.kind ≡ 2 → In (copy_of_entry (get_or a.entries 0 no_entry)) sent) → (a.kind ≡ 4 → word_of a ≡ 1 → v.yes a.from (tx_in a) ≡ true)
    → Tells h v sent (encode a)
tells_answer h v sent a f w no3 no5 c y = record {
  well = check_of_lem a f w;
  a_copy = λ k. subst (λ (e : Entry). In (copy_of_entry e) sent) (sym (entry_of_lem a f)) (c (sym (kind_of_lem a f) ∙ k));
  an_ask = λ k. absurd (no3 (sym (kind_of_lem a f) ∙ k));
  a_yes = λ k u. subst (λ (x : Tx). v.yes (from_of (encode a)) x ≡ true) (sym (tx_of_lem a f))
      (subst (λ (n : ℕ). v.yes n (tx_in a) ≡ true) (sym (from_of_lem a f)) (y (sym (kind_of_lem a f) ∙ k) (sym (word_of_lem a f) ∙ u)));
  a_commit_lem = λ k u. absurd (no5 (sym (kind_of_lem a f) ∙ k));
  an_abort = λ k u. absurd (no5 (sym (kind_of_lem a f) ∙ k));
}

-- what is said of an answer, in the state τ and the log l' after it
pub record Heard (τ : State ℕ) (log l' : List Tx) (x : Tx) (a : Message) : Type 0 where
  pub fits : Fits a
  pub formed : well_formed a ≡ true
  pub bytes : Bytes (encode a)
  pub tells : Tells τ.history τ.votes τ.sent (encode a)
  pub logs : l' ≡ log_put (some (encode a)) log
  pub a_done_lem : a.kind ≡ 6 → Late τ.ends a.from x

abbrev pub Said : State ℕ → List Tx → List Tx → Tx → Answer → Type 0
Said τ log l' x silent = l' ≡ log
Said τ log l' x (says a) = Heard τ log l' x a

-- the log where the answer is no yes of the root
no_yes : (a : Message) (f : Fits a) (log : List Tx) → (eqb a.kind 4 && (eqb (word_of a) 1 && eqb a.from 0)) ≡ false → log ≡ log_put (some (encode a)) log
no_yes a f log e = sym (ap (λ (b : Bool). cond b (first_only (tx_of (encode a)) log) log) (root_yes_lem a f ∙ e))

-- what is told of a state and a log, told otherwise
then : {s : System} {sane : Sane s} {st : Station} {σ : State ℕ} {log : List Tx} {sim : Sim sane st σ log} {n : ℕ} {m : Message}
    {k : Taken (st.images n) m} {i : List ℕ} {P Q : State ℕ → List Tx → Type 0} → Acted st σ log sim n m k i P
    → ((τ : State ℕ) (l' : List Tx) → P τ l' → Q τ l') → Acted st σ log sim n m k i Q
then a f = record {
  after = a.after;
  log_after = a.log_after;
  sim_after = a.sim_after;
  grows = a.grows;
  history_same = a.history_same;
  told = f a.after a.log_after a.told;
}

module _ {s : System} {sane : Sane s} (st : Station) (σ : State ℕ) (log : List Tx) (sim : Sim sane st σ log) (n : ℕ) (small : n < nodes) (m : Message)
    (k : Taken (st.images n) m) (small_bytes : Bytes (st.images n)) where
  abbrev l : List ℕ
  l = st.images n

  abbrev x : Tx
  x = tx_in m

  named : Named n m
  named = named_of n m small k.formed

  -- ---- fetch
  abbrev e₁ : Entry
  e₁ = wanted m

  wanted_small : (e₁.object < objects) × (e₁.mode < 2)
  wanted_small = let f = wanted_fits m.kind m.entries (entries_of_lem m k.formed) in (ltb-true _ objects f.0, ltb-true _ 2 f.1)

  copy_said : (τ : State ℕ) (l' : List Tx) → l' ≡ log → In (record { object = e₁.object; version = version l e₁.object; value = value l e₁.object })
      τ.sent
      → Heard τ log l' x (copy_to n m (copy_here l e₁))
  unfolding copy_here
  copy_said τ l' e i =
      let g = here_fits l small_bytes e₁ (omega (arith, wanted_small.0)) (omega (arith, wanted_small.1)) in
      let a = copy_to n m (copy_here l e₁) in
      let f = copy_fits_lem n m k.fits (copy_here l e₁) g in
      let c = wanted_fits m.kind m.entries (entries_of_lem m k.formed) in
      let w = copy_formed n m named (copy_here l e₁) c.0 c.1 in
      record {
        fits = f;
        formed = w;
        bytes = bytes_encode a f w (lit< tt) tt;
        tells = tells_answer τ.history τ.votes τ.sent a f w (λ q. let z : ⊥ = omega arith in z) (λ q. let z : ⊥ = omega arith in z)
            (λ q. i) (λ q. absurd (let z : ⊥ = omega arith in z));
        logs = e ∙ no_yes a f log refl;
        a_done_lem = λ q. absurd (let z : ⊥ = omega arith in z);
      }

  fetch_by : (b : Bool) → active l m ≡ b
      → Acted st σ log sim n m k (fetch_image l m) (λ τ l'. Said τ log l' x (cond b (says (copy_to n m (copy_here l e₁))) silent))
  fetch_by false a = subst (λ (i : List ℕ). Acted st σ log sim n m k i (λ τ l'. l' ≡ log)) (sym (fetch_still l m a))
      (unmoved st σ log sim n m k (λ τ l'. l' ≡ log) refl)
  fetch_by true a = then (fetched st σ log sim n m k a e₁.object) (λ τ l' z. copy_said τ l' z.0 z.1)

  pub fetch_reply : Acted st σ log sim n m k (fetch_image l m) (λ τ l'. Said τ log l' x (fetch_answer n l m))
  unfolding fetch_answer
  fetch_reply = fetch_by (active l m) refl

  -- ---- votes
  -- a vote that names no rivals
  plain : (word : ℕ) → Fits (vote_to n m no_serials word)
  plain word = vote_fits n m k.fits no_serials word refl none_small

  no_said : (τ : State ℕ) (l' : List Tx) → l' ≡ log → Heard τ log l' x (vote_to n m no_serials 0)
  no_said τ l' e =
      let a = vote_to n m no_serials 0 in
      let f = plain 0 in
      let w = vote_formed n m named 0 refl in
      record {
        fits = f;
        formed = w;
        bytes = bytes_encode a f w (lit< tt) (lit< tt, tt);
        tells = tells_answer τ.history τ.votes τ.sent a f w (λ q. let z : ⊥ = omega arith in z) (λ q. let z : ⊥ = omega arith in z)
            (λ q. absurd (let z : ⊥ = omega arith in z)) (λ q u. absurd (let z : ⊥ = omega arith in z));
        logs = e ∙ no_yes a f log refl;
        a_done_lem = λ q. absurd (let z : ⊥ = omega arith in z);
      }

  -- a yes, with whatever rivals: the log is as the root's first yes has it
  yes_said : (ss : List ℕ) → Fits (vote_to n m ss 1) → well_formed (vote_to n m ss 1) ≡ true → (τ : State ℕ) (l' : List Tx) → τ.votes.yes n x ≡ true
      → (n ≡ 0 → l' ≡ first_only x log) → ((n ≡ 0 → ⊥) → l' ≡ log) → Heard τ log l' x (vote_to n m ss 1)
  yes_said ss f w τ l' v root else =
      let a = vote_to n m ss 1 in
      record {
        fits = f;
        formed = w;
        bytes = bytes_encode a f w (lit< tt) (lit< tt, tt);
        tells = tells_answer τ.history τ.votes τ.sent a f w (λ q. let z : ⊥ = omega arith in z) (λ q. let z : ⊥ = omega arith in z)
            (λ q. absurd (let z : ⊥ = omega arith in z)) (λ q u. v);
        logs = by_cases (ℕ_discrete n 0)
            (λ e. root e ∙ sym (ap (λ (b : Bool). cond b (first_only (tx_of (encode a)) log) log) (root_yes_lem a f ∙ eq-eqb n 0 e)
            ∙ ap (λ (y : Tx). first_only y log) (tx_of_lem a f)))
            (λ e. else e ∙ sym (ap (λ (b : Bool). cond b (first_only (tx_of (encode a)) log) log) (root_yes_lem a f ∙ ne_eqb n 0 e)));
        a_done_lem = λ q. absurd (let z : ⊥ = omega arith in z);
      }

  -- ---- ask
  module _ (kind : m.kind ≡ 3) (tells : (standing l m ≡ 0 → ⊥) → (σ.history.phase x ≢ fresh) × Match (σ.history.contents x) m.entries) where
    -- what is active is not late
    on_time : active l m ≡ true → standing l m ≡ 0 → ⊥
    on_time a e = on (active_cases l m a) (λ q. let z : ⊥ = omega (arith, q, e) in z) (λ q. let z : ⊥ = omega (arith, q, e) in z)

    first_time : (l' : List Tx) → l' ≡ pick (ℕ_discrete n 0) (x ∷ log) log → (n ≡ 0 → In x log → ⊥) → n ≡ 0 → l' ≡ first_only x log
    first_time l' e new z = on (pick_cases (ℕ_discrete n 0) (x ∷ log) log)
        (λ q. e ∙ q.1 ∙ sym (ap (λ (t : ℕ). cond (eqb t 0) (x ∷ log) log) (times_none Tx-discrete x log (new z)))) (λ q. absurd (q.0 z))

    other_time : (l' : List Tx) → l' ≡ pick (ℕ_discrete n 0) (x ∷ log) log → (n ≡ 0 → ⊥) → l' ≡ log
    other_time l' e z = on (pick_cases (ℕ_discrete n 0) (x ∷ log) log) (λ q. absurd (z q.0)) (λ q. e ∙ q.1)

    judged : (a : active l m ≡ true) (v : Bool) → votes_no (entered l m) m ≡ v
        → Acted st σ log sim n m k (ask_image l m)
        (λ τ l'. Said τ log l' x (cond v (says (vote_to n m no_serials 0)) (says (vote_to n m (serials_of (entered l m) (rivals_of (entered l m) m)) 1))))
    judged a true v = then (voted_no st σ log sim n m k a v) (λ τ l' e. no_said τ l' e)
    judged a false v = then (voted_yes_lem st σ log sim n m k a v (tells (on_time a)).0 (tells (on_time a)).1)
        (λ τ l' z. yes_said (serials_of (entered l m) (rivals_of (entered l m) m)) (yes_fits n m k.fits (entered l m) (bytes_entered l m small_bytes))
        (yes_formed n m (entered l m) named) τ l' z.1 (first_time l' z.0 z.2) (other_time l' z.0))

    again : (p q : Bool) → eqb (standing l m) 2 ≡ p → eqb (standing l m) 3 ≡ q
        → Said σ log log x (cond p (says (vote_to n m no_serials 1)) (cond q (says (vote_to n m no_serials 0)) silent))
    again true q e f =
        let z = voted_before st σ log sim n m k (eqb-true (standing l m) 2 e) in
        yes_said no_serials (plain 1) (vote_formed n m named 1 refl) σ log z.0
        (λ r. sym (ap (λ (t : ℕ). cond (eqb t 0) (x ∷ log) log) (times_once Tx-discrete x log (z.1 r) (sim.kept.log.l_once x)))) (λ r. refl)
    again false true e f = no_said σ log refl
    again false false e f = refl

    ask_by : (b : Bool) → active l m ≡ b → Acted st σ log sim n m k (ask_image l m)
        (λ τ l'. Said τ log l' x (cond b (judged_answer n (entered l m) m)
        (cond (eqb (standing l m) 2) (says (vote_to n m no_serials 1)) (cond (eqb (standing l m) 3) (says (vote_to n m no_serials 0)) silent))))
    unfolding judged_answer
    ask_by true a = judged a (votes_no (entered l m) m) refl
    ask_by false a = subst (λ (i : List ℕ). Acted st σ log sim n m k i (λ τ l'. Said τ log l' x
        (cond (eqb (standing l m) 2) (says (vote_to n m no_serials 1)) (cond (eqb (standing l m) 3) (says (vote_to n m no_serials 0)) silent))))
        (sym (ask_still l m a))
        (unmoved st σ log sim n m k _ (again (eqb (standing l m) 2) (eqb (standing l m) 3) refl refl))

    pub ask_reply : Acted st σ log sim n m k (ask_image l m) (λ τ l'. Said τ log l' x (ask_answer n l m))
    unfolding ask_answer
    ask_reply = ask_by (active l m) refl

  -- ---- outcome
  done_said : (τ : State ℕ) (l' : List Tx) → l' ≡ log → Late τ.ends n x → Heard τ log l' x (done_to n m)
  done_said τ l' e late =
      let a = done_to n m in
      let f = done_fits n m k.fits in
      let w = done_formed n m named in
      record {
        fits = f;
        formed = w;
        bytes = bytes_encode a f w (lit< tt) tt;
        tells = tells_answer τ.history τ.votes τ.sent a f w (λ q. let z : ⊥ = omega arith in z) (λ q. let z : ⊥ = omega arith in z)
            (λ q. absurd (let z : ⊥ = omega arith in z)) (λ q. absurd (let z : ⊥ = omega arith in z));
        logs = e ∙ no_yes a f log refl;
        a_done_lem = λ q. late;
      }

  module _ (kind : m.kind ≡ 5)
      (a_commit_lem : (standing l m ≡ 0 → ⊥) → word_of m ≡ 1 → (σ.history.phase x ≡ committed) × Match (σ.history.contents x) m.entries)
      (an_abort : (standing l m ≡ 0 → ⊥) → word_of m ≡ 0 → σ.history.phase x ≡ aborted) where
    in_turn : outcome_wrong_turn (word_of m) (standing l m) ≡ false
    in_turn = turn_outcome l m kind k.turn

    -- a commit needs held, as it is not late
    commit_held : word_of m ≡ 1 → (standing l m ≡ 0 → ⊥) → standing l m ≡ 2
    unfolding outcome_wrong_turn
    commit_held w e = by (eqb (standing l m) 0) (eqb (standing l m) 2) refl refl
        (subst (λ (d : ℕ). cond (eqb d 1) (not (eqb (standing l m) 0 || eqb (standing l m) 2)) (eqb (standing l m) 5) ≡ false) w in_turn)
      where
        by : (a b : Bool) → eqb (standing l m) 0 ≡ a → eqb (standing l m) 2 ≡ b → not (a || b) ≡ false → standing l m ≡ 2
        by true b p q f = absurd (e (eqb-true (standing l m) 0 p))
        by false true p q f = eqb-true (standing l m) 2 q
        by false false p q f = absurd (let z : true ≡ false = f in clash (cc))

    abbrev Done : Type 0
    Done = Acted st σ log sim n m k (outcome_image l m) (λ τ l'. Said τ log l' x (outcome_answer n m))

    finish : Acted st σ log sim n m k (outcome_image l m) (λ τ l'. (l' ≡ log) × Late τ.ends n x) → Done
    finish a = then a (λ τ l' z. done_said τ l' z.0 z.1)

    pub outcome_reply : Done
    outcome_reply = on (outcome_cases l m k kind)
        (λ e. subst (λ (i : List ℕ). Acted st σ log sim n m k i (λ τ l'. Said τ log l' x (outcome_answer n m))) (sym (late_outcome l m e))
        (unmoved st σ log sim n m k _ (done_said σ log refl (late_here st σ log sim n m k e))))
        (λ r. on r
        (λ e. on (formed_word m k.formed (inr kind))
        (λ w. finish (dropped_early st σ log sim n m k e (an_abort (λ q. let y : ⊥ = omega (arith, e, q) in y) w)))
        (λ w. absurd (let z : ⊥ = omega (arith, e, commit_held w (λ q. let y : ⊥ = omega (arith, e, q) in y)) in z)))
        (λ e. on (formed_word m k.formed (inr kind))
        (λ w. finish (dropped_here st σ log sim n m k e.0 e.1 w (an_abort (λ q. let y : ⊥ = omega (arith, q, e.0) in y) w)))
        (λ w. let c = a_commit_lem (λ q. let y : ⊥ = omega (arith, q, e.0) in y) w in
        finish (applied_here st σ log sim n m k e.0 e.1 kind (commit_held w (λ q. let y : ⊥ = omega (arith, q, e.0) in y)) w c.0 c.1))))
