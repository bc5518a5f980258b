-- A send: what is due tells the truth. An ask or a commit has the contents that votes were asked for.
use mathlib.Core.Path.{◌≡◌, refl, sym, ◌∙◌, ap, subst}
use mathlib.Core.Logic.{◌≢◌, inl, inr}
use mathlib.Core.Bool.{Bool, true, false, cond, not, ◌&&◌}
use mathlib.Core.List.{List, [], ◌∷◌, ◌++◌}
use mathlib.Core.Option.{none, some}
use Prim.Native.Nat.{ℕ, ◌+◌, ◌^◌, ◌<◌}
use native.Mathlib.Omega.{arith}
use lib.Dec.{eqb, ltb, lit<}
use lib.ListN.{get_or}
use borrow.Author.Tests.{eqb-true, eqb-false, ltb-true}
use Rattle.numbers.specs.Sizes.{nodes, objects}
use Rattle.mask.specs.Mask.{contains}
use Rattle.octets.proofs.Laws.{Bytes}
use Rattle.numbers.specs.Refusal.{refuse, first_of}
use Rattle.wire.specs.declared.Entry.{Entry}
use Rattle.wire.specs.Message.{Message}
use Rattle.wire.specs.Formed.{word_of, well_formed}
use Rattle.wire.specs.Decode.{decode}
use Rattle.wire.specs.Items.{no_entry}
use Rattle.letters.specs.Write.{sent}
use Rattle.wire.specs.Encode.{encode, All, EntryFits, Fits}
use Rattle.coordinator.specs.declared.Object.{Object}
use Rattle.coordinator.specs.declared.Coordinator.{Coordinator}
use Rattle.coordinator.specs.System.{System}
use Rattle.coordinator.specs.State.{open_phase, voting_phase, finishing_phase, place_of, object_at, is_open, awaited, ready}
use Rattle.due.specs.Kind.{due_kind, open_due, voting_due, finishing_due, due_refusals}
use Rattle.clauses.proofs.Facts.{Meets}
use Rattle.due.specs.Due.{entry_for, entries_of, fetch_to, ask_to, outcome_to, yield_to, message_due}
use Rattle.due.proofs.Entries.{Stands, open_place, every_entry, entries_only, entries_every}
use Rattle.coordinator.specs.Calls.{no_node}
use Rattle.coordinator.proofs.Refusals.{clear}
use Rattle.steps.proofs.Nodes.{off_number_lem}
use Rattle.steps.specs.Station.{Station, system, with_pool}
use Rattle.steps.specs.Step.{send, refused_with, putting, full, when_off, send_number, send_of}
use Rattle.protocol.specs.Table.{In}
use Rattle.protocol.specs.Rules.{unused, read, write}
use Rattle.protocol.specs.State.{Tx, fresh, committed, aborted, Contents, Copy, Votes, History}
use Rattle.protocol.specs.Proof.Tables.{clash}
use Rattle.protocol.proofs.Tables.{on}
use Rattle.history.specs.Ledger.{Ledger, tx_of, root_yes, first_only, with_put, noted, note}
use Rattle.history.proofs.Sim.{tx, mode_of, contents_of, Match, Tells, Owner}
use Rattle.history.proofs.Books.{Past, More, World}
use Rattle.history.proofs.Host.{steady, fewer}
use Rattle.history.proofs.Words.{tx_in, kind_of_lem, tx_of_lem, word_of_lem, entries_of_lem, check_of_lem}
use Rattle.history.proofs.Images.{all_in, small_object}
use Rattle.history.proofs.Encoded.{bytes_encode}
use Rattle.history.proofs.Replies.{root_yes_lem}
use Rattle.history.proofs.Arrive.{in_append, in_place}
use Rattle.replica.proofs.Delivered.{or_neither}
use Rattle.history.proofs.Tests.{not-false}
use Rattle.history.proofs.Calls.{Next, refused_next}

-- ---- the entries of a record are its contents
module _ {s : System} (c : Coordinator) (m : Meets s c) where
  standing : {e : Entry} → Stands e (entries_of c) → In e (entries_of c)
  standing z = subst (λ (y : Entry). In y (entries_of c)) z.2 (in_place (entries_of c) z.0 no_entry z.1)

  open_mode : (t : ℕ) (b : Bool) → is_open c t ≡ b → cond b (mode_of (object_at c t).mode) unused ≢ unused → is_open c t ≡ true
  open_mode t true e q = e
  open_mode t false e q = absurd (q refl)

  only_entry : (e : Entry) → In e (entries_of c) → (is_open c e.object ≡ true) × (e ≡ entry_for (object_at c e.object))
  only_entry e i = all_in _ (entries_of c) (entries_only s c m) e i

  written_value : (y : Object) (b : Bool) → eqb y.mode 0 ≡ b → cond b read write ≡ write → cond b 0 y.new ≡ y.new
  written_value y true p e = absurd (clash (cc))
  written_value y false p e = refl

  pub entries_match : Match (contents_of c) (entries_of c)
  entries_match = record {
    lists = λ t q. let o = open_mode t (is_open c t) refl q in
        (entry_for (object_at c t), standing (entries_every s c m t o), (open_place s c m t o).1);
    mode_as = λ e i. let z = only_entry e i in
        ap (λ (b : Bool). cond b (mode_of (object_at c e.object).mode) unused) z.0 ∙ ap (λ (y : Entry). mode_of y.mode) (sym z.1);
    version_as = λ e i. ap (λ (y : Entry). y.version) (sym (only_entry e i).1);
    new_as = λ e i w. let z = only_entry e i in
        let a : mode_of (object_at c e.object).mode ≡ write = sym (ap (λ (b : Bool). cond b (mode_of (object_at c e.object).mode) unused) z.0) ∙ w in
        sym (ap (λ (y : Entry). y.value) z.1 ∙ written_value (object_at c e.object) (eqb (object_at c e.object).mode 0) refl a);
  }

-- ---- a message that a coordinator sends
-- what it tells, in a state where it is true
pub tells_sent : (h : History ℕ) (v : Votes) (sent : List (Copy ℕ)) (a : Message) (f : Fits a) → well_formed a ≡ true → (a.kind ≡ 2 → ⊥) → (a.kind ≡ 4 → ⊥)
    → (a.kind ≡ 3 → (h.phase (tx_in a) ≢ fresh) × Match (h.contents (tx_in a)) a.entries)
    → (a.kind ≡ 5 → word_of a ≡ 1 → (h.phase (tx_in a) ≡ committed) × Match (h.contents (tx_in a)) a.entries)
    → (a.kind ≡ 5 → word_of a ≡ 0 → h.phase (tx_in a) ≡ aborted)
    → Tells h v sent (encode a)
tells_sent h v sent a f w no2 no4 asks commits aborts =
    let x = tx_of_lem a f in
    let es = entries_of_lem a f in
    record {
      well = check_of_lem a f w;
      a_copy = λ k. absurd (no2 (sym (kind_of_lem a f) ∙ k));
      an_ask = λ k. let z = asks (sym (kind_of_lem a f) ∙ k) in (
        subst (λ (y : Tx). h.phase y ≢ fresh) (sym x) z.0,
        subst (λ (y : Tx). Match (h.contents y) (decode (encode a)).entries) (sym x) (subst (Match (h.contents (tx_in a))) (sym es) z.1),
      );
      a_yes = λ k u. absurd (no4 (sym (kind_of_lem a f) ∙ k));
      a_commit_lem = λ k u. let z = commits (sym (kind_of_lem a f) ∙ k) (sym (word_of_lem a f) ∙ u) in (
        subst (λ (y : Tx). h.phase y ≡ committed) (sym x) z.0,
        subst (λ (y : Tx). Match (h.contents y) (decode (encode a)).entries) (sym x) (subst (Match (h.contents (tx_in a))) (sym es) z.1),
      );
      an_abort = λ k u. subst (λ (y : Tx). h.phase y ≡ aborted) (sym x) (aborts (sym (kind_of_lem a f) ∙ k) (sym (word_of_lem a f) ∙ u));
    }

-- ---- it fits its bytes
module _ {s : System} (c : Coordinator) (m : Meets s c) (f : Rattle.clauses.proofs.Fits.Fits c) where
  entry_fits : (n : ℕ) → is_open c n ≡ true → EntryFits (entry_for (object_at c n))
  entry_fits n o = let y = f.objects_fit (place_of c n) in record {
    object = y.object_8;
    mode = y.mode_8;
    version = omega (arith, y.valued.version_32);
    value = by (eqb (object_at c n).mode 0);
  }
    where
      by : (b : Bool) → cond b 0 (object_at c n).new < 256 ^ 8
      by true = lit< tt
      by false = omega (arith, (f.objects_fit (place_of c n)).valued.new_64)

  entries_fit : All EntryFits (entries_of c)
  unfolding entries_of
  entries_fit = every_entry s c m EntryFits entry_fits objects

  serial_fits : (c.serial < 256 ^ 4) × (c.timestamp < 256 ^ 4)
  serial_fits = (omega (arith, f.widths.serial_32), omega (arith, f.widths.timestamp_32))

  pub ask_fits : (me node : ℕ) → Fits (ask_to c me node)
  ask_fits me node = record { serial = serial_fits.0; stamp = serial_fits.1; entries = entries_fit; rivals = tt }

  pub outcome_fits : (me node : ℕ) → Fits (outcome_to c me node)
  outcome_fits me node = by (eqb c.outcome 1)
    where
      by : (b : Bool) → Fits (cond b (sent node me c.serial c.timestamp 5 (entries_of c) [] (1 ∷ []))
          (sent node me c.serial c.timestamp 5 [] [] (0 ∷ [])))
      by true = record { serial = serial_fits.0; stamp = serial_fits.1; entries = entries_fit; rivals = tt }
      by false = record { serial = serial_fits.0; stamp = serial_fits.1; entries = tt; rivals = tt }

  pub fetch_fits : (me node object : ℕ) → object < 256 → Fits (fetch_to c me node object)
  fetch_fits me node object h = record {
    serial = serial_fits.0;
    stamp = serial_fits.1;
    entries = (record { object = h; mode = (f.objects_fit (place_of c object)).mode_8; version = lit< tt; value = lit< tt }, tt);
    rivals = tt;
  }

  pub yield_fits : (me node : ℕ) → node < 256 → Fits (yield_to c me node)
  yield_fits me node h = record {
    serial = serial_fits.0;
    stamp = serial_fits.1;
    entries = tt;
    rivals = (record { owner = h; serial = omega (arith, f.widths.rivals_32 node) }, tt);
  }

-- ---- what is due
module _ (st : Station) (L : Ledger) (F : Past) (w : World st L F) (n : ℕ) (f : Rattle.clauses.proofs.Fits.Fits (st.records n)) (to object : ℕ)
    (known : to < nodes) where
  abbrev c : Coordinator
  c = st.records n

  abbrev mc : Meets (system st) c
  mc = w.valid.records n

  abbrev ow : Owner w.state.history w.state.votes w.state.sent n c
  ow = w.sim.owners n

  -- a message that may be put into the pool
  pub record Sent (a : Message) : Type 0 where
    pub bytes : Bytes (encode a)
    pub no_yes : root_yes (encode a) ≡ false
    pub tells : Tells w.state.history w.state.votes w.state.sent (encode a)

  due_cases : (P : ℕ → Type 0) → P 0 → (c.phase ≡ open_phase → P 1) → (c.phase ≡ voting_phase → P 3) → (c.phase ≡ finishing_phase → P 5)
      → (c.phase ≡ finishing_phase → P 7) → P (due_kind (system st) c to object)
  unfolding due_kind open_due voting_due finishing_due
  due_cases P z a b d e = by (eqb c.phase 1) (eqb c.phase 2) (eqb c.phase 3)
      (contains c.quorum to && not (ready (system st) (object_at c object))) (contains c.participants to && not (contains c.yes to))
      (contains (awaited c) to && not (contains c.done to)) (eqb c.outcome 1 && not (eqb (get_or c.rivals to 0) 0)) refl refl refl
    where
      by : (x y g p q r s : Bool) → eqb c.phase 1 ≡ x → eqb c.phase 2 ≡ y → eqb c.phase 3 ≡ g
          → P (cond x (cond p 1 0) (cond y (cond q 3 0) (cond g (cond r 5 (cond s 7 0)) 0)))
      by true y g true q r s i j k = a (eqb-true c.phase 1 i)
      by true y g false q r s i j k = z
      by false true g p true r s i j k = b (eqb-true c.phase 2 j)
      by false true g p false r s i j k = z
      by false false true p q true s i j k = d (eqb-true c.phase 3 k)
      by false false true p q false true i j k = e (eqb-true c.phase 3 k)
      by false false true p q false false i j k = z
      by false false false p q r s i j k = z

  -- the contents asked for are those of the record
  matched : (c.participants ≡ 0 → ⊥) → Match (w.state.history.contents (tx n c.serial)) (entries_of c)
  matched e = subst (λ (k : Contents ℕ). Match k (entries_of c)) (sym (ow.asked e)) (entries_match c mc)

  fetch_sent : well_formed (fetch_to c n to object) ≡ true → Sent (fetch_to c n to object)
  fetch_sent v =
      let a = fetch_to c n to object in
      let o = small_object 1 a.entries (Rattle.replica.proofs.Delivered.entries_of_lem a v) _ (inl refl) in
      let g = fetch_fits c mc f n to object (omega (arith, o)) in
      record {
        bytes = bytes_encode a g v (lit< tt) tt;
        no_yes = root_yes_lem a g;
        tells = tells_sent _ _ _ a g v (λ e. let z : ⊥ = omega arith in z) (λ e. let z : ⊥ = omega arith in z) (λ e. absurd (let z : ⊥ = omega arith in z))
            (λ e. absurd (let z : ⊥ = omega arith in z)) (λ e. absurd (let z : ⊥ = omega arith in z));
      }

  ask_sent : c.phase ≡ voting_phase → well_formed (ask_to c n to) ≡ true → Sent (ask_to c n to)
  ask_sent p v =
      let a = ask_to c n to in
      let g = ask_fits c mc f n to in
      record {
        bytes = bytes_encode a g v (lit< tt) tt;
        no_yes = root_yes_lem a g;
        tells = tells_sent _ _ _ a g v (λ e. let z : ⊥ = omega arith in z) (λ e. let z : ⊥ = omega arith in z)
            (λ e. ((λ q. let r = ow.while_voting p in clash (cc)), matched (mc.party.asked_for p)))
            (λ e. absurd (let z : ⊥ = omega arith in z)) (λ e. absurd (let z : ⊥ = omega arith in z));
      }

  -- a finishing record is committed or aborted
  outcome_sent : c.phase ≡ finishing_phase → well_formed (outcome_to c n to) ≡ true → Sent (outcome_to c n to)
  outcome_sent p = by (eqb c.outcome 1) refl (outcome_fits c mc f n to)
    where
      commit : Message
      commit = sent to n c.serial c.timestamp 5 (entries_of c) [] (1 ∷ [])

      quit : Message
      quit = sent to n c.serial c.timestamp 5 [] [] (0 ∷ [])

      no_party : c.outcome ≡ 1 → c.participants ≡ 0 → ⊥
      no_party e z = let o = mc.votes.else_aborted p (λ g. g.0 z) in let y : ⊥ = omega (arith, e, o) in y

      by : (b : Bool) → eqb c.outcome 1 ≡ b → Fits (cond b commit quit) → well_formed (cond b commit quit) ≡ true → Sent (cond b commit quit)
      by true e g v = let one = eqb-true c.outcome 1 e in record {
        bytes = bytes_encode commit g v (lit< tt) (lit< tt, tt);
        no_yes = root_yes_lem commit g;
        tells = tells_sent _ _ _ commit g v (λ q. let z : ⊥ = omega arith in z) (λ q. let z : ⊥ = omega arith in z)
            (λ q. absurd (let z : ⊥ = omega arith in z))
            (λ q u. (ow.when_committed p one, matched (no_party one))) (λ q u. absurd (let z : ⊥ = omega arith in z));
      }
      by false e g v = let two = mc.votes.else_aborted p (λ a. eqb-false c.outcome 1 e (mc.votes.agreed_commits p a)) in record {
        bytes = bytes_encode quit g v (lit< tt) (lit< tt, tt);
        no_yes = root_yes_lem quit g;
        tells = tells_sent _ _ _ quit g v (λ q. let z : ⊥ = omega arith in z) (λ q. let z : ⊥ = omega arith in z) (λ q. absurd (let z : ⊥ = omega arith in z))
            (λ q u. absurd (let z : ⊥ = omega arith in z)) (λ q u. ow.when_aborted p two);
      }

  yield_sent : well_formed (yield_to c n to) ≡ true → Sent (yield_to c n to)
  yield_sent v =
      let a = yield_to c n to in
      let g = yield_fits c mc f n to (omega (arith, known)) in
      record {
        bytes = bytes_encode a g v (lit< tt) tt;
        no_yes = root_yes_lem a g;
        tells = tells_sent _ _ _ a g v (λ e. let z : ⊥ = omega arith in z) (λ e. let z : ⊥ = omega arith in z) (λ e. absurd (let z : ⊥ = omega arith in z))
            (λ e. absurd (let z : ⊥ = omega arith in z)) (λ e. absurd (let z : ⊥ = omega arith in z));
      }

  pub due_sent : (due_kind (system st) c to object ≡ 0 → ⊥) → well_formed (message_due c n to object (due_kind (system st) c to object)) ≡ true
      → Sent (message_due c n to object (due_kind (system st) c to object))
  unfolding message_due
  due_sent = due_cases (λ k. (k ≡ 0 → ⊥) → well_formed (message_due c n to object k) ≡ true → Sent (message_due c n to object k))
      (λ e v. absurd (e refl)) (λ p e v. fetch_sent v) (λ p e v. ask_sent p v) (λ p e v. outcome_sent p v) (λ p e v. yield_sent v)

-- ---- the step
-- a first refusal that does not fit, one after the other
first_of_lem : (k : ℕ) (x y : Bool) → cond (not (eqb k 0)) k (cond x 3 (cond y 12 0)) ≡ 0 → (k ≡ 0) × (x ≡ false)
first_of_lem k x y e = by (eqb k 0) refl e
  where
    by : (b : Bool) → eqb k 0 ≡ b → cond (not b) k (cond x 3 (cond y 12 0)) ≡ 0 → (k ≡ 0) × (x ≡ false)
    by true p q = (eqb-true k 0 p, no_three x q)
      where
        no_three : (x : Bool) → ◌≡◌ {A = ℕ} (cond x 3 (cond y 12 0)) 0 → x ≡ false
        no_three true r = absurd (let z : ⊥ = omega arith in z)
        no_three false r = refl
    by false p q = absurd (eqb-false k 0 p q)

module _ (st : Station) (L : Ledger) (F : Past) (w : World st L F) (n to object : ℕ) where
  abbrev d : Coordinator
  d = st.records n

  abbrev number : ℕ
  number = first_of (due_refusals d n to object)

  abbrev kind : ℕ
  kind = due_kind (system st) d to object

  abbrev a : Message
  a = message_due d n to object kind

  -- nothing refuses: the node is there, and what is due is well formed
  pub allowed : (up : Bool)
      → cond up (first_of (refuse number (not (eqb number 0)) ∷ refuse 3 (not (eqb kind 0) && not (well_formed a)) ∷ refuse 12 (full st) ∷ []))
      (when_off number) ≡ 0 → (number ≡ 0) × ((not (eqb kind 0) && not (well_formed a)) ≡ false)
  allowed true e = first_of_lem number (not (eqb kind 0) && not (well_formed a)) (full st) e
  allowed false e = absurd (off_number_lem number e)

  known_to : number ≡ 0 → to < nodes
  unfolding due_refusals
  known_to e = let k = clear (due_refusals d n to object) tt e in ltb-true to nodes (not-false (ltb to nodes) (or_neither (no_node n) (no_node to) k.0).1)

  well_formed_lem : (x y : Bool) → (not x && not y) ≡ false → x ≡ false → y ≡ true
  well_formed_lem true y e q = absurd (let z : true ≡ false = q in clash (cc))
  well_formed_lem false true e q = refl
  well_formed_lem false false e q = absurd (let z : true ≡ false = e in clash (cc))

  -- one message more in the pool
  put_world : (b : List ℕ) → Bytes b → Tells w.state.history w.state.votes w.state.sent b → (root_yes b ≡ false)
      → World (with_pool st (st.pool ++ (b ∷ []))) (with_put L L.pool (some b)) (More F (with_pool st (st.pool ++ (b ∷ []))))
  put_world b y t quiet =
      steady st L F w (st.pool ++ (b ∷ [])) st.own.on (with_put L L.pool (some b))
      (λ z i. on (in_append z st.pool (b ∷ []) i) inl
      (λ j. on j (λ e. inr (subst (Tells w.state.history w.state.votes w.state.sent) (sym e) t, subst Bytes (sym e) y)) (λ q. absurd q)))
      (ap (λ (l : List (List ℕ)). l ++ (b ∷ [])) w.books.pool_as)
      (λ z i. on (in_append z L.puts (b ∷ []) i) inl
      (λ j. on j (λ e. inr (subst (Tells w.state.history w.state.votes w.state.sent) (sym e) t)) (λ q. absurd q)))
      (ap (λ (g : Bool). cond g (first_only (tx_of b) L.log) L.log) quiet) refl refl
      (record { serials = refl; modes = refl; news = refl; parties = refl })

  pub send_next : Rattle.clauses.proofs.Fits.Fits d → Next st L F w (send n to object) (send_of st n to object)
  unfolding send_of send_number note noted
  send_next f = by (eqb num 0) (eqb kind 0) refl refl
    where
      num : ℕ
      num = send_number st n to object a (not (eqb kind 0))

      by : (x y : Bool) → eqb num 0 ≡ x → eqb kind 0 ≡ y
          → Next st L F w (send n to object) (cond x (cond (not y) (putting (encode a) st) (record { number = 0; answer = 0; put = none; station = st }))
          (refused_with num st))
      by true false p q =
          let z = allowed (contains st.own.on n) (eqb-true num 0 p) in
          let t = due_sent st L F w n f to object (known_to z.0) (eqb-false kind 0 q) (well_formed_lem (eqb kind 0) (well_formed a) z.1 q) in
          put_world (encode a) t.bytes t.tells t.no_yes
      by true true p q = idle_here
        where
          idle_here : World st (with_put L L.pool none) (More F st)
          idle_here = fewer st L F w st.pool st.own.on (with_put L L.pool none) (λ y i. i) w.books.pool_as refl refl refl refl
              (record { serials = refl; modes = refl; news = refl; parties = refl })
      by false y p q = refused_next st L F w (send n to object) num (eqb-false num 0 p)
