-- What the events tell against the abstract state: pool, serials and log; which transactions committed, and with what contents; the dones; and what
-- was found so far (F: the transaction found the value for the object after some earlier step).
use mathlib.Core.Path.{◌≡◌, refl, sym, ◌∙◌, ap, subst}
use mathlib.Core.Logic.{◌≢◌, ◌⊎◌, inl}
use mathlib.Core.Bool.{Bool, true, false, cond}
use mathlib.Core.List.{List}
use Prim.Native.Nat.{ℕ, zero, suc, ◌<◌, ◌≤◌}
use native.Mathlib.Omega.{arith}
use lib.Dec.{eqb}
use Rattle.mask.specs.Mask.{contains}
use Rattle.octets.proofs.Laws.{Bytes}
use Rattle.image.proofs.Sound.{Sound}
use Rattle.coordinator.specs.declared.Coordinator.{Coordinator}
use Rattle.coordinator.specs.System.{System}
use Rattle.coordinator.specs.State.{idle_phase, open_phase, voting_phase, finishing_phase, object_at}
use Rattle.clauses.proofs.Facts.{Meets}
use Rattle.steps.specs.Station.{Station, system, put_at}
use Rattle.protocol.specs.Table.{In}
use Rattle.protocol.specs.Rules.{unused, read, write}
use Rattle.protocol.specs.State.{Tx, fresh, voting, committed, Contents, History, State}
use Rattle.protocol.specs.Refine.Growth.{Late}
use Rattle.protocol.specs.Proof.Tables.{clash}
use Rattle.protocol.proofs.Tables.{on}
use Rattle.history.specs.Ledger.{Ledger}
use Rattle.history.specs.Claims.{Shows, Finds}
use Rattle.history.specs.Sane.{Sane}
use Rattle.history.proofs.Sim.{tx, mode_of, contents_of, Owner, Tells, Sim}
use Rattle.history.proofs.Carry.{put_all, by_none}

-- ---- which transactions committed, and with what
pub record Decided (L : Ledger) (h : History ℕ) : Type 0 where
  pub told_so : (x : Tx) → In x L.committed → h.phase x ≡ committed
  pub is_told : (x : Tx) → h.phase x ≡ committed → In x L.committed
  pub its_mode : (x : Tx) → h.phase x ≡ committed → (t : ℕ) → L.mode x t ≡ (h.contents x).mode t
  pub its_new : (x : Tx) → h.phase x ≡ committed → (t : ℕ) → L.new x t ≡ (h.contents x).new t
  pub its_party_lem : (x : Tx) → h.phase x ≡ committed → (m : ℕ) → contains (L.participants x) m ≡ (h.contents x).participants m

-- ---- an owner's present transaction is as its record has it, the next ones have nothing yet
pub record Present (L : Ledger) (n : ℕ) (c : Coordinator) : Type 0 where
  pub serial_as : L.serials n ≡ c.serial
  pub no_mode : (s t : ℕ) → c.serial < s → L.mode (tx n s) t ≡ unused
  pub no_new : (s t : ℕ) → c.serial < s → L.new (tx n s) t ≡ 0
  pub mode_now : c.phase ≢ idle_phase → (t : ℕ) → L.mode (tx n c.serial) t ≡ (contents_of c).mode t
  pub new_now : c.phase ≢ idle_phase → (t : ℕ) → L.new (tx n c.serial) t ≡ (contents_of c).new t
  pub party_now : c.participants ≢ 0 → L.participants (tx n c.serial) ≡ c.participants

-- ---- what was found
abbrev pub Past : Type 1
Past = Tx → ℕ → ℕ → Type 0

abbrev pub More : Past → Station → Past
More F st x t v = F x t v ⊎ Finds st x t v

-- votes were asked for, and it was not given up
abbrev pub Asked : History ℕ → Tx → Type 0
Asked h x = (h.phase x ≡ voting) ⊎ (h.phase x ≡ committed)

pub record Found (F : Past) (st : Station) (h : History ℕ) : Type 0 where
  -- before votes are asked for, it is still found
  pub still : (x : Tx) (t v : ℕ) → F x t v → h.phase x ≡ fresh → Finds st x t v
  -- then it is what the transaction carries
  pub carried : (x : Tx) (t v : ℕ) → F x t v → Asked h x → ((h.contents x).found t ≡ v) × ((h.contents x).mode t ≢ unused)
  -- and whatever it carries was found
  pub had : (x : Tx) (t : ℕ) → Asked h x → (h.contents x).mode t ≢ unused → F x t ((h.contents x).found t)

-- ---- all of it
pub record Books (L : Ledger) (F : Past) (st : Station) (σ : State ℕ) (l : List Tx) : Type 0 where
  pub pool_as : L.pool ≡ st.pool
  -- whatever was put, and may wait no more, tells the truth still
  pub puts_true : (b : List ℕ) → In b L.puts → Tells σ.history σ.votes σ.sent b
  pub log_as : L.log ≡ l
  pub decided : Decided L σ.history
  pub present : (n : ℕ) → Present L n (st.records n)
  pub dones : (x : Tx) (n : ℕ) → L.dones x n ≡ true → Late σ.ends n x
  pub found : Found F st σ.history

-- ---- a station whose images and records are valid, and whose messages are bytes
pub record Valid (st : Station) : Type 0 where
  pub images : (n : ℕ) → Sound (st.images n) × Bytes (st.images n)
  pub records : (n : ℕ) → Meets (system st) (st.records n)
  pub messages : (b : List ℕ) → In b st.pool → Bytes b

pub record World (st : Station) (L : Ledger) (F : Past) : Type 0 where
  pub sane : Sane (system st)
  pub state : State ℕ
  pub log : List Tx
  pub sim : Sim sane st state log
  pub valid : Valid st
  pub books : Books L F st state log

-- ---- what is found now is what the transaction carries, once votes were asked for
module _ {s : System} {sane : Sane s} (st : Station) (σ : State ℕ) (l : List Tx) (sim : Sim sane st σ l) (n : ℕ) (m : Meets s (st.records n)) where
  abbrev c : Coordinator
  c = st.records n

  abbrev x : Tx
  x = tx n c.serial

  -- a phase is one of four
  pub phases : {P : Type 0} → (c.phase ≡ idle_phase → P) → (c.phase ≡ open_phase → P) → (c.phase ≡ voting_phase → P) → (c.phase ≡ finishing_phase → P) → P
  phases {P} a b d e = by c.phase refl m.numbers.phase_known
    where
      by : (k : ℕ) → c.phase ≡ k → k ≤ 3 → P
      by zero q h = a q
      by (suc zero) q h = b q
      by (suc (suc zero)) q h = d q
      by (suc (suc (suc zero))) q h = e q
      by (suc (suc (suc (suc k)))) q h = absurd (let z : ⊥ = omega arith in z)

  -- the contents that were asked for are the record's
  pub asked_contents : c.phase ≢ idle_phase → Asked σ.history x → σ.history.contents x ≡ contents_of c
  asked_contents busy a = phases (λ e. absurd (busy e))
      (λ e. absurd (on a (λ q. let p = (sim.owners n).while_open e in clash (cc)) (λ q. let p = (sim.owners n).while_open e in clash (cc))))
      (λ e. (sim.owners n).asked (m.party.asked_for e))
      (λ e. (sim.owners n).asked (λ z. let o : c.outcome ≡ 2 = m.votes.else_aborted e (λ g. g.0 z) in let p = (sim.owners n).when_aborted e o in
      on a (λ q. clash (cc)) (λ q. clash (cc))))

-- ---- what is found after one more step
-- what is shown is open, so it is touched
pub shown_mode : {s : System} (c : Coordinator) (n t v : ℕ) → Shows s c n t v → (contents_of c).mode t ≢ unused
shown_mode c n t v f q = touched_mode (eqb (object_at c t).mode 0)
    (sym (ap (λ (b : Bool). cond b (mode_of (object_at c t).mode) unused) f.opened) ∙ q)
  where
    touched_mode : (b : Bool) → cond b read write ≡ unused → ⊥
    touched_mode true e = clash (cc)
    touched_mode false e = clash (cc)

module _ {s : System} {sane : Sane s} (F : Past) (st : Station) (σ : State ℕ) (l : List Tx) (sim : Sim sane st σ l)
    (meets : (n : ℕ) → Meets s (st.records n)) where
  -- the transaction that shows a value is the owner's present one
  shows_carried : (n s t v : ℕ) → Shows (system st) (st.records n) s t v → Asked σ.history (tx n s)
      → ((σ.history.contents (tx n s)).found t ≡ v) × ((σ.history.contents (tx n s)).mode t ≢ unused)
  shows_carried n s t v f a =
      let e : tx n s ≡ tx n (st.records n).serial = ap (tx n) (sym f.present) in
      let k = ap σ.history.contents e ∙ asked_contents st σ l sim n (meets n) f.begun (subst (Asked σ.history) e a) in
      (ap (λ (z : Contents ℕ). z.found t) k ∙ f.value, λ q. shown_mode (st.records n) s t v f (sym (ap (λ (z : Contents ℕ). z.mode t) k) ∙ q))

  pub found_next : ((x : Tx) (t v : ℕ) → F x t v → σ.history.phase x ≡ fresh → Finds st x t v)
      → ((x : Tx) (t v : ℕ) → F x t v → Asked σ.history x → ((σ.history.contents x).found t ≡ v) × ((σ.history.contents x).mode t ≢ unused))
      → ((x : Tx) (t : ℕ) → Asked σ.history x → (σ.history.contents x).mode t ≢ unused → More F st x t ((σ.history.contents x).found t))
      → Found (More F st) st σ.history
  found_next a b d = record {
    still = λ x t v f p. on f (λ g. a x t v g p) (λ g. g);
    carried = λ x t v f p. on f (λ g. b x t v g p) (λ g. shows_carried x.owner x.serial t v g p);
    had = d;
  }

-- ---- a step that is no transition and changes one record: a host call, or a message that is taken out or kept
abbrev pub changed : Station → ℕ → Coordinator → List (List ℕ) → Station
changed st n c pool = record { images = st.images; records = put_at st.records n c; pool = pool; own = st.own }

module _ (st : Station) (L : Ledger) (F : Past) (w : World st L F) (n : ℕ) (c' : Coordinator) (pool : List (List ℕ)) where
  abbrev after : Station
  after = changed st n c' pool

  abbrev h : History ℕ
  h = w.state.history

  -- what an owner's earlier transactions found is still found
  still_shown : ((t v : ℕ) → Shows (system st) (st.records n) (st.records n).serial t v → h.phase (tx n (st.records n).serial) ≡ fresh
      → Shows (system st) c' (st.records n).serial t v)
      → (i s t v : ℕ) → Shows (system st) (st.records i) s t v → h.phase (tx i s) ≡ fresh → Shows (system st) (put_at st.records n c' i) s t v
  still_shown f i s t v g p = put_all (λ k c. Shows (system st) (st.records k) s t v → h.phase (tx k s) ≡ fresh → Shows (system st) c s t v)
      st.records n c'
      (λ g p. let e = g.present in
      subst (λ (r : ℕ). Shows (system st) c' r t v) e
      (f t v (subst (λ (r : ℕ). Shows (system st) (st.records n) r t v) (sym e) g) (subst (λ (r : ℕ). h.phase (tx n r) ≡ fresh) (sym e) p)))
      (λ k e g p. g) i g p

  pub quiet : (L' : Ledger) → Owner h w.state.votes w.state.sent n c' → Meets (system st) c' → ((b : List ℕ) → In b pool → In b st.pool)
      → L'.pool ≡ pool → L'.log ≡ L.log → Decided L' h → ((i : ℕ) → Present L' i (put_at st.records n c' i)) → L'.dones ≡ L.dones → L'.puts ≡ L.puts
      → ((t v : ℕ) → Shows (system st) (st.records n) (st.records n).serial t v → h.phase (tx n (st.records n).serial) ≡ fresh
      → Shows (system st) c' (st.records n).serial t v)
      → World after L' (More F after)
  quiet L' ow m sub lp ll ld lr le lq f =
      let sim' = by_none st w.log w.sim n c' pool st.own ow (λ b i. inl (sub b i)) in
      let meets = put_all (λ (i : ℕ) (c : Coordinator). Meets (system st) c) st.records n c' m (λ i e. w.valid.records i) in
      let b = w.books in
      record {
        sane = w.sane;
        state = w.state;
        log = w.log;
        sim = sim';
        valid = record { images = w.valid.images; records = meets; messages = λ y i. w.valid.messages y (sub y i) };
        books = record {
          pool_as = lp;
          puts_true = λ y i. b.puts_true y (subst (In y) lq i);
          log_as = ll ∙ b.log_as;
          decided = ld;
          present = lr;
          dones = λ x m i. b.dones x m (ap (λ (f : Tx → ℕ → Bool). f x m) (sym le) ∙ i);
          found = found_next F after w.state w.log sim' meets
              (λ x t v g p. still_shown f x.owner x.serial t v (b.found.still x t v g p) p)
              b.found.carried (λ x t a q. inl (b.found.had x t a q));
        };
      }
