-- What a transition leaves true of records and waiting messages: phases, contents, votes and copies sent never go back. And how a step of the
-- station is a step of the abstract system: by none, or by one transition.
use mathlib.Core.Path.{◌≡◌, refl, sym, ◌∙◌, subst}
use mathlib.Core.Logic.{◌≢◌, ◌⊎◌, inl, inr}
use mathlib.Core.Bool.{Bool, true, false, cond}
use mathlib.Core.List.{List}
use Prim.Native.Nat.{ℕ}
use lib.Dec.{eqb}
use lib.ListN.{get_or}
use borrow.Author.Tests.{eqb-true, eqb-false}
use Rattle.coordinator.specs.declared.Coordinator.{Coordinator}
use Rattle.coordinator.specs.System.{System}
use Rattle.coordinator.specs.State.{no_object}
use Rattle.steps.specs.Station.{Own, Station, put_at, sent}
use Rattle.protocol.specs.Table.{In}
use Rattle.protocol.specs.State.{Tx, fresh, Contents, Copy, Votes, History, Chain, State}
use Rattle.protocol.specs.Transitions.{by_coordinator, Step}
use Rattle.protocol.specs.Log.{logged}
use Rattle.protocol.proofs.Tables.{on}
use Rattle.protocol.specs.Proof.AskAbort.{Forward}
use Rattle.protocol.proofs.AskAbort.{committed_asked}
use Rattle.protocol.specs.Refine.Growth.{Grows}
use Rattle.protocol.proofs.Refine.Growth.{history_same}
use Rattle.protocol.specs.Refine.Holders.{shown}
use Rattle.protocol.proofs.Refine.Holders.{holders_as_read}
use Rattle.protocol.specs.Refine.Authors.{signed}
use Rattle.protocol.proofs.Refine.Authors.{authored_as_read, step_authored}
use Rattle.protocol.proofs.Refine.Simulate.{step_kept}
use Rattle.history.specs.Sane.{Sane}
use Rattle.history.proofs.Quorums.{rules, top}
use Rattle.history.proofs.Sim.{tx, WasSent, Owner, Match, Tells, Waits, Read, holders, authors, Sim}

-- ---- a table changed at one place
put_by_lem : {A : Type 0} (P : ℕ → A → Type 0) (t : Bool) (f : ℕ → A) (n : ℕ) (v : A) (i : ℕ) → eqb i n ≡ t → P n v → (eqb i n ≡ false → P i (f i))
    → P i (cond t v (f i))
put_by_lem P true f n v i e p q = subst (λ (k : ℕ). P k v) (sym (eqb-true i n e)) p
put_by_lem P false f n v i e p q = q e

pub put_all : {A : Type 0} (P : ℕ → A → Type 0) (f : ℕ → A) (n : ℕ) (v : A) → P n v → ((i : ℕ) → (i ≡ n → ⊥) → P i (f i)) → (i : ℕ) → P i (put_at f n v i)
unfolding put_at
put_all P f n v p q i = put_by_lem P (eqb i n) f n v i refl p (λ e. q i (eqb-false i n e))

-- ---- what goes on
pub record Onward (h h' : History ℕ) (v v' : Votes) (m m' : List (Copy ℕ)) : Type 0 where
  pub forward : Forward h h'
  pub yes : (n : ℕ) (x : Tx) → v.yes n x ≡ true → v'.yes n x ≡ true
  pub copies : (c : Copy ℕ) → In c m → In c m'

pub onward : {σ σ' : State ℕ} → Grows σ σ' → Onward σ.history σ'.history σ.votes σ'.votes σ.sent σ'.sent
onward g = record { forward = g.g_history; yes = g.g_yes; copies = g.g_sent }

module _ {h h' : History ℕ} {v v' : Votes} {m m' : List (Copy ℕ)} (g : Onward h h' v v' m m') where
  same_contents : (x : Tx) → h.phase x ≢ fresh → h'.contents x ≡ h.contents x
  same_contents x p = g.forward.f_contents x p

  still_match : (x : Tx) (es : List _) → h.phase x ≢ fresh → Match (h.contents x) es → Match (h'.contents x) es
  still_match x es p k = subst (λ (c : Contents ℕ). Match c es) (sym (same_contents x p)) k

  pub tells_on : (b : List ℕ) → Tells h v m b → Tells h' v' m' b
  tells_on b t = record {
    well = t.well;
    a_copy = λ k. g.copies _ (t.a_copy k);
    an_ask = λ k. let z = t.an_ask k in (g.forward.f_asked _ z.0, still_match _ _ z.0 z.1);
    a_yes = λ k w. g.yes _ _ (t.a_yes k w);
    a_commit_lem = λ k w. let z = t.a_commit_lem k w in (g.forward.f_committed _ z.0, still_match _ _ (committed_asked h _ z.0) z.1);
    an_abort = λ k w. g.forward.f_aborted _ (t.an_abort k w);
  }

  sent_on : (x : _) → WasSent m x → WasSent m' x
  sent_on x (inl z) = inl z
  sent_on x (inr i) = inr (g.copies _ i)

  -- a record whose transactions were left alone
  pub owner_on : (n : ℕ) (c : Coordinator) → ((s : ℕ) → h'.phase (tx n s) ≡ h.phase (tx n s)) → ((s : ℕ) → h'.contents (tx n s) ≡ h.contents (tx n s))
      → Owner h v m n c → Owner h' v' m' n c
  owner_on n c p k w = record {
    later = λ s e. p s ∙ w.later s e;
    while_open = λ e. p c.serial ∙ w.while_open e;
    while_voting = λ e. p c.serial ∙ w.while_voting e;
    when_committed = λ e f. p c.serial ∙ w.when_committed e f;
    when_aborted = λ e f. p c.serial ∙ w.when_aborted e f;
    asked = λ e. k c.serial ∙ w.asked e;
    agreed = λ i e. g.yes i _ (w.agreed i e);
    found = λ i. sent_on (get_or c.objects i no_object) (w.found i);
  }

pub onward_same : (h : History ℕ) (v : Votes) (m : List (Copy ℕ)) → Onward h h v v m m
onward_same h v m = record { forward = history_same h; yes = λ n x e. e; copies = λ c i. i }

-- what waits goes on with the state
pub waits_on : {σ σ' : State ℕ} → Grows σ σ' → (b : List ℕ) → Waits σ b → Waits σ' b
waits_on g b (inl t) = inl (tells_on (onward g) b t)
waits_on g b (inr z) = inr (record {
  well = z.well;
  decided = on z.decided (λ e. inl (g.g_history.f_committed _ e)) (λ e. inr (g.g_history.f_aborted _ e));
  late = λ e. g.g_late _ _ (z.late e);
})

-- ---- a step of the station by one transition
pub by_one : {s : System} {sane : Sane s} {σ σ' : State ℕ} (st st' : Station) (l : List Tx) → Sim sane st σ l → (s : Step (rules sane) σ σ')
    → Read st' σ' → ((n t : ℕ) → shown s (holders st) n t ≡ holders st' n t) → ((n t : ℕ) → signed s (authors st) n t ≡ authors st' n t)
    → ((n : ℕ) → Owner σ'.history σ'.votes σ'.sent n (st'.records n))
    → ((b : List ℕ) → In b st'.pool → In b st.pool ⊎ Tells σ'.history σ'.votes σ'.sent b)
    → Sim sane st' σ' (logged s l)
by_one {sane = sane} {σ' = σ'} st st' l sim s r e f ow new =
    let k = step_kept (top sane) l (holders st) sim.kept s in
    record {
      kept = record { inv = k.0.inv; log = k.0.log; holders = holders_as_read _ _ _ _ e k.0.holders };
      authored = authored_as_read _ _ σ'.store _ f (step_authored s (authors st) sim.authored);
      reads = r;
      owners = ow;
      waits = λ b i. on (new b i) (λ j. waits_on k.1 b (sim.waits b j)) inl;
    }

-- a coordinator's transition leaves the images as they are read
pub reads_still : (st : Station) (σ : State ℕ) (h : History ℕ) (ch : Chain ℕ) → Read st σ → Read st (by_coordinator σ h ch)
reads_still st σ h ch r = record { r_version = r.r_version; r_value = r.r_value; r_last = r.r_last; r_state = r.r_state }

-- ---- a step by none: the images stay, one record changes
pub by_none : {s : System} {sane : Sane s} {σ : State ℕ} (st : Station) (l : List Tx) → Sim sane st σ l
    → (n : ℕ) (c : Coordinator) (pool : List (List ℕ)) (own : Own)
    → Owner σ.history σ.votes σ.sent n c
    → ((b : List ℕ) → In b pool → In b st.pool ⊎ Tells σ.history σ.votes σ.sent b)
    → Sim sane (record { images = st.images; records = put_at st.records n c; pool = pool; own = own }) σ l
by_none {σ = σ} st l sim n c pool own ow new = record {
  kept = sim.kept;
  authored = sim.authored;
  reads = sim.reads;
  owners = put_all (Owner σ.history σ.votes σ.sent) st.records n c ow (λ i e. sim.owners i);
  waits = λ b i. on (new b i) (sim.waits b) inl;
}

-- only the pool changes, or who is on
pub by_pool : {s : System} {sane : Sane s} {σ : State ℕ} (st : Station) (l : List Tx) → Sim sane st σ l → (pool : List (List ℕ)) (own : Own)
    → ((b : List ℕ) → In b pool → In b st.pool ⊎ Tells σ.history σ.votes σ.sent b)
    → Sim sane (record { images = st.images; records = st.records; pool = pool; own = own }) σ l
by_pool st l sim pool own new =
    record { kept = sim.kept; authored = sim.authored; reads = sim.reads; owners = sim.owners; waits = λ b i. on (new b i) (sim.waits b) inl }
