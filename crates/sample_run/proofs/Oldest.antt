-- The sample's request for votes is unopposed: every other coordinator is idle and no copy is newer, as was computed; so its transaction gets through, and
-- the sample's steps are those by which it can.
use mathlib.Core.Path.{◌≡◌, refl, sym, ap, subst, ◌∙◌}
use mathlib.Core.Logic.{◌≢◌}
use mathlib.Core.Bool.{Bool, true, cond}
use mathlib.Core.List.{List, ◌++◌}
use Prim.Native.Nat.{ℕ, ◌≤◌, ◌<◌}
use native.Mathlib.Decide.{ℕ_discrete}
use native.Mathlib.Omega.{arith}
use lib.Dec.{eqb, lit<}
use lib.ListN.{length, get_or}
use borrow.Author.Tests.{eqb-true, ltb-true, ne_eqb}
use Rattle.numbers.specs.Sizes.{nodes, most_open}
use Rattle.mask.specs.Mask.{bit, contains}
use Rattle.wire.specs.Message.{ask, vote, outcome, done}
use Rattle.image.specs.Layout.{version}
use Rattle.coordinator.specs.State.{no_object, place_of, object_at, is_open}
use Rattle.clauses.proofs.Places.{place_open}
use Rattle.steps.specs.Station.{Station}
use Rattle.steps.specs.Step.{Call, request_commit, step}
use Rattle.steps.proofs.Nodes.{node_on}
use Rattle.protocol.specs.State.{Tx}
use Rattle.history.specs.Claims.{account, reached}
use Rattle.progress.specs.Deliveries.{members_below, Came, Once}
use Rattle.progress.specs.Oldest.{Unopposed, GetsThrough, deliveries, Undisturbed, acts}
use Rattle.progress.specs.Schedule.{rounds_below, rounds, Serves}
use Rattle.progress.proofs.Through.{oldest_through}
use Rattle.progress.proofs.Alone.{alone_unopposed}
use Rattle.progress.proofs.Schedule.{oldest_can}
use Rattle.sample_run.specs.Sample.{valued, asking, mask, sample, blank, tells, left, transaction}
use Rattle.sample_run.specs.Oldest.{handed, GoesThrough}
use Rattle.sample_run.proofs.Listed.{listed, listed_same}
use Rattle.sample_run.proofs.Quick.{accepted}
use Rattle.sample_run.proofs.Both.{Both, noted, stepped, oldest, delivered}
use Rattle.sample_run.proofs.Opened.{computed}
use Rattle.sample_run.proofs.Computed.{start, when_ready, when_valued, when_asked}
use Rattle.sample_run.proofs.Commits.{β, valued_agrees, asking_agrees, last_agrees}

-- ---- what was computed when votes were asked for; of the nodes, in a list
record Then : Type 0 where
  phases : List ℕ
  versions : List ℕ
  up : List Bool
  party : ℕ
  serial : ℕ
  count : ℕ
  object : ℕ
  waiting : ℕ

unfoldable then : Both → Then
then b = record {
  phases = listed (λ n. (b.station.records n).phase) nodes;
  versions = listed (λ n. version (b.station.images n) 7) nodes;
  up = listed (λ n. contains b.station.own.on n) nodes;
  party = (b.station.records 4).participants;
  serial = (b.station.records 4).serial;
  count = (b.station.records 4).count;
  object = (get_or (b.station.records 4).objects 0 no_object).object;
  waiting = length b.station.pool;
}

is_then : then when_asked
    ≡ record {
      phases = listed (λ n. cond (eqb n 4) 2 0) nodes;
      versions = listed (λ n. 0) nodes;
      up = listed (λ n. true) nodes;
      party = mask;
      serial = 1;
      count = 1;
      object = 7;
      waiting = 0;
    }
unfolding computed ℕ_discrete start accepted noted stepped oldest delivered when_ready when_valued when_asked then
is_then = refl

is_accepted : (step when_valued.station (request_commit 4)).number ≡ 0
unfolding computed ℕ_discrete start accepted noted stepped oldest delivered when_ready when_valued
is_accepted = refl

-- ---- the request is unopposed
abbrev st : Station
st = reached blank asking

is_asked : st ≡ when_asked.station
is_asked = ap (λ (b : Both). b.station) asking_agrees.same

its_party_lem : (st.records 4).participants ≡ mask
unfolding then
its_party_lem = ap (λ (w : Station). (w.records 4).participants) is_asked ∙ ap (λ (t : Then). t.party) is_then

its_serial : (st.records 4).serial ≡ 1
unfolding then
its_serial = ap (λ (w : Station). (w.records 4).serial) is_asked ∙ ap (λ (t : Then). t.serial) is_then

none_waits : length st.pool ≡ 0
unfolding then
none_waits = ap (λ (w : Station). length w.pool) is_asked ∙ ap (λ (t : Then). t.waiting) is_then

taken : (step (reached blank valued) (request_commit 4)).number ≡ 0
taken = ap (λ (b : Both). (step b.station (request_commit 4)).number) valued_agrees.same ∙ is_accepted

others_idle : (w : ℕ) → w < nodes → w ≢ 4 → (st.records w).phase ≡ 0
unfolding then
others_idle w h e = ap (λ (s : Station). (s.records w).phase) is_asked
    ∙ listed_same (λ n. (when_asked.station.records n).phase) (λ n. cond (eqb n 4) 2 0) nodes (ap (λ (t : Then). t.phases) is_then) w h ∙ simp (ne_eqb w 4 e)

is_up : (n : ℕ) → n < nodes → contains st.own.on n ≡ true
unfolding then
is_up n h = ap (λ (s : Station). contains s.own.on n) is_asked
    ∙ listed_same (λ n. contains when_asked.station.own.on n) (λ n. true) nodes (ap (λ (t : Then). t.up) is_then) n h

known : (n : ℕ) → contains (st.records 4).participants n ≡ true → n < nodes
known n e = node_on mask n (omega arith) (ap (λ (m : ℕ). contains m n) (sym its_party_lem) ∙ e)

-- the one object that is open is 7, of which every copy is blank
only_7 : (t : ℕ) → is_open (st.records 4) t ≡ true → t ≡ 7
unfolding then
only_7 t e =
    let c = st.records 4 in
    let p = place_open c.objects c.count t (ltb-true (place_of c t) most_open e) in
    let one : c.count ≡ 1 = ap (λ (w : Station). (w.records 4).count) is_asked ∙ ap (λ (t : Then). t.count) is_then in
    let first : place_of c t ≡ 0 = let h = p.0 in omega (arith, h, one) in
    let seven : (get_or c.objects 0 no_object).object ≡ 7 =
    ap (λ (w : Station). (get_or (w.records 4).objects 0 no_object).object) is_asked ∙ ap (λ (t : Then). t.object) is_then in
    sym p.1.1 ∙ ap (λ (i : ℕ). (get_or c.objects i no_object).object) first ∙ seven

blank_copies : (n t : ℕ) → contains (st.records 4).participants n ≡ true → is_open (st.records 4) t ≡ true
    → version (st.images n) t ≤ (object_at (st.records 4) t).version
unfolding then
blank_copies n t i e =
    let v : version (st.images n) t ≡ 0 = ap (λ (u : ℕ). version (st.images n) u) (only_7 t e) ∙ ap (λ (w : Station). version (w.images n) 7) is_asked
    ∙ listed_same (λ n. version (when_asked.station.images n) 7) (λ n. 0) nodes (ap (λ (t : Then). t.versions) is_then) n (known n i) in
    omega (arith, v)

is_unopposed : Unopposed st 4
is_unopposed = alone_unopposed blank β valued 4 valued_agrees.typed taken others_idle blank_copies (λ n e. is_up n (known n e)) (is_up 4 (lit< tt))

-- ---- so it gets through, by rounds with each participant
abbrev es : List Call
es = rounds 4 0 mask

-- the rounds that serve it, by its own serial, participants and pool; then by what these are
serves : Serves blank valued 4 (rounds 4 (length st.pool) (st.records 4).participants)
serves = oldest_can blank β valued 4 valued_agrees.typed taken is_unopposed (let z = none_waits in omega (arith, z))

abbrev Goes : ℕ → ℕ → ℕ → Type 0
Goes waiting party serial =
    let A = account blank in
    let x : Tx = record { owner = 4; serial = serial } in
    let dl = deliveries A (acts blank) asking (rounds 4 waiting party) in
    Undisturbed A (acts blank) x party asking (rounds 4 waiting party)
    × (Once x party ask dl × Once x party vote dl × Once x party outcome dl × Once x party done dl)
    × (rounds 4 waiting party ++ asking ≡ sample → GetsThrough x party dl tells left)

goes_so : Goes (length st.pool) (st.records 4).participants (st.records 4).serial
goes_so = (
  serves.undisturbed,
  (serves.asks, serves.votes, serves.outcomes, serves.dones),
  λ e. oldest_through blank β sample last_agrees.typed (rounds 4 (length st.pool) (st.records 4).participants) valued 4 e taken is_unopposed
      serves.undisturbed,
)

goes : Goes 0 mask 1
goes = subst (λ (w : ℕ). Goes w mask 1) none_waits (subst (λ (p : ℕ). Goes (length st.pool) p 1) its_party_lem
    (subst (Goes (length st.pool) (st.records 4).participants) its_serial goes_so))

same_list : es ++ asking ≡ sample
unfolding rounds_below
same_list = refl

came : (kind : ℕ) → Once transaction mask kind handed → Came transaction mask kind handed
came kind o n h e = let z = o n h in let b = eqb-true (bit mask n) 1 e in omega (arith, z, b)

-- THE THEOREM: it is unopposed, the sample's steps are the rounds, and with its 7 participants it has ended after 28 deliveries
pub sample_through : GoesThrough
unfolding members_below
sample_through = let t = goes.2 same_list in let k = goes.1 in record {
  unopposed = is_unopposed;
  is_sample = same_list;
  undisturbed = goes.0;
  commits = t.commits (came vote k.1);
  ended = t.finishes (came done k.3);
  turns = t.four_times k.0 k.1 k.2 k.3;
}
