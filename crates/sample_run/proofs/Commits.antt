-- The sample run commits its transaction, and is settled and at rest: what was computed, said of each node.
use mathlib.Core.Path.{◌≡◌, refl, sym, ap, subst, ◌∙◌}
use mathlib.Core.Bool.{true, cond}
use mathlib.Core.List.{[], ◌∷◌}
use Prim.Native.Nat.{ℕ, zero, suc, ◌^◌, ◌<◌}
use native.Mathlib.Decide.{ℕ_discrete}
use native.Mathlib.Omega.{arith}
use lib.Dec.{lit<}
use lib.ListN.{get_or, replicate}
use Rattle.numbers.specs.Sizes.{nodes, every_node, nobody}
use Rattle.mask.specs.Mask.{contains}
use Rattle.image.specs.Layout.{value, version, author, author_serial}
use Rattle.steps.specs.Station.{Station}
use Rattle.steps.specs.Step.{begin, open_read, open_write, set_value, found, request_commit, send}
use Rattle.steps.proofs.Nodes.{node_on}
use Rattle.protocol.specs.Table.{pick, In, select}
use Rattle.protocol.specs.State.{Tx, Tx-discrete}
use Rattle.protocol.proofs.Tables.{on}
use Rattle.history.specs.Ledger.{Ledger, in?}
use Rattle.history.specs.Origin.{ledger_of, Rested}
use Rattle.history.specs.Claims.{Settled, reached, account, Demand3}
use Rattle.history.proofs.Claimed.{demand_3}
use Rattle.history.proofs.Origins.{blank_rested}
use Rattle.history.proofs.Resting.{rests}
use Rattle.sample_run.specs.Sample.{beginning, ready, valued, asking, participants, mask, sample, blank, tells, left, left_ready}
use Rattle.sample_run.specs.Sample.{transaction, Commits, carrying, reading, Shown}
use Rattle.sample_run.proofs.Listed.{listed_same}
use Rattle.sample_run.proofs.Both.{Both, at_first, Agrees, first_agrees, stepped_agrees, delivered_agrees, exchanged_agrees}
use Rattle.sample_run.proofs.Computed.{start, is_start, when_ready, when_valued, when_asked, at_last, Seen, seen, is_seen, is_shown, when_read, is_read}

-- ---- the passes are those of the lists
ones : (n i : ℕ) → get_or (replicate n 1) i 0 < 2 ^ 16
ones zero i = lit< tt
ones (suc n) zero = lit< tt
ones (suc n) (suc i) = ones n i

abbrev pub β : Rested blank
β = blank_rested every_node

start_agrees : Agrees blank β [] start
start_agrees = subst (Agrees blank β []) is_start (first_agrees blank β)

ready_agrees : Agrees blank β ready when_ready
unfolding when_ready
ready_agrees =
    delivered_agrees blank β _ _ (delivered_agrees blank β _ _ (stepped_agrees blank β _ _ (send 4 0 7) tt (stepped_agrees blank β _ _ (open_write 4 7) tt
    (stepped_agrees blank β _ _ (begin 4 beginning) (lit< tt, (refl, ones nodes)) start_agrees))))

pub valued_agrees : Agrees blank β valued when_valued
unfolding when_valued
valued_agrees = stepped_agrees blank β _ _ (set_value 4 7 500) (lit< tt) (stepped_agrees blank β _ _ (found 4 7) tt ready_agrees)

pub asking_agrees : Agrees blank β asking when_asked
unfolding when_asked
asking_agrees = stepped_agrees blank β _ _ (request_commit 4) tt valued_agrees

pub last_agrees : Agrees blank β sample at_last
unfolding at_last
last_agrees = exchanged_agrees blank β participants _ _ (exchanged_agrees blank β participants _ _ asking_agrees)

-- ---- what was computed
computed_commits : Commits at_last.ledger at_last.station
unfolding seen
computed_commits = record {
  committed = ap (λ (s : Seen). s.committed) is_seen;
  logged = ap (λ (s : Seen). s.log) is_seen;
  its_participants = ap (λ (s : Seen). s.party) is_seen;
  settled = settled;
  found_nothing = ap (λ (s : Seen). s.given) is_seen;
  last = ap (λ (s : Seen). s.last) is_seen;
  writer = ap (λ (s : Seen). s.writer) is_seen;
  copies = λ n h. let k = node_on mask n (omega arith) h in (
    listed_same (λ i. value (at_last.station.images i) 7) (if_one 500 0) nodes (ap (λ (s : Seen). s.values) is_seen) n k ∙ simp h,
    listed_same (λ i. version (at_last.station.images i) 7) (if_one 1 0) nodes (ap (λ (s : Seen). s.versions) is_seen) n k ∙ simp h,
  );
  authors = λ n h. let k = node_on mask n (omega arith) h in (
    lit< tt,
    listed_same (λ i. author (at_last.station.images i) 7) (if_one 4 nobody) nodes (ap (λ (s : Seen). s.authors) is_seen) n k ∙ simp h,
    listed_same (λ i. author_serial (at_last.station.images i) 7) (if_one 1 0) nodes (ap (λ (s : Seen). s.serials) is_seen) n k ∙ simp h,
  );
  at_rest = listed_same (λ i. (at_last.station.records i).phase) (λ i. 0) nodes (ap (λ (s : Seen). s.phases) is_seen);
}
  where
    L : Ledger
    L = at_last.ledger

    -- where a node is a participant
    if_one : ℕ → ℕ → ℕ → ℕ
    if_one v w i = cond (contains mask i) v w

    -- a participant of the one committed transaction
    of_it : (x : Tx) → x ≡ transaction → (n : ℕ) → contains (L.participants x) n ≡ true → L.dones x n ≡ true
    of_it x e n h =
        let p : contains mask n ≡ true = ap (λ (m : ℕ). contains m n) (sym (ap L.participants e ∙ ap (λ (s : Seen). s.party) is_seen)) ∙ h in
        ap (λ (y : Tx). L.dones y n) e
        ∙ listed_same (L.dones transaction) (contains mask) nodes (ap (λ (s : Seen). s.dones) is_seen) n (node_on mask n (omega arith) p) ∙ p

    settled : Settled L
    settled x i = on (subst (In x) (ap (λ (s : Seen). s.committed) is_seen) i) (of_it x) (λ z. absurd z)

-- ---- THE THEOREM: the run commits; its steps' arguments are of their types, so the claims hold of it; it was shown what it found
pub sample_commits : Commits tells left
sample_commits = subst (λ (b : Both). Commits b.ledger b.station) (sym last_agrees.same) computed_commits

pub sample_claims : Demand3 (account blank) sample
sample_claims = demand_3 blank β sample last_agrees.typed

-- and what it leaves is an origin, which carries the transaction
pub sample_rests : Rested carrying
sample_rests = rests blank β sample last_agrees.typed sample_commits.at_rest

pub sample_carried : carrying.carried.txs ≡ transaction ∷ []
unfolding pick Tx-discrete ℕ_discrete
sample_carried = (λ i. select (λ x. in? x (sample_commits.committed i)) (sample_commits.logged i))

pub sample_shown : Shown left_ready 4 0
sample_shown = subst (λ (b : Both). Shown b.station 4 0) (sym ready_agrees.same) is_shown

-- and the next one is shown what this one gave
reading_agrees : Agrees carrying sample_rests reading (when_read (at_first carrying))
unfolding when_read
reading_agrees =
    delivered_agrees carrying sample_rests _ _ (delivered_agrees carrying sample_rests _ _ (stepped_agrees carrying sample_rests _ _ (send 5 0 7) tt
    (stepped_agrees carrying sample_rests _ _ (open_read 5 7) tt
    (stepped_agrees carrying sample_rests _ _ (begin 5 beginning) (lit< tt, (refl, ones nodes)) (first_agrees carrying sample_rests)))))

pub reading_shown : Shown (reached carrying reading) 5 500
unfolding at_first
reading_shown = subst (λ (b : Both). Shown b.station 5 500) (sym reading_agrees.same)
    (subst (λ (st : Station). Shown (when_read (record { ledger = ledger_of carrying; station = st })).station 5 500)
    (sym (ap (λ (b : Both). b.station) last_agrees.same)) (is_read (ledger_of carrying)))
