-- Request 2.8: a transaction that is older than every other listed at its participants, whose objects nobody holds there and of which no copy there is
-- newer, is committed after 2 × p deliveries and finished after 4 × p, each ask, vote, outcome and done delivered once. It is said once, of whatever steps
-- an `Account` is of, as demand 3 is. A list is newest first.
use Rattle.std.specs.Prelude.{◌≡◌, ◌≢◌, ◌⊎◌, true, List, [], ◌∷◌, ◌++◌, ℕ, ◌*◌, ◌≤◌, ◌<◌}
use Rattle.numbers.specs.Sizes.{nobody}
use Rattle.mask.specs.Mask.{contains}
use Rattle.age.specs.Age.{older}
use Rattle.wire.specs.Message.{ask, vote, outcome, done}
use Rattle.wire.specs.Decode.{kind_of, to_of}
use Rattle.wire.specs.Items.{word_of}
use Rattle.image.specs.Layout.{version, holder, state, stamp}
use Rattle.image.specs.Valid.{listed}
use Rattle.coordinator.specs.State.{idle_phase, voting_phase, object_at, is_open}
use Rattle.steps.specs.Station.{Station}
use Rattle.steps.specs.Step.{Call, request_commit, abort}
use Rattle.protocol.specs.Table.{In}
use Rattle.protocol.specs.State.{Tx}
use Rattle.history.specs.Ledger.{Ledger, tx_of}
use Rattle.history.specs.Origin.{Origin}
use Rattle.history.specs.Claims.{Account, reached}
use Rattle.progress.specs.Deliveries.{members, handed_by, is_turn, count, Came, Once, Never}

-- Of steps of a kind C, besides what an account tells of them: which are a host's request for votes and its giving up at a node; and the messages that one
-- more step behind a list handed over.
pub record Acts (C : Type 0) : Type 0 where
  pub request : ℕ → C
  pub give_up : ℕ → C
  pub handed : List C → C → List (List ℕ)

-- ---- what is supposed of the station right after votes were asked for node o's transaction
pub record Unopposed (st : Station) (o : ℕ) : Type 0 where
  -- "it is older than every booking listed at its party", itself excepted
  pub oldest : (n w : ℕ) → contains (st.records o).participants n ≡ true → w ≢ o → state (st.images n) w ≡ listed
      → older (st.records o).timestamp o (stamp (st.images n) w) w ≡ true
  -- "nobody holds its tallies there"
  pub free : (n t : ℕ) → contains (st.records o).participants n ≡ true → is_open (st.records o) t ≡ true → holder (st.images n) t ≡ nobody
  -- "no copy there is newer than its own"
  pub current : (n t : ℕ) → contains (st.records o).participants n ≡ true → is_open (st.records o) t ≡ true
      → version (st.images n) t ≤ (object_at (st.records o) t).version
  -- "all, its own controller too, are up"
  pub up : (n : ℕ) → contains (st.records o).participants n ≡ true → contains st.own.on n ≡ true
  pub own_up : contains st.own.on o ≡ true

-- a participant, or its own node
abbrev pub Near : Tx → ℕ → ℕ → Type 0
Near x participants n = (contains participants n ≡ true) ⊎ (n ≡ x.owner)

-- it is its owner's present transaction, and the votes are out
abbrev pub Voting : Station → Tx → Type 0
Voting st x = ((st.records x.owner).serial ≡ x.serial) × ((st.records x.owner).phase ≡ voting_phase)

-- its finishing has ended
abbrev pub Ended : Station → Tx → Type 0
Ended st x =
    (x.serial < (st.records x.owner).serial)
    ⊎ (((st.records x.owner).serial ≡ x.serial) × ((st.records x.owner).phase ≡ idle_phase))

-- ---- what follows for a transaction x with its participants: dl were delivered since its votes were asked for, L is what was told by then, and st is the
-- station that was reached
pub record GetsThrough (x : Tx) (participants : ℕ) (dl : List (List ℕ)) (L : Ledger) (st : Station) : Type 0 where
  -- every vote of it that was delivered is a yes
  pub agreed : (b : List ℕ) → In b dl → tx_of b ≡ x → kind_of b ≡ vote → word_of b ≡ 1
  -- it is committed once each participant's vote was delivered (the ask was before it), whatever outcomes and dones came by then
  pub commits : Came x participants vote dl → In x L.committed
  -- "committed after 2 × p deliveries"
  pub twice : Once x participants ask dl → Once x participants vote dl → Never x outcome dl → Never x done dl
      → count (is_turn x) dl ≡ 2 * members participants
  -- it is finished once each participant's done was delivered (the outcome was before it)
  pub finishes : Came x participants done dl → Ended st x
  -- "and finished after 4 × p"
  pub four_times : Once x participants ask dl → Once x participants vote dl → Once x participants outcome dl → Once x participants done dl
      → count (is_turn x) dl ≡ 4 * members participants

module _ {C : Type 0} (A : Account C) (S : Acts C) where
  -- the messages that the steps es behind a list handed over
  abbrev pub deliveries : List C → List C → List (List ℕ)
  deliveries ds [] = []
  deliveries ds (c ∷ es) = S.handed (es ++ ds) c ++ deliveries ds es

  -- ---- what is supposed of each step from then on; everything else may happen, in any order
  pub record Spares (x : Tx) (participants : ℕ) (ds : List C) (c : C) : Type 0 where
    -- "all are up and stay so"
    pub stays_up : (n : ℕ) → Near x participants n → contains (A.reached (c ∷ ds)).own.on n ≡ true
    -- "its host doesn't give up"
    pub not_given_up : c ≡ S.give_up x.owner → Voting (A.reached ds) x → ⊥
    -- "no message but its own reaches the party or its controller"
    pub its_own : (b : List ℕ) → In b (S.handed ds c) → Near x participants (to_of b) → tx_of b ≡ x

  abbrev pub Undisturbed : Tx → ℕ → List C → List C → Type 0
  Undisturbed x participants ds [] = Unit {0}
  Undisturbed x participants ds (c ∷ es) = Spares x participants (es ++ ds) c × Undisturbed x participants ds es

  -- node o's present transaction, and its participants, after a list
  abbrev pub present_of : List C → ℕ → Tx
  present_of ds o = record { owner = o; serial = ((A.reached ds).records o).serial }

  abbrev pub party_of : List C → ℕ → ℕ
  party_of ds o = ((A.reached ds).records o).participants

  -- THE CLAIM, of a list of steps: wherever a request for votes in it (behind ds) was accepted, the transaction was unopposed then, and the steps since (es)
  -- spare it, it gets through
  abbrev pub OldestThrough : List C → Type 0
  OldestThrough cs = (es ds : List C) (o : ℕ) → es ++ (S.request o ∷ ds) ≡ cs → A.number ds (S.request o) ≡ 0
      → Unopposed (A.reached (S.request o ∷ ds)) o
      → Undisturbed (present_of (S.request o ∷ ds) o) (party_of (S.request o ∷ ds) o) (S.request o ∷ ds) es
      → GetsThrough (present_of (S.request o ∷ ds) o) (party_of (S.request o ∷ ds) o) (deliveries (S.request o ∷ ds) es) (A.told cs) (A.reached cs)

-- ---- the station's own steps
abbrev pub acts : Origin → Acts Call
acts g = record { request = request_commit; give_up = abort; handed = λ ds c. handed_by (reached g ds) c }
