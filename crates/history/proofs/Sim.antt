-- What is kept between a station and an abstract state: the images read as its copies and owners, and what records and waiting messages say is true
-- there. Timestamps, rivals, distances, lists and yields do not occur: they decide only who is voted down.
use mathlib.Core.Path.{◌≡◌, sym, ◌∙◌, ap}
use mathlib.Core.Logic.{◌≢◌, ◌⊎◌, inl, inr}
use mathlib.Core.Bool.{true, cond}
use mathlib.Core.List.{List}
use mathlib.Core.Option.{Option, none, some}
use Prim.Native.Nat.{ℕ, zero, suc, ◌<◌}
use native.Mathlib.Omega.{arith}
use lib.Dec.{eqb, ltb}
use lib.ListN.{get_or}
use Rattle.numbers.specs.Sizes.{nobody, unknown, objects}
use Rattle.mask.specs.Mask.{contains}
use Rattle.wire.specs.declared.Entry.{Entry}
use Rattle.wire.specs.Message.{copy, ask, vote, outcome}
use Rattle.wire.specs.Decode.{kind_of, from_of, to_of, decode, check_of}
use Rattle.wire.specs.Items.{entry_of, word_of}
use Rattle.image.specs.Layout.{value, version, holder, author, author_serial, serial, state}
use Rattle.coordinator.specs.declared.Object.{Object}
use Rattle.coordinator.specs.declared.Coordinator.{Coordinator}
use Rattle.coordinator.specs.System.{System}
use Rattle.coordinator.specs.State.{open_phase, voting_phase, finishing_phase, no_object, object_at, is_open}
use Rattle.arrivals.specs.Receive.{for_replica}
use Rattle.steps.specs.Station.{Station}
use Rattle.protocol.specs.Table.{In}
use Rattle.protocol.specs.Rules.{Mode, unused, read, write}
use Rattle.protocol.specs.State.{Tx, fresh, voting, committed, aborted, Contents, Copy, OwnerState, over, listed, held, refused}
use Rattle.protocol.specs.State.{Ends, Votes, History, State}
use Rattle.protocol.proofs.Tables.{on}
use Rattle.protocol.specs.Refine.Growth.{Late}
use Rattle.protocol.specs.Refine.Holders.{HolderTable}
use Rattle.protocol.specs.Refine.Authors.{Author, unwritten, lost, by, AuthorTable, Authored}
use Rattle.protocol.specs.Refine.Simulate.{Kept, Reads}
use Rattle.history.specs.Ledger.{tx_of}
use Rattle.history.specs.Sane.{Sane}
use Rattle.history.proofs.Quorums.{rules}

-- ---- an image read as a row of the abstract tables
abbrev pub state_of : ℕ → OwnerState
state_of zero = over
state_of (suc zero) = listed
state_of (suc (suc zero)) = held
state_of (suc (suc (suc n))) = refused

abbrev pub holder_of : List ℕ → ℕ → Option ℕ
holder_of l t = cond (ltb t objects) (cond (eqb (holder l t) nobody) none (some (holder l t))) none

abbrev pub holders : Station → HolderTable
holders st n t = holder_of (st.images n) t

abbrev pub tx : ℕ → ℕ → Tx
tx n s = record { owner = n; serial = s }

-- an author of a copy, as its owner and serial are read
abbrev pub signer : ℕ → ℕ → Author
signer a s = cond (eqb a nobody) unwritten (cond (eqb a unknown) lost (by (tx a s)))

abbrev pub author_of : List ℕ → ℕ → Author
author_of l t = cond (ltb t objects) (signer (author l t) (author_serial l t)) unwritten

abbrev pub authors : Station → AuthorTable
authors st n t = author_of (st.images n) t

abbrev pub Read : Station → State ℕ → Type 0
Read st σ =
    Reads σ (λ n t. version (st.images n) t) (λ n t. value (st.images n) t) (λ n w. serial (st.images n) w) (λ n w. state_of (state (st.images n) w))

-- ---- a record
pub other_tx : (n i s r : ℕ) → (i ≡ n → ⊥) → tx i s ≡ tx n r → ⊥
other_tx n i s r e f = e (ap (λ (x : Tx). x.owner) f)

pub later_tx : (n s r : ℕ) → r < s → tx n s ≡ tx n r → ⊥
later_tx n s r h f = let e = ap (λ (x : Tx). x.serial) f in omega (arith, e)

abbrev pub mode_of : ℕ → Mode
mode_of m = cond (eqb m 0) read write

-- what a record asks votes for
abbrev pub contents_of : Coordinator → Contents ℕ
contents_of c = record {
  mode = λ t. cond (is_open c t) (mode_of (object_at c t).mode) unused;
  version = λ t. (object_at c t).version;
  found = λ t. (object_at c t).value;
  new = λ t. (object_at c t).new;
  participants = contains c.participants;
}

-- what stands at a place of a record was found: blank, or a copy that was sent
abbrev pub copy_in : Object → Copy ℕ
copy_in x = record { object = x.object; version = x.version; value = x.value }

abbrev pub WasSent : List (Copy ℕ) → Object → Type 0
WasSent sent x = ((x.version ≡ 0) × (x.value ≡ 0)) ⊎ In (copy_in x) sent

pub record Owner (h : History ℕ) (v : Votes) (sent : List (Copy ℕ)) (n : ℕ) (c : Coordinator) : Type 0 where
  -- the next transactions are fresh, and so is the present one until votes are asked for; then it is what the record says
  pub later : (s : ℕ) → c.serial < s → h.phase (tx n s) ≡ fresh
  pub while_open : c.phase ≡ open_phase → h.phase (tx n c.serial) ≡ fresh
  pub while_voting : c.phase ≡ voting_phase → h.phase (tx n c.serial) ≡ voting
  pub when_committed : c.phase ≡ finishing_phase → c.outcome ≡ 1 → h.phase (tx n c.serial) ≡ committed
  pub when_aborted : c.phase ≡ finishing_phase → c.outcome ≡ 2 → h.phase (tx n c.serial) ≡ aborted
  -- what was asked votes for is what the record has
  pub asked : (c.participants ≡ 0 → ⊥) → h.contents (tx n c.serial) ≡ contents_of c
  -- a yes that the record has was given
  pub agreed : (m : ℕ) → contains c.yes m ≡ true → v.yes m (tx n c.serial) ≡ true
  pub found : (i : ℕ) → WasSent sent (get_or c.objects i no_object)

-- ---- a waiting message
-- the entries of an ask or a commit are the contents: each object touched is listed, and each entry is as the contents have it
pub record Match (k : Contents ℕ) (es : List Entry) : Type 0 where
  pub lists : (t : ℕ) → k.mode t ≢ unused → (e : Entry) × In e es × (e.object ≡ t)
  pub mode_as : (e : Entry) → In e es → k.mode e.object ≡ mode_of e.mode
  pub version_as : (e : Entry) → In e es → k.version e.object ≡ e.version
  pub new_as : (e : Entry) → In e es → k.mode e.object ≡ write → k.new e.object ≡ e.value

abbrev pub copy_of_entry : Entry → Copy ℕ
copy_of_entry e = record { object = e.object; version = e.version; value = e.value }

pub record Tells (h : History ℕ) (v : Votes) (sent : List (Copy ℕ)) (b : List ℕ) : Type 0 where
  pub well : check_of b ≡ 0
  pub a_copy : kind_of b ≡ copy → In (copy_of_entry (entry_of b 0)) sent
  pub an_ask : kind_of b ≡ ask → (h.phase (tx_of b) ≢ fresh) × Match (h.contents (tx_of b)) (decode b).entries
  pub a_yes : kind_of b ≡ vote → word_of b ≡ 1 → v.yes (from_of b) (tx_of b) ≡ true
  pub a_commit_lem : kind_of b ≡ outcome → word_of b ≡ 1 → (h.phase (tx_of b) ≡ committed) × Match (h.contents (tx_of b)) (decode b).entries
  pub an_abort : kind_of b ≡ outcome → word_of b ≡ 0 → h.phase (tx_of b) ≡ aborted

-- or it is of a transaction that was over before the first step: decided, and late at the replica that it is for
pub record Gone (h : History ℕ) (e : Ends) (b : List ℕ) : Type 0 where
  pub well : check_of b ≡ 0
  pub decided : (h.phase (tx_of b) ≡ committed) ⊎ (h.phase (tx_of b) ≡ aborted)
  pub late : for_replica (kind_of b) ≡ true → Late e (to_of b) (tx_of b)

abbrev pub Waits : State ℕ → List ℕ → Type 0
Waits σ b = Tells σ.history σ.votes σ.sent b ⊎ Gone σ.history σ.ends b

pub waits_well : (σ : State ℕ) (b : List ℕ) → Waits σ b → check_of b ≡ 0
waits_well σ b (inl t) = t.well
waits_well σ b (inr g) = g.well

-- of a transaction that is not decided, it tells the truth
pub waits_tells : (σ : State ℕ) (b : List ℕ) (x : Tx) → tx_of b ≡ x → (σ.history.phase x ≢ committed) → (σ.history.phase x ≢ aborted) → Waits σ b
    → Tells σ.history σ.votes σ.sent b
waits_tells σ b x e p q (inl t) = t
waits_tells σ b x e p q (inr g) = on g.decided (λ d. absurd (p (ap σ.history.phase (sym e) ∙ d))) (λ d. absurd (q (ap σ.history.phase (sym e) ∙ d)))

-- ---- all of it, with the log
pub record Sim {s : System} (sane : Sane s) (st : Station) (σ : State ℕ) (l : List Tx) : Type 0 where
  pub kept : Kept (rules sane) σ l (holders st)
  pub authored : Authored (authors st) σ.store σ.history
  pub reads : Read st σ
  pub owners : (n : ℕ) → Owner σ.history σ.votes σ.sent n (st.records n)
  pub waits : (b : List ℕ) → In b st.pool → Waits σ b
