-- The state, in parts, so that a fact names only the parts that it reads.
-- Left out, since they decide only who is voted down: timestamps, rivals, distances, the lists of readers and writers, yields.
-- Left out, since they are read off the rest: the asks, votes and outcomes that were sent (phase, contents and votes, which never go back),
-- and who holds a copy (the owners' states and the contents).
use Rattle.std.specs.Prelude.{◌≡◌, ◌≢◌, List, [], Bool, false, ℕ}
use Rattle.std.proofs.Common.{ap}
use Rattle.std.proofs.Math.Decide.{ℕ_discrete}
use Rattle.protocol.specs.Rules.{Node, Object, Nodes, Mode, unused, write, Mode-discrete, Rules}

-- A transaction: "A booking is named by its owner (controller) and serial".
pub record Tx : Type 0 where
  pub owner : Node
  pub serial : ℕ

-- Two with the same owner and serial are the same, and whether two are the same is decided.
unfoldable pub tx_path : (x y : Tx) → x.owner ≡ y.owner → x.serial ≡ y.serial → x ≡ y
tx_path x y p q = λ i. record { owner = p i; serial = q i }

unfoldable pub Tx-discrete : Discrete Tx
Tx-discrete x y = go (ℕ_discrete x.owner y.owner) (ℕ_discrete x.serial y.serial)
  where
    go : Dec (x.owner ≡ y.owner) → Dec (x.serial ≡ y.serial) → Dec (x ≡ y)
    go (yes p) (yes q) = yes (tx_path x y p q)
    go (yes p) (no q) = no (λ e. q (ap (λ (z : Tx). z.serial) e))
    go (no p) d = no (λ e. p (ap (λ (z : Tx). z.owner) e))

-- Where a transaction is at its coordinator (document 01: booking end): not begun or open; voting; finishing or over after a commit; the same
-- after an abort.
pub data Phase : Type 0 where
  fresh voting committed aborted : Phase
  deriving Discrete as Phase-discrete

-- What a transaction asks votes for, fixed from then on: document 000's readset and writeset, by object.
pub record Contents (A : Type 0) : Type 0 where
  pub mode : Object → Mode
  -- the version and the value found: the highest among the copies of a read quorum (Algorithm 1, lines 5 to 7 and 18 to 20)
  pub version : Object → ℕ
  pub found : Object → A
  -- of what it writes, the new value (Algorithm 1, line 22); its version will be the one found plus 1 (line 23)
  pub new : Object → A
  pub participants : Nodes

-- A copy as it is sent (Algorithm 1, lines 13 and 29): the answer to a fetch.
pub record Copy (A : Type 0) : Type 0 where
  pub object : Object
  pub version : ℕ
  pub value : A

-- The state that a replica (document 01: copy end) has for an owner: "0 over, 1 listed, 2 held, 3 refused".
pub data OwnerState : Type 0 where
  over listed held refused : OwnerState

-- The replicas' copies, by node and object.
pub record Store (A : Type 0) : Type 0 where
  pub version : Node → Object → ℕ
  pub value : Node → Object → A

-- The replicas' owners, by node and owner: "For each owner it has the last serial, its stamp and a state".
pub record Ends : Type 0 where
  pub last : Node → Node → ℕ
  pub state : Node → Node → OwnerState

-- What the replicas did for a transaction, and never take back: voted yes; applied its commit.
pub record Votes : Type 0 where
  pub yes : Node → Tx → Bool
  pub applied : Node → Tx → Bool

-- What the coordinators did, and never take back: phases, contents, and the decisions to commit, newest first.
pub record History (A : Type 0) : Type 0 where
  pub phase : Tx → Phase
  pub contents : Tx → Contents A
  pub decisions : List Tx

-- The chain of an object: its blank value as entry 0, then the new values of its committed writers in the order of the decisions.
-- The number of the last entry is the length. No claim mentions it; it is what versions are compared with.
pub record Chain (A : Type 0) : Type 0 where
  pub length : Object → ℕ
  pub entry : Object → ℕ → A

pub record State (A : Type 0) : Type 0 where
  pub store : Store A
  pub ends : Ends
  pub votes : Votes
  pub history : History A
  pub chain : Chain A
  -- every copy ever sent: one that was lost, is late or comes twice is still among them
  pub sent : List (Copy A)

-- Before votes are asked for.
abbrev pub nothing : {A : Type 0} → A → Contents A
nothing z = record { mode = λ o. unused; version = λ o. 0; found = λ o. z; new = λ o. z; participants = λ n. false }

-- "A station is blank when its 13 images are, no message waits, and every booking end is idle with last serial and stamp 0."
abbrev pub blank_state : {A : Type 0} → Rules A → State A
blank_state R = record {
  store = record { version = λ n o. 0; value = λ n o. R.blank };
  ends = record { last = λ n w. 0; state = λ n w. over };
  votes = record { yes = λ n x. false; applied = λ n x. false };
  history = record { phase = λ x. fresh; contents = λ x. nothing R.blank; decisions = [] };
  chain = record { length = λ o. 0; entry = λ o v. R.blank };
  sent = [];
}

-- The transaction writes the object; touches it, to read or to write; its yes holds it.
abbrev pub Writes : {A : Type 0} → (Tx → Contents A) → Tx → Object → Type 0
Writes k x o = (k x).mode o ≡ write

abbrev pub Touches : {A : Type 0} → (Tx → Contents A) → Tx → Object → Type 0
Touches k x o = (k x).mode o ≢ unused

abbrev pub Keeps : {A : Type 0} → Rules A → (Tx → Contents A) → Tx → Object → Type 0
Keeps R k x o = R.Keeps ((k x).mode o)

unfoldable pub writes? : {A : Type 0} (c : Contents A) (o : Object) → Dec (c.mode o ≡ write)
writes? c o = Mode-discrete (c.mode o) write

-- At the node the transaction is the owner's last, and it is held: "Yes names the rivals and holds the written copies."
abbrev pub Held : Ends → Node → Tx → Type 0
Held e n x = (e.last n x.owner ≡ x.serial) × (e.state n x.owner ≡ held)
