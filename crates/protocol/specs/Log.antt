-- The base's order: "the committed bookings in the order of controller 0's first yes to each", and what is claimed of replay in it.
-- It differs from the order of decisions: "A booking that only read may get its yes earlier and decide later."
use Rattle.std.specs.Prelude.{◌≡◌, ◌≢◌, List, [], ◌∷◌, true}
use Rattle.std.proofs.Math.Decide.{ℕ_discrete}
use Rattle.protocol.specs.Table.{pick, times}
use Rattle.protocol.specs.Rules.{Object, Nodes, root, Rules}
use Rattle.protocol.specs.State.{Tx, Tx-discrete, committed, State, Touches}
use Rattle.protocol.specs.Replay.{last_value, given_to, committed_of}
use Rattle.protocol.specs.Transitions.{Step, ask, commit, abort, list, copy, vote_yes, vote_no, apply, drop, Run, start, next}

-- What the base's rules have besides: the root is in every set of participants (document 000, Lemma 1).
abbrev pub RootInAll : {A : Type 0} → Rules A → Type 0
RootInAll R = (p : Nodes) → R.Good p → p root ≡ true

module _ {A : Type 0} {R : Rules A} where
  -- The log after a transition, newest first: a yes of the root adds the transaction. (It votes once; a repeated answer is no transition.)
  abbrev pub logged : {σ σ' : State A} → Step R σ σ' → List Tx → List Tx
  logged (ask x c g) l = l
  logged (commit x g) l = l
  logged (abort x g) l = l
  logged (list n x g) l = l
  logged (copy n o) l = l
  logged (vote_yes n x g) l = pick (ℕ_discrete n root) (x ∷ l) l
  logged (vote_no n x g) l = l
  logged (apply n x g) l = l
  logged (drop n x g) l = l

  -- The log of a run.
  abbrev pub log : {σ : State A} → Run R σ → List Tx
  log start = []
  log (next r s) = logged s (log r)

-- What the base's replay is fed: the committed transactions of the log, in its order.
abbrev pub fed : {A : Type 0} → State A → List Tx → List Tx
fed σ l = committed_of σ.history l

-- What is claimed of a state with the log l.
pub record BaseClaims {A : Type 0} (R : Rules A) (σ : State A) (l : List Tx) : Type 0 where
  -- (0) each committed transaction stands exactly once in the log, and so in what replay is fed; no other is fed
  pub logged_once : (x : Tx) → σ.history.phase x ≡ committed → times Tx-discrete x l ≡ 1
  pub fed_once : (x : Tx) → σ.history.phase x ≡ committed → times Tx-discrete x (fed σ l) ≡ 1
  pub fed_only : (x : Tx) → σ.history.phase x ≢ committed → times Tx-discrete x (fed σ l) ≡ 0
  -- (a) each committed transaction found what this replay gives it, of all that it touched
  pub serial : (x : Tx) (o : Object) → σ.history.phase x ≡ committed → Touches σ.history.contents x o
      → (σ.history.contents x).found o ≡ given_to R σ.history.contents x (fed σ l) o
  -- this replay ends with the same last values as replay in the order of the decisions, so (c) holds of it too
  pub last : (o : Object) → last_value R σ.history.contents (fed σ l) o ≡ last_value R σ.history.contents σ.history.decisions o
