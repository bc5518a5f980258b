-- What proofs/Refine/Origin speaks of.
use Rattle.std.specs.Prelude.{◌≡◌, ◌≢◌, ◌⊎◌, Bool, ℕ, suc, ◌≤◌}
use mathlib.Core.List.{List, [], ◌∷◌}
use Rattle.std.proofs.Math.Bool.{true, false, cond}
use Rattle.std.proofs.Math.Decide.{ℕ_discrete}
use Rattle.protocol.specs.Table.{pick, In, Suffix, AtMostOnce}
use Rattle.protocol.specs.Rules.{Node, Object, unused, Rules}
use Rattle.protocol.specs.State.{Tx, Phase, fresh, committed, aborted, over, Store, Ends, History, Chain, State, Writes, Touches}
use Rattle.protocol.specs.Replay.{replay}
use Rattle.protocol.specs.Invariant.{wrote, count, effect}

-- the values of an object in the order of a list, newest first: entry i is held after i of its writers
unfoldable pub values_of : {A : Type 0} → (Tx → Object → Bool) → (Tx → Object → A) → A → List Tx → Object → ℕ → A
values_of w new z [] o i = z
values_of w new z (x ∷ l) o i =
    cond (w x o) (pick (ℕ_discrete i (suc (count w l o))) (new x o) (values_of w new z l o i)) (values_of w new z l o i)

-- of the committed writers of a history
abbrev pub held_in : {A : Type 0} → Rules A → History A → List Tx → Object → ℕ → A
held_in R h l o i = values_of (wrote h) (λ x. (h.contents x).new) R.blank l o i

abbrev pub chain_of : {A : Type 0} → Rules A → History A → Chain A
chain_of R h = record { length = λ o. count (wrote h) h.decisions o; entry = held_in R h h.decisions }

pub record Brought {A : Type 0} (R : Rules A) (s : Store A) (e : Ends) (h : History A) : Type 0 where
  -- the list: who is in it is committed, once, with participants that count; nobody else is under way or has contents
  pub b_committed : (x : Tx) → In x h.decisions → h.phase x ≡ committed
  pub b_decided : (x : Tx) → h.phase x ≡ committed → In x h.decisions
  pub b_once : (x : Tx) → AtMostOnce x h.decisions
  pub b_good : (x : Tx) → h.phase x ≡ committed → R.Good (h.contents x).participants
  pub b_over : (x : Tx) → h.phase x ≢ fresh → (h.phase x ≡ committed) ⊎ (h.phase x ≡ aborted)
  pub b_unused : (x : Tx) (o : Object) → h.phase x ≢ committed → (h.contents x).mode o ≡ unused
  -- each found what the list before it left
  pub b_version : (x : Tx) (m : List Tx) (o : Object) → Suffix (x ∷ m) h.decisions → Touches h.contents x o
      → (h.contents x).version o ≡ count (wrote h) m o
  pub b_found : (x : Tx) (m : List Tx) (o : Object) → Suffix (x ∷ m) h.decisions → Touches h.contents x o
      → (h.contents x).found o ≡ replay R.blank (effect h) m o
  -- each copy is what the list left after as many writers as its version says
  pub b_copy : (n : Node) (o : Object) → (s.version n o ≤ count (wrote h) h.decisions o)
      × (s.value n o ≡ held_in R h h.decisions o (s.version n o))
  -- at each participant the copies are no older than what was written, the last serial is no lower, and nobody is listed, held or refused anywhere
  pub b_stored : (n : Node) (x : Tx) (o : Object) → h.phase x ≡ committed → (h.contents x).participants n ≡ true → Writes h.contents x o
      → suc ((h.contents x).version o) ≤ s.version n o
  pub b_last : (n : Node) (x : Tx) → h.phase x ≡ committed → (h.contents x).participants n ≡ true → x.serial ≤ e.last n x.owner
  pub b_rest : (n w : Node) → e.state n w ≡ over

-- votes and applications: those of the participants of the committed ones
abbrev pub is_committed : Phase → Bool
is_committed Phase.fresh = false
is_committed Phase.voting = false
is_committed Phase.committed = true
is_committed Phase.aborted = false

abbrev pub cast_by : {A : Type 0} → History A → Node → Tx → Bool
cast_by h n x = cond (is_committed (h.phase x)) ((h.contents x).participants n) false

abbrev pub origin : {A : Type 0} → Rules A → Store A → Ends → History A → State A
origin R s e h = record { store = s; ends = e; votes = record { yes = cast_by h; applied = cast_by h }; history = h; chain = chain_of R h; sent = [] }
