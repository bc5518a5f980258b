-- What proofs/Log speaks of.
use Rattle.std.specs.Prelude.{◌≡◌, ◌≢◌}
use mathlib.Core.List.{List, ◌∷◌}
use Rattle.std.proofs.Math.Bool.{true}
use Rattle.protocol.specs.Table.{In, Suffix, AtMostOnce}
use Rattle.protocol.specs.Rules.{Object, root, Rules}
use Rattle.protocol.specs.State.{Tx, aborted, Votes, History, Chain}
use Rattle.protocol.specs.State.{Writes, Touches}
use Rattle.protocol.specs.Replay.{replay}
use Rattle.protocol.specs.Invariant.{wrote, count, effect, Settled}

-- What is kept of the log l.
pub record LogInv {A : Type 0} (R : Rules A) (v : Votes) (h : History A) (c : Chain A) (l : List Tx) : Type 0 where
  -- the log has those to whom the root said yes
  pub l_in : (x : Tx) → v.yes root x ≡ true → In x l
  -- and no others
  pub l_voted : (x : Tx) → In x l → v.yes root x ≡ true
  -- each once, since nobody gets a second yes
  pub l_once : (x : Tx) → AtMostOnce x l
  -- the version found is the number of committed writers before it in the log: no writer before it can commit later
  pub l_found : (x : Tx) (m : List Tx) (o : Object) → Suffix (x ∷ m) l → Touches h.contents x o → h.phase x ≢ aborted
      → (h.contents x).version o ≡ count (wrote h) m o
  -- who stands before one that touches what it writes was settled at the root by then
  pub l_lock : (x : Tx) (m : List Tx) (y : Tx) (o : Object) → Suffix (x ∷ m) l → In y m → Writes h.contents y o → Touches h.contents x o
      → Settled v h root y
  -- the committed writers of an object stand in the log in the chain's order
  pub l_value : (m : List Tx) (o : Object) → Suffix m l → c.entry o (count (wrote h) m o) ≡ replay R.blank (effect h) m o
  -- and they are all there
  pub l_length : (o : Object) → c.length o ≡ count (wrote h) l o
