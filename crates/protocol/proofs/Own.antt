-- The claims of the rules of specs/Own, and the test of a yes.
use Rattle.std.specs.Prelude.{◌≡◌}
use Rattle.protocol.specs.Table.{In, times}
use Rattle.protocol.specs.Rules.{Node, Nodes, Object, Rules}
use Rattle.protocol.specs.State.{Tx, Tx-discrete, committed, Contents, Copy, Ends, State, Writes, Touches, Held}
use Rattle.protocol.specs.Replay.{last_value, given_to}
use Rattle.protocol.specs.Transitions.{HeldAgainst, Run}
use Rattle.protocol.specs.Claims.{Sourced, AllApplied, Newest}
use Rattle.protocol.proofs.Tables.{on}
use Rattle.protocol.proofs.Theorems.{safe, meets_all}
use Rattle.protocol.specs.Own.{OwnQuorums, own_rules}

module _ {A : Type 0} (z : A) (T : OwnQuorums) {σ : State A} (r : Run (own_rules z T) σ) where
  abbrev R : Rules A
  R = own_rules z T

  -- (0)
  pub own_once : (x : Tx) → σ.history.phase x ≡ committed → times Tx-discrete x σ.history.decisions ≡ 1
  own_once = (safe r).once

  -- (a) "For every station, tree or own, the one-by-one order becomes that of the commit decisions"
  pub own_serial : (x : Tx) (o : Object) → σ.history.phase x ≡ committed → Touches σ.history.contents x o
      → (σ.history.contents x).found o ≡ given_to R σ.history.contents x σ.history.decisions o
  own_serial = (safe r).serial

  -- (b)
  pub own_found : (x : Tx) (o : Object) → Touches σ.history.contents x o → Sourced R σ.history o ((σ.history.contents x).found o)
  own_found = (safe r).found

  pub own_sent : (c : Copy A) → In c σ.sent → Sourced R σ.history c.object c.value
  own_sent = (safe r).sent

  -- (c)
  pub own_newest : AllApplied σ.votes σ.history → (q : Nodes) → T.Read q → (n : Node) (o : Object) → Newest σ.store q n o
      → σ.store.value n o ≡ last_value R σ.history.contents σ.history.decisions o
  own_newest all q a = (safe r).newest all q (meets_all r q (λ p. T.meet q p a))

-- "A write is voted no while another holds either way, a read while another holds to write": the whole test of a yes.
pub own_free : {A : Type 0} (z : A) (T : OwnQuorums) (e : Ends) (k : Tx → Contents A) (n : Node) (x : Tx)
    → ((o : Object) (y : Tx) → Held e n y → Touches k y o → Writes k x o → ⊥)
    → ((o : Object) (y : Tx) → Held e n y → Writes k y o → Touches k x o → ⊥) → (o : Object) (y : Tx) → HeldAgainst (own_rules z T) e k n x y o → ⊥
own_free z T e k n x write-free read-free o y h = on h.1 (λ w. read-free o y h.0 w.0 w.1) (λ w. write-free o y h.0 w.0 w.1)
