-- What proofs/Refine/Growth speaks of.
use Rattle.std.specs.Prelude.{◌≡◌, ◌≢◌, ◌⊎◌, true, ℕ, ◌<◌}
use Rattle.protocol.specs.Table.{In}
use Rattle.protocol.specs.Rules.{Node, Object}
use Rattle.protocol.specs.State.{Tx, Phase, fresh, voting, committed, aborted, Copy}
use Rattle.protocol.specs.State.{over, Ends, State}
use Rattle.protocol.specs.Chain.{Entry}
use Rattle.protocol.specs.Proof.AskAbort.{Forward}

-- "A serial below the last, or the last one when over, is late".
abbrev pub Late : Ends → Node → Tx → Type 0
Late e n x = (x.serial < e.last n x.owner) ⊎ ((e.last n x.owner ≡ x.serial) × (e.state n x.owner ≡ over))

pub record Grows {A : Type 0} (σ σ' : State A) : Type 0 where
  pub g_history : Forward σ.history σ'.history
  pub g_yes : (n : Node) (x : Tx) → σ.votes.yes n x ≡ true → σ'.votes.yes n x ≡ true
  pub g_applied : (n : Node) (x : Tx) → σ.votes.applied n x ≡ true → σ'.votes.applied n x ≡ true
  pub g_sent : (c : Copy A) → In c σ.sent → In c σ'.sent
  pub g_late : (n : Node) (x : Tx) → Late σ.ends n x → Late σ'.ends n x
  pub g_entry : (o : Object) (i : ℕ) (a : A) → Entry σ.chain o i a → Entry σ'.chain o i a

-- The phases never go back: where a phase may go.
abbrev pub MayBecome : Phase → Phase → Type 0
MayBecome fresh q = Unit {0}
MayBecome voting q = q ≢ fresh
MayBecome committed q = q ≡ committed
MayBecome aborted q = q ≡ aborted
