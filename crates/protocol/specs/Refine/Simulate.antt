-- What proofs/Refine/Simulate speaks of.
use Rattle.std.specs.Prelude.{◌≡◌, List, ℕ}
use Rattle.protocol.specs.Rules.{Node, Object, Rules}
use Rattle.protocol.specs.State.{Tx, OwnerState, State}
use Rattle.protocol.specs.Invariant.{Inv}
use Rattle.protocol.specs.Proof.Log.{LogInv}
use Rattle.protocol.specs.Refine.Holders.{HolderTable, Holders}

-- Of the base's rules: a state, the log so far and the images' holders.
pub record Kept {A : Type 0} (R : Rules A) (σ : State A) (l : List Tx) (t : HolderTable) : Type 0 where
  pub inv : Inv R σ
  pub log : LogInv R σ.votes σ.history σ.chain l
  pub holders : Holders t σ.ends σ.history.contents

-- A station's tables are read from bytes, and equal the abstract ones entry by entry.
module _ {A : Type 0} (σ : State A) (version : Node → Object → ℕ) (value : Node → Object → A) (last : Node → Node → ℕ)
    (state : Node → Node → OwnerState) where
  pub record Reads : Type 0 where
    pub r_version : (n : Node) (o : Object) → σ.store.version n o ≡ version n o
    pub r_value : (n : Node) (o : Object) → σ.store.value n o ≡ value n o
    pub r_last : (n w : Node) → σ.ends.last n w ≡ last n w
    pub r_state : (n w : Node) → σ.ends.state n w ≡ state n w
