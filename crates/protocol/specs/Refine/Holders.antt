-- What proofs/Refine/Holders speaks of.
use Rattle.std.specs.Prelude.{◌≡◌}
use Rattle.std.proofs.Common.{ap}
use Rattle.std.proofs.Math.Option.{Option, none, some}
use Rattle.std.proofs.Math.Decide.{ℕ_discrete}
use Rattle.protocol.specs.Table.{put_row}
use Rattle.protocol.specs.Rules.{Node, Object, Rules}
use Rattle.protocol.specs.State.{Tx, Contents, Ends, State, Writes, writes?, Held}
use Rattle.protocol.specs.Transitions.{Step, ask, commit, abort, list, copy, vote_yes, vote_no, apply, drop}
use Rattle.protocol.specs.Proof.Tables.{clash}

-- "a holder (0 to 12, 255 for none)", by node and object.
abbrev pub HolderTable : Type 0
HolderTable = Node → Object → Option Node

pub record Holders {A : Type 0} (t : HolderTable) (e : Ends) (k : Tx → Contents A) : Type 0 where
  -- whoever is held and writes the object is its holder
  pub held_shown : (n : Node) (x : Tx) (o : Object) → Held e n x → Writes k x o → t n o ≡ some x.owner
  -- a holder is held, and writes the object
  pub shown_held : (n : Node) (o : Object) (w : Node) → t n o ≡ some w → (x : Tx) × (x.owner ≡ w) × Held e n x × Writes k x o

-- Is w the holder?
unfoldable pub holds? : (a : Option Node) (w : Node) → Dec (a ≡ some w)
holds? none w = no (λ e. clash (cc))
holds? (some u) w = go (ℕ_discrete u w)
  where
    go : Dec (u ≡ w) → Dec (some u ≡ some w)
    go (yes p) = yes (ap some p)
    go (no p) = no (λ e. p (cc))

-- The table after a yes: x's owner holds what x writes. After an outcome: it holds nothing.
abbrev pub taken : {A : Type 0} → HolderTable → Contents A → Node → Node → HolderTable
taken t c n w = put_row (writes? c) t n (λ o. some w)

abbrev pub freed : HolderTable → Node → Node → HolderTable
freed t n w = put_row (λ o. holds? (t n o) w) t n (λ o. none)

-- The table after each transition.
abbrev pub shown : {A : Type 0} {R : Rules A} {σ σ' : State A} → Step R σ σ' → HolderTable → HolderTable
shown (ask x c g) t = t
shown (commit x g) t = t
shown (abort x g) t = t
shown (list n x g) t = t
shown (copy n o) t = t
shown {σ = σ} (vote_yes n x g) t = taken t (σ.history.contents x) n x.owner
shown (vote_no n x g) t = t
shown (apply n x g) t = freed t n x.owner
shown (drop n x g) t = freed t n x.owner
