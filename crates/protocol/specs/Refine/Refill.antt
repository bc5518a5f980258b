-- What proofs/Refine/Refill speaks of.
use Rattle.std.specs.Prelude.{ℕ}
use Rattle.std.proofs.Math.Decide.{ℕ_discrete}
use Rattle.protocol.specs.Table.{pick}
use Rattle.protocol.specs.Rules.{Node, Object}
use Rattle.protocol.specs.State.{over, State}
use Rattle.protocol.specs.Transitions.{by_replica}

-- The table f, but row n is v.
unfoldable pub new_row : {X : Type 0} → (ℕ → ℕ → X) → ℕ → (ℕ → X) → ℕ → ℕ → X
new_row f n v i j = pick (ℕ_discrete i n) (v j) (f i j)

-- The copy of o from the node `source o`; each owner over, its last serial `last w`.
abbrev pub refilled : {A : Type 0} → State A → Node → (Object → Node) → (Node → ℕ) → State A
refilled σ n source last = by_replica σ
    (record {
      version = new_row σ.store.version n (λ o. σ.store.version (source o) o);
      value = new_row σ.store.value n (λ o. σ.store.value (source o) o);
    })
    (record { last = new_row σ.ends.last n last; state = new_row σ.ends.state n (λ w. over) })
    σ.votes
