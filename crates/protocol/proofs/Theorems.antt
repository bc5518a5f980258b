-- The safety theorem: the claims hold in every reachable state. Any rules, any values, any number of nodes, owners and objects.
use Rattle.std.specs.Prelude.{◌≡◌, List}
use Rattle.std.proofs.Common.{sym, ◌∙◌}
use Rattle.protocol.specs.Rules.{Node, Nodes, Object, Common, Rules}
use Rattle.protocol.specs.State.{Tx, State}
use Rattle.protocol.specs.Replay.{last_value}
use Rattle.protocol.specs.Transitions.{Step, Run}
use Rattle.protocol.specs.Claims.{AllApplied, MeetsAll, Newest, Claims}
use Rattle.protocol.specs.Log.{RootInAll, logged, log, fed, BaseClaims}
use Rattle.protocol.specs.Invariant.{Inv}
use Rattle.protocol.proofs.Runs.{step_ok, run_ok}
use Rattle.protocol.proofs.Core.{claims, committed_good}
use Rattle.protocol.specs.Proof.Log.{LogInv}
use Rattle.protocol.proofs.Log.{step_log, run_log, base_claims}

-- The core, in the order of the decisions.
pub safe : {A : Type 0} {R : Rules A} {σ : State A} → Run R σ → Claims R σ
safe {R = R} {σ = σ} r = claims R σ (run_ok r)

-- The base, in the order of the root's first yes.
pub base_safe : {A : Type 0} {R : Rules A} {σ : State A} → RootInAll R → (r : Run R σ) → BaseClaims R σ (log r)
base_safe {R = R} {σ = σ} top r = base_claims R top σ (run_ok r) (log r) (run_log R top r)

-- The base's (c): the newest copies have the last value of replay in that order.
pub base_newest : {A : Type 0} {R : Rules A} {σ : State A} → RootInAll R → (r : Run R σ)
    → AllApplied σ.votes σ.history → (q : Nodes) → MeetsAll σ.history q → (n : Node) (o : Object) → Newest σ.store q n o
    → σ.store.value n o ≡ last_value R σ.history.contents (fed σ (log r)) o
base_newest top r all q meets n o new = (safe r).newest all q meets n o new ∙ sym ((base_safe top r).last o)

-- A set that meets every set which may be participants meets those of every committed transaction.
pub meets_all : {A : Type 0} {R : Rules A} {σ : State A} → Run R σ → (q : Nodes)
    → ((p : Nodes) → R.Good p → (n : Node) × Common q p n) → MeetsAll σ.history q
meets_all {R = R} {σ = σ} r q meets x p = meets (σ.history.contents x).participants (committed_good R σ (run_ok r) x p)

-- The same for a state that did not begin blank: whatever has the invariant has the claims, and has it after one more transition.
pub safe_after : {A : Type 0} {R : Rules A} {σ σ' : State A} → Inv R σ → Step R σ σ' → Inv R σ' × Claims R σ'
safe_after {R = R} {σ' = σ'} iv s = let iv' = step_ok s iv in (iv', claims R σ' iv')

pub base_safe_after : {A : Type 0} {R : Rules A} {σ σ' : State A} → RootInAll R → Inv R σ → (l : List Tx) → LogInv R σ.votes σ.history σ.chain l
    → (s : Step R σ σ') → LogInv R σ'.votes σ'.history σ'.chain (logged s l) × BaseClaims R σ' (logged s l)
base_safe_after {R = R} {σ' = σ'} top iv l g s = let g' = step_log R top s iv l g in (g', base_claims R top σ' (step_ok s iv) (logged s l) g')
