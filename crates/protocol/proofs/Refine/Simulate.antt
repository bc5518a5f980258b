-- What a simulation keeps of its abstract state, and that one transition keeps it: invariant, log, holders.
use Rattle.std.specs.Prelude.{List, []}
use Rattle.std.proofs.Math.Option.{none}
use Rattle.protocol.specs.Rules.{Rules}
use Rattle.protocol.specs.State.{Tx, State, blank_state}
use Rattle.protocol.specs.Transitions.{Step}
use Rattle.protocol.specs.Log.{RootInAll, logged}
use Rattle.protocol.proofs.Runs.{blank_ok, step_ok}
use Rattle.protocol.proofs.Log.{blank_log, step_log}
use Rattle.protocol.specs.Refine.Growth.{Grows}
use Rattle.protocol.proofs.Refine.Growth.{step_grows}
use Rattle.protocol.specs.Refine.Holders.{HolderTable, shown}
use Rattle.protocol.proofs.Refine.Holders.{blank_holders, step_holders}
use Rattle.protocol.specs.Refine.Simulate.{Kept}

pub blank_kept : {A : Type 0} (R : Rules A) → Kept R (blank_state R) [] (λ n o. none)
blank_kept R = record { inv = blank_ok R; log = blank_log R; holders = blank_holders R }

pub step_kept : {A : Type 0} {R : Rules A} {σ σ' : State A} → RootInAll R → (l : List Tx) (t : HolderTable) → Kept R σ l t → (s : Step R σ σ')
    → Kept R σ' (logged s l) (shown s t) × Grows σ σ'
step_kept {R = R} top l t k s =
    (record { inv = step_ok s k.inv; log = step_log R top s k.inv l k.log; holders = step_holders s k.inv t k.holders }, step_grows s)
