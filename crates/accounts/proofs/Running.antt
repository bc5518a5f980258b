-- Replay's last values in bounded memory, of the service: the sheet is kept over the events of the machine's steps that its steps make, and replay that adds
-- has the last values that the machine's has (Effects).
use mathlib.Core.Path.{◌≡◌, sym, ◌∙◌}
use mathlib.Core.List.{List}
use Prim.Native.Nat.{ℕ, ◌+◌, ◌-◌, ◌<◌, ◌^◌}
use lib.ListN.{length}
use Rattle.numbers.specs.Sizes.{objects}
use Rattle.replay.specs.Sheet.{value_of}
use Rattle.steps.specs.Run.{trace}
use Rattle.history.specs.Origin.{ledger_of}
use Rattle.history.specs.Running.{sheet}
use Rattle.history.proofs.Running.{Starts}
use Rattle.history.proofs.Running.{sheet_is_replay as machine-sheet-is-replay}
use Rattle.service.specs.Service.{Call}
use Rattle.accounts.specs.Accounts.{Origin, Rested, AllTyped, expand, account}
use Rattle.accounts.proofs.Typed.{settings_long, expand_typed}
use Rattle.accounts.proofs.Effects.{last_same}

-- what crate replay's functions leave in any slice that knows what the origin carries, and `value` reads from it, is replay's last value
pub sheet_is_replay : (o : Origin) → Rested o → (k : ℕ) (l : List ℕ) → Starts o.machine k l → (cs : List Call) → AllTyped cs
    → length (expand o cs) + k < 2 ^ 64 - 1 → (t : ℕ) → t < objects
    → value_of (sheet (ledger_of o.machine) l (trace o.machine.station (expand o cs))) t ≡ (account o).last cs t
sheet_is_replay o r k l s cs typed h t u = let a = expand_typed o r cs typed in
    machine-sheet-is-replay o.machine r.machine k l s (expand o cs) a h t u ∙ sym (last_same o r.machine (settings_long o r) cs a t)
