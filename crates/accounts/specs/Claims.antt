-- What is claimed of transactions that add, besides demand 3 (document 02, 2.2: a batch "adds whole grams to each class's tally").
use Rattle.std.specs.Prelude.{◌≡◌, List, ℕ, ◌+ℤ◌}
use Rattle.octets.specs.Signed.{signed_of}
use Rattle.protocol.specs.Table.{In}
use Rattle.protocol.specs.Rules.{write}
use Rattle.protocol.specs.State.{Tx}
use Rattle.service.specs.Service.{Call}
use Rattle.accounts.specs.Accounts.{Origin, adds, told, effects, account}

-- in the one-by-one running the new value of each object that a committed one writes is the value given with its amount added: no sum wraps
abbrev pub AddsExactly : Origin → List Call → Type 0
AddsExactly o cs = (x : Tx) (t : ℕ) (g : ℕ → ℕ) → In x (told o cs).committed → (told o cs).mode x t ≡ write → effects o cs x ≡ adds g
    → signed_of ((account o).gave cs x t) ≡ signed_of ((account o).given cs x t) +ℤ signed_of (g t)
