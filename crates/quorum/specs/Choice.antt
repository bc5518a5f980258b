-- What a choice among quorums comes to: a quorum with the sum of its distances, or none.
use Rattle.std.specs.Prelude.{ℕ, Option, Some}
use Rattle.quorum.specs.declared.Quorum.{Quorum}

abbrev pub Choice : Type 0
Choice = Option Quorum

-- the set m with sum s
abbrev pub quorum_with : ℕ → ℕ → Choice
quorum_with m s = Some (record { mask = m; sum = s })
