-- A story computed: two transactions write object 5. The root says yes to owner 1's first, twice, then to owner 2's; owner 2's is decided first.
-- The last value is owner 2's, which stands later in the log.
use mathlib.Core.Path.{◌≡◌, refl}
use mathlib.Core.List.{List, [], ◌∷◌}
use Prim.Native.Nat.{ℕ}
use Rattle.octets.specs.Octets.{get}
use Rattle.wire.specs.Formed.{counts_ok, ascend, entries_ok, rivals_ok, well_formed}
use Rattle.wire.specs.Decode.{items_from, decode, accepted, check_of}
use Rattle.replay.specs.Digest.{Digest, blank_digest, next, at, at2, zero_row, begun, opened, valued, first_yes, put, takes, committed}

-- the root's yes to an owner's first transaction
abbrev yes : ℕ → List ℕ
yes o = 4 ∷ 0 ∷ o ∷ o ∷ 1 ∷ 0 ∷ 0 ∷ 0 ∷ 1 ∷ 0 ∷ 0 ∷ 0 ∷ 0 ∷ 0 ∷ 1 ∷ 1 ∷ []

abbrev writing : Digest → ℕ → ℕ → Digest
writing d o v = valued (opened (begun d o) o 5 1) o 5 v

abbrev logged : Digest
logged = put (put (put (writing (writing blank_digest 1 10) 2 20) (yes 1)) (yes 1)) (yes 2)

pub earlier_logged_does_not_overwrite : (committed (committed logged 2) 1).last_value 5 ≡ 20
unfolding next at at2 zero_row first_yes takes check_of accepted counts_ok ascend entries_ok rivals_ok well_formed items_from decode get
earlier_logged_does_not_overwrite = refl

pub in_the_order_of_the_log : (committed (committed logged 1) 2).last_value 5 ≡ 20
unfolding next at at2 zero_row first_yes takes check_of accepted counts_ok ascend entries_ok rivals_ok well_formed items_from decode get
in_the_order_of_the_log = refl

-- before both are decided, the one that is counts
pub the_one_decided : (committed logged 1).last_value 5 ≡ 10
unfolding next at at2 zero_row first_yes takes check_of accepted counts_ok ascend entries_ok rivals_ok well_formed items_from decode get
the_one_decided = refl
