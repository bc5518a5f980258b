-- What the private steps hand back while an answer is written: the writers' own number, length and buffer. proofs/Delivered.antt shows that they are 0, the
-- answer's length and the answer.
use Rattle.std.specs.Prelude.{◌≡◌, Bool, true, ◌||◌, List, ℕ, ◌≤◌, ◌<◌, eqb, ltb}
use Rattle.numbers.specs.Sizes.{nodes, highest}
use Rattle.wire.specs.declared.Entry.{Entry}
use Rattle.letters.specs.declared.Written.{Written}
use Rattle.wire.specs.Message.{Message}
use Rattle.wire.specs.Formed.{every}
use Rattle.letters.specs.Write.{written_of, buffer_after}
use Rattle.image.specs.Valid.{check}
use Rattle.replica.specs.Steps.{Answer, silent, says}

unfoldable pub written_as : ℕ → Answer → Written
written_as size silent = record { number = 0; length = 0 }
written_as size (says m) = written_of size m

unfoldable pub filled_by : Answer → List ℕ → List ℕ
filled_by silent l = l
filled_by (says m) l = buffer_after m l

-- each version that a commit raises is below the last: what an accepted commit has
abbrev pub raisable : Entry → Bool
raisable e = eqb e.mode 0 || ltb e.version highest

abbrev pub Raisable : Message → Type 0
Raisable m = every raisable m.entries ≡ true

-- what the steps ask, and a delivery that nothing refuses has: a valid image, an owner that is one, and a serial from 1 on
abbrev pub Clear : List ℕ → Message → Type 0
Clear l m = (check l ≡ 0) × (m.owner < nodes) × (1 ≤ m.serial)
