-- How a message's transaction stands at a replica: what the last serial, stamp and state of its owner make of it.
use Rattle.std.specs.Prelude.{Bool, cond, ◌||◌, List, ℕ, eqb, ltb}
use Rattle.wire.specs.Message.{Message}
use Rattle.image.specs.Layout.{serial, state}
use Rattle.image.specs.Valid.{over, listed}
use Rattle.image.specs.Change.{with_owner}

-- beside the four states of an owner: a serial above the last one, when that one is over (document 01's early abort is one of these), and when it is
-- not
abbrev pub fresh : ℕ
fresh = 4

abbrev pub ahead : ℕ
ahead = 5

unfoldable pub above_of : ℕ → ℕ
above_of state = cond (eqb state over) fresh ahead

-- `over` also stands for late: a serial below the last, or the last one when over. The last serial has its owner's state.
unfoldable pub standing : List ℕ → Message → ℕ
standing l m =
    cond (ltb (serial l m.owner) m.serial) (above_of (state l m.owner))
    (cond (eqb (serial l m.owner) m.serial) (state l m.owner) over)

-- listed already, or fresh: a fetch or an ask makes it listed
unfoldable pub active : List ℕ → Message → Bool
active l m = eqb (standing l m) listed || eqb (standing l m) fresh

-- the image once a fetch or an ask has made a fresh one listed, with its serial and stamp
unfoldable pub entered : List ℕ → Message → List ℕ
entered l m = cond (eqb (standing l m) fresh) (with_owner l m.owner m.serial listed m.stamp) l
