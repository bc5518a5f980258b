-- What one pass over an ask's entries finds, which the verdict is made of.
use Rattle.std.specs.Prelude.{◌≡◌, Bool, ◌||◌, List, ℕ}
use Rattle.wire.specs.declared.Entry.{Entry}
use Rattle.wire.specs.Message.{Message}
use Rattle.judge.specs.declared.Weighed.{Weighed}
use Rattle.judge.specs.Judge.{other_holds, held_by_another, newer, newer_here, rivals_of}

-- an entry bars a yes: another holds its object, or the copy here is newer
abbrev pub barred : List ℕ → ℕ → Entry → Bool
barred l o e = other_holds l o e || newer l e

pub record Weighs (l : List ℕ) (m : Message) (w : Weighed) : Type 0 where
  pub bars : w.barred ≡ (held_by_another l m || newer_here l m)
  pub rivals : w.rivals ≡ rivals_of l m
