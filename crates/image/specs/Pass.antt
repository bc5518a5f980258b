-- What the private functions compute in passing. The check: in one pass over the owners the masks of those in states 1 and 2, and from them in one pass over
-- the copies what proofs/Sound.antt shows to be the clauses. A strike: both lists of one object at once.
-- A field that is there: what its place asks.
use Rattle.std.specs.Prelude.{◌≡◌, Bool, cond, not, ◌&&◌, ◌||◌, List, ℕ, ◌+◌, ◌*◌, ◌<◌, ◌≤◌, eqb, ltb}
use Rattle.numbers.specs.Sizes.{nodes, nobody, unknown}
use Rattle.mask.specs.Mask.{contains, only, joined, minus, within}
use Rattle.image.specs.declared.Field.{Field}
use Rattle.image.specs.declared.Walk.{Walk}
use Rattle.image.specs.Field.{Near, changed}
use Rattle.image.specs.Layout.{shape, copy_field, readers_field, writers_field, holder, readers, writers, serial, state, stamp}
use Rattle.image.specs.Valid.{listed, held, each, state_ok, serial_ok}

-- the holder is nobody or in the mask
abbrev pub holder_fits : ℕ → ℕ → Bool
holder_fits inHeld h = eqb h nobody || contains inHeld h

-- object t's holder and lists are within the masks
abbrev pub copy_fits : ℕ → ℕ → List ℕ → ℕ → Bool
copy_fits inListed inHeld l t = holder_fits inHeld (holder l t) && within (joined (readers l t) (writers l t)) inListed

-- an author's owner, and whether its serial is 0
abbrev pub author_fits : ℕ → Bool → Bool
author_fits owner none = cond (ltb owner nodes) (not none) ((eqb owner unknown || eqb owner nobody) && none)

-- the two halves of an author's serial
abbrev pub low_field : Field
low_field = copy_field shape 18 2

abbrev pub high_field : Field
high_field = copy_field shape 20 2

-- what is asked of owner o alone
abbrev pub owner_fits : List ℕ → ℕ → Bool
owner_fits l o = state_ok (state l o) && serial_ok (serial l o) (state l o) (stamp l o)

-- the mask m with owner o, where it is here
abbrev pub marked : ℕ → ℕ → Bool → ℕ
marked m o here = cond here (joined m (only o)) m

-- the mask has the owners in a state, and no other bit
abbrev pub InState : List ℕ → ℕ → ℕ → Type 0
InState l st m = (o : ℕ) → contains m o ≡ (ltb o nodes && eqb (state l o) st)

-- what a walk over the owners finds
pub record Walked (l : List ℕ) (w : Walk) : Type 0 where
  pub each_fits : w.ok ≡ each nodes (owner_fits l)
  pub in_listed : InState l listed w.listed
  pub in_held : InState l held w.held

-- the owners of a mask leave both lists of object t
abbrev pub struck : ℕ → List ℕ → ℕ → List ℕ
struck own l t = changed (writers_field shape) (λ m. minus m own) (changed (readers_field shape) (λ m. minus m own) l t) t

-- item i is there, and n bytes have every item of the field: then its bytes are read and written without a test
abbrev pub Here : Field → ℕ → ℕ → Type 0
Here f n i = Near f × (i < f.items) × (f.offset + f.width ≤ f.stride) × (f.base + f.stride * f.items ≤ n)
