-- Whether the station that buffers are is at rest, and whether it is settled: no participant of a committed transaction holds it still.
use Rattle.std.specs.Prelude.{Bool, not, ◌&&◌, ◌||◌, List, ℕ, eqb, length}
use Rattle.numbers.specs.Sizes.{nodes}
use Rattle.mask.specs.Mask.{contains}
use Rattle.image.specs.Layout.{state, serial}
use Rattle.image.specs.Valid.{held, each}
use Rattle.coordinator.specs.declared.Coordinator.{Coordinator}
use Rattle.coordinator.specs.State.{idle_phase, finishing_phase, committed}
use Rattle.record.specs.Record.{record_of}
use Rattle.buffers.specs.Buffers.{images_size, records_size, image_at, record_at}

-- ---- at rest: every coordinator is idle
unfoldable pub idle_at : List ℕ → ℕ → Bool
idle_at records n = eqb (record_of (record_at records n)).phase idle_phase

unfoldable pub all_idle : List ℕ → Bool
all_idle records = each nodes (idle_at records)

unfoldable pub at_rest : List ℕ → Bool
at_rest records = eqb (length records) records_size && all_idle records

-- ---- settled
-- an image holds the transaction of an owner with a serial; node n's does
unfoldable pub holds : List ℕ → ℕ → ℕ → Bool
holds image o s = eqb (state image o) held && eqb (serial image o) s

unfoldable pub holds_at : List ℕ → ℕ → ℕ → ℕ → Bool
holds_at images n o s = holds (image_at images n) o s

-- none of the participants does
abbrev pub released_at : List ℕ → ℕ → ℕ → ℕ → ℕ → Bool
released_at images participants o s n = not (contains participants n && holds_at images n o s)

unfoldable pub released : List ℕ → ℕ → ℕ → ℕ → Bool
released images participants o s = each nodes (released_at images participants o s)

-- a coordinator's transaction is committed, and not finished
unfoldable pub decided : Coordinator → Bool
decided c = eqb c.phase finishing_phase && eqb c.outcome committed

-- an owner has no committed transaction that a participant holds; no owner has
unfoldable pub settled_with : List ℕ → Coordinator → ℕ → Bool
settled_with images c o = not (decided c) || released images c.participants o c.serial

unfoldable pub settled_at : List ℕ → List ℕ → ℕ → Bool
settled_at images records o = settled_with images (record_of (record_at records o)) o

unfoldable pub all_settled : List ℕ → List ℕ → Bool
all_settled images records = each nodes (settled_at images records)

unfoldable pub settled : List ℕ → List ℕ → Bool
settled images records = (eqb (length images) images_size && eqb (length records) records_size) && all_settled images records
