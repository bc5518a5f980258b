-- A node's settings: 228 bytes, lent beside its record. The first 187 are its packing hours (crate hours), the next 24 its table of classes (crate
-- classes). Then come the kind of the transaction that it began last, the tenths that wait, class by class, and those that its last batch left over.
use Rattle.std.specs.Prelude.{Bool, cond, not, ◌&&◌, ◌||◌, List, [], ◌∷◌, ◌++◌, ℕ, eqb, ltb, leb, length, get_or, replicate}
use Rattle.numbers.specs.Numbers.{wrong_length, damaged}
use Rattle.numbers.specs.Refusal.{refuse, first_of, lower}
use Rattle.parts.specs.Parts.{part, splice, padded}
use Rattle.wire.specs.Formed.{every}
use Rattle.hours.specs.Hours.{table_number}
use Rattle.hours.specs.Kept.{kept_size, stored, kept_number}
use Rattle.classes.specs.Classes.{most_classes, sound}
use Rattle.classes.specs.Classes.{kept_size as classesSize}
use Rattle.coordinator.specs.declared.Coordinator.{Coordinator}
use Rattle.coordinator.specs.State.{idle_phase, finishing_phase, committed}
use Rattle.record.specs.declared.Called.{Called}
use Rattle.record.specs.Call.{called}

abbrev pub settings_size : ℕ
settings_size = 228

-- ---- its parts
-- its hours and its classes, as they are kept
abbrev pub hours_in : List ℕ → List ℕ
hours_in s = part kept_size 0 s

abbrev pub with_hours : List ℕ → List ℕ → List ℕ
with_hours s h = splice kept_size 0 h s

abbrev pub classes_in : List ℕ → List ℕ
classes_in s = part classesSize 187 s

-- the kind: the host's own (0) or a batch (1)
abbrev pub own_kind : ℕ
own_kind = 0

abbrev pub batch_kind : ℕ
batch_kind = 1

abbrev pub kind_in : List ℕ → ℕ
kind_in s = get_or s 211 0

-- whether it is one that adds
abbrev pub adds : List ℕ → Bool
adds s = not (eqb (kind_in s) own_kind)

-- the tenths that waited when it began, and those that it leaves over
abbrev pub waited_in : List ℕ → List ℕ
waited_in s = part most_classes 212 s

abbrev pub left_in : List ℕ → List ℕ
left_in s = part most_classes 220 s

-- nothing is loaded
abbrev pub blank_settings : List ℕ
blank_settings = replicate settings_size 0

-- ---- the tenths that wait: the record says whether the last batch was committed
abbrev pub decided_committed : Coordinator → Bool
decided_committed c = eqb c.outcome committed && (eqb c.phase idle_phase || eqb c.phase finishing_phase)

unfoldable pub tenths : Coordinator → List ℕ → List ℕ
tenths c s = cond (adds s && decided_committed c) (left_in s) (waited_in s)

-- a transaction of a kind begins, which leaves so many tenths over; what waits is settled
unfoldable pub settled_as : ℕ → List ℕ → Coordinator → List ℕ → List ℕ
settled_as kind left c s = splice 17 211 (kind ∷ (tenths c s ++ left)) s

abbrev pub no_tenths : List ℕ
no_tenths = replicate most_classes 0

-- ---- 1 another length, 2 damaged hours or classes, a kind that is none, a tenth above 9
abbrev pub below10 : List ℕ → Bool
below10 l = every (λ (t : ℕ). leb t 9) l

unfoldable pub unsound : List ℕ → Bool
unsound s =
    not (eqb (kept_number (hours_in s)) 0)
    || (not (sound (classes_in s)) || (ltb batch_kind (kind_in s) || not (below10 (waited_in s) && below10 (left_in s))))

unfoldable pub settings_number : List ℕ → ℕ
settings_number s = first_of (refuse wrong_length (not (eqb (length s) settings_size)) ∷ refuse damaged (unsound s) ∷ [])

-- ---- blank settings made: 1 another length
unfoldable pub blank_number : List ℕ → ℕ
blank_number s = cond (eqb (length s) settings_size) 0 wrong_length

unfoldable pub blank_after : List ℕ → List ℕ
blank_after s = cond (eqb (length s) settings_size) blank_settings s

-- ---- a table of hours in place of the one before: 1 another length of settings or table, 2 damaged settings or a faulty table; a refusal keeps the old one
unfoldable pub load_number : List ℕ → List ℕ → ℕ
load_number s list = lower (settings_number s) (table_number list)

abbrev pub loaded : List ℕ → List ℕ → List ℕ
loaded s list = with_hours s (stored list)

unfoldable pub load_after : List ℕ → List ℕ → List ℕ
load_after s list = cond (eqb (load_number s list) 0) (loaded s list) s

-- ---- a table of classes in place of the one before: it "leaves none waiting", and the next transaction is yet to begin
abbrev pub classed : List ℕ → List ℕ → List ℕ
classed s list = splice 41 187 (padded 41 list) s

-- ---- what is told of the kind: 1 and 2 of the settings
unfoldable pub kind_of : List ℕ → Called
kind_of settings = cond (eqb (settings_number settings) 0) (called 0 (kind_in settings)) (called (settings_number settings) 0)
