-- Where each field of a record stands, in the order of the struct. Little-endian; thirteen distances of 2 bytes, eight objects of 25, thirteen serials of 4.
use Rattle.std.specs.Prelude.{ℕ, ◌+◌, ◌*◌}
use Rattle.numbers.specs.Sizes.{nodes, most_open}

-- ---- sizes in bytes: a distance, an object, a rival's serial
abbrev pub distance_size : ℕ
distance_size = 2

abbrev pub object_size : ℕ
object_size = 25

abbrev pub rival_size : ℕ
rival_size = 4

-- ---- the fields of a record
abbrev pub serial_place : ℕ
serial_place = 0

abbrev pub timestamp_place : ℕ
timestamp_place = serial_place + 4

abbrev pub outcome_place : ℕ
outcome_place = timestamp_place + 4

abbrev pub phase_place : ℕ
phase_place = outcome_place + 1

abbrev pub live_place : ℕ
live_place = phase_place + 1

abbrev pub distances_place : ℕ
distances_place = live_place + 2

abbrev pub quorum_place : ℕ
quorum_place = distances_place + distance_size * nodes

abbrev pub contacted_place : ℕ
contacted_place = quorum_place + 2

abbrev pub count_place : ℕ
count_place = contacted_place + 2

abbrev pub objects_place : ℕ
objects_place = count_place + 1

abbrev pub participants_place : ℕ
participants_place = objects_place + object_size * most_open

abbrev pub yes_place : ℕ
yes_place = participants_place + 2

abbrev pub done_place : ℕ
done_place = yes_place + 2

abbrev pub rivals_place : ℕ
rivals_place = done_place + 2

abbrev pub record_size : ℕ
record_size = rivals_place + rival_size * nodes

-- ---- the fields of an object that starts at i
abbrev pub mode_at : ℕ → ℕ
mode_at i = i + 1

abbrev pub came_at : ℕ → ℕ
came_at i = i + 2

abbrev pub version_at : ℕ → ℕ
version_at i = i + 4

abbrev pub value_at : ℕ → ℕ
value_at i = i + 8

abbrev pub given_at : ℕ → ℕ
given_at i = i + 16

abbrev pub new_at : ℕ → ℕ
new_at i = i + 17
