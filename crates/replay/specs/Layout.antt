-- A sheet: a digest in one slice of 64-bit numbers. First the count of places, then by owner its serial and its place, then by object the place and
-- the value of its last writer, then for each owner a row: a mark for each object that it writes, and the new value of each.
use Rattle.std.specs.Prelude.{List, ℕ, ◌+◌, ◌*◌, get_or}
use Rattle.numbers.specs.Sizes.{nodes, objects}

-- ---- where each table starts
abbrev pub serials : ℕ
serials = 1

abbrev pub places : ℕ
places = serials + nodes

abbrev pub last_places : ℕ
last_places = places + nodes

abbrev pub last_values : ℕ
last_values = last_places + objects

abbrev pub rows : ℕ
rows = last_values + objects

abbrev pub row_size : ℕ
row_size = objects + objects

abbrev pub size : ℕ
size = rows + row_size * nodes

-- ---- where a number stands
abbrev pub count_cell : ℕ
count_cell = 0

abbrev pub serial_cell : ℕ → ℕ
serial_cell o = serials + o

abbrev pub place_cell : ℕ → ℕ
place_cell o = places + o

abbrev pub last_place_cell : ℕ → ℕ
last_place_cell t = last_places + t

abbrev pub last_value_cell : ℕ → ℕ
last_value_cell t = last_values + t

abbrev pub row_cell : ℕ → ℕ
row_cell o = rows + row_size * o

abbrev pub writes_cell : ℕ → ℕ → ℕ
writes_cell o t = row_cell o + t

abbrev pub new_cell : ℕ → ℕ → ℕ
new_cell o t = row_cell o + objects + t

-- what stands in a cell; 0 where there is none
abbrev pub cell : List ℕ → ℕ → ℕ
cell l i = get_or l i 0
