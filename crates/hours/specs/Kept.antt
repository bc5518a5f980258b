-- Packing hours as a node keeps them, in 187 bytes: whether a table was loaded (0 or 1), its lists as they were lent, zeros behind them.
use Rattle.std.specs.Prelude.{Bool, not, cond, ◌&&◌, ◌||◌, List, [], ◌∷◌, ℕ, eqb, ltb, length, get_or, drop}
use Rattle.numbers.specs.Numbers.{wrong_length, damaged}
use Rattle.numbers.specs.Refusal.{refuse, first_of}
use Rattle.parts.specs.Parts.{padded}
use Rattle.hours.specs.Hours.{table_number, faulty, closed_by}

abbrev pub kept_size : ℕ
kept_size = 187

-- the lists, as lent
abbrev pub lists_in : List ℕ → List ℕ
lists_in k = drop 1 k

abbrev pub stored : List ℕ → List ℕ
stored l = 1 ∷ padded 186 l

-- 1 another length, 2 neither loaded nor not, or lists that loading would not accept. What stands behind the lists is not looked at.
unfoldable pub kept_number : List ℕ → ℕ
kept_number k =
    first_of (refuse wrong_length (not (eqb (length k) kept_size)) ∷ refuse damaged (ltb 1 (get_or k 0 0) || faulty (lists_in k)) ∷ [])

-- ---- loading: a table is kept in place of the one before; a refusal keeps that one
unfoldable pub load_number : List ℕ → List ℕ → ℕ
load_number k l = cond (eqb (length k) kept_size) (table_number l) wrong_length

unfoldable pub load_after : List ℕ → List ℕ → List ℕ
load_after k l = cond (eqb (load_number k l) 0) (stored l) k

-- ---- "Before a table is loaded all hours are open."
unfoldable pub closed : List ℕ → ℕ → ℕ → Bool
closed k day minute = not (eqb (get_or k 0 0) 0) && closed_by (lists_in k) day minute
