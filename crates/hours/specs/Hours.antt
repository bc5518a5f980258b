-- Packing hours (document 02, 2.1): a table of weekly windows, in minutes from Monday midnight on, and of closed dates, as numbers of days. "A window's
-- first minute is open and its end minute is closed. The end may be 10,080; it must be above the start."
use Rattle.std.specs.Prelude.{Bool, false, not, ◌&&◌, ◌||◌, List, [], ◌∷◌, ℕ, ◌+◌, ◌*◌, eqb, ltb, leb, length, get_or}
use Rattle.numbers.specs.Numbers.{wrong_length, damaged}
use Rattle.numbers.specs.Refusal.{Refusal, refuse, first_of}
use Rattle.octets.specs.Octets.{get}
use Rattle.wire.specs.Formed.{every}
use Rattle.wire.specs.Decode.{items_from}

-- the most of each, and the last minute of a week
abbrev pub most_windows : ℕ
most_windows = 14

abbrev pub most_dates : ℕ
most_dates = 32

abbrev pub last_minute : ℕ
last_minute = 10079

pub record Window : Type 0 where
  pub start : ℕ
  pub end : ℕ

-- ---- as lent: "a one-byte count of entries, then little-endian numbers [..]; a table's lists follow each other as named"
-- a window's two numbers have 2 bytes each, a date has 4
abbrev pub window_size : ℕ
window_size = 4

abbrev pub date_size : ℕ
date_size = 4

abbrev pub window_at : List ℕ → ℕ → Window
window_at l i = record { start = get 2 l i; end = get 2 l (i + 2) }

abbrev pub date_at : List ℕ → ℕ → ℕ
date_at l i = get 4 l i

-- the two counts, and where the second stands
abbrev pub window_count : List ℕ → ℕ
window_count l = get_or l 0 0

abbrev pub dates_place : List ℕ → ℕ
dates_place l = 1 + window_size * window_count l

abbrev pub date_count : List ℕ → ℕ
date_count l = get_or l (dates_place l) 0

abbrev pub windows : List ℕ → List Window
windows l = items_from window_at window_size (window_count l) l 1

abbrev pub dates : List ℕ → List ℕ
dates l = items_from date_at date_size (date_count l) l (dates_place l + 1)

-- how long the two lists are, from their counts
abbrev pub list_size : List ℕ → ℕ
list_size l = dates_place l + 1 + date_size * date_count l

-- ---- loading
abbrev pub window_ok : Window → Bool
window_ok w = leb w.start last_minute && (leb w.end (last_minute + 1) && ltb w.start w.end)

-- a faulty table: too many of either, or a window that is none
unfoldable pub faulty : List ℕ → Bool
faulty l = ltb most_windows (window_count l) || (ltb most_dates (date_count l) || not (every window_ok (windows l)))

-- 1 another length than the counts say, 2 a faulty table
abbrev pub table_refusals : List ℕ → List Refusal
table_refusals l = refuse wrong_length (not (eqb (length l) (list_size l))) ∷ refuse damaged (faulty l) ∷ []

unfoldable pub table_number : List ℕ → ℕ
table_number l = first_of (table_refusals l)

-- ---- open or closed
-- some item passes a test
unfoldable pub any_of : {A : Type 0} → (A → Bool) → List A → Bool
any_of f [] = false
any_of f (x ∷ xs) = f x || any_of f xs

abbrev pub in_window : ℕ → Window → Bool
in_window minute w = leb w.start minute && ltb minute w.end

-- "when the day is a closed date or no window has the minute"
unfoldable pub closed_by : List ℕ → ℕ → ℕ → Bool
closed_by l day minute = any_of (eqb day) (dates l) || not (any_of (in_window minute) (windows l))
