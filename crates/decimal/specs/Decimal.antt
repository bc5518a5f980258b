-- The canonical decimal text of a number, and a text put into a buffer. Assumes nothing.
use Rattle.std.specs.Prelude.{ℕ, zero, suc, ◌+◌, ◌*◌, ◌-◌, ◌/◌, ◌%◌, Bool, cond, List, [], ◌∷◌, ◌++◌, ltb, leb, length, take, drop}

-- the text of n in at most k digits: `0` to `9` are one byte, 48 to 57; of a larger n the last digit stands behind the text of the tenth part
unfoldable pub digits : ℕ → ℕ → List ℕ
digits zero n = []
digits (suc k) n = cond (ltb n 10) ((48 + n) ∷ []) (digits k (n / 10) ++ ((48 + n % 10) ∷ []))

-- the decimal text of a number of up to twenty digits, which every u64 is: the most significant digit first, no leading zero
unfoldable pub decimal : ℕ → List ℕ
decimal n = digits 20 n

-- the number that a text of digits stands for, read behind the number v
unfoldable pub value_from : ℕ → List ℕ → ℕ
value_from v [] = v
value_from v (b ∷ bs) = value_from (v * 10 + (b - 48)) bs

-- whether a text fits a buffer at a position
unfoldable pub fits : List ℕ → ℕ → List ℕ → Bool
fits buffer at text = leb (at + length text) (length buffer)

-- a buffer with a text at a position: each byte of the text from there on, every other byte as it was; where it does not fit, the buffer as it was
unfoldable pub put_at : List ℕ → ℕ → List ℕ → List ℕ
put_at buffer at text = cond (fits buffer at text) (take at buffer ++ text ++ drop (at + length text) buffer) buffer

-- the position behind the text; where it does not fit, the position as it was
unfoldable pub next_at : List ℕ → ℕ → List ℕ → ℕ
next_at buffer at text = cond (fits buffer at text) (at + length text) at
