-- What the bytes of a line say: a word of small letters and then numbers in base ten, with spaces between. A `#` ends what is said: the rest is
-- a comment. A number may begin with `-`.
use Rattle.std.specs.Prelude.{ℕ, ◌+◌, ◌*◌, ◌-◌, cond, ltb, eqb, set, replicate}
use Rattle.script.specs.declared.Said.{Said}

-- ---- in which part of a line the next byte is
abbrev pub before_word : ℕ
before_word = 0

abbrev pub in_word : ℕ
in_word = 1

abbrev pub between : ℕ
between = 2

-- in the digits of a number; behind its `-`; in the digits behind that
abbrev pub in_number : ℕ
in_number = 3

abbrev pub behind_minus : ℕ
behind_minus = 4

abbrev pub in_negative : ℕ
in_negative = 5

abbrev pub in_comment : ℕ
in_comment = 6

-- bad, whatever comes
abbrev pub spoilt : ℕ
spoilt = 7

-- the most numbers of a line
abbrev pub most_numbers : ℕ
most_numbers = 16

-- ---- a line of which nothing is read
unfoldable pub fresh : Said
fresh = record { part = before_word; word = 0; count = 0; value = 0; numbers = replicate most_numbers 0 }

-- the same in another part
unfoldable pub in_part : Said → ℕ → Said
in_part s p = record { part = p; word = s.word; count = s.count; value = s.value; numbers = s.numbers }

abbrev pub bad : Said → Said
bad s = in_part s spoilt

-- ---- a letter: words come first, and have at most eight letters
unfoldable pub with_letter : Said → ℕ → Said
with_letter s b =
    record { part = in_word; word = s.word * 256 + b; count = s.count; value = s.value; numbers = s.numbers }

unfoldable pub letter : Said → ℕ → Said
letter s b = cond (ltb in_word s.part) (bad s) (cond (ltb 72057594037927935 s.word) (bad s) (with_letter s b))

-- ---- a digit: a number is one of 64 bits with a sign
unfoldable pub most : ℕ → ℕ
most part = cond (ltb part behind_minus) 9223372036854775807 9223372036854775808

unfoldable pub digits_part : ℕ → ℕ
digits_part part = cond (ltb part behind_minus) in_number in_negative

unfoldable pub with_digit : Said → ℕ → Said
with_digit s v =
    record { part = digits_part s.part; word = s.word; count = s.count; value = v; numbers = s.numbers }

unfoldable pub digit : Said → ℕ → Said
digit s d =
    cond (ltb s.part between) (bad s)
    (cond (ltb 922337203685477580 s.value) (bad s) (cond (ltb (most s.part) (s.value * 10 + d)) (bad s) (with_digit s (s.value * 10 + d))))

-- ---- a number is complete: its 64 bits, by twos complement where it is negative
unfoldable pub negated : ℕ → ℕ
negated v = cond (eqb v 0) 0 (18446744073709551615 - v + 1)

unfoldable pub bits : ℕ → ℕ → ℕ
bits part v = cond (eqb part in_negative) (negated v) v

-- a line with more numbers than the most is bad
unfoldable pub with_number : Said → ℕ → Said
with_number s v = record { part = between; word = s.word; count = s.count + 1; value = 0; numbers = set s.numbers s.count v }

unfoldable pub complete : Said → Said
complete s = cond (ltb s.count most_numbers) (with_number s (bits s.part s.value)) (bad s)

-- ---- a space ends what stands before it
unfoldable pub space : Said → Said
space s =
    cond (eqb s.part in_word) (in_part s between)
    (cond (eqb s.part in_number) (complete s)
    (cond (eqb s.part in_negative) (complete s)
    (cond (eqb s.part behind_minus) (bad s) s)))

-- ---- a `#` does too, and the rest is a comment
unfoldable pub silenced : Said → Said
silenced s = cond (eqb s.part spoilt) s (in_part s in_comment)

-- ---- a `-` begins a number
unfoldable pub minus : Said → Said
minus s = cond (eqb s.part between) (in_part s behind_minus) (bad s)

-- ---- a byte of a line: 32 is the space, 35 `#`, 45 `-`, 48 to 57 are the digits, 97 to 122 the letters
unfoldable pub sign : Said → ℕ → Said
sign s b = cond (eqb b 32) (space s) (cond (eqb b 35) (silenced (space s)) (cond (eqb b 45) (minus s) (bad s)))

unfoldable pub letter_or_none : Said → ℕ → Said
letter_or_none s b = cond (ltb b 97) (bad s) (cond (ltb 122 b) (bad s) (letter s b))

unfoldable pub step : Said → ℕ → Said
step s b =
    cond (ltb in_negative s.part) s
    (cond (ltb b 48) (sign s b) (cond (ltb 57 b) (letter_or_none s b) (digit s (b - 48))))
