-- "The pool lists up to 128 messages in sending order": a count, then 128 slots of a length and 128 bytes each.
use Rattle.std.specs.Prelude.{cond, not, List, [], ◌∷◌, ◌++◌, ℕ, zero, suc, ◌+◌, ◌*◌, eqb, ltb, leb, length, get_or}
use Rattle.numbers.specs.Numbers.{wrong_length, damaged}
use Rattle.numbers.specs.Sizes.{longest_message, most_waiting}
use Rattle.numbers.specs.Refusal.{refuse, first_of}
use Rattle.parts.specs.Parts.{part}

-- ---- sizes in bytes: the count, a slot, the pool
abbrev pub count_size : ℕ
count_size = 1

abbrev pub slot_size : ℕ
slot_size = 1 + longest_message

abbrev pub pool_size : ℕ
pool_size = count_size + slot_size * most_waiting

-- where slot k starts, and where its message starts
abbrev pub slot_place : ℕ → ℕ
slot_place k = count_size + slot_size * k

abbrev pub message_place : ℕ → ℕ
message_place k = slot_place k + 1

-- ---- what waits
abbrev pub count : List ℕ → ℕ
count l = get_or l 0 0

-- the length of slot k's message; a length above 128 is none, and the message is empty
unfoldable pub length_at : List ℕ → ℕ → ℕ
length_at l k = cond (leb (get_or l (slot_place k) 0) longest_message) (get_or l (slot_place k) 0) 0

unfoldable pub message_at : List ℕ → ℕ → List ℕ
message_at l k = part (length_at l k) (message_place k) l

-- f of the numbers below n, in their order
unfoldable pub listed : {A : Type 0} → ℕ → (ℕ → A) → List A
listed zero f = []
listed (suc n) f = listed n f ++ (f n ∷ [])

-- the messages in sending order
unfoldable pub waiting : List ℕ → List (List ℕ)
waiting l = listed (count l) (message_at l)

-- the number of a pool: 1 another length, 2 an impossible count, 0 neither
unfoldable pub check : List ℕ → ℕ
check l = first_of (refuse wrong_length (not (eqb (length l) pool_size)) ∷ refuse damaged (ltb most_waiting (count l)) ∷ [])
