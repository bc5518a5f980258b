-- What the writers give: the number, the length, and every byte of the buffer. And the message that each writer is given, kind by kind.
use Rattle.std.specs.Prelude.{cond, List, [], ◌∷◌, ◌++◌, ℕ, zero, suc, ◌+◌, eqb, ltb, length, drop}
use Rattle.numbers.specs.Sizes.{longest_message}
use Rattle.numbers.specs.Numbers.{wrong_length, garbled}
use Rattle.wire.specs.declared.Entry.{Entry}
use Rattle.wire.specs.declared.Rival.{Rival}
use Rattle.letters.specs.declared.Written.{Written}
use Rattle.wire.specs.Message.{Message, fetch, copy, ask, vote, outcome, done, yield}
use Rattle.wire.specs.Formed.{well_formed}
use Rattle.wire.specs.Encode.{encode}
use Rattle.wire.specs.Items.{no_entry}

-- 1 for a buffer under 128 bytes, 3 where the message is not well formed, 0 else
abbrev pub write_number : ℕ → Message → ℕ
write_number size m = cond (ltb size longest_message) wrong_length (cond (well_formed m) 0 garbled)

abbrev pub answer : ℕ → ℕ → Written
answer n k = record { number = n; length = k }

-- the number, and the length of what was written, 0 on a refusal
unfoldable pub written_of : ℕ → Message → Written
written_of size m = record { number = write_number size m; length = cond (eqb (write_number size m) 0) (length (encode m)) 0 }

-- the message fills the front of the buffer and the rest is untouched; on a refusal all of it is
unfoldable pub buffer_after : Message → List ℕ → List ℕ
buffer_after m l = cond (eqb (write_number (length l) m) 0) (encode m ++ drop (length (encode m)) l) l

-- rivals are given by owner, from owner o on: a serial of 0 is no rival
abbrev pub one_rival : ℕ → ℕ → List Rival
one_rival o s = cond (eqb s 0) [] (record { owner = o; serial = s } ∷ [])

unfoldable pub rivals_by : ℕ → List ℕ → List Rival
rivals_by o [] = []
rivals_by o (s ∷ ss) = one_rival o s ++ rivals_by (o + 1) ss

-- entries are given as a list and how many of them are meant. More than there are makes a message of that many all the same, with blank ones behind
-- the last, so nine are too many
abbrev pub first_entries : ℕ → List Entry → List Entry
first_entries zero es = []
first_entries (suc n) [] = no_entry ∷ first_entries n []
first_entries (suc n) (e ∷ es) = e ∷ first_entries n es

-- ---- kind by kind: odd kinds come from the owner, even ones go to it
module _ (node owner serial stamp : ℕ) where
  -- from the owner to a node, and from a node to the owner
  abbrev pub sent : ℕ → List Entry → List Rival → List ℕ → Message
  sent kind es rs ws =
      record { kind = kind; from = owner; to = node; owner = owner; serial = serial; stamp = stamp; entries = es; rivals = rs; words = ws }

  abbrev pub answered : ℕ → List Entry → List Rival → List ℕ → Message
  answered kind es rs ws =
      record { kind = kind; from = node; to = owner; owner = owner; serial = serial; stamp = stamp; entries = es; rivals = rs; words = ws }

  abbrev pub fetch_of : ℕ → ℕ → Message
  fetch_of object mode = sent fetch (record { object = object; mode = mode; version = 0; value = 0 } ∷ []) [] []

  abbrev pub copy_of : Entry → Message
  copy_of e = answered copy (e ∷ []) [] []

  -- the first n of the entries given
  abbrev pub ask_of : List Entry → ℕ → Message
  ask_of es n = sent ask (first_entries n es) [] []

  abbrev pub vote_of : List ℕ → ℕ → Message
  vote_of serials word = answered vote [] (rivals_by 0 serials) (word ∷ [])

  abbrev pub outcome_of : List Entry → ℕ → ℕ → Message
  outcome_of es n word = sent outcome (first_entries n es) [] (word ∷ [])

  abbrev pub done_of : Message
  done_of = answered done [] [] []

  -- the node is the rival's owner
  abbrev pub yield_of : ℕ → Message
  yield_of rivalSerial = sent yield [] (record { owner = node; serial = rivalSerial } ∷ []) []
