-- The whole output of a whole input, and the same from input that comes in pieces. Assumes nothing.
use Rattle.std.specs.Prelude.{ℕ, ◌-◌, cond, List, [], ◌∷◌, ◌++◌, ltb, eqb, length}
use Rattle.quorum_lines.specs.declared.Line.{Line}
use Rattle.quorum_lines.specs.Line.{fresh, step, ended, reading, begun}
use Rattle.quorum_lines.specs.Reply.{reply, header_text}

-- a last line without its newline is a line if it has a byte
unfoldable pub last_line : List ℕ → List (List ℕ)
last_line [] = []
last_line (b ∷ bs) = (b ∷ bs) ∷ []

-- the lines of an input, of whose first line the bytes `line` are read: each ends with byte 10
unfoldable pub lines_from : List ℕ → List ℕ → List (List ℕ)
lines_from line [] = last_line line
lines_from line (b ∷ bs) = cond (eqb b 10) (line ∷ lines_from [] bs) (lines_from (line ++ (b ∷ [])) bs)

-- the replies to lines, one after another
unfoldable pub replies : List (List ℕ) → List ℕ
replies [] = []
replies (line ∷ rest) = reply (reading line) ++ replies rest

-- the whole output of a whole input: the header, then the reply to each line
unfoldable pub output : List ℕ → List ℕ
output input = header_text ++ replies (lines_from [] input)

-- input byte by byte: the line after a byte, and the reply that a byte calls for
unfoldable pub next_line : Line → ℕ → Line
next_line s b = cond (eqb b 10) fresh (step s b)

unfoldable pub reply_at : Line → ℕ → List ℕ
reply_at s b = cond (eqb b 10) (reply (ended s)) []

-- a piece of the input: the line after it, and the replies to the lines that end in it
unfoldable pub after : Line → List ℕ → Line
after s [] = s
after s (b ∷ bs) = after (next_line s b) bs

unfoldable pub replies_in : Line → List ℕ → List ℕ
replies_in s [] = []
replies_in s (b ∷ bs) = reply_at s b ++ replies_in (next_line s b) bs

-- the end of the input: the reply to a last line without its newline
unfoldable pub last_reply : Line → List ℕ
last_reply s = cond (begun s) (reply (ended s)) []

-- what is written for an input that comes in pieces
unfoldable pub in_pieces : Line → List (List ℕ) → List ℕ
in_pieces s [] = last_reply s
in_pieces s (part ∷ rest) = replies_in s part ++ in_pieces (after s part) rest

-- the pieces as one
unfoldable pub joined : List (List ℕ) → List ℕ
joined [] = []
joined (part ∷ rest) = part ++ joined rest

-- no reply is longer
unfoldable pub longest_row : ℕ
longest_row = 40

-- the front part of an input that is taken where there is room for so many bytes of replies: all of it, or what comes before a reply might not fit
unfoldable pub piece : ℕ → Line → List ℕ → List ℕ
piece room s [] = []
piece room s (b ∷ bs) = cond (ltb room longest_row) [] (b ∷ piece (room - length (reply_at s b)) (next_line s b) bs)

-- the last reply where there is room for it
unfoldable pub last_in : ℕ → Line → List ℕ
last_in room s = cond (ltb room longest_row) [] (last_reply s)
