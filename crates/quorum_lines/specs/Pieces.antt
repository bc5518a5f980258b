-- Nothing is lost where two pieces of the input meet: however the input is cut, what is written is the output of the whole input.
-- The idea: a line that is begun is what its bytes so far come to, so a cut only says how far the reading has come. Assumes nothing.
use Rattle.std.specs.Prelude.{ℕ, ◌+◌, ◌-◌, ◌≤◌, ◌<◌, ◌≡◌, refl, Bool, true, false, cond, ◌&&◌, ◌||◌, List, [], ◌∷◌, ◌++◌, eqb, ltb, leb, length, drop}
use Rattle.std.proofs.Common.{arith, sym, ap, ◌∙◌, append_assoc, append-nil, lt-ltb}
use Rattle.std.proofs.Math.Bool.{or-true}
use Rattle.numbers.specs.Sizes.{nodes}
use Rattle.quorum_lines.specs.declared.Line.{Line}
use Rattle.quorum_lines.specs.Line.{fresh, spoil, keep, space, may_follow, more, digit, step_on, step, read_from, ended, reading, begun}
use Rattle.quorum_lines.specs.Reply.{reply, header_text}
use Rattle.quorum_lines.specs.Output.{last_line, lines_from, replies, output, next_line, reply_at, after, replies_in, last_reply}
use Rattle.quorum_lines.specs.Output.{in_pieces, joined, longest_row, piece}
use Rattle.quorum_lines.specs.Laws.{after_append, replies_append, piece_more}

-- a line is begun once a byte of it is read
begun_spoil : (s : Line) → begun (spoil s) ≡ true
unfolding begun spoil
begun_spoil s = refl

begun_keep : (s : Line) → begun (keep s) ≡ true
unfolding begun keep
begun_keep s = ap (λ (t : Bool). s.spoilt || (false || t)) (lt-ltb 0 (s.count + 1) (omega arith)) ∙ or-true s.spoilt

begun_more : (s : Line) (d : ℕ) → begun (more s d) ≡ true
unfolding begun more
begun_more s d = or-true s.spoilt

spoilt_begun : (s : Line) → s.spoilt ≡ true → begun s ≡ true
unfolding begun
spoilt_begun s e = ap (λ (t : Bool). t || (s.digits || ltb 0 s.count)) e

begun_cond : (t : Bool) (x y : Line) → begun x ≡ true → begun y ≡ true → begun (cond t x y) ≡ true
begun_cond true x y p q = p
begun_cond false x y p q = q

begun_step : (s : Line) (b : ℕ) → begun (step s b) ≡ true
unfolding step step_on space digit
begun_step s b = from s.spoilt refl
  where
    on : begun (step_on s b) ≡ true
    on =
        begun_cond (eqb b 32) (space s) _
        (begun_cond (s.digits && leb s.count nodes) (keep s) (spoil s) (begun_keep s) (begun_spoil s))
        (begun_cond (leb 48 b && leb b 57) (digit s (b - 48)) (spoil s)
        (begun_cond (may_follow s (b - 48)) (more s (b - 48)) (spoil s) (begun_more s (b - 48)) (begun_spoil s))
        (begun_spoil s))

    from : (t : Bool) → s.spoilt ≡ t → begun (cond t s (step_on s b)) ≡ true
    from true e = spoilt_begun s e
    from false e = on

begun_read : (s : Line) (l : List ℕ) → begun s ≡ true → begun (read_from s l) ≡ true
unfolding read_from
begun_read s [] e = e
begun_read s (b ∷ l) e = begun_read (step s b) l (begun_step s b)

pub read_append : (s : Line) (a b : List ℕ) → read_from s (a ++ b) ≡ read_from (read_from s a) b
unfolding read_from
read_append s [] b = refl
read_append s (x ∷ a) b = read_append (step s x) a b

-- the end of the input: what is begun is the last line
last_line_lem : (line : List ℕ) → last_reply (read_from fresh line) ≡ replies (last_line line)
unfolding read_from fresh begun last_reply last_line replies reading
last_line_lem [] = refl
last_line_lem (b ∷ l) =
    ap (λ (t : Bool). cond t (reply (ended (read_from fresh (b ∷ l)))) []) (begun_read (step fresh b) l (begun_step fresh b))
    ∙ sym (append-nil (reply (reading (b ∷ l))))

-- behind the bytes of a line that is begun, byte by byte and line by line is the same
by_line : (line bs : List ℕ) → replies_in (read_from fresh line) bs ++ last_reply (after (read_from fresh line) bs) ≡ replies (lines_from line bs)
unfolding read_from replies_in after lines_from replies reply_at next_line reading
by_line line [] = last_line_lem line
by_line line (b ∷ bs) = from (eqb b 10) (by_line [] bs) (by_line (line ++ (b ∷ [])) bs)
  where
    s : Line
    s = read_from fresh line

    from : (t : Bool)
        → replies_in fresh bs ++ last_reply (after fresh bs) ≡ replies (lines_from [] bs)
        → replies_in (read_from fresh (line ++ (b ∷ []))) bs ++ last_reply (after (read_from fresh (line ++ (b ∷ []))) bs)
        ≡ replies (lines_from (line ++ (b ∷ [])) bs)
        → cond t (reply (ended s)) [] ++ replies_in (cond t fresh (step s b)) bs ++ last_reply (after (cond t fresh (step s b)) bs)
        ≡ replies (cond t (line ∷ lines_from [] bs) (lines_from (line ++ (b ∷ [])) bs))
    from true p q = append_assoc (reply (ended s)) (replies_in fresh bs) (last_reply (after fresh bs)) ∙ ap (λ (l : List ℕ). reply (ended s) ++ l) p
    from false p q = ap (λ (m : Line). replies_in m bs ++ last_reply (after m bs)) (sym (read_append fresh line (b ∷ []))) ∙ q

-- the pieces of an input, and the input in one piece
in_one : (s : Line) (ps : List (List ℕ)) → in_pieces s ps ≡ replies_in s (joined ps) ++ last_reply (after s (joined ps))
unfolding in_pieces joined replies_in after
in_one s [] = refl
in_one s (p ∷ ps) =
    ap (λ (l : List ℕ). replies_in s p ++ l) (in_one (after s p) ps)
    ∙ sym (append_assoc (replies_in s p) (replies_in (after s p) (joined ps)) (last_reply (after (after s p) (joined ps))))
    ∙ (λ j. sym (replies_append s p (joined ps)) j ++ last_reply (sym (after_append s p (joined ps)) j))

-- THEOREM. However an input is cut into pieces, the header and then what is written for the pieces, one after another, is the output of the whole input.
pub pieces : (ps : List (List ℕ)) → header_text ++ in_pieces fresh ps ≡ output (joined ps)
unfolding output read_from
pieces ps = ap (λ (l : List ℕ). header_text ++ l) (in_one fresh ps ∙ by_line [] (joined ps))

-- what is taken of an input is its front part, so that the rest of it is the next piece
pub piece_front : (room : ℕ) (s : Line) (bs : List ℕ) → piece room s bs ++ drop (length (piece room s bs)) bs ≡ bs
unfolding piece
piece_front room s [] = refl
piece_front room s (b ∷ bs) = from (ltb room longest_row) (piece_front (room - length (reply_at s b)) (next_line s b) bs)
  where
    rest : List ℕ
    rest = piece (room - length (reply_at s b)) (next_line s b) bs

    from : (t : Bool) → rest ++ drop (length rest) bs ≡ bs → cond t [] (b ∷ rest) ++ drop (length (cond t [] (b ∷ rest))) (b ∷ bs) ≡ b ∷ bs
    from true p = refl
    from false p = ap (λ (l : List ℕ). b ∷ l) p

-- and where there is room for a reply, something is taken
pub piece_some : (room : ℕ) (s : Line) (b : ℕ) (bs : List ℕ) → 40 ≤ room → 0 < length (piece room s (b ∷ bs))
piece_some room s b bs h = rw (piece_more room s b bs h) (omega arith)

-- so to stop for want of room, and to go on with the rest, loses nothing and changes nothing
pub piece_rest : (room : ℕ) (s : Line) (bs : List ℕ)
    → replies_in s (piece room s bs) ++ replies_in (after s (piece room s bs)) (drop (length (piece room s bs)) bs) ≡ replies_in s bs
piece_rest room s bs =
    sym (replies_append s (piece room s bs) (drop (length (piece room s bs)) bs)) ∙ ap (replies_in s) (piece_front room s bs)
