-- What the proofs cite of the definitions: each by its cases. Assumes nothing.
use Rattle.std.specs.Prelude.{ℕ, ◌+◌, ◌-◌, ◌≤◌, ◌<◌, ◌≡◌, refl, Bool, true, false, cond, not, ◌&&◌, ◌||◌, ◌⊎◌, List, [], ◌∷◌, ◌++◌, length, eqb, ltb}
use Rattle.std.proofs.Common.{arith, sym, ap, ◌∙◌, inl, inr, ⊎_elim, append_assoc, eqb-true, ltb-true, eq-eqb, ne_eqb, lt-ltb, le-ltb}
use Rattle.numbers.specs.Sizes.{nodes}
use Rattle.quorum_lines.specs.declared.Line.{Line}
use Rattle.quorum_lines.specs.Line.{Bad, fresh, step, keep, may_end, is_good, at_asker, says, ended, begun}
use Rattle.quorum_lines.specs.Reply.{row, reply}
use Rattle.quorum_lines.specs.Output.{next_line, reply_at, after, replies_in, last_reply, longest_row, piece, last_in}

-- a test that holds does not fail
pub true_false : true ≡ false → ⊥
true_false e = let z : ◌≡◌ {A = ℕ} 0 1 = cc in omega arith

-- both parts of a test that holds
pub and_left : (a b : Bool) → (a && b) ≡ true → a ≡ true
and_left true b e = refl
and_left false b e = e

pub and_right : (a b : Bool) → (a && b) ≡ true → b ≡ true
and_right true b e = e
and_right false b e = absurd (true_false (sym e))

-- one part or the other
pub or_either : (a b : Bool) → (a || b) ≡ true → (a ≡ true) ⊎ (b ≡ true)
or_either true b e = inl refl
or_either false b e = inr e

-- a good line ends with the last distance, or with an asker that is a node
pub good_ends : (s : Line) → is_good s ≡ true → (s.count ≡ nodes) ⊎ ((s.count ≡ nodes + 1) × (s.value < nodes))
unfolding may_end is_good
good_ends s e =
    let fifteenth = eqb s.count (nodes + 1) in
    let node = ltb s.value nodes in
    ⊎_elim
    (λ p. inl (eqb-true s.count nodes p))
    (λ p. inr (eqb-true s.count (nodes + 1) (and_left fifteenth node p), ltb-true s.value nodes (and_right fifteenth node p)))
    (or_either (eqb s.count nodes) (fifteenth && node) (and_right s.digits _ (and_right (not s.spoilt) _ e)))

-- a line at its asker: one that ends with the last distance, and one that ends with the asker
pub at_distance : (s : Line) → s.count ≡ nodes → at_asker s ≡ keep s
unfolding at_asker
at_distance s e = ap (λ (t : Bool). cond t (keep s) s) (eq-eqb s.count nodes e)

pub at_asker_lem : (s : Line) → (s.count ≡ nodes → ⊥) → at_asker s ≡ s
unfolding at_asker
at_asker_lem s e = ap (λ (t : Bool). cond t (keep s) s) (ne_eqb s.count nodes e)

-- the asker of a good line is a node
pub good_asker : (s : Line) → is_good s ≡ true → (at_asker s).value < nodes
unfolding keep
good_asker s e =
    ⊎_elim
    (λ p. omega (arith, ap (λ (t : Line). t.value) (at_distance s p)))
    (λ p. omega (arith, ap (λ (t : Line). t.value) (at_asker_lem s (λ z. omega (arith, p.0))), p.1))
    (good_ends s e)

-- the reply to a line that ends
pub reply_good : (s : Line) → is_good s ≡ true → reply (ended s) ≡ row (at_asker s).value (at_asker s).live (at_asker s).distances
unfolding ended says reply
reply_good s e = ap (λ (t : Bool). reply (cond t (says (at_asker s)) Bad)) e

pub reply_bad : (s : Line) → is_good s ≡ false → reply (ended s) ≡ 98 ∷ 97 ∷ 100 ∷ 10 ∷ []
unfolding ended reply
reply_bad s e = ap (λ (t : Bool). reply (cond t (says (at_asker s)) Bad)) e

-- a byte that ends a line, and one that does not
pub reply_newline : (s : Line) (b : ℕ) → b ≡ 10 → reply_at s b ≡ reply (ended s)
unfolding reply_at
reply_newline s b e = ap (λ (t : Bool). cond t (reply (ended s)) []) (eq-eqb b 10 e)

pub next_newline : (s : Line) (b : ℕ) → b ≡ 10 → next_line s b ≡ fresh
unfolding next_line
next_newline s b e = ap (λ (t : Bool). cond t fresh (step s b)) (eq-eqb b 10 e)

pub reply_other : (s : Line) (b : ℕ) → (b ≡ 10 → ⊥) → reply_at s b ≡ []
unfolding reply_at
reply_other s b e = ap (λ (t : Bool). cond t (reply (ended s)) []) (ne_eqb b 10 e)

pub next_other : (s : Line) (b : ℕ) → (b ≡ 10 → ⊥) → next_line s b ≡ step s b
unfolding next_line
next_other s b e = ap (λ (t : Bool). cond t fresh (step s b)) (ne_eqb b 10 e)

-- the last reply, by the room and by whether a line is begun
pub last_over : (room : ℕ) (s : Line) → room < 40 → last_in room s ≡ []
unfolding last_in longest_row
last_over room s h = ap (λ (t : Bool). cond t [] (last_reply s)) (lt-ltb room 40 h)

pub last_fits : (room : ℕ) (s : Line) (t : Bool) → 40 ≤ room → begun s ≡ t → last_in room s ≡ cond t (reply (ended s)) []
unfolding last_in longest_row last_reply
last_fits room s t h e =
    ap (λ (u : Bool). cond u [] (last_reply s)) (le-ltb room 40 h) ∙ ap (λ (u : Bool). cond u (reply (ended s)) []) e

-- two pieces of the input one behind the other
pub after_append : (s : Line) (a b : List ℕ) → after s (a ++ b) ≡ after (after s a) b
unfolding after
after_append s [] b = refl
after_append s (x ∷ a) b = after_append (next_line s x) a b

pub replies_append : (s : Line) (a b : List ℕ) → replies_in s (a ++ b) ≡ replies_in s a ++ replies_in (after s a) b
unfolding after replies_in
replies_append s [] b = refl
replies_append s (x ∷ a) b =
    ap (λ (l : List ℕ). reply_at s x ++ l) (replies_append (next_line s x) a b)
    ∙ sym (append_assoc (reply_at s x) (replies_in (next_line s x) a) (replies_in (after (next_line s x) a) b))

-- the part that is taken: one byte more, while there is room; nothing where there is none, and nothing of nothing
pub piece_more : (room : ℕ) (s : Line) (b : ℕ) (bs : List ℕ) → 40 ≤ room → piece room s (b ∷ bs) ≡ b ∷ piece (room - length (reply_at s b)) (next_line s b) bs
unfolding piece longest_row
piece_more room s b bs h = ap (λ (t : Bool). cond t [] (b ∷ piece (room - length (reply_at s b)) (next_line s b) bs)) (le-ltb room 40 h)

pub piece_full : (room : ℕ) (s : Line) (bs : List ℕ) → room < 40 → piece room s bs ≡ []
unfolding piece longest_row
piece_full room s [] h = refl
piece_full room s (b ∷ bs) h = ap (λ (t : Bool). cond t [] (b ∷ piece (room - length (reply_at s b)) (next_line s b) bs)) (lt-ltb room 40 h)

pub piece_nothing : (room : ℕ) (s : Line) → piece room s [] ≡ []
unfolding piece
piece_nothing room s = refl
