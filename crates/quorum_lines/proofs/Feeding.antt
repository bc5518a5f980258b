-- The loop of `feed`, as lemmas: how it begins, one turn, and how it stops. What is taken so far and what is to be taken are the whole piece.
use Prim.Native.Nat.{ℕ, suc, ◌+◌, ◌-◌, ◌≤◌, ◌<◌}
use native.Mathlib.Nat.{sub-zero}
use native.Mathlib.Numerals.{add-one}
use native.Mathlib.Omega.{arith}
use mathlib.Core.Path.{◌≡◌, refl, sym, ap, ◌∙◌}
use mathlib.Core.List.{List, [], ◌∷◌, ◌++◌, append-nil}
use lib.ListN.{length, take, drop, get_or, length-append}
use lib.Seq.{take-suc, drop-cons, append_snoc, length-take-le}
use Rattle.decimal.specs.Decimal.{put_at}
use Rattle.decimal.specs.Laws.{Behind, put_nothing, put_next, length_put}
use Rattle.quorum_lines.specs.declared.Line.{Line}
use Rattle.quorum_lines.specs.Output.{next_line, reply_at, after, replies_in, piece}
use Rattle.quorum_lines.specs.Laws.{after_append, replies_append, piece_more}

-- after i bytes of the input: the line, the replies in the buffer, and what is still to be taken
pub record Going (input buffer : List ℕ) (s : Line) (out : List ℕ) (l : Line) (i at : ℕ) : Type 0 where
  pub within : i ≤ length input
  pub room : at ≤ length buffer
  pub line : l ≡ after s (take i input)
  pub put : Behind buffer 0 (replies_in s (take i input)) out at
  pub rest : take i input ++ piece (length buffer - at) l (drop i input) ≡ piece (length buffer) s input

pub begin : (input buffer : List ℕ) (s : Line) → Going input buffer s buffer s 0 0
unfolding after replies_in
begin input buffer s =
    record {
      within = omega arith;
      room = omega arith;
      line = refl;
      put = (refl, sym (put_nothing buffer 0 (omega arith)));
      rest = ap (λ (k : ℕ). piece k s input) (sub-zero (length buffer));
    }

module _ {input buffer out : List ℕ} {s l : Line} {i at : ℕ} (g : Going input buffer s out l i at) where
  pub turn : {out' : List ℕ} {l' : Line} {at' : ℕ}
      → i < length input
      → 40 ≤ length buffer - at
      → l' ≡ next_line l (get_or input i 0)
      → Behind out at (reply_at l (get_or input i 0)) out' at'
      → length (reply_at l (get_or input i 0)) ≤ 40
      → Going input buffer s out' l' (i + 1) at'
  unfolding after replies_in
  turn {out'} {l'} {at'} h k p q w =
      let b = get_or input i 0 in
      let t = take i input in
      let r = replies_in s t in
      let e : take (i + 1) input ≡ t ++ (b ∷ []) = ap (λ (n : ℕ). take n input) (add-one i) ∙ take-suc input i 0 h in
      let a : after s (t ++ (b ∷ [])) ≡ next_line l b = after_append s t (b ∷ []) ∙ ap (λ (m : Line). next_line m b) (sym g.line) in
      let f : replies_in s (t ++ (b ∷ [])) ≡ r ++ reply_at l b =
      replies_append s t (b ∷ [])
      ∙ ap (λ (m : Line). r ++ (reply_at m b ++ [])) (sym g.line)
      ∙ ap (λ (m : List ℕ). r ++ m) (append-nil (reply_at l b)) in
      let z : length (r ++ reply_at l b) ≡ length r + length (reply_at l b) = length-append r (reply_at l b) in
      let u : Behind buffer 0 (r ++ reply_at l b) out' at' =
      put_next buffer 0 r (reply_at l b) (omega (arith, g.put.0)) g.put q in
      let d : length buffer - at' ≡ length buffer - at - length (reply_at l b) = omega (arith, q.0) in
      record {
        within = omega arith;
        room = omega (arith, q.0);
        line = p ∙ sym a ∙ ap (after s) (sym e);
        put = (u.0 ∙ ap (λ (m : List ℕ). 0 + length m) (sym f ∙ ap (replies_in s) (sym e)), u.1 ∙ ap (put_at buffer 0) (sym f ∙ ap (replies_in s) (sym e)));
        rest =
            (λ j. e j ++ piece (d j) (p j) (drop (add-one i j) input))
            ∙ append_snoc t b (piece (length buffer - at - length (reply_at l b)) (next_line l b) (drop (suc i) input))
            ∙ ap (λ (m : List ℕ). t ++ m)
            (sym (piece_more (length buffer - at) l b (drop (suc i) input) k) ∙ ap (piece (length buffer - at) l) (sym (drop-cons input i 0 h)))
            ∙ g.rest;
      }

  pub kept_length : length out ≡ length buffer
  kept_length = ap length g.put.1 ∙ length_put buffer 0 (replies_in s (take i input))

  pub stop : piece (length buffer - at) l (drop i input) ≡ []
      → (l ≡ after s (piece (length buffer) s input))
      × ((i ≡ length (piece (length buffer) s input))
      × ((at ≡ length (replies_in s (piece (length buffer) s input)))
      × ((out ≡ put_at buffer 0 (replies_in s (piece (length buffer) s input)))
      × ((i ≤ length input) × (at ≤ length out)))))
  stop e =
      let p : take i input ≡ piece (length buffer) s input = sym (append-nil (take i input)) ∙ ap (λ (t : List ℕ). take i input ++ t) (sym e) ∙ g.rest in (
        g.line ∙ ap (after s) p,
        (
          omega (arith, ap length p, length-take-le i input g.within),
          (
            omega (arith, g.put.0, ap (λ (t : List ℕ). length (replies_in s t)) p),
            (
              g.put.1 ∙ ap (λ (t : List ℕ). put_at buffer 0 (replies_in s t)) p,
              (g.within, omega (arith, g.room, kept_length)),
            ),
          ),
        ),
      )
