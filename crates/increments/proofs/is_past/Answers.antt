-- `increments::is_past`: past by the signs.
use Rattle.std.proofs.Common.{◌≡◌, ℕ, ◌^◌, ◌<◌, true, false, not, ◌&&◌, ltb, leb, sym, ap, ◌∙◌, arith, rules, le-ltb, lt-ltb}
use Rattle.increments.proofs.Sums.{past_signs}
use Rattle.increments.proofs.is_past.Goals as goal

pub returns-then-a-lt-SIGN : goal.returns-then-a-lt-SIGN
returns-then-a-lt-SIGN c = let x = c.args in
    let v : x.a < 2 ^ 64 = search rules in
    let w : x.g < 2 ^ 64 = search rules in
    let t : ltb x.a (2 ^ 63) ≡ true = lt-ltb x.a (2 ^ 63) (omega arith) in
    c.both.ensures ∙ ap (λ (n : ℕ). ltb x.g (2 ^ 63) && leb (2 ^ 63) n) c.sum-negative.ensures
    ∙ sym (past_signs x.a x.g v w ∙ simp t)

pub returns-else-a-lt-SIGN : goal.returns-else-a-lt-SIGN
returns-else-a-lt-SIGN c = let x = c.args in
    let v : x.a < 2 ^ 64 = search rules in
    let w : x.g < 2 ^ 64 = search rules in
    let t : ltb x.a (2 ^ 63) ≡ false = le-ltb x.a (2 ^ 63) (omega arith) in
    c.both-else-a-lt-SIGN.ensures ∙ ap (λ (n : ℕ). leb (2 ^ 63) x.g && not (leb (2 ^ 63) n)) c.sum-negative.ensures
    ∙ sym (past_signs x.a x.g v w ∙ simp t)
