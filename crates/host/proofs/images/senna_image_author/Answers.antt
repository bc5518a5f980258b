-- `host::images::senna_image_author`: a refusal, or the author's owner and serial.
use mathlib.Core.Path.{◌≡◌, sym, ◌∙◌}
use Prim.Native.Nat.{ℕ}
use mathlib.Core.List.{List}
use borrow.Author.Tests.{eq-eqb, ne_eqb}
use Rattle.image.specs.Layout.{author, author_serial}
use Rattle.host.specs.Images.{author_number, author_answer}
use Rattle.host.proofs.images.senna_image_author.Goals as goal

refused_with_lem : (l : List ℕ) (t n : ℕ) → n ≡ author_number l t → (n ≡ 0 → ⊥) → author_answer l t ≡ record { number = n; owner = 0; serial = 0 }
unfolding author_answer
refused_with_lem l t n e h = rw (ne_eqb (author_number l t) 0 (λ z. h (e ∙ z)), ← e)

told : (l : List ℕ) (t n : ℕ) → n ≡ author_number l t → n ≡ 0 → author_answer l t ≡ record { number = 0; owner = author l t; serial = author_serial l t }
unfolding author_answer
told l t n e h = rw (eq-eqb (author_number l t) 0 (sym e ∙ h))

pub returns-then-number-ne0 : goal.returns-then-number-ne0
returns-then-number-ne0 c = let x = c.args in
    sym (refused_with_lem x.image.now x.object _ c.author_number-number.ensures c.if-number-ne0.true)

pub returns : goal.returns
returns c = let x = c.args in
    (λ i. record { number = 0; owner = c.author-owner.ensures i; serial = c.author_serial-serial.ensures i })
    ∙ sym (told x.image.now x.object _ c.author_number-number.ensures c.if-number-ne0.false)
