-- Who wrote an object's copy last, for C: 1 for an image of another length, 2 for a damaged one, 6 for an object that is not there; then owner and serial
-- are 0.
use Rattle.std.specs.Prelude.{cond, not, List, [], ◌∷◌, ℕ, eqb, ltb}
use Rattle.numbers.specs.Sizes.{objects}
use Rattle.numbers.specs.Numbers.{wrong_length, damaged, no_such_object}
use Rattle.numbers.specs.Refusal.{Refusal, refuse, first_of}
use Rattle.image.specs.Layout.{author, author_serial}
use Rattle.image.specs.Valid.{check}
use Rattle.host.specs.declared.Author.{Author}

abbrev pub author_refusals : List ℕ → ℕ → List Refusal
author_refusals l t =
    refuse wrong_length (eqb (check l) wrong_length)
    ∷ refuse damaged (eqb (check l) damaged)
    ∷ refuse no_such_object (not (ltb t objects))
    ∷ []

unfoldable pub author_number : List ℕ → ℕ → ℕ
author_number l t = first_of (author_refusals l t)

unfoldable pub author_answer : List ℕ → ℕ → Author
author_answer l t =
    cond (eqb (author_number l t) 0) (record { number = 0; owner = author l t; serial = author_serial l t })
    (record { number = author_number l t; owner = 0; serial = 0 })
