-- What the private functions say of older bytes in parts of one size: the number of the first part that is not taken in, and the images after each part.
use Rattle.std.specs.Prelude.{cond, not, List, ℕ, zero, suc, eqb, replicate}
use Rattle.image.specs.Layout.{shape, image_size}
use Rattle.intake.specs.Take.{take_number, take_after}
use Rattle.buffers.specs.Buffers.{image_at, with_image_at}
use Rattle.station_intake.specs.Convert.{part_at}

-- the number of taking older bytes in to an image of today's length
unfoldable pub number_of : List ℕ → ℕ
number_of old = take_number old (replicate (image_size shape) 0)

-- the first number that is not 0 of the first n parts
unfoldable pub first_number : ℕ → List ℕ → ℕ → ℕ
first_number size old zero = 0
first_number size old (suc n) =
    cond (not (eqb (first_number size old n) 0)) (first_number size old n) (number_of (part_at size old n))

-- the images after the first n parts were taken in
unfoldable pub after_parts : ℕ → List ℕ → ℕ → List ℕ → List ℕ
after_parts size old zero l = l
after_parts size old (suc n) l =
    with_image_at (after_parts size old n l) n (take_after (part_at size old n) (image_at (after_parts size old n l) n))
