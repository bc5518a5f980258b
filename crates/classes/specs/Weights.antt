-- A batch of weights in tenths of a gram. By class, "whole grams" are booked and "the tenths left over, 0 to 9 a class, wait for the next batch".
use Rattle.std.specs.Prelude.{Bool, cond, not, ◌||◌, List, [], ◌∷◌, ℕ, zero, suc, ◌+◌, ◌*◌, ◌/◌, ◌%◌, eqb, ltb, length, get_or}
use Rattle.numbers.specs.Numbers.{wrong_length}
use Rattle.octets.specs.Octets.{get}
use Rattle.wire.specs.Formed.{every}
use Rattle.wire.specs.Decode.{items_from}
use Rattle.classes.specs.Classes.{most_classes, too_heavy, bounds, tallies, class_of}

abbrev pub most_weights : ℕ
most_weights = 4096

-- ---- as lent: a count in two bytes, the weights of 2 bytes each
abbrev pub weight_count : List ℕ → ℕ
weight_count l = get 2 l 0

unfoldable pub weights : List ℕ → List ℕ
weights l = items_from (get 2) 2 (weight_count l) l 2

-- 1 another length than the count says
unfoldable pub batch_length : List ℕ → ℕ
batch_length l = cond (eqb (length l) (2 + 2 * weight_count l)) 0 wrong_length

-- "A weight of 2,000 or more, or a longer batch"
unfoldable pub overweight : List ℕ → Bool
overweight l = ltb most_weights (weight_count l) || not (every (λ (w : ℕ). ltb w too_heavy) (weights l))

-- ---- by class, for a table as it is kept
-- the sum of the weights of a class
unfoldable pub weighed : List ℕ → ℕ → List ℕ → ℕ
weighed bs i [] = 0
weighed bs i (w ∷ l) = cond (eqb (class_of bs w) i) w 0 + weighed bs i l

-- with the tenths that waited; whole grams of it; the tenths left over
unfoldable pub together : List ℕ → List ℕ → List ℕ → ℕ → ℕ
together kept waiting l i = get_or waiting i 0 + weighed (bounds kept) i (weights l)

abbrev pub grams_in : List ℕ → List ℕ → List ℕ → ℕ → ℕ
grams_in kept waiting l i = together kept waiting l i / 10

abbrev pub left_in : List ℕ → List ℕ → List ℕ → ℕ → ℕ
left_in kept waiting l i = together kept waiting l i % 10

-- f of the n numbers from i on
unfoldable pub count_up : {A : Type 0} → (ℕ → A) → ℕ → ℕ → List A
count_up f zero i = []
count_up f (suc n) i = f i ∷ count_up f n (i + 1)

-- of all eight places; a place without a class has tally 0
unfoldable pub tallies_of : List ℕ → List ℕ
tallies_of kept = count_up (λ (i : ℕ). get_or (tallies kept) i 0) most_classes 0

unfoldable pub grams_of : List ℕ → List ℕ → List ℕ → List ℕ
grams_of kept waiting l = count_up (grams_in kept waiting l) most_classes 0

unfoldable pub left_of : List ℕ → List ℕ → List ℕ → List ℕ
left_of kept waiting l = count_up (left_in kept waiting l) most_classes 0
