-- The nearest quorum for C: 1 for distances of another length than 26 bytes, 4 for a live mask above 8,191 or an asker above 12, 8 where live contains no
-- quorum.
use Rattle.std.specs.Prelude.{cond, not, ◌||◌, List, [], ◌∷◌, ℕ, eqb, ltb, length, None}
use Rattle.numbers.specs.Sizes.{nodes, every_node}
use Rattle.numbers.specs.Numbers.{wrong_length, stranger, no_quorum}
use Rattle.numbers.specs.Refusal.{Refusal, refuse, first_of}
use Rattle.quorum.specs.declared.Kind.{Kind}
use Rattle.quorum.specs.Choice.{Choice}
use Rattle.quorum.specs.Quorum.{is_quorum}
use Rattle.quorum.specs.Smallest.{smallest}
use Rattle.quorum.specs.Nearest.{nearest_of, mask_of, sum_of}
use Rattle.host.specs.declared.Chosen.{Chosen}
use Rattle.host.specs.Distances.{distances_of}

abbrev pub nearest_refusals : Kind → ℕ → List ℕ → ℕ → List Refusal
nearest_refusals kind live bytes asker =
    refuse wrong_length (not (eqb (length bytes) 26))
    ∷ refuse stranger (ltb every_node live || not (ltb asker nodes))
    ∷ refuse no_quorum (not (is_quorum kind live))
    ∷ []

abbrev pub nearest_number : Kind → ℕ → List ℕ → ℕ → ℕ
nearest_number kind live bytes asker = first_of (nearest_refusals kind live bytes asker)

-- the choice, or nothing where the call is refused
abbrev pub granted : ℕ → Choice → Choice
granted number choice = cond (eqb number 0) choice None

abbrev pub answer_of : ℕ → Choice → Chosen
answer_of number choice = record { number = number; mask = mask_of choice; sum = sum_of choice }

unfoldable pub nearest_answer : Kind → ℕ → List ℕ → ℕ → Chosen
nearest_answer kind live bytes asker =
    answer_of (nearest_number kind live bytes asker)
    (granted (nearest_number kind live bytes asker) (nearest_of asker live (distances_of bytes) (smallest kind)))
