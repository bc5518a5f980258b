-- A delivery: its refusals in order, else the step of its kind. A refusal leaves image and buffer as they were.
use Rattle.std.specs.Prelude.{Bool, true, false, cond, not, ◌||◌, List, [], ◌∷◌, ◌++◌, ℕ, eqb, ltb, length, drop}
use Rattle.numbers.specs.Sizes.{longest_message}
use Rattle.numbers.specs.Numbers.{wrong_length, damaged, garbled, stranger, out_of_turn}
use Rattle.numbers.specs.Refusal.{Refusal, refuse, first_of}
use Rattle.wire.specs.Message.{Message, fetch, ask, outcome}
use Rattle.wire.specs.Formed.{word_of}
use Rattle.wire.specs.Encode.{encode}
use Rattle.wire.specs.Decode.{decode, check_of}
use Rattle.image.specs.Valid.{over, held, refused, check}
use Rattle.replica.specs.declared.Received.{Received}
use Rattle.judge.specs.Standing.{ahead, standing, active}
use Rattle.replica.specs.Steps.{Answer, silent, says, fetch_image, fetch_answer, ask_image, ask_answer, outcome_image, outcome_answer}

-- a commit (word 1) needs late or held; an abort anything but a serial above the last while that one is not over
unfoldable pub outcome_wrong_turn : ℕ → ℕ → Bool
outcome_wrong_turn word s = cond (eqb word 1) (not (eqb s over || eqb s held)) (eqb s ahead)

-- a fetch or an ask above the last serial needs state 0; a kind meant for the other end is always out of turn
unfoldable pub wrong_turn : List ℕ → Message → Bool
wrong_turn l m =
    cond (eqb m.kind fetch) (eqb (standing l m) ahead)
    (cond (eqb m.kind ask) (eqb (standing l m) ahead) (cond (eqb m.kind outcome) (outcome_wrong_turn (word_of m) (standing l m)) true))

-- the refusals of a message's bytes b at node `me` with the image l and an answer buffer of a size: 1 length, 2 damaged, 3 garbled, 4 stranger, 5 out of turn
unfoldable pub refusals : ℕ → List ℕ → ℕ → List ℕ → List Refusal
refusals size l me b =
    refuse wrong_length (ltb size longest_message || (eqb (check l) wrong_length || eqb (check_of b) wrong_length))
    ∷ refuse damaged (eqb (check l) damaged)
    ∷ refuse garbled (eqb (check_of b) garbled)
    ∷ refuse stranger (ltb 12 me || not (eqb (decode b).to me))
    ∷ refuse out_of_turn (wrong_turn l (decode b))
    ∷ []

unfoldable pub refusal : ℕ → List ℕ → ℕ → List ℕ → ℕ
refusal size l me b = first_of (refusals size l me b)

-- what a delivery brings about: its number, the image after it, and the answer
pub record Delivered : Type 0 where
  pub number : ℕ
  pub image : List ℕ
  pub answer : Answer

abbrev pub gives : List ℕ → Answer → Delivered
gives l a = record { number = 0; image = l; answer = a }

-- the kind decides
unfoldable pub step : List ℕ → ℕ → Message → Delivered
step l me m =
    cond (eqb m.kind fetch) (gives (fetch_image l m) (fetch_answer me l m))
    (cond (eqb m.kind ask) (gives (ask_image l m) (ask_answer me l m))
    (cond (eqb m.kind outcome) (gives (outcome_image l m) (outcome_answer me m)) (gives l silent)))

unfoldable pub deliver : ℕ → List ℕ → ℕ → List ℕ → Delivered
deliver size l me b =
    cond (eqb (refusal size l me b) 0) (step l me (decode b)) (record { number = refusal size l me b; image = l; answer = silent })

-- ---- what the caller sees: number and length; the answer fills the front of the buffer and the rest is untouched
unfoldable pub length_of : Answer → ℕ
length_of silent = 0
length_of (says m) = length (encode m)

unfoldable pub filled : Answer → List ℕ → List ℕ
filled silent l = l
filled (says m) l = encode m ++ drop (length (encode m)) l

-- the buffer `out` after a delivery into it
abbrev pub buffer_of : List ℕ → List ℕ → ℕ → List ℕ → List ℕ
buffer_of out l me b = filled (deliver (length out) l me b).answer out

abbrev pub received_of : Delivered → Received
received_of d = record { number = d.number; length = length_of d.answer }

-- ---- whether there is an answer
unfoldable pub spoken : Answer → Bool
spoken silent = false
spoken (says m) = true

-- which messages a replica that refuses nothing answers: a fetch that is listed, an ask that is listed, held or refused, and every outcome
unfoldable pub speaks : List ℕ → Message → Bool
speaks l m =
    cond (eqb m.kind fetch) (active l m)
    (cond (eqb m.kind ask) (active l m || (eqb (standing l m) held || eqb (standing l m) refused)) (eqb m.kind outcome))
