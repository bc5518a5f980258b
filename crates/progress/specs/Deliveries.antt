-- What deliveries brought of one transaction: its asks, votes, outcomes and dones, participant by participant, counted.
use Rattle.std.specs.Prelude.{◌≡◌, Bool, true, cond, ◌&&◌, List, [], ◌∷◌, ℕ, zero, suc, ◌+◌, ◌<◌, ◌≤◌, eqb, leb, get_or}
use Rattle.numbers.specs.Sizes.{nodes}
use Rattle.mask.specs.Mask.{bit, contains}
use Rattle.wire.specs.Message.{ask, done}
use Rattle.wire.specs.Decode.{kind_of, from_of, to_of, owner_of, serial_of}
use Rattle.arrivals.specs.Receive.{for_replica}
use Rattle.steps.specs.Station.{Station}
use Rattle.steps.specs.Step.{Call, begin, open_read, open_write, set_value, found, reselect, request_commit, abort, send, delivery, drop, switch, step}
use Rattle.protocol.specs.State.{Tx}

-- how many nodes a mask has
unfoldable pub members_below : ℕ → ℕ → ℕ
members_below zero m = 0
members_below (suc n) m = members_below n m + bit m n

abbrev pub members : ℕ → ℕ
members m = members_below nodes m

-- the message that an accepted delivery hands over, kept or not; nothing for any other step of the machine
unfoldable pub handed_by : Station → Call → List (List ℕ)
handed_by st (begin n w) = []
handed_by st (open_read n t) = []
handed_by st (open_write n t) = []
handed_by st (set_value n t v) = []
handed_by st (found n t) = []
handed_by st (reselect n live d) = []
handed_by st (request_commit n) = []
handed_by st (abort n) = []
handed_by st (send n to t) = []
handed_by st (delivery k kept) = cond (eqb (step st (delivery k kept)).number 0) (get_or st.pool k [] ∷ []) []
handed_by st (drop k) = []
handed_by st (switch n up) = []

-- ---- messages of a transaction
abbrev pub is_of : Tx → List ℕ → Bool
is_of x b = eqb (owner_of b) x.owner && eqb (serial_of b) x.serial

-- the participant that a message goes to or comes from
abbrev pub member_of : List ℕ → ℕ
member_of b = cond (for_replica (kind_of b)) (to_of b) (from_of b)

-- one of a kind, with a participant; one of the four kinds: ask, vote, outcome, done
abbrev pub is_with : Tx → ℕ → ℕ → List ℕ → Bool
is_with x kind n b = is_of x b && (eqb (kind_of b) kind && eqb (member_of b) n)

abbrev pub is_turn : Tx → List ℕ → Bool
is_turn x b = is_of x b && (leb ask (kind_of b) && leb (kind_of b) done)

-- how many of a list pass a test
unfoldable pub count : (List ℕ → Bool) → List (List ℕ) → ℕ
count p [] = 0
count p (b ∷ l) = cond (p b) (suc (count p l)) (count p l)

-- each participant's message of a kind was delivered; it was delivered once, and nobody else's; none was
abbrev pub Came : Tx → ℕ → ℕ → List (List ℕ) → Type 0
Came x participants kind l = (n : ℕ) → n < nodes → contains participants n ≡ true → 1 ≤ count (is_with x kind n) l

abbrev pub Once : Tx → ℕ → ℕ → List (List ℕ) → Type 0
Once x participants kind l = (n : ℕ) → n < nodes → count (is_with x kind n) l ≡ bit participants n

abbrev pub Never : Tx → ℕ → List (List ℕ) → Type 0
Never x kind l = (n : ℕ) → n < nodes → count (is_with x kind n) l ≡ 0
