-- Request 2.8, that its claim is not empty: steps that meet all that is supposed, wherever the pool has room for one message more. In each round the owner
-- sends what is due to a participant, and the message and its answer are handed over at once, both at the pool's end: the ask and its vote with every
-- participant, then the outcome and its done. A list is newest first.
use Rattle.std.specs.Prelude.{◌≡◌, false, cond, List, [], ◌∷◌, ◌++◌, ℕ, zero, suc, ◌<◌, length}
use Rattle.numbers.specs.Sizes.{nodes, most_waiting}
use Rattle.mask.specs.Mask.{contains}
use Rattle.wire.specs.Message.{ask, vote, outcome, done}
use Rattle.steps.specs.Step.{Call, request_commit, send, delivery, step}
use Rattle.protocol.specs.State.{Tx}
use Rattle.history.specs.Origin.{Origin}
use Rattle.history.specs.Claims.{AllTyped, account, reached}
use Rattle.progress.specs.Deliveries.{Once}
use Rattle.progress.specs.Oldest.{Unopposed, deliveries, Undisturbed, present_of, party_of, acts}

-- one round of node o with participant n, where so many messages wait before it; with the participants below a node, one after the other; two with each
abbrev pub round : ℕ → ℕ → ℕ → List Call
round o waiting n = delivery waiting false ∷ delivery waiting false ∷ send o n 0 ∷ []

unfoldable pub rounds_below : ℕ → ℕ → ℕ → ℕ → List Call
rounds_below o waiting participants zero = []
rounds_below o waiting participants (suc n) =
    cond (contains participants n) (round o waiting n ++ rounds_below o waiting participants n) (rounds_below o waiting participants n)

abbrev pub rounds : ℕ → ℕ → ℕ → List Call
rounds o waiting participants = rounds_below o waiting participants nodes ++ rounds_below o waiting participants nodes

module _ (g : Origin) (ds : List Call) (o : ℕ) where
  -- the request for votes, the transaction and its participants
  abbrev pub request : List Call
  request = request_commit o ∷ ds

  abbrev pub its : Tx
  its = present_of (account g) (acts g) request o

  abbrev pub its_party : ℕ
  its_party = party_of (account g) (acts g) request o

  -- what steps behind it hand over
  abbrev pub handed : List Call → List (List ℕ)
  handed es = deliveries (account g) (acts g) request es

  -- they spare the transaction, and hand over each participant's ask, vote, outcome and done once
  pub record Serves (es : List Call) : Type 0 where
    pub typed : AllTyped es
    pub undisturbed : Undisturbed (account g) (acts g) its its_party request es
    pub asks : Once its its_party ask (handed es)
    pub votes : Once its its_party vote (handed es)
    pub outcomes : Once its its_party outcome (handed es)
    pub dones : Once its its_party done (handed es)

-- THE CLAIM, of an origin: whatever accepted request for votes is unopposed and has room, the rounds behind it serve
abbrev pub OldestCan : Origin → Type 0
OldestCan g = (ds : List Call) (o : ℕ) → AllTyped ds → (step (reached g ds) (request_commit o)).number ≡ 0 → Unopposed (reached g (request_commit o ∷ ds)) o
    → length (reached g (request_commit o ∷ ds)).pool < most_waiting
    → Serves g ds o (rounds o (length (reached g (request_commit o ∷ ds)).pool) (its_party g ds o))
