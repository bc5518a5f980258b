-- The blank image and the replica's step with each change of all copies in one walk (Swift): the same, and cheap to compute.
use mathlib.Core.Path.{◌≡◌, ap, ◌∙◌}
use mathlib.Core.Bool.{cond}
use mathlib.Core.List.{List}
use Prim.Native.Nat.{ℕ}
use lib.Dec.{eqb}
use lib.ListN.{replicate}
use Rattle.numbers.specs.Sizes.{nobody}
use Rattle.wire.specs.Message.{Message, fetch, ask, outcome}
use Rattle.image.specs.Layout.{shape, image_size, holder_field, readers_field, writers_field, author_field}
use Rattle.image.specs.Valid.{over, held, refused}
use Rattle.image.specs.Blank.{counted, unheld, unwritten, blank_as}
use Rattle.image.specs.Change.{with_state, with_owner, freeing, leaving, free, leave, unlist}
use Rattle.judge.specs.Standing.{fresh, standing, active, entered}
use Rattle.judge.specs.Judge.{votes_no}
use Rattle.replica.specs.Steps.{silent, fetch_image, fetch_answer, holding, leaves, judged_image, ask_image, ask_answer, decided, released}
use Rattle.replica.specs.Steps.{outcome_image, outcome_answer}
use Rattle.replica.specs.Receive.{Delivered, gives, step}
use Rattle.worked.proofs.Swift.{swept, sweeps}

-- ---- the blank image
unfoldable pub quick_blank : List ℕ
quick_blank = swept (author_field shape) (λ a. nobody) (swept (holder_field shape) (λ h. nobody) (counted shape (replicate (image_size shape) 0)))

pub blank_quick : blank_as shape ≡ quick_blank
unfolding quick_blank blank_as unwritten unheld
blank_quick =
    sweeps (author_field shape) (λ a. nobody) (unheld shape (counted shape (replicate (image_size shape) 0)))
    ∙ ap (swept (author_field shape) (λ a. nobody)) (sweeps (holder_field shape) (λ h. nobody) (counted shape (replicate (image_size shape) 0)))

-- ---- the replica's step
abbrev quick_leaves : List ℕ → ℕ → ℕ → List ℕ
quick_leaves l o state = with_state (swept (writers_field shape) (leaving o) (swept (readers_field shape) (leaving o) l)) o state

abbrev quick_free : List ℕ → ℕ → List ℕ
quick_free l o = swept (holder_field shape) (freeing o) l

leaves_quick : (l : List ℕ) (o state : ℕ) → leaves l o state ≡ quick_leaves l o state
unfolding leaves unlist leave
leaves_quick l o state =
    ap (λ (m : List ℕ). with_state m o state)
    (sweeps (writers_field shape) (leaving o) (leave (readers_field shape) l o)
    ∙ ap (swept (writers_field shape) (leaving o)) (sweeps (readers_field shape) (leaving o) l))

free_quick : (l : List ℕ) (o : ℕ) → free l o ≡ quick_free l o
unfolding free
free_quick l o = sweeps (holder_field shape) (freeing o) l

-- the step with other functions for the two that change all copies
module _ (leaves : List ℕ → ℕ → ℕ → List ℕ) (free : List ℕ → ℕ → List ℕ) where
  abbrev judged_by : List ℕ → Message → List ℕ
  judged_by l m = cond (votes_no l m) (leaves l m.owner refused) (holding (leaves l m.owner held) m.owner m.entries)

  abbrev outcome_by : List ℕ → Message → List ℕ
  outcome_by l m =
      cond (eqb (standing l m) over) l
      (cond (eqb (standing l m) fresh) (with_owner l m.owner m.serial over m.stamp) (leaves (free (decided l m) m.owner) m.owner over))

  abbrev step_by : List ℕ → ℕ → Message → Delivered
  step_by l me m =
      cond (eqb m.kind fetch) (gives (fetch_image l m) (fetch_answer me l m))
      (cond (eqb m.kind ask) (gives (cond (active l m) (judged_by (entered l m) m) l) (ask_answer me l m))
      (cond (eqb m.kind outcome) (gives (outcome_by l m) (outcome_answer me m)) (gives l silent)))

unfoldable pub quick_step : List ℕ → ℕ → Message → Delivered
quick_step l me m = step_by quick_leaves quick_free l me m

pub step_quick : (l : List ℕ) (me : ℕ) (m : Message) → step l me m ≡ quick_step l me m
unfolding step ask_image judged_image outcome_image released quick_step
step_quick l me m = (λ i. step_by (λ k o state. leaves_quick k o state i) (λ k o. free_quick k o i) l me m)
