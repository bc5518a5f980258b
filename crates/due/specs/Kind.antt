-- What is due to a node, and while open for an object: fetches to the present quorum for objects not ready, asks to participants without a vote,
-- outcomes to nodes without a done, and after a commit a yield to each rival's owner. An outcome goes before a yield. Nothing changes.
use Rattle.std.specs.Prelude.{cond, not, ◌&&◌, ◌||◌, List, [], ◌∷◌, ℕ, eqb, ltb, get_or}
use Rattle.numbers.specs.Sizes.{objects}
use Rattle.mask.specs.Mask.{contains}
use Rattle.numbers.specs.Numbers.{stranger, no_such_object}
use Rattle.numbers.specs.Refusal.{Refusal, refuse, first_of}
use Rattle.wire.specs.Message.{fetch, ask, outcome, yield}
use Rattle.coordinator.specs.declared.Coordinator.{Coordinator}
use Rattle.due.specs.declared.Duty.{Duty}
use Rattle.coordinator.specs.System.{System}
use Rattle.coordinator.specs.State.{open_phase, voting_phase, finishing_phase, committed, object_at, is_open, ready, awaited}
use Rattle.coordinator.specs.Calls.{no_node}

-- no kind: nothing is due
abbrev pub no_kind : ℕ
no_kind = 0

unfoldable pub open_due : System → Coordinator → ℕ → ℕ → ℕ
open_due s c node object = cond (contains c.quorum node && not (ready s (object_at c object))) fetch no_kind

unfoldable pub voting_due : Coordinator → ℕ → ℕ
voting_due c node = cond (contains c.participants node && not (contains c.yes node)) ask no_kind

unfoldable pub finishing_due : Coordinator → ℕ → ℕ
finishing_due c node =
    cond (contains (awaited c) node && not (contains c.done node)) outcome
    (cond (eqb c.outcome committed && not (eqb (get_or c.rivals node 0) 0)) yield no_kind)

unfoldable pub due_kind : System → Coordinator → ℕ → ℕ → ℕ
due_kind s c node object =
    cond (eqb c.phase open_phase) (open_due s c node object)
    (cond (eqb c.phase voting_phase) (voting_due c node)
    (cond (eqb c.phase finishing_phase) (finishing_due c node) no_kind))

unfoldable pub due_refusals : Coordinator → ℕ → ℕ → ℕ → List Refusal
due_refusals c me node object =
    refuse stranger (no_node me || no_node node)
    ∷ refuse no_such_object (eqb c.phase open_phase && (not (ltb object objects) || not (is_open c object)))
    ∷ []

unfoldable pub due_of : System → Coordinator → ℕ → ℕ → ℕ → Duty
due_of s c me node object =
    record {
      number = first_of (due_refusals c me node object);
      kind = cond (eqb (first_of (due_refusals c me node object)) 0) (due_kind s c node object) no_kind;
    }
