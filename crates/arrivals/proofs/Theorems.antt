-- What the definitions imply, each by the cases of its test: a refusal leaves the record, a late copy changes nothing, a commit needs every
-- participant's yes, idle needs every done, and a message that does not fit changes nothing. Over any quorum system.
use mathlib.Core.Path.{◌≡◌, refl}
use mathlib.Core.Bool.{Bool, true, false, cond, ◌&&◌, ◌||◌, and-false}
use mathlib.Core.List.{List}
use Prim.Native.Nat.{ℕ}
use native.Mathlib.Omega.{arith}
use lib.Dec.{eqb}
use borrow.Author.Tests.{ne_eqb}
use Rattle.mask.specs.Mask.{within}
use Rattle.numbers.specs.Refusal.{first_of}
use Rattle.wire.specs.Items.{entry_of, rival_of}
use Rattle.coordinator.specs.declared.Coordinator.{Coordinator}
use Rattle.coordinator.specs.Step.{Step}
use Rattle.coordinator.specs.System.{System}
use Rattle.coordinator.specs.State.{open_phase, voting_phase, finishing_phase, nothing, committed, finished, object_at, ready, awaited}
use Rattle.arrivals.specs.Receive.{brought, answers, copy_fits, copy_taken, with_yes, vote_taken, with_done, done_taken, yield_taken}
use Rattle.arrivals.specs.Receive.{receive_refusals, receive_of}

-- ---- a refusal
pub receive_refused_leaves : (s : System) (c : Coordinator) (me : ℕ) (m : List ℕ) → (first_of (receive_refusals c me m) ≡ 0 → ⊥)
    → (receive_of s c me m).coordinator ≡ c
unfolding receive_of
receive_refused_leaves s c me m h = simp (ne_eqb (first_of (receive_refusals c me m)) 0 h)

-- ---- found never changes once ready: a copy for a ready object changes nothing
pub late_copy : (s : System) (c : Coordinator) (m : List ℕ) → ready s (object_at c (entry_of m 0).object) ≡ true → copy_taken s c m ≡ brought nothing c
unfolding copy_taken copy_fits
late_copy s c m h = simp (h, and-false)

-- ---- an answer that only the first of two cases gives
of_answer : (t : Bool) (x y : Step) (k : ℕ) → (y.answer ≡ k → ⊥) → (cond t x y).answer ≡ k → t ≡ true
of_answer true x y k n e = refl
of_answer false x y k n e = absurd (n e)

-- a commit needs every participant's yes
pub commit_needs_all : (c : Coordinator) (agreed : ℕ) (rivals : List ℕ) → (with_yes c agreed rivals).answer ≡ committed → within c.participants agreed ≡ true
unfolding with_yes
commit_needs_all c agreed rivals e = of_answer (within c.participants agreed) _ _ committed (λ z. let w : ⊥ = omega arith in w) e

-- idle needs the done of every participant, when never voted of every contacted node
pub finish_needs_all : (c : Coordinator) (said : ℕ) → (with_done c said).answer ≡ finished → within (awaited c) said ≡ true
unfolding with_done
finish_needs_all c said e = of_answer (within (awaited c) said) _ _ finished (λ z. let w : ⊥ = omega arith in w) e

-- ---- a message that does not fit changes nothing
pub vote_unfit : (c : Coordinator) (m : List ℕ) → answers c voting_phase c.participants m ≡ false → vote_taken c m ≡ brought nothing c
unfolding vote_taken
vote_unfit c m h = simp (h)

pub done_unfit : (c : Coordinator) (m : List ℕ) → answers c finishing_phase (awaited c) m ≡ false → done_taken c m ≡ brought nothing c
unfolding done_taken
done_unfit c m h = simp (h)

pub copy_unfit : (s : System) (c : Coordinator) (m : List ℕ) → copy_fits s c m ≡ false → copy_taken s c m ≡ brought nothing c
unfolding copy_taken
copy_unfit s c m h = simp (h)

-- a yield: in another phase, or with another serial than the rival's it names
pub yield_unfit : (c : Coordinator) (m : List ℕ)
    → ((eqb c.phase open_phase || eqb c.phase voting_phase) && eqb (rival_of m 0).serial c.serial) ≡ false → yield_taken c m ≡ brought nothing c
unfolding yield_taken
yield_unfit c m h = simp (h)

pub yield_other_serial : (c : Coordinator) (m : List ℕ) → ((rival_of m 0).serial ≡ c.serial → ⊥) → yield_taken c m ≡ brought nothing c
yield_other_serial c m n = yield_unfit c m (simp (ne_eqb (rival_of m 0).serial c.serial n, and-false))

pub yield_other_phase : (c : Coordinator) (m : List ℕ) → (c.phase ≡ open_phase → ⊥) → (c.phase ≡ voting_phase → ⊥) → yield_taken c m ≡ brought nothing c
yield_other_phase c m a b = yield_unfit c m (simp (ne_eqb c.phase open_phase a, ne_eqb c.phase voting_phase b))
