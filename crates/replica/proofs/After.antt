-- What every copy and every owner is after a fetch, a vote, a commit, an abort and an early abort: one equation each. By the changes that each makes.
use mathlib.Core.Path.{◌≡◌, refl, sym, ap, ◌∙◌}
use mathlib.Core.Bool.{Bool, true, false, cond}
use mathlib.Core.List.{List}
use Prim.Native.Nat.{ℕ, ◌≤◌, ◌<◌}
use native.Mathlib.Omega.{arith}
use borrow.Author.Tests.{ne_eqb, eqb-true}
use lib.Dec.{eqb, ltb}
use Rattle.numbers.specs.Sizes.{nodes}
use Rattle.wire.specs.Message.{Message}
use Rattle.wire.specs.Formed.{word_of}
use Rattle.wire.specs.Encode.{Fits}
use Rattle.image.specs.declared.Owner.{Owner}
use Rattle.image.specs.Layout.{shape, serial, state, stamp, copy_of, owner_of}
use Rattle.image.specs.Change.{with_owner}
use Rattle.image.proofs.Made.{made_owner}
use Rattle.image.proofs.Sound.{Sound}
use Rattle.judge.specs.Standing.{above_of, standing, active, entered}
use Rattle.judge.specs.Judge.{votes_no}
use Rattle.replica.specs.Steps.{wanted, fetch_image, leaves, judged_image, ask_image, applied, decided, released, outcome_image}
use Rattle.replica.specs.Given.{Raisable}
use Rattle.replica.specs.Receive.{step}
use Rattle.replica.proofs.Delivered.{either_way}
use Rattle.replica.proofs.Fields.{left_copy, freed_copy, held_copy, applied_copy, listed_copy, restated, owner_with}
use Rattle.replica.proofs.Fields.{leaves_copy, owner_copy, released_copy, holding_copy, applied_copy_lem, joins_copy}
use Rattle.replica.proofs.Fields.{leaves_owner, owner_owner, released_owner, holding_owner, applied_owner, joins_owner}
use Rattle.replica.proofs.Kept.{keeps_vote, keeps_applied, keeps_decided, keeps_entered, or_split}

-- ---- the step of each kind
pub step_fetch : (l : List ℕ) (me : ℕ) (m : Message) → m.kind ≡ 1 → (step l me m).image ≡ fetch_image l m
unfolding step
step_fetch l me m e = simp e

pub step_ask : (l : List ℕ) (me : ℕ) (m : Message) → m.kind ≡ 3 → (step l me m).image ≡ ask_image l m
unfolding step
step_ask l me m e = simp e

pub step_outcome : (l : List ℕ) (me : ℕ) (m : Message) → m.kind ≡ 5 → (step l me m).image ≡ outcome_image l m
unfolding step
step_outcome l me m e = simp e

-- ---- the last serial has its owner's state
last_by : (a b : Bool) (st : ℕ) → 1 ≤ cond a (above_of st) (cond b st 0) → cond a (above_of st) (cond b st 0) ≤ 3
    → (b ≡ true) × (cond a (above_of st) (cond b st 0) ≡ st)
unfolding above_of
last_by true b st h k = by (eqb st 0) k
  where
    by : (t : Bool) → cond t 4 5 ≤ 3 → (b ≡ true) × (cond t 4 5 ≡ st)
    by true f = absurd (let z : ⊥ = omega arith in z)
    by false f = absurd (let z : ⊥ = omega arith in z)
last_by false true st h k = (refl, refl)
last_by false false st h k = absurd (let z : ⊥ = omega arith in z)

module _ (l : List ℕ) (m : Message) where
  -- a message of the last transaction, which is listed, held or refused
  pub here_last : 1 ≤ standing l m → standing l m ≤ 3 → (serial l m.owner ≡ m.serial) × (standing l m ≡ state l m.owner)
  unfolding standing
  here_last h k =
      let b = last_by (ltb (serial l m.owner) m.serial) (eqb (serial l m.owner) m.serial) (state l m.owner) h k in
      (eqb-true (serial l m.owner) m.serial b.0, b.1)

  -- the owner of a fresh or listed transaction once it is listed; its stamp is the first message's
  abbrev pub listed_owner : Owner
  listed_owner = owner_with m.serial 1 (cond (eqb (standing l m) 4) m.stamp (stamp l m.owner))

module _ (l : List ℕ) (m : Message) (s : Sound l) (small : m.owner < nodes) (here : 1 ≤ m.serial) (at : 1 ≤ m.stamp) (f : Fits m) where
  abbrev o : ℕ
  o = m.owner

  abbrev n : List ℕ
  n = entered l m

  pub entered_copy : (t : ℕ) → t < shape.objects → copy_of n t ≡ copy_of l t
  unfolding entered
  entered_copy t k =
      either_way (λ (x : List ℕ). copy_of x t ≡ copy_of l t) (eqb (standing l m) 4) _ _ (owner_copy l s t k o m.serial 1 m.stamp) refl

  listed_already : standing l m ≡ 1 → (p : ℕ) → owner_of l p ≡ cond (eqb p o) (owner_with m.serial 1 (stamp l o)) (owner_of l p)
  unfolding owner_of
  listed_already e p = by (eqb p o) refl
    where
      by : (b : Bool) → eqb p o ≡ b → owner_of l p ≡ cond b (owner_with m.serial 1 (stamp l o)) (owner_of l p)
      by true q =
          let r = eqb-true p o q in
          let w = here_last l m (omega arith) (omega arith) in
          made_owner (ap (serial l) r ∙ w.0) (ap (state l) r ∙ sym w.1 ∙ e) (ap (stamp l) r)
      by false q = refl

  pub entered_owner : active l m ≡ true → (p : ℕ) → p < nodes → owner_of n p ≡ cond (eqb p o) (listed_owner l m) (owner_of l p)
  unfolding active entered
  entered_owner a p k =
      or_split (owner_of n p ≡ cond (eqb p o) (listed_owner l m) (owner_of l p)) (eqb (standing l m) 1) (eqb (standing l m) 4)
      (λ e.
      let q = eqb-true (standing l m) 1 e in
      let z : eqb (standing l m) 4 ≡ false = ap (λ (x : ℕ). eqb x 4) q in
      simp z (listed_already q p))
      (λ e. simp e (owner_owner l (omega (arith, s.size)) p k o m.serial 1 m.stamp (omega (arith, f.serial)) (omega arith) (omega (arith, f.stamp))))
      a

  -- ---- a fetch that is listed: the owner joins one list
  pub fetch_copy : active l m ≡ true → (t : ℕ) → t < shape.objects → copy_of (fetch_image l m) t ≡ listed_copy o (wanted m) t (copy_of l t)
  unfolding fetch_image
  fetch_copy a t k =
      simp a (joins_copy n (keeps_entered l m s small here at f a).0 t k o small (wanted m) ∙ ap (listed_copy o (wanted m) t) (entered_copy t k))

  pub fetch_owner : active l m ≡ true → (p : ℕ) → p < nodes → owner_of (fetch_image l m) p ≡ cond (eqb p o) (listed_owner l m) (owner_of l p)
  unfolding fetch_image
  fetch_owner a p k = simp a (joins_owner n p o (wanted m) ∙ entered_owner a p k)

  -- ---- a vote
  voted : active l m ≡ true → (st : ℕ) → st < 256 → (p : ℕ) → p < nodes
      → owner_of (leaves n o st) p ≡ cond (eqb p o) (restated st (listed_owner l m)) (owner_of l p)
  voted a st h p k =
      leaves_owner n (omega (arith, (keeps_entered l m s small here at f a).0.size)) p k o st h
      ∙ ap (λ (w : Owner). cond (eqb p o) (restated st w) w) (entered_owner a p k)
      ∙ by (eqb p o)
    where
      by : (b : Bool)
          → cond b (restated st (cond b (listed_owner l m) (owner_of l p))) (cond b (listed_owner l m) (owner_of l p))
          ≡ cond b (restated st (listed_owner l m)) (owner_of l p)
      by true = refl
      by false = refl

  left : active l m ≡ true → (st t : ℕ) → t < shape.objects → copy_of (leaves n o st) t ≡ left_copy o (copy_of l t)
  left a st t k = leaves_copy n (keeps_entered l m s small here at f a).0 t k o st ∙ ap (left_copy o) (entered_copy t k)

  -- no: the owner leaves all lists, refused
  pub no_copy : active l m ≡ true → votes_no n m ≡ true → (t : ℕ) → t < shape.objects → copy_of (ask_image l m) t ≡ left_copy o (copy_of l t)
  unfolding ask_image judged_image
  no_copy a v t k = simp (a, v) (left a 3 t k)

  pub no_owner : active l m ≡ true → votes_no n m ≡ true → (p : ℕ) → p < nodes
      → owner_of (ask_image l m) p ≡ cond (eqb p o) (restated 3 (listed_owner l m)) (owner_of l p)
  unfolding ask_image judged_image
  no_owner a v p k = simp (a, v) (voted a 3 (omega arith) p k)

  -- yes: the owner leaves all lists and holds what it writes, held
  pub yes_copy : active l m ≡ true → votes_no n m ≡ false → (t : ℕ) → t < shape.objects
      → copy_of (ask_image l m) t ≡ held_copy o m.entries t (left_copy o (copy_of l t))
  unfolding ask_image judged_image
  yes_copy a v t k =
      let e = keeps_entered l m s small here at f a in
      let z = (keeps_vote n o e.0 small 2 (omega arith) e.1).size in
      simp (a, v) (holding_copy t k o (omega arith) (leaves n o 2) m.entries (omega (arith, z)) ∙ ap (held_copy o m.entries t) (left a 2 t k))

  pub yes_owner : active l m ≡ true → votes_no n m ≡ false → (p : ℕ) → p < nodes
      → owner_of (ask_image l m) p ≡ cond (eqb p o) (restated 2 (listed_owner l m)) (owner_of l p)
  unfolding ask_image judged_image
  yes_owner a v p k = simp (a, v) (holding_owner (leaves n o 2) p o m.entries ∙ voted a 2 (omega arith) p k)

  -- ---- an outcome of the transaction that is here: the owner lets go of everything, over
  pub settled : 1 ≤ standing l m → standing l m ≤ 3 → outcome_image l m ≡ released (decided l m) o
  unfolding outcome_image
  settled h k =
      let z : eqb (standing l m) 0 ≡ false = ne_eqb (standing l m) 0 (λ e. let w : ⊥ = omega arith in w) in
      let y : eqb (standing l m) 4 ≡ false = ne_eqb (standing l m) 4 (λ e. let w : ⊥ = omega arith in w) in
      simp (z, y)

  abbrev written : List ℕ
  written = applied l o m.serial m.entries

  decides : word_of m ≡ 1 → decided l m ≡ written
  unfolding decided
  decides e = ap (λ (k : ℕ). cond (eqb k 1) written l) e

  leaves_all : word_of m ≡ 0 → decided l m ≡ l
  unfolding decided
  leaves_all e = ap (λ (k : ℕ). cond (eqb k 1) written l) e

  pub commit_copy : standing l m ≡ 2 → word_of m ≡ 1 → Raisable m → (t : ℕ) → t < shape.objects
      → copy_of (outcome_image l m) t ≡ freed_copy o (applied_copy o m.serial m.entries t (copy_of l t))
  commit_copy h w r t k =
      ap (λ (x : List ℕ). copy_of x t) (settled (omega arith) (omega arith) ∙ ap (λ (x : List ℕ). released x o) (decides w))
      ∙ released_copy written (keeps_applied o m.serial small (omega (arith, f.serial)) here l m.entries s) t k o
      ∙ ap (freed_copy o) (applied_copy_lem t k o m.serial (omega arith) (omega (arith, f.serial)) l m.entries (omega (arith, s.size)) f.entries r)

  pub abort_copy : 1 ≤ standing l m → standing l m ≤ 3 → word_of m ≡ 0 → (t : ℕ) → t < shape.objects
      → copy_of (outcome_image l m) t ≡ freed_copy o (copy_of l t)
  abort_copy h j w t k =
      ap (λ (x : List ℕ). copy_of x t) (settled h j ∙ ap (λ (x : List ℕ). released x o) (leaves_all w)) ∙ released_copy l s t k o

  pub decided_sound : Sound (decided l m)
  decided_sound = keeps_decided l m small here f s

  decided_owner : (p : ℕ) → owner_of (decided l m) p ≡ owner_of l p
  unfolding decided
  decided_owner p = either_way (λ (x : List ℕ). owner_of x p ≡ owner_of l p) (eqb (word_of m) 1) _ _ (applied_owner l p o m.serial m.entries) refl

  -- of a commit and of an abort
  pub outcome_owner : 1 ≤ standing l m → standing l m ≤ 3 → (p : ℕ) → p < nodes
      → owner_of (outcome_image l m) p ≡ cond (eqb p o) (restated 0 (owner_of l p)) (owner_of l p)
  outcome_owner h j p k =
      ap (λ (x : List ℕ). owner_of x p) (settled h j) ∙ released_owner (decided l m) (omega (arith, decided_sound.size)) p k o
      ∙ ap (λ (x : Owner). cond (eqb p o) (restated 0 x) x) (decided_owner p)

  -- ---- an early abort: its serial is the last one, with its stamp, over
  pub early : standing l m ≡ 4 → outcome_image l m ≡ with_owner l o m.serial 0 m.stamp
  unfolding outcome_image
  early e = simp e

  pub early_copy : standing l m ≡ 4 → (t : ℕ) → t < shape.objects → copy_of (outcome_image l m) t ≡ copy_of l t
  early_copy e t k = ap (λ (x : List ℕ). copy_of x t) (early e) ∙ owner_copy l s t k o m.serial 0 m.stamp

  pub early_owner : standing l m ≡ 4 → (p : ℕ) → p < nodes
      → owner_of (outcome_image l m) p ≡ cond (eqb p o) (owner_with m.serial 0 m.stamp) (owner_of l p)
  early_owner e p k =
      ap (λ (x : List ℕ). owner_of x p) (early e)
      ∙ owner_owner l (omega (arith, s.size)) p k o m.serial 0 m.stamp (omega (arith, f.serial)) (omega arith) (omega (arith, f.stamp))
