-- A late fetch or ask changes nothing and gets no answer; and only a commit changes values and versions. By the fields that each change leaves alone.
use mathlib.Core.Path.{◌≡◌, refl, ap, ◌∙◌}
use mathlib.Core.Bool.{false, cond, ◌||◌}
use mathlib.Core.List.{List}
use Prim.Native.Nat.{ℕ}
use lib.Dec.{T, eqb}
use Rattle.wire.specs.Message.{Message}
use Rattle.wire.specs.Formed.{word_of}
use Rattle.wire.specs.Decode.{decode}
use Rattle.image.specs.declared.Field.{Field}
use Rattle.image.specs.Field.{field_of}
use Rattle.image.specs.Layout.{shape, value_field, version_field, holder_field, readers_field, writers_field, serial_field, state_field, stamp_field}
use Rattle.image.specs.Layout.{value, version}
use Rattle.image.proofs.Lens.{apart, of_with_apart}
use Rattle.judge.specs.Standing.{standing, active, entered}
use Rattle.judge.specs.Judge.{votes_no}
use Rattle.replica.specs.Steps.{silent, wanted, fetch_image, fetch_answer, leaves, judged_image, ask_image, ask_answer}
use Rattle.replica.specs.Steps.{applied, decided, outcome_image}
use Rattle.replica.specs.Receive.{refusal, Delivered, step, deliver}
use Rattle.replica.proofs.Delivered.{either_way}
use Rattle.replica.proofs.Fields.{owner_apart, leaves_apart, released_apart, holding_apart}

-- ---- late
module _ (l : List ℕ) (m : Message) (late : standing l m ≡ 0) where
  not_active : active l m ≡ false
  unfolding active
  not_active = ap (λ (s : ℕ). eqb s 1 || eqb s 4) late

  pub late_fetch : (me : ℕ) → (fetch_image l m ≡ l) × (fetch_answer me l m ≡ silent)
  unfolding fetch_image fetch_answer
  late_fetch me = (simp not_active, simp not_active)

  pub late_ask : (me : ℕ) → (ask_image l m ≡ l) × (ask_answer me l m ≡ silent)
  unfolding ask_image ask_answer
  late_ask me = (simp not_active, simp (not_active, late))

  pub late_outcome : outcome_image l m ≡ l
  unfolding outcome_image
  late_outcome = simp late

-- ---- a field of a copy that only a commit writes: the value or the version
abbrev pub Apart : Field → Type 0
Apart f =
    T (apart (holder_field shape) f) × T (apart (readers_field shape) f) × T (apart (writers_field shape) f) × T (apart (serial_field shape) f)
    × T (apart (state_field shape) f) × T (apart (stamp_field shape) f)

module _ (f : Field) (a : Apart f) (t : ℕ) where
  same_leaves : (l : List ℕ) (o st : ℕ) → field_of f (leaves l o st) t ≡ field_of f l t
  same_leaves = leaves_apart f t a.1 a.2 a.4

  module _ (l : List ℕ) (m : Message) where
    same_entered : field_of f (entered l m) t ≡ field_of f l t
    unfolding entered
    same_entered =
        either_way (λ (n : List ℕ). field_of f n t ≡ field_of f l t) (eqb (standing l m) 4) _ _
        (owner_apart f t a.3 a.4 a.5 l m.owner m.serial 1 m.stamp) refl

    pub same_fetch : field_of f (fetch_image l m) t ≡ field_of f l t
    unfolding fetch_image
    same_fetch =
        let P : List ℕ → Type 0 = λ n. field_of f n t ≡ field_of f l t in
        let e = wanted m in
        either_way P (active l m) _ _
        (either_way P (eqb e.mode 0) _ _ (of_with_apart (readers_field shape) f (entered l m) e.object t _ a.1 ∙ same_entered)
        (of_with_apart (writers_field shape) f (entered l m) e.object t _ a.2 ∙ same_entered))
        refl

    pub same_ask : field_of f (ask_image l m) t ≡ field_of f l t
    unfolding ask_image judged_image
    same_ask =
        let P : List ℕ → Type 0 = λ n. field_of f n t ≡ field_of f l t in
        let n = entered l m in
        let o = m.owner in
        either_way P (active l m) _ _
        (either_way P (votes_no n m) _ _ (same_leaves n o 3 ∙ same_entered)
        (holding_apart f t a.0 (leaves n o 2) o m.entries ∙ same_leaves n o 2 ∙ same_entered))
        refl

    -- an abort
    pub same_abort : word_of m ≡ 0 → field_of f (outcome_image l m) t ≡ field_of f l t
    unfolding outcome_image decided
    same_abort w =
        let P : List ℕ → Type 0 = λ n. field_of f n t ≡ field_of f l t in
        let d : decided l m ≡ l = ap (λ (k : ℕ). cond (eqb k 1) (applied l m.owner m.serial m.entries) l) w in
        either_way P (eqb (standing l m) 0) _ _ refl
        (either_way P (eqb (standing l m) 4) _ _ (owner_apart f t a.3 a.4 a.5 l m.owner m.serial 0 m.stamp)
        (released_apart f t a.0 a.1 a.2 a.4 (decided l m) m.owner ∙ ap (λ (n : List ℕ). field_of f n t) d))

-- ---- the value and the version are such fields
pub value_apart : Apart (value_field shape)
value_apart = (tt, tt, tt, tt, tt, tt)

pub version_apart : Apart (version_field shape)
version_apart = (tt, tt, tt, tt, tt, tt)

-- ---- the same of a whole delivery
module _ (size : ℕ) (l : List ℕ) (me : ℕ) (b : List ℕ) where
  -- the image of a delivery is the image before, or that of the kind's step
  by_step : (P : Delivered → Type 0) → P (step l me (decode b)) → ((n : ℕ) → P (record { number = n; image = l; answer = silent }))
      → P (deliver size l me b)
  unfolding deliver
  by_step P p q = either_way P (eqb (refusal size l me b) 0) _ _ p (q (refusal size l me b))

  -- a late fetch or ask: whatever its number, the image is as it was and nothing is answered
  pub late_nothing : standing l (decode b) ≡ 0 → eqb (decode b).kind 5 ≡ false → ((deliver size l me b).image ≡ l) × ((deliver size l me b).answer ≡ silent)
  unfolding step
  late_nothing late k =
      let m = decode b in
      let P : Delivered → Type 0 = λ d. (d.image ≡ l) × (d.answer ≡ silent) in
      by_step P
      (either_way P (eqb m.kind 1) _ _ (late_fetch l m late me)
      (either_way P (eqb m.kind 3) _ _ (late_ask l m late me) (simp k (refl, refl))))
      (λ n. (refl, refl))

  -- a delivery that is no commit leaves every value and every version
  no_commit : (f : Field) → Apart f → (t : ℕ) → word_of (decode b) ≡ 0 → field_of f (deliver size l me b).image t ≡ field_of f l t
  unfolding step
  no_commit f a t w =
      let m = decode b in
      let P : Delivered → Type 0 = λ d. field_of f d.image t ≡ field_of f l t in
      by_step P
      (either_way P (eqb m.kind 1) _ _ (same_fetch f a t l m)
      (either_way P (eqb m.kind 3) _ _ (same_ask f a t l m) (either_way P (eqb m.kind 5) _ _ (same_abort f a t l m w) refl)))
      (λ n. refl)

  pub only_commits : word_of (decode b) ≡ 0 → (t : ℕ)
      → (value (deliver size l me b).image t ≡ value l t) × (version (deliver size l me b).image t ≡ version l t)
  only_commits w t = (no_commit (value_field shape) value_apart t w, no_commit (version_field shape) version_apart t w)
