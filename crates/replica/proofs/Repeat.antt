-- A message that was just taken, once more: it is taken again and changes nothing. By how it stands after its own step.
use mathlib.Core.Path.{◌≡◌, refl, sym, ap, ap₂, ◌∙◌}
use mathlib.Core.Bool.{Bool, true, false, cond, not, ◌||◌}
use mathlib.Core.Logic.{◌⊎◌, inl, inr, ⊎_elim}
use mathlib.Core.List.{List, [], ◌∷◌}
use Prim.Native.Nat.{ℕ, max, ◌^◌, ◌<◌}
use native.Mathlib.Omega.{arith}
use borrow.Author.Tests.{eq-eqb, ltb-true, le-ltb}
use lib.Bits.{bit_or}
use lib.Dec.{T, eqb, ltb}
use Rattle.numbers.specs.Sizes.{nodes, objects, longest_message}
use Rattle.numbers.specs.Refusal.{refuse, first_of}
use Rattle.octets.proofs.Laws.{Bytes}
use Rattle.mask.specs.Mask.{bit, only}
use Rattle.mask.proofs.Laws.{bit_joined, ext}
use Rattle.wire.specs.declared.Entry.{Entry}
use Rattle.wire.specs.Message.{Message}
use Rattle.wire.specs.Formed.{word_of}
use Rattle.wire.specs.Decode.{decode, check_of}
use Rattle.image.specs.declared.Field.{Field}
use Rattle.image.specs.declared.Owner.{Owner}
use Rattle.image.specs.Field.{field_of, with_field, changed}
use Rattle.image.specs.Layout.{shape, readers_field, writers_field, serial, state, readers, writers, owner_of}
use Rattle.image.specs.Change.{listing, add_reader, add_writer}
use Rattle.image.proofs.Lens.{inside, Holds, with_with, of_with}
use Rattle.image.specs.Valid.{check}
use Rattle.image.proofs.Sound.{Sound, sound_check}
use Rattle.image.proofs.Keep.{listing_small}
use Rattle.image.proofs.Whole.{list_small}
use Rattle.judge.specs.Standing.{standing, active, entered}
use Rattle.judge.specs.Judge.{votes_no}
use Rattle.replica.specs.Steps.{wanted, joins, fetch_image, ask_image, outcome_image}
use Rattle.replica.specs.Receive.{outcome_wrong_turn, wrong_turn, refusals, refusal, Delivered, step, deliver}
use Rattle.replica.proofs.Spoken.{wanted_fits}
use Rattle.replica.proofs.Delivered.{entries_of_lem, delivered_is}
use Rattle.replica.proofs.Fields.{restated, owner_with}
use Rattle.replica.proofs.Kept.{keeps_entered, keeps_step}
use Rattle.replica.proofs.Late.{late_outcome}
use Rattle.replica.proofs.After.{listed_owner, here_last, step_fetch, step_ask, step_outcome}
use Rattle.replica.proofs.After.{fetch_owner, no_owner, yes_owner, outcome_owner, early_owner}
use Rattle.replica.proofs.Taken.{Taken, taken, by_kind, fetch_still, ask_still, outcome_cases}

-- ---- an owner that joins a list twice
max_twice : (a b : ℕ) → max (max a b) b ≡ max a b
max_twice a b = omega arith

listed_twice : (o m : ℕ) → listing o (listing o m) ≡ listing o m
listed_twice o m =
    ext (listing o (listing o m)) (listing o m) (λ i.
    bit_joined (bit_or m (only o)) (only o) i ∙ ap (λ (x : ℕ). max x (bit (only o) i)) (bit_joined m (only o) i)
    ∙ max_twice (bit m i) (bit (only o) i) ∙ sym (bit_joined m (only o) i))

changed_twice : (f : Field) (g : ℕ → ℕ) (l : List ℕ) (i : ℕ) → ((v : ℕ) → g (g v) ≡ g v) → T (inside f) → Holds f l → i < f.items
    → g (field_of f l i) < 256 ^ f.width → changed f g (changed f g l i) i ≡ changed f g l i
changed_twice f g l i twice t fit h small =
    let v = g (field_of f l i) in
    ap (λ (x : ℕ). with_field f (with_field f l i v) i (g x)) (of_with f l i v t fit h small)
    ∙ ap (with_field f (with_field f l i v) i) (twice (field_of f l i)) ∙ with_with f l i v v

module _ (l : List ℕ) (s : Sound l) (x : ℕ) (h : x < shape.objects) (o : ℕ) (small : o < nodes) where
  joins_by : (b : Bool)
      → cond b (add_reader (cond b (add_reader l x o) (add_writer l x o)) x o) (add_writer (cond b (add_reader l x o) (add_writer l x o)) x o)
      ≡ cond b (add_reader l x o) (add_writer l x o)
  joins_by true =
      changed_twice (readers_field shape) (listing o) l x (listed_twice o) tt (omega (arith, s.size)) h
      (listing_small (readers l x) o (list_small (state l) (readers l x) (s.clauses.copies_sound x h).reading) small)
  joins_by false =
      changed_twice (writers_field shape) (listing o) l x (listed_twice o) tt (omega (arith, s.size)) h
      (listing_small (writers l x) o (list_small (state l) (writers l x) (s.clauses.copies_sound x h).writing) small)

joins_twice : (l : List ℕ) → Sound l → (e : Entry) → e.object < shape.objects → (o : ℕ) → o < nodes → joins (joins l o e) o e ≡ joins l o e
joins_twice l s e h o small = joins_by l s e.object h o small (eqb e.mode 0)

-- ---- a message of the last serial stands as its owner's state
standing_last : (n : List ℕ) (m : Message) → serial n m.owner ≡ m.serial → standing n m ≡ state n m.owner
unfolding standing
standing_last n m e =
    let a : ltb (serial n m.owner) m.serial ≡ false = le-ltb (serial n m.owner) m.serial (omega arith) in
    let b : eqb (serial n m.owner) m.serial ≡ true = eq-eqb (serial n m.owner) m.serial e in
    simp (a, b)

-- a late outcome is in turn
late_fits : (word : ℕ) → outcome_wrong_turn word 0 ≡ false
unfolding outcome_wrong_turn
late_fits word = by (eqb word 1)
  where
    by : (b : Bool) → cond b (not (eqb 0 0 || eqb 0 2)) (eqb 0 5) ≡ false
    by true = refl
    by false = refl

-- ---- after its own step
module _ (l : List ℕ) (m : Message) (k : Taken l m) where
  abbrev o : ℕ
  o = m.owner

  -- the owner then, read at its own place
  own : (n : List ℕ) (w x : Owner) → owner_of n o ≡ cond (eqb o o) w x → (serial n o ≡ w.serial) × (state n o ≡ w.state)
  unfolding owner_of
  own n w x e =
      let q : owner_of n o ≡ w = e ∙ ap (λ (b : Bool). cond b w x) (eq-eqb o o refl) in
      (ap (λ (y : Owner). y.serial) q, ap (λ (y : Owner). y.state) q)

  stands : (n : List ℕ) (w x : Owner) → owner_of n o ≡ cond (eqb o o) w x → w.serial ≡ m.serial → standing n m ≡ w.state
  stands n w x e s = let r = own n w x e in standing_last n m (r.0 ∙ s) ∙ r.1

  -- a fetch is listed; an ask is held or refused; an outcome is late
  fetch_stands : active l m ≡ true → standing (fetch_image l m) m ≡ 1
  fetch_stands a =
      stands (fetch_image l m) (listed_owner l m) (owner_of l o)
      (fetch_owner l m k.sound k.owner k.serial k.stamp k.fits a o k.owner) refl

  ask_stands : active l m ≡ true → (standing (ask_image l m) m ≡ 2) ⊎ (standing (ask_image l m) m ≡ 3)
  ask_stands a = by (votes_no (entered l m) m) refl
    where
      by : (v : Bool) → votes_no (entered l m) m ≡ v → (standing (ask_image l m) m ≡ 2) ⊎ (standing (ask_image l m) m ≡ 3)
      by true v =
          inr (stands (ask_image l m) (restated 3 (listed_owner l m)) (owner_of l o)
          (no_owner l m k.sound k.owner k.serial k.stamp k.fits a v o k.owner) refl)
      by false v =
          inl (stands (ask_image l m) (restated 2 (listed_owner l m)) (owner_of l o)
          (yes_owner l m k.sound k.owner k.serial k.stamp k.fits a v o k.owner) refl)

  outcome_stands : m.kind ≡ 5 → standing (outcome_image l m) m ≡ 0
  unfolding owner_of
  outcome_stands e =
      ⊎_elim (λ (z : standing l m ≡ 0). ap (λ (n : List ℕ). standing n m) (late_outcome l m z) ∙ z)
      (λ x. ⊎_elim
      (λ (z : standing l m ≡ 4). stands (outcome_image l m) (owner_with m.serial 0 m.stamp) (owner_of l o)
      (early_owner l m k.sound k.owner k.serial k.stamp k.fits z o k.owner) refl)
      (λ z. stands (outcome_image l m) (restated 0 (owner_of l o)) (owner_of l o)
      (outcome_owner l m k.sound k.owner k.serial k.stamp k.fits z.0 z.1 o k.owner)
      (here_last l m z.0 z.1).0)
      x)
      (outcome_cases l m k e)

  -- ---- so a second time it changes nothing
  listed_again : (n : List ℕ) → standing n m ≡ 1 → fetch_image n m ≡ joins n o (wanted m)
  unfolding fetch_image active entered
  listed_again n e = simp e

  joined_once : active l m ≡ true → fetch_image l m ≡ joins (entered l m) o (wanted m)
  unfolding fetch_image
  joined_once a = simp a

  fetch_again : fetch_image (fetch_image l m) m ≡ fetch_image l m
  fetch_again = by (active l m) refl
    where
      by : (a : Bool) → active l m ≡ a → fetch_image (fetch_image l m) m ≡ fetch_image l m
      by true a =
          let sound = (keeps_entered l m k.sound k.owner k.serial k.stamp k.fits a).0 in
          let there = ltb-true (wanted m).object objects (wanted_fits m.kind m.entries (entries_of_lem m k.formed)).0 in
          listed_again (fetch_image l m) (fetch_stands a) ∙ ap (λ (n : List ℕ). joins n o (wanted m)) (joined_once a)
          ∙ joins_twice (entered l m) sound (wanted m) there o k.owner ∙ sym (joined_once a)
      by false a = ap (λ (n : List ℕ). fetch_image n m) (fetch_still l m a)

  settled_ask : (n : List ℕ) → (standing n m ≡ 2) ⊎ (standing n m ≡ 3) → active n m ≡ false
  unfolding active
  settled_ask n c =
      ⊎_elim (λ (e : standing n m ≡ 2). ap (λ (s : ℕ). eqb s 1 || eqb s 4) e) (λ e. ap (λ (s : ℕ). eqb s 1 || eqb s 4) e) c

  ask_again : ask_image (ask_image l m) m ≡ ask_image l m
  ask_again = by (active l m) refl
    where
      by : (a : Bool) → active l m ≡ a → ask_image (ask_image l m) m ≡ ask_image l m
      by true a = ask_still (ask_image l m) m (settled_ask (ask_image l m) (ask_stands a))
      by false a = ap (λ (n : List ℕ). ask_image n m) (ask_still l m a)

  pub repeat_nothing : (me : ℕ) → (step (step l me m).image me m).image ≡ (step l me m).image
  repeat_nothing me =
      by_kind (λ (x : List ℕ). (step x me m).image ≡ x) l me m k (λ e. step_fetch (fetch_image l m) me m e ∙ fetch_again)
      (λ e. step_ask (ask_image l m) me m e ∙ ask_again)
      (λ e. step_outcome (outcome_image l m) me m e ∙ late_outcome (outcome_image l m) m (outcome_stands e))

  -- ---- and nothing refuses it
  turn_listed : (n : List ℕ) → (m.kind ≡ 1) ⊎ (m.kind ≡ 3) → eqb (standing n m) 5 ≡ false → wrong_turn n m ≡ false
  unfolding wrong_turn
  turn_listed n c w =
      ⊎_elim (λ (e : m.kind ≡ 1). let p = eq-eqb m.kind 1 e in simp p w)
      (λ e.
      let p : eqb m.kind 1 ≡ false = ap (λ (x : ℕ). eqb x 1) e in
      let q = eq-eqb m.kind 3 e in
      simp (p, q) w)
      c

  turn_late : (n : List ℕ) → m.kind ≡ 5 → standing n m ≡ 0 → wrong_turn n m ≡ false
  unfolding wrong_turn
  turn_late n e z =
      let p : eqb m.kind 1 ≡ false = ap (λ (x : ℕ). eqb x 1) e in
      let q : eqb m.kind 3 ≡ false = ap (λ (x : ℕ). eqb x 3) e in
      let r = eq-eqb m.kind 5 e in
      simp (p, q, r) (ap (outcome_wrong_turn (word_of m)) z ∙ late_fits (word_of m))

  fetch_turn : m.kind ≡ 1 → wrong_turn (fetch_image l m) m ≡ false
  fetch_turn e = by (active l m) refl
    where
      by : (a : Bool) → active l m ≡ a → wrong_turn (fetch_image l m) m ≡ false
      by true a = turn_listed (fetch_image l m) (inl e) (ap (λ (s : ℕ). eqb s 5) (fetch_stands a))
      by false a = ap (λ (n : List ℕ). wrong_turn n m) (fetch_still l m a) ∙ k.turn

  ask_turn : m.kind ≡ 3 → wrong_turn (ask_image l m) m ≡ false
  ask_turn e = by (active l m) refl
    where
      by : (a : Bool) → active l m ≡ a → wrong_turn (ask_image l m) m ≡ false
      by true a =
          turn_listed (ask_image l m) (inr e)
          (⊎_elim (λ (z : standing (ask_image l m) m ≡ 2). ap (λ (s : ℕ). eqb s 5) z) (λ z. ap (λ (s : ℕ). eqb s 5) z) (ask_stands a))
      by false a = ap (λ (n : List ℕ). wrong_turn n m) (ask_still l m a) ∙ k.turn

  pub taken_again : (me : ℕ) → Taken (step l me m).image m
  taken_again me =
      record {
        sound = keeps_step l m k.sound k.owner k.serial k.stamp k.fits me;
        owner = k.owner;
        serial = k.serial;
        stamp = k.stamp;
        fits = k.fits;
        formed = k.formed;
        turn = by_kind (λ (x : List ℕ). wrong_turn x m ≡ false) l me m k fetch_turn ask_turn (λ e. turn_late (outcome_image l m) e (outcome_stands e));
      }

-- ---- the same of bytes: delivered twice, a message has no number, and the image stays as the first delivery left it
same_refusal : (size : ℕ) (l n : List ℕ) (me : ℕ) (b : List ℕ) → check n ≡ check l → wrong_turn n (decode b) ≡ wrong_turn l (decode b)
    → refusal size n me b ≡ refusal size l me b
unfolding refusal refusals
same_refusal size l n me b c t =
    ap₂ (λ (x : ℕ) (y : Bool). first_of (
    refuse 1 (ltb size longest_message || (eqb x 1 || eqb (check_of b) 1))
    ∷ refuse 2 (eqb x 2)
    ∷ refuse 3 (eqb (check_of b) 3)
    ∷ refuse 4 (ltb 12 me || not (eqb (decode b).to me))
    ∷ refuse 5 y
    ∷ []
    ))
    c t

pub repeat_delivered : (size : ℕ) (l : List ℕ) (me : ℕ) (b : List ℕ) → Bytes b → refusal size l me b ≡ 0
    → (refusal size (deliver size l me b).image me b ≡ 0)
    × ((deliver size (deliver size l me b).image me b).image ≡ (deliver size l me b).image)
repeat_delivered size l me b y e =
    let m = decode b in
    let k = taken size l me b y e in
    let n = (step l me m).image in
    let first : (deliver size l me b).image ≡ n = ap (λ (d : Delivered). d.image) (delivered_is size l me b e) in
    let j = taken_again l m k me in
    let r : refusal size n me b ≡ 0 =
    same_refusal size l n me b (sound_check n j.sound ∙ sym (sound_check l k.sound)) (j.turn ∙ sym k.turn) ∙ e in (
      ap (λ (x : List ℕ). refusal size x me b) first ∙ r,
      ap (λ (x : List ℕ). (deliver size x me b).image) first ∙ ap (λ (d : Delivered). d.image) (delivered_is size n me b r)
          ∙ repeat_nothing l m k me ∙ sym first,
    )
