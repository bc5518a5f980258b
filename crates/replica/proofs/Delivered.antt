-- A delivery that nothing refuses: what its message and its node are, and that the step's answer is written whole. By cases of the list of refusals.
use mathlib.Core.Path.{◌≡◌, refl, sym, ap, ap₂, subst, ◌∙◌}
use mathlib.Core.Bool.{Bool, true, false, cond, not, ◌&&◌, ◌||◌}
use mathlib.Core.List.{List, [], ◌∷◌, map}
use Prim.Native.Nat.{ℕ, suc, ◌≤◌, ◌<◌}
use native.Mathlib.Omega.{arith}
use borrow.Author.Tests.{le-ltb, ltb-false, eq-eqb, ne_eqb}
use lib.Dec.{eqb, ltb}
use lib.ListN.{length}
use Rattle.numbers.specs.Sizes.{nodes, objects, highest, longest_message}
use Rattle.wire.specs.declared.Entry.{Entry}
use Rattle.letters.specs.declared.Written.{Written}
use Rattle.wire.specs.Message.{Message}
use Rattle.wire.specs.Formed.{counts_ok, names_ok, direction_ok, ascend, every, entry_ok, entries_ok, rivals_ok, well_formed}
use Rattle.wire.specs.Encode.{size_of}
use Rattle.wire.specs.Decode.{kind_of, decode, accepted, check_of}
use Rattle.letters.specs.Write.{written_of, buffer_after}
use Rattle.image.specs.Valid.{check}
use Rattle.replica.specs.declared.Received.{Received}
use Rattle.judge.specs.Standing.{standing, active, entered}
use Rattle.judge.specs.Judge.{votes_no}
use Rattle.replica.specs.Steps.{Answer, silent, says, wanted, copy_here, fetch_answer, judged_answer, ask_answer}
use Rattle.replica.specs.Given.{written_as, filled_by, raisable, Raisable}
use Rattle.replica.specs.Receive.{refusals, refusal, Delivered, step, deliver, length_of, filled, received_of, spoken, speaks}
use Rattle.replica.proofs.Spoken.{false_true, left_true, right_true, Named, named_of, done_formed, vote_formed, copy_formed, wanted_fits, yes_formed}

pub either_way : {A : Type 0} (P : A → Type 0) (t : Bool) (x y : A) → P x → P y → P (cond t x y)
either_way P true x y p q = p
either_way P false x y p q = q

-- ---- nothing refuses
pub past : (t : Bool) (n r : ℕ) → cond t (suc n) r ≡ 0 → (t ≡ false) × (r ≡ 0)
past true n r e = absurd (let z : ⊥ = omega arith in z)
past false n r e = (refl, e)

pub or_neither : (a b : Bool) → (a || b) ≡ false → (a ≡ false) × (b ≡ false)
or_neither true b e = (e, false_true (sym e))
or_neither false b e = (refl, e)

taken_whole : (a c : Bool) → eqb (cond a 1 (cond c 0 3)) 1 ≡ false → eqb (cond a 1 (cond c 0 3)) 3 ≡ false → c ≡ true
taken_whole true c p q = false_true (sym p)
taken_whole false true p q = refl
taken_whole false false p q = false_true (sym q)

accepted_by : (b : List ℕ) → eqb (check_of b) 1 ≡ false → eqb (check_of b) 3 ≡ false → accepted b ≡ true
unfolding check_of
accepted_by b p q = taken_whole (ltb (length b) 15 || ltb longest_message (length b)) (accepted b) p q

formed_by : (b : List ℕ) → accepted b ≡ true → well_formed (decode b) ≡ true
unfolding accepted
formed_by b w = right_true (eqb (length b) (size_of (decode b))) (well_formed (decode b)) w

pub record Cleared (size : ℕ) (me : ℕ) (b : List ℕ) : Type 0 where
  pub room : longest_message ≤ size
  pub node : me < nodes
  pub formed : well_formed (decode b) ≡ true

pub cleared : (size : ℕ) (l : List ℕ) (me : ℕ) (b : List ℕ) → refusal size l me b ≡ 0 → Cleared size me b
unfolding refusal refusals
cleared size l me b e =
    let lengths = eqb (check l) 1 || eqb (check_of b) 1 in
    let a = past (ltb size longest_message || lengths) 0 _ e in
    let d = past (eqb (check l) 2) 1 _ a.1 in
    let g = past (eqb (check_of b) 3) 2 _ d.1 in
    let s = past (ltb 12 me || not (eqb (decode b).to me)) 3 _ g.1 in
    let n = or_neither (ltb size longest_message) lengths a.0 in
    let w = or_neither (eqb (check l) 1) (eqb (check_of b) 1) n.1 in
    let k : me ≤ 12 = ltb-false 12 me (or_neither (ltb 12 me) _ s.0).0 in
    record { room = ltb-false size longest_message n.0; node = omega arith; formed = formed_by b (accepted_by b w.1 g.0) }

-- ---- the versions that a commit raises are below the last
every_then : (p q : Entry → Bool) (es : List Entry) → ((e : Entry) → p e ≡ true → q e ≡ true) → every p es ≡ true → every q es ≡ true
every_then p q [] f w = refl
every_then p q (e ∷ es) f w = ap (λ (t : Bool). t && every q es) (f e (left_true (p e) _ w)) ∙ every_then p q es f (right_true (p e) _ w)

or_cond : (t x y : Bool) → cond t x y ≡ true → (t || y) ≡ true
or_cond true x y w = refl
or_cond false x y w = w

raises : (e : Entry) → entry_ok 5 e ≡ true → raisable e ≡ true
unfolding entry_ok
raises e w =
    let c = right_true (ltb e.mode 2) _ (right_true (ltb e.object objects) _ w) in
    or_cond (eqb e.mode 0) (eqb e.value 0) (ltb e.version highest) c

pub entries_of_lem : (m : Message) → well_formed m ≡ true → every (entry_ok m.kind) m.entries ≡ true
unfolding well_formed entries_ok
entries_of_lem m w =
    let d = right_true (names_ok m) _ (right_true (counts_ok m.kind _ _ _ _) _ w) in
    let e = left_true (entries_ok m) (rivals_ok m) (right_true (direction_ok m) _ d) in
    right_true (ascend 0 (map (λ (e : Entry). e.object) m.entries)) _ e

pub commit_raises : (m : Message) → well_formed m ≡ true → m.kind ≡ 5 → Raisable m
commit_raises m w e =
    every_then (entry_ok 5) raisable m.entries raises (subst (λ (k : ℕ). every (entry_ok k) m.entries ≡ true) e (entries_of_lem m w))

-- ---- every answer is well formed
abbrev pub Fine : Answer → Type 0
Fine silent = Unit {0}
Fine (says m) = well_formed m ≡ true

module _ (me : ℕ) (l : List ℕ) (m : Message) (n : Named me m) where
  fetch_fine : every (entry_ok m.kind) m.entries ≡ true → Fine (fetch_answer me l m)
  unfolding fetch_answer copy_here
  fetch_fine w =
      let f = wanted_fits m.kind m.entries w in
      either_way Fine (active l m) _ _ (copy_formed me m n (copy_here l (wanted m)) f.0 f.1) tt

  ask_fine : Fine (ask_answer me l m)
  unfolding ask_answer judged_answer
  ask_fine =
      either_way Fine (active l m) _ _
      (either_way Fine (votes_no (entered l m) m) _ _ (vote_formed me m n 0 refl) (yes_formed me m (entered l m) n))
      (either_way Fine (eqb (standing l m) 2) _ _ (vote_formed me m n 1 refl)
      (either_way Fine (eqb (standing l m) 3) _ _ (vote_formed me m n 0 refl) tt))

  pub step_fine : every (entry_ok m.kind) m.entries ≡ true → Fine (step l me m).answer × ((step l me m).number ≡ 0)
  unfolding step
  step_fine w =
      let P : Delivered → Type 0 = λ d. Fine d.answer × (d.number ≡ 0) in
      either_way P (eqb m.kind 1) _ _ (fetch_fine w, refl)
      (either_way P (eqb m.kind 3) _ _ (ask_fine, refl) (either_way P (eqb m.kind 5) _ _ (done_formed me m n, refl) (tt, refl)))

-- ---- so it is written whole
whole_written : (size : ℕ) (a : Answer) → longest_message ≤ size → Fine a → written_as size a ≡ record { number = 0; length = length_of a }
unfolding written_as length_of written_of
whole_written size silent h f = refl
whole_written size (says m) h f = simp (le-ltb size longest_message h, f)

whole_filled : (a : Answer) (out : List ℕ) → longest_message ≤ length out → Fine a → filled_by a out ≡ filled a out
unfolding filled_by filled buffer_after
whole_filled silent out h f = refl
whole_filled (says m) out h f = simp (le-ltb (length out) longest_message h, f)

made_received : {a b : Received} → a.number ≡ b.number → a.length ≡ b.length → a ≡ b
made_received p q i = record { number = p i; length = q i }

-- ---- a delivery, refused or not
pub refused_is : (size : ℕ) (l : List ℕ) (me : ℕ) (b : List ℕ) → (refusal size l me b ≡ 0 → ⊥)
    → deliver size l me b ≡ record { number = refusal size l me b; image = l; answer = silent }
unfolding deliver
refused_is size l me b h = simp (ne_eqb (refusal size l me b) 0 h)

pub delivered_is : (size : ℕ) (l : List ℕ) (me : ℕ) (b : List ℕ) → refusal size l me b ≡ 0 → deliver size l me b ≡ step l me (decode b)
unfolding deliver
delivered_is size l me b h = simp (eq-eqb (refusal size l me b) 0 h)

module _ (l : List ℕ) (me : ℕ) (b out : List ℕ) (e : refusal (length out) l me b ≡ 0) where
  fine : Fine (step l me (decode b)).answer × ((step l me (decode b)).number ≡ 0)
  fine =
      let k = cleared (length out) l me b e in
      step_fine me l (decode b) (named_of me (decode b) k.node k.formed) (entries_of_lem (decode b) k.formed)

  pub received_is : (w : Written) → w ≡ written_as (length out) (step l me (decode b)).answer
      → record { number = w.number; length = w.length } ≡ received_of (deliver (length out) l me b)
  received_is w f =
      let d = delivered_is (length out) l me b e in
      let k = f ∙ whole_written (length out) (step l me (decode b)).answer (cleared (length out) l me b e).room fine.0 in
      made_received (ap (λ (x : Written). x.number) k ∙ sym fine.1 ∙ ap (λ (x : Delivered). x.number) (sym d))
      (ap (λ (x : Written). x.length) k ∙ ap (λ (x : Delivered). length_of x.answer) (sym d))

  pub image_is : (step l me (decode b)).image ≡ (deliver (length out) l me b).image
  image_is = ap (λ (x : Delivered). x.image) (sym (delivered_is (length out) l me b e))

  pub buffer_is : filled_by (step l me (decode b)).answer out ≡ filled (deliver (length out) l me b).answer out
  buffer_is =
      whole_filled (step l me (decode b)).answer out (cleared (length out) l me b e).room fine.0
      ∙ ap (λ (x : Delivered). filled x.answer out) (sym (delivered_is (length out) l me b e))

  pub raises_is : kind_of b ≡ 5 → Raisable (decode b)
  unfolding decode
  raises_is k = commit_raises (decode b) (cleared (length out) l me b e).formed k

-- ---- whether there is an answer
spoken_if : (t : Bool) (x y : Answer) → spoken (cond t x y) ≡ cond t (spoken x) (spoken y)
spoken_if true x y = refl
spoken_if false x y = refl

cond_self : (t : Bool) → cond t true false ≡ t
cond_self true = refl
cond_self false = refl

either_of : (t u v : Bool) → cond t true (cond u true (cond v true false)) ≡ (t || (u || v))
either_of true u v = refl
either_of false true v = refl
either_of false false true = refl
either_of false false false = refl

fetch_speaks : (me : ℕ) (l : List ℕ) (m : Message) → spoken (fetch_answer me l m) ≡ active l m
unfolding fetch_answer spoken
fetch_speaks me l m = spoken_if (active l m) _ silent ∙ cond_self (active l m)

judged_speaks : (me : ℕ) (l : List ℕ) (m : Message) → spoken (judged_answer me l m) ≡ true
unfolding judged_answer spoken
judged_speaks me l m = either_way (λ (a : Answer). spoken a ≡ true) (votes_no l m) _ _ refl refl

ask_speaks : (me : ℕ) (l : List ℕ) (m : Message) → spoken (ask_answer me l m) ≡ (active l m || (eqb (standing l m) 2 || eqb (standing l m) 3))
unfolding ask_answer spoken
ask_speaks me l m =
    spoken_if (active l m) _ _
    ∙ ap₂ (λ (x y : Bool). cond (active l m) x y) (judged_speaks me (entered l m) m)
    (spoken_if (eqb (standing l m) 2) _ _ ∙ ap (λ (x : Bool). cond (eqb (standing l m) 2) true x) (spoken_if (eqb (standing l m) 3) _ silent))
    ∙ either_of (active l m) (eqb (standing l m) 2) (eqb (standing l m) 3)

by_kind : (t u v : Bool) (d e f g : Delivered) (x y : Bool) → spoken d.answer ≡ x → spoken e.answer ≡ y → spoken f.answer ≡ true
    → spoken g.answer ≡ false → spoken (cond t d (cond u e (cond v f g))).answer ≡ cond t x (cond u y v)
by_kind true u v d e f g x y p q r s = p
by_kind false true v d e f g x y p q r s = q
by_kind false false true d e f g x y p q r s = r
by_kind false false false d e f g x y p q r s = s

step_speaks : (l : List ℕ) (me : ℕ) (m : Message) → spoken (step l me m).answer ≡ speaks l m
unfolding step speaks spoken
step_speaks l me m = by_kind (eqb m.kind 1) (eqb m.kind 3) (eqb m.kind 5) _ _ _ _ _ _ (fetch_speaks me l m) (ask_speaks me l m) refl refl

unless_refused : (t : Bool) (d : Delivered) (n : ℕ) (l : List ℕ)
    → spoken (cond t d (record { number = n; image = l; answer = silent })).answer ≡ (t && spoken d.answer)
unfolding spoken
unless_refused true d n l = refl
unless_refused false d n l = refl

pub spoken_is : (size : ℕ) (l : List ℕ) (me : ℕ) (b : List ℕ)
    → (eqb (refusal size l me b) 0 && speaks l (decode b)) ≡ spoken (deliver size l me b).answer
unfolding deliver
spoken_is size l me b =
    sym (unless_refused (eqb (refusal size l me b) 0) (step l me (decode b)) (refusal size l me b) l
    ∙ ap (◌&&◌ (eqb (refusal size l me b) 0)) (step_speaks l me (decode b)))
