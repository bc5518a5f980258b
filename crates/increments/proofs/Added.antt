-- The amounts of a batch, one after the other: each object is opened to write behind those before it, and given its amount.
use Rattle.std.proofs.Common.{◌≡◌, ℕ, zero, suc, ◌+◌, ◌<◌, ◌≤◌, true, false, cond, eqb, ltb, List, [], ◌∷◌, length, get_or, take, sym, refl, ap, ◌∙◌, subst}
use Rattle.std.proofs.Common.{arith, get_or-set_other, take-suc, get_or-set_same, ltb-false, ltb-true, le-ltb, lt-ltb, eq-eqb, ne_eqb, eqb-true}
use lib.Bits.{or_self}
use lib.Seq.{take-length}
use borrow.Author.Tests.{eqb-false}
use Rattle.numbers.specs.Sizes.{nodes, most_open}
use Rattle.numbers.specs.Sizes.{objects as objectsEnd}
use Rattle.numbers.specs.Refusal.{first_of}
use Rattle.mask.specs.Mask.{joined}
use Rattle.coordinator.specs.declared.Object.{Object}
use Rattle.coordinator.specs.declared.Coordinator.{Coordinator}
use Rattle.coordinator.specs.System.{System}
use Rattle.coordinator.specs.State.{open_phase, no_object, place_of, is_open}
use Rattle.coordinator.specs.Calls.{with_objects, fresh, renewed, open_refusals, opened, open_of, set_of}
use Rattle.coordinator.proofs.Theorems.{taken_after}
use Rattle.clauses.proofs.Parts.{by_test}
use Rattle.clauses.proofs.Places.{at, place_open}
use Rattle.clauses.proofs.Facts.{Meets}
use Rattle.clauses.proofs.Quorums.{Quorums}
use Rattle.clauses.proofs.Keep.{open_keeps, set_keeps}
use Rattle.deeds.proofs.Number.{step_number}
use Rattle.increments.specs.Deeds.{ran, deed_of, edit_of, Amount, amounts, adding}
use Rattle.increments.proofs.Deeds.{adding_last}
use Rattle.increments.proofs.Summed.{below, set_alike, set_elsewhere, set_number, set_taken}

-- an object that is opened to write and has its amount
abbrev pub as_added : ℕ → ℕ → Object
as_added t v = record { object = t; mode = 1; came = 0; version = 0; value = 0; given = true; new = v }

-- ---- one amount
module _ (s : System) (q : Quorums s) (c : Coordinator) (me : ℕ) (m : Meets s c) (phase : c.phase ≡ open_phase) (known : me < nodes) (t v : ℕ)
    (small : t < objectsEnd) (shut : most_open ≤ place_of c t) (room : c.count < most_open) where
  abbrev o : Coordinator
  o = (open_of c me t 1).coordinator

  abbrev e : Coordinator
  e = (set_of (open_of c me t 1).coordinator me t v).coordinator

  pub one_opens : (open_of c me t 1).number ≡ 0
  unfolding open_of open_refusals
  one_opens =
      let a : ltb me nodes ≡ true = lt-ltb me nodes known in
      let b : eqb c.phase open_phase ≡ true = eq-eqb c.phase open_phase phase in
      let d : ltb t objectsEnd ≡ true = lt-ltb t objectsEnd small in
      let f : is_open c t ≡ false = le-ltb (place_of c t) most_open shut in
      let g : ltb c.count most_open ≡ true = lt-ltb c.count most_open room in
      let n : first_of (open_refusals c me t) ≡ 0 = simp (a, b, d, f, g) in
      sym (step_number _ 0 c (opened c t 1)) ∙ n

  is_opened : o ≡ opened c t 1
  unfolding open_of
  is_opened = taken_after (first_of (open_refusals c me t)) 0 c (opened c t 1) one_opens

  meets_opened : Meets s o
  meets_opened = open_keeps s q c me m t 1 (omega arith)

  counted : o.count ≡ c.count + 1
  unfolding opened
  counted = ap (λ (x : Coordinator). x.count) is_opened

  inside : c.count < o.count
  inside = let k = counted in omega arith

  last : at o.objects c.count ≡ fresh t 1
  unfolding opened
  last =
      ap (λ (x : Coordinator). at x.objects c.count) is_opened
      ∙ get_or-set_same c.objects c.count (fresh t 1) no_object (let a = m.sizes.objects_8 in omega arith)

  named : (at o.objects c.count).object ≡ t
  named = ap (λ (x : Object). x.object) last

  open_elsewhere : (j : ℕ) → (j ≡ c.count → ⊥) → at o.objects j ≡ at c.objects j
  unfolding opened
  open_elsewhere j n =
      ap (λ (x : Coordinator). at x.objects j) is_opened ∙ get_or-set_other c.objects c.count j (fresh t 1) no_object n

  open_phase_lem : o.phase ≡ open_phase
  unfolding opened
  open_phase_lem = ap (λ (x : Coordinator). x.phase) is_opened ∙ phase

  -- what is set is the object that was just opened
  abbrev e' : Coordinator
  e' = (set_of o me (at o.objects c.count).object v).coordinator

  same_set : e ≡ e'
  same_set = ap (λ (n : ℕ). (set_of o me n v).coordinator) (sym named)

  pub one_sets : (set_of (open_of c me t 1).coordinator me t v).number ≡ 0
  one_sets =
      ap (λ (n : ℕ). (set_of o me n v).number) (sym named)
      ∙ set_number s o me meets_opened c.count inside v open_phase_lem known (λ z. let w = ap (λ (x : Object). x.mode) last in omega arith)

  pub one_meets : Meets s (set_of (open_of c me t 1).coordinator me t v).coordinator
  one_meets = set_keeps s q o me meets_opened t v

  pub one_alike : (set_of (open_of c me t 1).coordinator me t v).coordinator
      ≡ with_objects c (joined c.contacted c.quorum) (c.count + 1) (set_of (open_of c me t 1).coordinator me t v).coordinator.objects
  unfolding opened
  one_alike =
      same_set ∙ set_alike s o me meets_opened c.count inside v
      ∙ ap (λ (x : Coordinator). with_objects o o.contacted o.count x.objects) (sym same_set)
      ∙ ap (λ (x : Coordinator). with_objects x x.contacted x.count e.objects) is_opened

  pub one_here : at (set_of (open_of c me t 1).coordinator me t v).coordinator.objects c.count ≡ as_added t v
  one_here =
      ap (λ (x : Coordinator). at x.objects c.count) same_set
      ∙ set_taken s o me meets_opened c.count inside v open_phase_lem known
      (λ z. let w = ap (λ (x : Object). x.mode) last in omega arith)
      ∙ ap (λ (x : Object). renewed x v) last

  pub one_elsewhere : (j : ℕ) → (j ≡ c.count → ⊥) → at (set_of (open_of c me t 1).coordinator me t v).coordinator.objects j ≡ at c.objects j
  one_elsewhere j n =
      ap (λ (x : Coordinator). at x.objects j) same_set
      ∙ set_elsewhere s o me meets_opened c.count inside v j n ∙ open_elsewhere j n

-- ---- a list of them, from a transaction that has just begun
abbrev pub amount_at : List Amount → ℕ → Amount
amount_at l j = get_or l j (record { object = 0; grams = 0 })

-- the contacted nodes after the first i
abbrev pub contacted_by : Coordinator → ℕ → ℕ
contacted_by c i = cond (eqb i 0) c.contacted (joined c.contacted c.quorum)

joined_again : (a b : ℕ) → a ≡ 0 → joined (joined a b) b ≡ joined a b
joined_again a b e = ap (λ (n : ℕ). joined (joined n b) b) e ∙ or_self b ∙ ap (λ (n : ℕ). joined n b) (sym e)

contacted_next : (c : Coordinator) (i : ℕ) → c.contacted ≡ 0 → joined (contacted_by c i) c.quorum ≡ contacted_by c (i + 1)
contacted_next c i e =
    let some : eqb (i + 1) 0 ≡ false = ne_eqb (i + 1) 0 (λ z. omega arith) in
    by_test (joined (contacted_by c i) c.quorum ≡ contacted_by c (i + 1)) (eqb i 0) (λ t. simp (t, some))
    (λ t. let g = joined_again c.contacted c.quorum e in simp (t, some) g)

-- what the first i leave
pub record Into (s : System) (c : Coordinator) (l : List Amount) (d : Coordinator) (i : ℕ) : Type 0 where
  pub meets : Meets s d
  pub alike : d ≡ with_objects c (contacted_by c i) i d.objects
  pub placed : (j : ℕ) → j < i → at d.objects j ≡ as_added (amount_at l j).object (amount_at l j).grams

module _ (s : System) (q : Quorums s) (c : Coordinator) (me : ℕ) (m : Meets s c) (phase : c.phase ≡ open_phase) (known : me < nodes)
    (none : c.count ≡ 0) (l : List Amount) (few : length l ≤ most_open) (small : (j : ℕ) → j < length l → (amount_at l j).object < objectsEnd)
    (apart : (i j : ℕ) → i < length l → j < length l → (amount_at l i).object ≡ (amount_at l j).object → i ≡ j) where
  abbrev adds_to : ℕ → Coordinator
  adds_to i = ran s c me (adding (take i l) [])

  adds_next : (i : ℕ) → i < length l
      → adds_to (suc i)
      ≡ (set_of (open_of (adds_to i) me (amount_at l i).object 1).coordinator me (amount_at l i).object (amount_at l i).grams).coordinator
  unfolding ran deed_of edit_of
  adds_next i h =
      ap (λ (a : List Amount). ran s c me (adding a [])) (take-suc l i (record { object = 0; grams = 0 }) h)
      ∙ ap (ran s c me) (adding_last (take i l) (amount_at l i) [])

  -- the next object is not open yet
  shut : (i : ℕ) (d : Coordinator) → i < length l → Into s c l d i → most_open ≤ place_of d (amount_at l i).object
  shut i d h p =
      let t = (amount_at l i).object in
      by_test (most_open ≤ place_of d t) (ltb (place_of d t) most_open)
      (λ b. let w = place_open d.objects d.count t (ltb-true (place_of d t) most_open b) in
      let n : d.count ≡ i = ap (λ (x : Coordinator). x.count) p.alike in
      let k : place_of d t < i = omega (arith, w.0) in
      let same = sym (ap (λ (x : Object). x.object) (p.placed (place_of d t) k)) ∙ w.1.1 in
      let z : place_of d t ≡ i = apart (place_of d t) i (omega arith) h same in
      absurd (omega arith))
      (ltb-false (place_of d t) most_open)

  module _ (i : ℕ) (d : Coordinator) (h : i < length l) (p : Into s c l d i) where
    abbrev a : Amount
    a = amount_at l i

    abbrev b : Coordinator
    b = (set_of (open_of d me (amount_at l i).object 1).coordinator me (amount_at l i).object (amount_at l i).grams).coordinator

    so_many : d.count ≡ i
    so_many = ap (λ (x : Coordinator). x.count) p.alike

    still_open : d.phase ≡ open_phase
    still_open = ap (λ (x : Coordinator). x.phase) p.alike ∙ phase

    room_left : d.count < most_open
    room_left = let n = so_many in omega arith

    alike_next : b ≡ with_objects c (contacted_by c (suc i)) (suc i) b.objects
    alike_next =
        let none_yet : c.contacted ≡ 0 = m.nodes.nobody none in
        let n : i + 1 ≡ suc i = omega arith in
        one_alike s q d me p.meets still_open known a.object a.grams (small i h) (shut i d h p) room_left
        ∙ ap (λ (x : Coordinator). with_objects x (joined x.contacted x.quorum) (x.count + 1) b.objects) p.alike
        ∙ ap (λ (k : ℕ). with_objects c k (i + 1) b.objects) (contacted_next c i none_yet)
        ∙ ap (λ (k : ℕ). with_objects c (contacted_by c k) k b.objects) n

    placed_next : (j : ℕ) → j < suc i → at b.objects j ≡ as_added (amount_at l j).object (amount_at l j).grams
    placed_next j k =
        by_test (at b.objects j ≡ as_added (amount_at l j).object (amount_at l j).grams) (eqb j i)
        (λ t. subst (λ (n : ℕ). at b.objects n ≡ as_added (amount_at l n).object (amount_at l n).grams) (sym (eqb-true j i t))
        (ap (at b.objects) (sym so_many)
        ∙ one_here s q d me p.meets still_open known a.object a.grams (small i h) (shut i d h p) room_left))
        (λ t. one_elsewhere s q d me p.meets still_open known a.object a.grams (small i h) (shut i d h p) room_left j
        (λ z. eqb-false j i t (z ∙ so_many))
        ∙ p.placed j (below j i k (eqb-false j i t)))

    next_into : Into s c l (set_of (open_of d me (amount_at l i).object 1).coordinator me (amount_at l i).object (amount_at l i).grams).coordinator (suc i)
    next_into =
        record {
          meets = one_meets s q d me p.meets still_open known a.object a.grams (small i h) (shut i d h p) room_left;
          alike = alike_next;
          placed = placed_next;
        }

  pub adds_into : (i : ℕ) → i ≤ length l → Into s c l (ran s c me (adding (take i l) [])) i
  unfolding ran adding
  adds_into zero h =
      record {
        meets = m;
        alike = ap (λ (n : ℕ). with_objects c c.contacted n c.objects) none;
        placed = λ j k. absurd (omega arith);
      }
  adds_into (suc i) h =
      subst (λ (d : Coordinator). Into s c l d (suc i)) (sym (adds_next i (omega arith))) (next_into i (adds_to i) (omega arith) (adds_into i (omega arith)))

  -- each is taken
  pub adds_open : (i : ℕ) → i < length l → (open_of (ran s c me (adding (take i l) [])) me (amount_at l i).object 1).number ≡ 0
  adds_open i h =
      let p = adds_into i (omega arith) in
      one_opens s q (adds_to i) me p.meets (still_open i (adds_to i) h p) known (amount_at l i).object (amount_at l i).grams (small i h)
      (shut i (adds_to i) h p) (room_left i (adds_to i) h p)

  pub adds_set : (i : ℕ) → i < length l
      → (set_of (open_of (ran s c me (adding (take i l) [])) me (amount_at l i).object 1).coordinator me (amount_at l i).object (amount_at l i).grams).number
      ≡ 0
  adds_set i h =
      let p = adds_into i (omega arith) in
      one_sets s q (adds_to i) me p.meets (still_open i (adds_to i) h p) known (amount_at l i).object (amount_at l i).grams (small i h)
      (shut i (adds_to i) h p) (room_left i (adds_to i) h p)

  -- ---- all of them
  whole : Into s c l (ran s c me (adding l [])) (length l)
  whole = subst (λ (a : List Amount). Into s c l (ran s c me (adding a [])) (length l)) (take-length l) (adds_into (length l) (omega arith))

  -- every field as begun, but for the contacted nodes, the count and the objects
  pub added_rest : ran s c me (adding l []) ≡ with_objects c (contacted_by c (length l)) (length l) (ran s c me (adding l [])).objects
  added_rest = whole.alike

  pub added_count : (ran s c me (adding l [])).count ≡ length l
  added_count = ap (λ (x : Coordinator). x.count) added_rest

  pub added_object : (j : ℕ) → j < length l → at (ran s c me (adding l [])).objects j ≡ as_added (amount_at l j).object (amount_at l j).grams
  added_object = whole.placed

  pub added_meets : Meets s (ran s c me (adding l []))
  added_meets = whole.meets

-- ---- the amounts of a list of objects
pub amounts_length : (objects grams : List ℕ) → length (amounts objects grams) ≡ length objects
unfolding amounts
amounts_length [] grams = refl
amounts_length (t ∷ l) [] = ap suc (amounts_length l [])
amounts_length (t ∷ l) (g ∷ grams) = ap suc (amounts_length l grams)

pub amounts_at : (objects grams : List ℕ) (j : ℕ) → j < length objects
    → amount_at (amounts objects grams) j ≡ record { object = get_or objects j 0; grams = get_or grams j 0 }
unfolding amounts
amounts_at [] grams j h = absurd (let z : ⊥ = omega arith in z)
amounts_at (t ∷ l) [] zero h = refl
amounts_at (t ∷ l) [] (suc j) h = amounts_at l [] j (omega arith)
amounts_at (t ∷ l) (g ∷ grams) zero h = refl
amounts_at (t ∷ l) (g ∷ grams) (suc j) h = amounts_at l grams j (omega arith)
