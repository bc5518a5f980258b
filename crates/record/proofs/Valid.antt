-- The check of bytes tests what the clauses ask: place by place, and with what each object must be for votes taken into the same pass.
use mathlib.Core.Path.{◌≡◌, refl, sym, ap, ◌∙◌, subst}
use mathlib.Core.Bool.{Bool, true, false, cond, not, ◌&&◌, ◌||◌}
use mathlib.Core.List.{List}
use Prim.Native.Nat.{ℕ, zero, suc, ◌+◌, ◌*◌, ◌-◌, ◌/◌, ◌<◌, ◌≤◌}
use native.Mathlib.Numerals.{add-one}
use native.Mathlib.Omega.{arith}
use borrow.Author.Count.{below_more}
use borrow.Author.Tests.{ne_eqb, ltb-false, eqb-false}
use lib.Dec.{T, eqb, ltb, leb, eqb→eq, ltb→lt, lt→ltb, leb→le, le→leb, nltb→le, T_not, not_T}
use lib.ListN.{length, get_or, take, drop}
use lib.Seq.{get_or-take, get_or-drop}
use Rattle.std.specs.List.{list_all, range_with_len}
use Rattle.numbers.specs.Sizes.{nodes, every_node, most_open, highest}
use Rattle.mask.specs.Mask.{within}
use Rattle.mask.proofs.Tests.{same_test, and_both, and_left, and_right, or_left, or_right, or_cases, compared}
use Rattle.octets.specs.Octets.{get}
use Rattle.octets.proofs.Laws.{get_ext, get_drop}
use Rattle.wire.proofs.Accepted.{length_items}
use Rattle.coordinator.specs.declared.Object.{Object}
use Rattle.coordinator.specs.declared.Coordinator.{Coordinator}
use Rattle.coordinator.specs.System.{tree}
use Rattle.coordinator.specs.State.{no_object, across, place_in, settled, all_settled, any_used_up}
use Rattle.clauses.specs.Clauses.{zeros, object_meets, object_blank, place_meets, and_meets, objects_meet, numbers_meet, nodes_meet}
use Rattle.clauses.specs.Clauses.{party_full, party_meets, votes_meet, dones_meet, meets}
use Rattle.clauses.proofs.Parts.{eq-T, true-T, T_false, false-T, cond_first, cond_second, cond_in, by_test, neither_left, neither_right}
use Rattle.clauses.proofs.Places.{at, across_at, across_all, across_none, none_across, Once, place_at, at_place}
use Rattle.clauses.proofs.Facts.{two_in, sized_meets}
use Rattle.record.specs.Record.{object_of, distances_of, objects_of, rivals_of, record_of, given_ok}
use Rattle.record.specs.Valid.{opened_in, votable, stands_before, place_ok, below, past_bytes, objects_ok, party_is, party_ok, valid_of}
use Rattle.record.proofs.Made.{made_object}
use Rattle.record.proofs.Items.{get_d_items}
use Rattle.record.proofs.Zero.{last_true, Zero, range_out, range_in, blank_bytes, bytes_blank}

-- ---- three tests made at once
pub three : (a b c d : Bool) → (a && (b && (c && d))) ≡ ((a && (b && c)) && d)
three true true c d = refl
three true false c d = refl
three false b c d = refl

-- ---- an object in its own bytes
module _ (l : List ℕ) (a n : ℕ) (e : n ≡ 25) where
  byte_part : (j : ℕ) → j < 25 → get_or (take n (drop a l)) j 0 ≡ get_or l (a + j) 0
  byte_part j h = get_or-take n (drop a l) j 0 (omega arith) ∙ get_or-drop a l j 0

  number_part : (k j : ℕ) → j + k ≤ 25 → get k (take n (drop a l)) j ≡ get k l (a + j)
  number_part k j h = get_ext k (take n (drop a l)) (drop a l) j (λ m p q. get_or-take n (drop a l) m 0 (omega arith)) ∙ get_drop k l a j

  pub object_part : object_of (take n (drop a l)) 0 ≡ object_of l a
  unfolding object_of
  object_part =
      let z : a + 0 ≡ a = omega arith in
      made_object (byte_part 0 (omega arith) ∙ ap (λ (i : ℕ). get_or l i 0) z) (byte_part 1 (omega arith)) (number_part 2 2 (omega arith))
      (number_part 4 4 (omega arith)) (number_part 8 8 (omega arith)) (ap (λ (i : ℕ). eqb i 1) (byte_part 16 (omega arith)))
      (number_part 8 17 (omega arith))

  -- the same from what is left of the bytes
  pub object_rest : object_of (drop a l) 0 ≡ object_of l a
  unfolding object_of
  object_rest =
      let z : a + 0 ≡ a = omega arith in
      made_object (get_or-drop a l 0 0 ∙ ap (λ (i : ℕ). get_or l i 0) z) (get_or-drop a l 1 0) (get_drop 2 l a 2) (get_drop 4 l a 4) (get_drop 8 l a 8)
      (ap (λ (i : ℕ). eqb i 1) (get_or-drop a l 16 0)) (get_drop 8 l a 17)

  opened_part : (contacted : ℕ) → opened_in contacted (take n (drop a l)) 0 ≡ opened_in contacted l a
  unfolding opened_in
  opened_part contacted = rw (object_part, byte_part 16 (omega arith))

  pub opened_at : {k m : ℕ} {r : Bool} → k ≡ m → r ≡ opened_in k (take n (drop a l)) 0 → r ≡ opened_in m l a
  opened_at {k} p f = f ∙ opened_part k ∙ ap (λ (i : ℕ). opened_in i l a) p

regroup : (a b c : Bool) → ((a && b) && c) ≡ (a && (b && c))
regroup true b c = refl
regroup false b c = refl

-- ---- a test of every number below n
module _ (f : ℕ → Bool) where
  pub below_each : (n : ℕ) → T (below f n) → (i : ℕ) → i < n → T (f i)
  unfolding below
  below_each zero t i h = absurd (let z : ⊥ = omega arith in z)
  below_each (suc n) t i h =
      below_more (λ (k : ℕ). T (f k)) n (below_each n (and_left (below f n) (f n) t)) (and_right (below f n) (f n) t) i (omega arith)

  pub below_all : (n : ℕ) → ((i : ℕ) → i < n → T (f i)) → T (below f n)
  unfolding below
  below_all zero h = tt
  below_all (suc n) h = and_both (below f n) (f n) (below_all n (λ i k. h i (omega arith))) (h n (omega arith))

  last_of_range : (n i : ℕ) → list_all f (range_with_len i (suc n)) ≡ (list_all f (range_with_len i n) && f (i + n))
  last_of_range zero i = let e : i + 0 ≡ i = omega arith in rw e (last_true (f i))
  last_of_range (suc n) i =
      let e : i + 1 + n ≡ i + suc n = omega arith in
      ap (λ (b : Bool). f i && b) (last_of_range n (i + 1) ∙ ap (λ (k : ℕ). list_all f (range_with_len (i + 1) n) && f k) e)
      ∙ sym (regroup (f i) _ _)

  pub below_listed : (n : ℕ) → below f n ≡ list_all f (range_with_len 0 n)
  unfolding below
  below_listed zero = refl
  below_listed (suc n) =
      let e : 0 + n ≡ n = omega arith in
      ap (λ (b : Bool). b && f n) (below_listed n) ∙ sym (last_of_range n 0 ∙ ap (λ (k : ℕ). list_all f (range_with_len 0 n) && f k) e)

-- whether a value was given is 0 or 1: such a test
abbrev given_at : List ℕ → ℕ → Bool
given_at l i = leb (get_or l (43 + 25 * i + 16) 0) 1

given_below : (n : ℕ) (l : List ℕ) → given_ok n l ≡ below (given_at l) n
unfolding given_ok below
given_below zero l = refl
given_below (suc n) l = ap (λ (b : Bool). b && given_at l n) (given_below n l)

-- ---- an object at an earlier place
pub before_more : (n : ℕ) (l : List ℕ) (t : ℕ) → stands_before (n + 1) l t ≡ (stands_before n l t || eqb (get_or l (43 + 25 * n) 0) t)
unfolding stands_before
before_more n l t = rw add-one

module _ (l : List ℕ) (t : ℕ) where
  before_out : (n : ℕ) → stands_before n l t ≡ false → (i : ℕ) → i < n → get_or l (43 + 25 * i) 0 ≡ t → ⊥
  unfolding stands_before
  before_out zero e i h = absurd (let z : ⊥ = omega arith in z)
  before_out (suc n) e i h =
      below_more (λ (k : ℕ). get_or l (43 + 25 * k) 0 ≡ t → ⊥) n (before_out n (neither_left (stands_before n l t) _ e))
      (eqb-false _ t (neither_right (stands_before n l t) _ e)) i (omega arith)

  before_in : (n : ℕ) → ((i : ℕ) → i < n → get_or l (43 + 25 * i) 0 ≡ t → ⊥) → stands_before n l t ≡ false
  unfolding stands_before
  before_in zero h = refl
  before_in (suc n) h = simp (before_in n (λ i k. h i (omega arith)), ne_eqb (get_or l (43 + 25 * n) 0) t (h n (omega arith)))

-- ---- what each object must be for votes, as the clauses ask it of all of them
module _ (objects : List Object) (count : ℕ) where
  abbrev used_up : Object → Bool
  used_up x = not (eqb x.mode 0) && eqb x.version highest

  abbrev is_settled : ℕ → Object → Bool
  is_settled i x = not (ltb i count) || settled tree x

  abbrev is_used_up : ℕ → Object → Bool
  is_used_up i x = ltb i count && used_up x

  votable_out : T (all_settled tree objects count) → any_used_up objects count ≡ false → (i : ℕ) → i < count → i < length objects → T (votable (at objects i))
  unfolding all_settled any_used_up votable
  votable_out a u i h k =
      let x = at objects i in
      let b = lt→ltb i count h in
      and_both (settled tree x) (not (used_up x))
      (or_cases (T (settled tree x)) (not (ltb i count)) (settled tree x) (λ n. absurd (T_not (ltb i count) n b)) (λ t. t)
      (across_at is_settled objects a i k))
      (not_T (used_up x) (λ p. false-T (is_used_up i x) (across_none is_used_up objects u i k) (and_both (ltb i count) (used_up x) b p)))

  module _ (f : (i : ℕ) → i < count → i < length objects → T (votable (at objects i))) where
    settled_in : T (all_settled tree objects count)
    unfolding all_settled votable
    settled_in =
        across_all is_settled objects (λ i k. let x = at objects i in
        by_test (T (is_settled i x)) (ltb i count)
        (λ e. or_right (not (ltb i count)) (settled tree x)
        (and_left (settled tree x) (not (used_up x)) (f i (ltb→lt i count (true-T (ltb i count) e)) k)))
        (λ e. or_left (not (ltb i count)) (settled tree x) (not_T (ltb i count) (false-T (ltb i count) e))))

    none_used_up : any_used_up objects count ≡ false
    unfolding any_used_up votable
    none_used_up =
        none_across is_used_up objects (λ i k. let x = at objects i in
        T_false (is_used_up i x) (λ t. T_not (used_up x)
        (and_right (settled tree x) (not (used_up x)) (f i (ltb→lt i count (and_left (ltb i count) (used_up x) t)) k))
        (and_right (ltb i count) (used_up x) t)))

-- ---- the record that bytes are
module _ (l : List ℕ) where
  abbrev C : Coordinator
  C = record_of l

  abbrev X : ℕ → Object
  X i = object_of l (43 + 25 * i)

  abbrev nobody : Bool
  nobody = eqb C.participants 0

  -- the i-th object, its number, and how many there are
  the_object : (i : ℕ) → i < most_open → at C.objects i ≡ X i
  unfolding record_of objects_of
  the_object i h = get_d_items object_of 25 l no_object most_open 43 i h

  its_number : (i : ℕ) → (X i).object ≡ get_or l (43 + 25 * i) 0
  unfolding object_of
  its_number i = refl

  eights : length C.objects ≡ most_open
  unfolding record_of objects_of
  eights = length_items object_of 25 l most_open 43

  -- a place below the count
  abbrev Place : ℕ → Type 0
  Place i =
      T (given_at l i) × (T (object_meets C.contacted (X i)) × ((stands_before i l (X i).object ≡ false) × T (nobody || votable (X i))))

  place_out : (i : ℕ) → T (place_ok l i) → Place i
  unfolding place_ok opened_in
  place_out i t =
      let a = two_in (given_at l i && object_meets C.contacted (X i)) _ t in
      let b = two_in (given_at l i) (object_meets C.contacted (X i)) a.0 in
      let d = two_in (not (stands_before i l (X i).object)) (nobody || votable (X i)) a.1 in
      (b.0, (b.1, (T_false (stands_before i l (X i).object) (T_not (stands_before i l (X i).object) d.0), d.1)))

  place_in_lem : (i : ℕ) → Place i → T (place_ok l i)
  unfolding place_ok opened_in
  place_in_lem i p =
      and_both (given_at l i && object_meets C.contacted (X i)) _ (and_both (given_at l i) (object_meets C.contacted (X i)) p.0 p.1.0)
      (and_both (not (stands_before i l (X i).object)) (nobody || votable (X i))
      (not_T (stands_before i l (X i).object) (false-T (stands_before i l (X i).object) p.1.1.0)) p.1.1.1)

  -- no object at two places, either way
  same_number : (i j : ℕ) → i < most_open → j < most_open → (at C.objects i).object ≡ (at C.objects j).object → get_or l (43 + 25 * i) 0 ≡ (X j).object
  same_number i j h k e =
      sym (its_number i) ∙ sym (ap (λ (x : Object). x.object) (the_object i h)) ∙ e ∙ ap (λ (x : Object). x.object) (the_object j k)

  once_in : C.count ≤ most_open → ((i : ℕ) → i < C.count → stands_before i l (X i).object ≡ false) → Once C.objects C.count
  once_in n f i j h k e =
      compared (i ≡ j) i j (λ p. absurd (before_out l (X j).object j (f j k) i p (same_number i j (omega arith) (omega arith) e))) (λ p. p)
      (λ p. absurd (before_out l (X i).object i (f i h) j p (same_number j i (omega arith) (omega arith) (sym e))))

  once_out : C.count ≤ most_open → Once C.objects C.count → (i : ℕ) → i < C.count → stands_before i l (X i).object ≡ false
  once_out n o i h =
      before_in l (X i).object i (λ j k e.
      let s : (at C.objects j).object ≡ (at C.objects i).object =
      ap (λ (x : Object). x.object) (the_object j (omega arith)) ∙ its_number j ∙ e ∙ sym (ap (λ (x : Object). x.object) (the_object i (omega arith))) in
      let z : j ≡ i = o j i (omega arith) h s in omega arith)

  -- ---- all the places
  abbrev Votables : Type 0
  Votables = (i : ℕ) → i < C.count → T (nobody || votable (X i))

  objects_out : T (objects_ok l) → T (given_ok most_open l) × (T (objects_meet C) × Votables)
  unfolding objects_ok objects_meet
  objects_out t =
      let a = two_in (leb C.count most_open) _ t in
      let b = two_in (below (place_ok l) C.count) (zeros (past_bytes C.count l)) a.1 in
      let n : C.count ≤ most_open = leb→le C.count most_open a.0 in
      let each : (i : ℕ) → i < C.count → Place i = λ i h. place_out i (below_each (place_ok l) C.count b.0 i h) in
      let past = range_out l (43 + 25 * C.count) (243 - (43 + 25 * C.count)) b.1 in
      let blank : (i : ℕ) → C.count ≤ i → i < most_open → Zero l (43 + 25 * i) (43 + 25 * i + 25) = λ i h k j p q. past j (omega arith) (omega arith) in
      let given : (i : ℕ) → i < most_open → T (given_at l i) = λ i k.
      by_test (T (given_at l i)) (ltb i C.count) (λ e. (each i (ltb→lt i C.count (true-T (ltb i C.count) e))).0)
      (λ e. let z = blank i (ltb-false i C.count e) k (43 + 25 * i + 16) (omega arith) (omega arith) in
      le→leb (get_or l (43 + 25 * i + 16) 0) 1 (omega arith)) in
      let once = once_in n (λ i h. (each i h).1.1.0) in (
        subst T (sym (given_below most_open l)) (below_all (given_at l) most_open given),
        (
          and_both (leb C.count most_open) (across (and_meets C) true 0 C.objects) a.0
              (across_all (place_meets C) C.objects (λ i h.
              let k : i < most_open = omega (arith, eights) in
              subst (λ (x : Object). T (place_meets C i x)) (sym (the_object i k))
              (cond_in (ltb i C.count) (object_meets C.contacted (X i) && eqb (place_in C.objects C.count (X i).object) i) (object_blank (X i))
              (λ s. let m = ltb→lt i C.count s in
              and_both (object_meets C.contacted (X i)) (eqb (place_in C.objects C.count (X i).object) i) (each i m).1.0
              (eq-T (place_in C.objects C.count (X i).object) i
              (subst (λ (x : Object). place_in C.objects C.count x.object ≡ i) (the_object i k) (place_at C.objects C.count eights n once i m))))
              (λ s. bytes_blank l (43 + 25 * i) (blank i (nltb→le i C.count (not_T (ltb i C.count) s)) k))))),
          λ i h. (each i h).1.1.1,
        ),
      )

  objects_in : T (given_ok most_open l) → T (objects_meet C) → Votables → T (objects_ok l)
  unfolding objects_ok objects_meet
  objects_in g t v =
      let a = two_in (leb C.count most_open) (across (and_meets C) true 0 C.objects) t in
      let n : C.count ≤ most_open = leb→le C.count most_open a.0 in
      let given = below_each (given_at l) most_open (subst T (given_below most_open l) g) in
      let placeAt : ℕ → Bool = λ i. eqb (place_in C.objects C.count (X i).object) i in
      let each : (i : ℕ) → i < most_open → T (place_meets C i (X i)) = λ i h.
      subst (λ (x : Object). T (place_meets C i x)) (the_object i h) (across_at (place_meets C) C.objects a.1 i (omega (arith, eights))) in
      let here : (i : ℕ) → i < C.count → T (object_meets C.contacted (X i) && placeAt i) = λ i h.
      cond_first (ltb i C.count) _ (object_blank (X i)) (each i (omega arith)) (lt→ltb i C.count h) in
      let once = at_place C.objects C.count eights n (λ i h.
      subst (λ (x : Object). place_in C.objects C.count x.object ≡ i) (sym (the_object i (omega arith)))
      (eqb→eq _ i (and_right (object_meets C.contacted (X i)) (placeAt i) (here i h)))) in
      and_both (leb C.count most_open) _ a.0
      (and_both (below (place_ok l) C.count) (zeros (past_bytes C.count l))
      (below_all (place_ok l) C.count (λ i h.
      place_in_lem i (given i (omega arith), (and_left (object_meets C.contacted (X i)) (placeAt i) (here i h), (once_out n once i h, v i h)))))
      (range_in l (43 + 25 * C.count) (243 - (43 + 25 * C.count)) (λ j p q.
      let i : ℕ = (j - 43) / 25 in
      let k : i < most_open = omega arith in
      let s : C.count ≤ i = omega arith in
      blank_bytes l (43 + 25 * i)
      (cond_second (ltb i C.count) (object_meets C.contacted (X i) && placeAt i) (object_blank (X i)) (each i k)
      (λ u. let w = ltb→lt i C.count u in omega arith))
      (leb→le _ 1 (given i k)) j (omega arith) (omega arith))))

  -- ---- the participants: what is left of their clauses is asked of each object
  abbrev write : Bool
  write = tree.is_write C.participants

  abbrev everyone : Bool
  everyone = within C.contacted C.participants

  abbrev opened : Bool
  opened = not (eqb C.count 0)

  abbrev settled_all : Bool
  settled_all = all_settled tree C.objects C.count

  abbrev used_up_any : Bool
  used_up_any = any_used_up C.objects C.count

  party_in : Votables → T (party_ok C) → T (party_meets tree C)
  unfolding party_ok party_is party_meets party_full
  party_in v t =
      let a = two_in (leb C.participants every_node) _ t in
      let b = two_in (cond nobody (zeros C.rivals) (write && (everyone && opened))) _ a.1 in
      and_both (leb C.participants every_node) _ a.0
      (and_both (cond nobody (zeros C.rivals) (write && (everyone && (opened && (settled_all && not used_up_any))))) _
      (cond_in nobody (zeros C.rivals) (write && (everyone && (opened && (settled_all && not used_up_any))))
      (λ s. cond_first nobody (zeros C.rivals) _ b.0 s)
      (λ s. let d = two_in write (everyone && opened) (cond_second nobody (zeros C.rivals) _ b.0 s) in
      let e = two_in everyone opened d.1 in
      let f : (i : ℕ) → i < C.count → i < length C.objects → T (votable (at C.objects i)) = λ i h k.
      subst (λ (x : Object). T (votable x)) (sym (the_object i (omega (arith, eights))))
      (or_cases (T (votable (X i))) nobody (votable (X i)) (λ z. absurd (s z)) (λ z. z) (v i h)) in
      and_both write _ d.0 (and_both everyone _ e.0 (and_both opened _ e.1
      (and_both settled_all (not used_up_any) (settled_in C.objects C.count f)
      (not_T used_up_any (false-T used_up_any (none_used_up C.objects C.count f))))))))
      b.1)

  party_out : C.count ≤ most_open → T (party_meets tree C) → T (party_ok C) × Votables
  unfolding party_ok party_is party_meets party_full
  party_out n t =
      let a = two_in (leb C.participants every_node) _ t in
      let b = two_in (cond nobody (zeros C.rivals) (write && (everyone && (opened && (settled_all && not used_up_any))))) _ a.1 in
      let full : (T nobody → ⊥) → T write × (T everyone × (T opened × (T settled_all × T (not used_up_any)))) = λ s.
      let d = two_in write _ (cond_second nobody (zeros C.rivals) _ b.0 s) in
      let e = two_in everyone _ d.1 in
      let f = two_in opened _ e.1 in
      (d.0, (e.0, (f.0, two_in settled_all (not used_up_any) f.1))) in (
        and_both (leb C.participants every_node) _ a.0
            (and_both (cond nobody (zeros C.rivals) (write && (everyone && opened))) _
            (cond_in nobody (zeros C.rivals) (write && (everyone && opened)) (λ s. cond_first nobody (zeros C.rivals) _ b.0 s)
            (λ s. let f = full s in and_both write _ f.0 (and_both everyone opened f.1.0 f.1.1.0)))
            b.1),
        λ i h. by_test (T (nobody || votable (X i))) nobody (λ e. or_left nobody (votable (X i)) (true-T nobody e))
            (λ e. let f = full (false-T nobody e) in
            or_right nobody (votable (X i)) (subst (λ (x : Object). T (votable x)) (the_object i (omega arith))
            (votable_out C.objects C.count f.1.1.1.0 (T_false used_up_any (T_not used_up_any f.1.1.1.1)) i h (omega (arith, eights))))),
      )

  -- ---- all the clauses
  abbrev ended : Bool
  ended = votes_meet C && dones_meet C

  sized : meets tree C ≡ (numbers_meet C && (objects_meet C && (nodes_meet tree C && (party_meets tree C && ended))))
  unfolding record_of distances_of rivals_of
  sized = sized_meets tree C (length_items (get 2) 2 l nodes 12) eights (length_items (get 4) 4 l nodes 249)

  counted : T (objects_meet C) → C.count ≤ most_open
  unfolding objects_meet
  counted t = leb→le C.count most_open (and_left (leb C.count most_open) (across (and_meets C) true 0 C.objects) t)

  -- the check tests what the clauses ask
  pub valid_meets : valid_of l ≡ (given_ok most_open l && meets tree C)
  unfolding valid_of
  valid_meets =
      rw sized (same_test (valid_of l) (given_ok most_open l && (numbers_meet C && (objects_meet C && (nodes_meet tree C && (party_meets tree C && ended)))))
      (λ t. let a = two_in (numbers_meet C) _ t in
      let b = two_in (nodes_meet tree C) _ a.1 in
      let p = two_in (party_ok C) _ b.1 in
      let e = two_in ended (objects_ok l) p.1 in
      let o = objects_out e.1 in
      and_both (given_ok most_open l) _ o.0 (and_both (numbers_meet C) _ a.0 (and_both (objects_meet C) _ o.1.0
      (and_both (nodes_meet tree C) _ b.0 (and_both (party_meets tree C) ended (party_in o.1.1 p.0) e.0)))))
      (λ t. let g = two_in (given_ok most_open l) _ t in
      let a = two_in (numbers_meet C) _ g.1 in
      let o = two_in (objects_meet C) _ a.1 in
      let b = two_in (nodes_meet tree C) _ o.1 in
      let p = two_in (party_meets tree C) ended b.1 in
      let q = party_out (counted o.0) p.0 in
      and_both (numbers_meet C) _ a.0 (and_both (nodes_meet tree C) _ b.0 (and_both (party_ok C) _ q.0
      (and_both ended (objects_ok l) p.1 (objects_in g.0 o.0 q.1))))))
