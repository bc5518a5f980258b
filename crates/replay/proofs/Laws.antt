-- A sheet reads as its digest: what each call makes of the sheet reads as what the thing told makes of the digest. By table: a number stored in one
-- table's cell is that table changed at one place, and no other table's cell is it.
use mathlib.Core.Path.{◌≡◌, refl, sym, ap, ◌∙◌, subst}
use mathlib.Core.Logic.{◌≢◌, ◌⊎◌, inl, inr}
use mathlib.Core.Bool.{Bool, true, false, cond, ◌&&◌}
use mathlib.Core.List.{List}
use Prim.Native.Nat.{ℕ, zero, suc, ◌+◌, ◌≤◌, ◌<◌}
use native.Mathlib.Omega.{arith}
use lib.Dec.{T, eqb, ltb, leb}
use lib.ListN.{length, set, replicate, length-set, length-replicate, get_or-replicate}
use borrow.Author.Tests.{eq-eqb, ne_eqb, eqb-true, ltb-true, lt-ltb, le-leb, lt-leb}
use Rattle.numbers.specs.Sizes.{nodes, objects}
use Rattle.wire.specs.Formed.{counts_ok, names_ok, direction_ok, entries_ok, rivals_ok, well_formed, word_of}
use Rattle.wire.specs.Encode.{size_of}
use Rattle.wire.specs.Decode.{owner_of, decode, accepted, check_of}
use Rattle.wire.proofs.Theorems.{accepted_of_check}
use Rattle.replay.specs.Digest.{Digest, blank_digest, next, at, at2, zero_row, begun, opened, valued, first_yes, placed, put, takes, committed}
use Rattle.replay.specs.Layout.{size, row_size, count_cell, serial_cell, place_cell, last_place_cell, last_value_cell, row_cell, writes_cell}
use Rattle.replay.specs.Layout.{new_cell, cell}
use Rattle.replay.specs.Sheet.{sheet_number, owner_number, object_number, unless, blank_after, zeroed, with_begun, begun_after, opened_after}
use Rattle.replay.specs.Sheet.{valued_after, with_place, with_put, put_after, with_taken, all_taken, committed_after, value_of}
use Rattle.replay.proofs.Steps.{unless_done, unless_refused}
use Rattle.replay.proofs.Cells.{same?, below?, set_there, set_else, zeroed_length, zeroed_else, zeroed_there}

-- the sheet has the digest's numbers, for every owner and object
pub record Reads (l : List ℕ) (d : Digest) : Type 0 where
  pub long : length l ≡ size
  pub places_as : cell l count_cell ≡ d.places
  pub serial_as : (o : ℕ) → o < nodes → cell l (serial_cell o) ≡ d.serial o
  pub place_as : (o : ℕ) → o < nodes → cell l (place_cell o) ≡ d.place o
  pub writes_as : (o t : ℕ) → o < nodes → t < objects → cell l (writes_cell o t) ≡ d.writes o t
  pub new_as : (o t : ℕ) → o < nodes → t < objects → cell l (new_cell o t) ≡ d.new o t
  pub last_place_as : (t : ℕ) → t < objects → cell l (last_place_cell t) ≡ d.last_place t
  pub last_value_as : (t : ℕ) → t < objects → cell l (last_value_cell t) ≡ d.last_value t

-- ---- a table changed at one place, as the cells are
module _ (l : List ℕ) (base o v : ℕ) (there : base + o < length l) where
  stored_at : (f : ℕ → ℕ) (i : ℕ) → cell l (base + i) ≡ f i → cell (set l (base + o) v) (base + i) ≡ at f o v i
  unfolding at
  stored_at f i e = same? i o
      (λ q. simp (eq-eqb i o q) (ap (λ (j : ℕ). cell (set l (base + o) v) (base + j)) q ∙ set_there l (base + o) v there))
      (λ q. simp (ne_eqb i o q) (set_else l (base + o) v (base + i) (λ z. q (let n : i ≡ o = omega (arith, z) in n)) ∙ e))

-- a table of rows: cell o t stands for one owner and object only
module _ (l : List ℕ) (place : ℕ → ℕ → ℕ) (apart : (o t i j : ℕ) → t < objects → j < objects → place i j ≡ place o t → (i ≡ o) × (j ≡ t)) (o t v : ℕ)
    (small : t < objects) (there : place o t < length l) where
  stored_at2 : (f : ℕ → ℕ → ℕ) (i j : ℕ) → j < objects → cell l (place i j) ≡ f i j → cell (set l (place o t) v) (place i j) ≡ at2 f o t v i j
  unfolding at2
  stored_at2 f i j h e = same? i o
      (λ p. same? j t
      (λ q. simp (eq-eqb i o p, eq-eqb j t q)
      (subst (λ (i : ℕ). cell (set l (place o t) v) (place i j) ≡ v) (sym p)
      (subst (λ (j : ℕ). cell (set l (place o t) v) (place o j) ≡ v) (sym q) (set_there l (place o t) v there))))
      (λ q. simp (ne_eqb j t q) (set_else l (place o t) v (place i j) (λ z. q (apart o t i j small h z).1) ∙ e ∙ sym (none (eqb i o)))))
      (λ p. simp (ne_eqb i o p) (set_else l (place o t) v (place i j) (λ z. p (apart o t i j small h z).0) ∙ e))
    where
      none : (b : Bool) → cond (b && false) v (f i j) ≡ f i j
      none true = refl
      none false = refl

writes_apart : (o t i j : ℕ) → t < objects → j < objects → writes_cell i j ≡ writes_cell o t → (i ≡ o) × (j ≡ t)
writes_apart o t i j g h e = (omega (arith, e, g, h), omega (arith, e, g, h))

new_apart : (o t i j : ℕ) → t < objects → j < objects → new_cell i j ≡ new_cell o t → (i ≡ o) × (j ≡ t)
new_apart o t i j g h e = (omega (arith, e, g, h), omega (arith, e, g, h))

-- ---- a digest with one number changed
abbrev with_count : Digest → ℕ → Digest
with_count d v =
    record {
      places = v;
      serial = d.serial;
      place = d.place;
      writes = d.writes;
      new = d.new;
      last_place = d.last_place;
      last_value = d.last_value;
    }

abbrev with_serial : Digest → ℕ → ℕ → Digest
with_serial d o v =
    record {
      places = d.places;
      serial = at d.serial o v;
      place = d.place;
      writes = d.writes;
      new = d.new;
      last_place = d.last_place;
      last_value = d.last_value;
    }

abbrev with_rank : Digest → ℕ → ℕ → Digest
with_rank d o v =
    record {
      places = d.places;
      serial = d.serial;
      place = at d.place o v;
      writes = d.writes;
      new = d.new;
      last_place = d.last_place;
      last_value = d.last_value;
    }

-- ---- one number stored
module _ (l : List ℕ) (d : Digest) (r : Reads l d) where
  stored_long : (i v : ℕ) → length (set l i v) ≡ size
  stored_long i v = length-set l i v ∙ r.long

  -- a cell of another table
  still : (i v j a : ℕ) → j ≢ i → cell l j ≡ a → cell (set l i v) j ≡ a
  still i v j a e p = set_else l i v j e ∙ p

  count_set : (v : ℕ) → Reads (set l count_cell v) (with_count d v)
  count_set v = record {
    long = stored_long (count_cell) v;
    places_as = set_there l count_cell v (let e = r.long in omega (arith, e));
    serial_as = λ i h. still (count_cell) v (serial_cell i) (d.serial i) (λ e. let z : ⊥ = omega (arith, e, h) in z) (r.serial_as i h);
    place_as = λ i h. still (count_cell) v (place_cell i) (d.place i) (λ e. let z : ⊥ = omega (arith, e, h) in z) (r.place_as i h);
    writes_as = λ i j h g. still (count_cell) v (writes_cell i j) (d.writes i j) (λ e. let z : ⊥ = omega (arith, e, h, g) in z) (r.writes_as i j h g);
    new_as = λ i j h g. still (count_cell) v (new_cell i j) (d.new i j) (λ e. let z : ⊥ = omega (arith, e, h, g) in z) (r.new_as i j h g);
    last_place_as = λ j g. still (count_cell) v (last_place_cell j) (d.last_place j) (λ e. let z : ⊥ = omega (arith, e, g) in z) (r.last_place_as j g);
    last_value_as = λ j g. still (count_cell) v (last_value_cell j) (d.last_value j) (λ e. let z : ⊥ = omega (arith, e, g) in z) (r.last_value_as j g);
  }

  serial_set : (o v : ℕ) → o < nodes → Reads (set l (serial_cell o) v) (with_serial d o v)
  serial_set o v m = record {
    long = stored_long (serial_cell o) v;
    places_as = still (serial_cell o) v (count_cell) d.places (λ e. let z : ⊥ = omega (arith, e, m) in z) r.places_as;
    serial_as = λ i h. stored_at l 1 o v (let e = r.long in omega (arith, e, m)) d.serial i (r.serial_as i h);
    place_as = λ i h. still (serial_cell o) v (place_cell i) (d.place i) (λ e. let z : ⊥ = omega (arith, e, h, m) in z) (r.place_as i h);
    writes_as = λ i j h g. still (serial_cell o) v (writes_cell i j) (d.writes i j) (λ e. let z : ⊥ = omega (arith, e, h, g, m) in z) (r.writes_as i j h g);
    new_as = λ i j h g. still (serial_cell o) v (new_cell i j) (d.new i j) (λ e. let z : ⊥ = omega (arith, e, h, g, m) in z) (r.new_as i j h g);
    last_place_as = λ j g. still (serial_cell o) v (last_place_cell j) (d.last_place j) (λ e. let z : ⊥ = omega (arith, e, g, m) in z) (r.last_place_as j g);
    last_value_as = λ j g. still (serial_cell o) v (last_value_cell j) (d.last_value j) (λ e. let z : ⊥ = omega (arith, e, g, m) in z) (r.last_value_as j g);
  }

  place_set : (o v : ℕ) → o < nodes → Reads (set l (place_cell o) v) (with_rank d o v)
  place_set o v m = record {
    long = stored_long (place_cell o) v;
    places_as = still (place_cell o) v (count_cell) d.places (λ e. let z : ⊥ = omega (arith, e, m) in z) r.places_as;
    serial_as = λ i h. still (place_cell o) v (serial_cell i) (d.serial i) (λ e. let z : ⊥ = omega (arith, e, h, m) in z) (r.serial_as i h);
    place_as = λ i h. stored_at l 14 o v (let e = r.long in omega (arith, e, m)) d.place i (r.place_as i h);
    writes_as = λ i j h g. still (place_cell o) v (writes_cell i j) (d.writes i j) (λ e. let z : ⊥ = omega (arith, e, h, g, m) in z) (r.writes_as i j h g);
    new_as = λ i j h g. still (place_cell o) v (new_cell i j) (d.new i j) (λ e. let z : ⊥ = omega (arith, e, h, g, m) in z) (r.new_as i j h g);
    last_place_as = λ j g. still (place_cell o) v (last_place_cell j) (d.last_place j) (λ e. let z : ⊥ = omega (arith, e, g, m) in z) (r.last_place_as j g);
    last_value_as = λ j g. still (place_cell o) v (last_value_cell j) (d.last_value j) (λ e. let z : ⊥ = omega (arith, e, g, m) in z) (r.last_value_as j g);
  }

  writes_set : (o t v : ℕ) → o < nodes → t < objects → Reads (set l (writes_cell o t) v) (opened d o t v)
  writes_set o t v m s = record {
    long = stored_long (writes_cell o t) v;
    places_as = still (writes_cell o t) v (count_cell) d.places (λ e. let z : ⊥ = omega (arith, e, m, s) in z) r.places_as;
    serial_as = λ i h. still (writes_cell o t) v (serial_cell i) (d.serial i) (λ e. let z : ⊥ = omega (arith, e, h, m, s) in z) (r.serial_as i h);
    place_as = λ i h. still (writes_cell o t) v (place_cell i) (d.place i) (λ e. let z : ⊥ = omega (arith, e, h, m, s) in z) (r.place_as i h);
    writes_as = λ i j h g. stored_at2 l writes_cell writes_apart o t v s (let e = r.long in omega (arith, e, m, s)) d.writes i j g (r.writes_as i j h g);
    new_as = λ i j h g. still (writes_cell o t) v (new_cell i j) (d.new i j) (λ e. let z : ⊥ = omega (arith, e, h, g, m, s) in z) (r.new_as i j h g);
    last_place_as = λ j g. still (writes_cell o t) v (last_place_cell j) (d.last_place j) (λ e. let z : ⊥ = omega (arith, e, g, m, s) in z)
        (r.last_place_as j g);
    last_value_as = λ j g. still (writes_cell o t) v (last_value_cell j) (d.last_value j) (λ e. let z : ⊥ = omega (arith, e, g, m, s) in z)
        (r.last_value_as j g);
  }

  new_set : (o t v : ℕ) → o < nodes → t < objects → Reads (set l (new_cell o t) v) (valued d o t v)
  new_set o t v m s = record {
    long = stored_long (new_cell o t) v;
    places_as = still (new_cell o t) v (count_cell) d.places (λ e. let z : ⊥ = omega (arith, e, m, s) in z) r.places_as;
    serial_as = λ i h. still (new_cell o t) v (serial_cell i) (d.serial i) (λ e. let z : ⊥ = omega (arith, e, h, m, s) in z) (r.serial_as i h);
    place_as = λ i h. still (new_cell o t) v (place_cell i) (d.place i) (λ e. let z : ⊥ = omega (arith, e, h, m, s) in z) (r.place_as i h);
    writes_as = λ i j h g. still (new_cell o t) v (writes_cell i j) (d.writes i j) (λ e. let z : ⊥ = omega (arith, e, h, g, m, s) in z) (r.writes_as i j h g);
    new_as = λ i j h g. stored_at2 l new_cell new_apart o t v s (let e = r.long in omega (arith, e, m, s)) d.new i j g (r.new_as i j h g);
    last_place_as = λ j g. still (new_cell o t) v (last_place_cell j) (d.last_place j) (λ e. let z : ⊥ = omega (arith, e, g, m, s) in z) (r.last_place_as j g);
    last_value_as = λ j g. still (new_cell o t) v (last_value_cell j) (d.last_value j) (λ e. let z : ⊥ = omega (arith, e, g, m, s) in z) (r.last_value_as j g);
  }

-- ---- a row of zeros
abbrev without_row : Digest → ℕ → Digest
without_row d o =
    record {
      places = d.places;
      serial = d.serial;
      place = d.place;
      writes = zero_row d.writes o;
      new = zero_row d.new o;
      last_place = d.last_place;
      last_value = d.last_value;
    }

module _ (l : List ℕ) (d : Digest) (r : Reads l d) (o : ℕ) (m : o < nodes) where
  -- a cell before the row, or behind it
  outside : (j a : ℕ) → (j < row_cell o) ⊎ (row_cell o + row_size ≤ j) → cell l j ≡ a → cell (zeroed row_size l (row_cell o)) j ≡ a
  outside j a h e = zeroed_else row_size l (row_cell o) j h ∙ e

  -- a table of rows
  zeroed_row : (place : ℕ → ℕ → ℕ) (f : ℕ → ℕ → ℕ) → ((i j : ℕ) → j < objects → (row_cell i ≤ place i j) × (place i j < row_cell i + row_size))
      → (i j : ℕ) → j < objects → cell l (place i j) ≡ f i j → cell (zeroed row_size l (row_cell o)) (place i j) ≡ zero_row f o i j
  unfolding zero_row
  zeroed_row place f within i j g e = let w = within i j g in let w0 = w.0 in let w1 = w.1 in same? i o
      (λ q. simp (eq-eqb i o q) (zeroed_there row_size l (row_cell o) (place i j) (omega (arith, w0, q)) (omega (arith, w1, q))))
      (λ q. simp (ne_eqb i o q) (outside (place i j) (f i j)
      (below? i o (λ h. inl (omega (arith, w1, h))) (λ h. inr (omega (arith, w0, h, q)))) e))

  row_zeroed : Reads (zeroed row_size l (row_cell o)) (without_row d o)
  row_zeroed = record {
    long = zeroed_length row_size l (row_cell o) ∙ r.long;
    places_as = outside count_cell d.places (inl (omega arith)) r.places_as;
    serial_as = λ i h. outside (serial_cell i) (d.serial i) (inl (omega (arith, h))) (r.serial_as i h);
    place_as = λ i h. outside (place_cell i) (d.place i) (inl (omega (arith, h))) (r.place_as i h);
    writes_as = λ i j h g. zeroed_row writes_cell d.writes (λ i j g. (omega arith, omega (arith, g))) i j g (r.writes_as i j h g);
    new_as = λ i j h g. zeroed_row new_cell d.new (λ i j g. (omega arith, omega (arith, g))) i j g (r.new_as i j h g);
    last_place_as = λ j g. outside (last_place_cell j) (d.last_place j) (inl (omega (arith, g))) (r.last_place_as j g);
    last_value_as = λ j g. outside (last_value_cell j) (d.last_value j) (inl (omega (arith, g))) (r.last_value_as j g);
  }

-- ---- a commit: the cells of one object, then of all
module _ (o : ℕ) (m : o < nodes) where
  abbrev taking : List ℕ → ℕ → Bool
  taking l t = takes (cell l (writes_cell o t)) (cell l (place_cell o)) (cell l (last_place_cell t))

  -- its place and new value stored
  abbrev taken : List ℕ → ℕ → List ℕ
  taken l t = set (set l (last_place_cell t) (cell l (place_cell o))) (last_value_cell t) (cell l (new_cell o t))

  taken_long : (l : List ℕ) (t : ℕ) → length (with_taken l o t) ≡ length l
  unfolding with_taken
  taken_long l t = by (taking l t)
    where
      by : (b : Bool) → length (cond b (taken l t) l) ≡ length l
      by true = length-set (set l (last_place_cell t) (cell l (place_cell o))) (last_value_cell t) (cell l (new_cell o t))
          ∙ length-set l (last_place_cell t) (cell l (place_cell o))
      by false = refl

  taken_else : (l : List ℕ) (t j : ℕ) → j ≢ last_place_cell t → j ≢ last_value_cell t → cell (with_taken l o t) j ≡ cell l j
  unfolding with_taken
  taken_else l t j p q = by (taking l t)
    where
      by : (b : Bool) → cell (cond b (taken l t) l) j ≡ cell l j
      by true = set_else (set l (last_place_cell t) (cell l (place_cell o))) (last_value_cell t) (cell l (new_cell o t)) j q
          ∙ set_else l (last_place_cell t) (cell l (place_cell o)) j p
      by false = refl

  -- what an object has after its turn
  abbrev Took : List ℕ → List ℕ → ℕ → Type 0
  Took l l' t = (cell l' (last_place_cell t) ≡ cond (taking l t) (cell l (place_cell o)) (cell l (last_place_cell t)))
      × (cell l' (last_value_cell t) ≡ cond (taking l t) (cell l (new_cell o t)) (cell l (last_value_cell t)))

  taken_here : (l : List ℕ) (t : ℕ) → length l ≡ size → t < objects → Took l (with_taken l o t) t
  unfolding with_taken
  taken_here l t e h = by (taking l t)
    where
      inner : List ℕ
      inner = set l (last_place_cell t) (cell l (place_cell o))

      by : (b : Bool)
          → (cell (cond b (taken l t) l) (last_place_cell t) ≡ cond b (cell l (place_cell o)) (cell l (last_place_cell t)))
          × (cell (cond b (taken l t) l) (last_value_cell t) ≡ cond b (cell l (new_cell o t)) (cell l (last_value_cell t)))
      by true = let n = length-set l (last_place_cell t) (cell l (place_cell o)) in (
        set_else inner (last_value_cell t) (cell l (new_cell o t)) (last_place_cell t) (λ q. let z : ⊥ = omega (arith, q) in z)
            ∙ set_there l (last_place_cell t) (cell l (place_cell o)) (omega (arith, e, h)),
        set_there inner (last_value_cell t) (cell l (new_cell o t)) (omega (arith, n, e, h)),
      )
      by false = (refl, refl)

  all_long : (n : ℕ) (l : List ℕ) (t : ℕ) → length (all_taken n l o t) ≡ length l
  unfolding all_taken
  all_long zero l t = refl
  all_long (suc n) l t = all_long n (with_taken l o t) (t + 1) ∙ taken_long l t

  all_else : (n : ℕ) (l : List ℕ) (t j : ℕ) → ((u : ℕ) → t ≤ u → u < t + n → (j ≢ last_place_cell u) × (j ≢ last_value_cell u))
      → cell (all_taken n l o t) j ≡ cell l j
  unfolding all_taken
  all_else zero l t j e = refl
  all_else (suc n) l t j e = let f = e t (omega arith) (omega arith) in
      all_else n (with_taken l o t) (t + 1) j (λ u a b. e u (omega arith) (omega arith)) ∙ taken_else l t j f.0 f.1

  all_there : (n : ℕ) (l : List ℕ) (t : ℕ) → length l ≡ size → t + n ≤ objects → (j : ℕ) → t ≤ j → j < t + n → Took l (all_taken n l o t) j
  unfolding all_taken
  all_there zero l t e h j a b = absurd (let z : ⊥ = omega arith in z)
  all_there (suc n) l t e h j a b = same? j t
      (λ q. subst (λ (j : ℕ). Took l (all_taken n (with_taken l o t) o (t + 1)) j) (sym q) (
        all_else n (with_taken l o t) (t + 1) (last_place_cell t) (λ u a b. (λ z. let y : ⊥ = omega arith in y, λ z. let y : ⊥ = omega arith in y)) ∙ here.0,
        all_else n (with_taken l o t) (t + 1) (last_value_cell t) (λ u a b. (λ z. let y : ⊥ = omega arith in y, λ z. let y : ⊥ = omega arith in y)) ∙ here.1,
      ))
      (λ q. later q (all_there n (with_taken l o t) (t + 1) (taken_long l t ∙ e) (omega arith) j (omega (arith, a, q)) (omega arith)))
    where
      here : Took l (with_taken l o t) t
      here = taken_here l t e (omega arith)

      -- its cells are as they were
      later : j ≢ t → Took (with_taken l o t) (all_taken n (with_taken l o t) o (t + 1)) j → Took l (all_taken n (with_taken l o t) o (t + 1)) j
      later q z =
          let w = taken_else l t (writes_cell o j) (λ i. let y : ⊥ = omega arith in y) (λ i. let y : ⊥ = omega arith in y) in
          let p = taken_else l t (place_cell o) (λ i. let y : ⊥ = omega (arith, m, i) in y) (λ i. let y : ⊥ = omega (arith, m, i) in y) in
          let f = taken_else l t (last_place_cell j) (λ i. q (let y : j ≡ t = omega (arith, i) in y)) (λ i. let y : ⊥ = omega arith in y) in
          let v = taken_else l t (new_cell o j) (λ i. let y : ⊥ = omega arith in y) (λ i. let y : ⊥ = omega arith in y) in
          let g = taken_else l t (last_value_cell j) (λ i. let y : ⊥ = omega arith in y) (λ i. q (let y : j ≡ t = omega (arith, i) in y)) in
          (rw (w, p, f) at z.0, rw (w, p, f, v, g) at z.1)

-- ---- what each deed leaves reads as what the thing told leaves
module _ (l : List ℕ) (d : Digest) (r : Reads l d) where
  begun_reads : (o : ℕ) → o < nodes → Reads (with_begun l o) (begun d o)
  unfolding with_begun
  begun_reads o m =
      let v = next (cell l (serial_cell o)) in
      let a = serial_set l d r o v m in
      let b = place_set (set l (serial_cell o) v) (with_serial d o v) a o 0 m in
      subst (λ (s : ℕ). Reads (zeroed row_size (set (set l (serial_cell o) v) (place_cell o) 0) (row_cell o))
      (without_row (with_rank (with_serial d o s) o 0) o))
      (ap next (r.serial_as o m))
      (row_zeroed (set (set l (serial_cell o) v) (place_cell o) 0) (with_rank (with_serial d o v) o 0) b o m)

  placed_reads : (o : ℕ) → o < nodes → Reads (with_place l o) (placed d o)
  unfolding with_place
  placed_reads o m =
      let v = next (cell l count_cell) in
      subst (λ (s : ℕ). Reads (set (set l count_cell v) (place_cell o) v) (with_rank (with_count d s) o s)) (ap next r.places_as)
      (place_set (set l count_cell v) (with_count d v) (count_set l d r v) o v m)

  committed_reads : (o : ℕ) → o < nodes → Reads (all_taken objects l o 0) (committed d o)
  committed_reads o m = record {
    long = all_long o m objects l 0 ∙ r.long;
    places_as = same count_cell (λ u b. (λ z. let y : ⊥ = omega arith in y, λ z. let y : ⊥ = omega arith in y)) ∙ r.places_as;
    serial_as = λ i h. same (serial_cell i) (λ u b. (λ z. let y : ⊥ = omega (arith, h, z) in y, λ z. let y : ⊥ = omega (arith, h, z) in y)) ∙ r.serial_as i h;
    place_as = λ i h. same (place_cell i) (λ u b. (λ z. let y : ⊥ = omega (arith, h, z) in y, λ z. let y : ⊥ = omega (arith, h, z) in y)) ∙ r.place_as i h;
    writes_as = λ i j h g. same (writes_cell i j) (λ u b. (λ z. let y : ⊥ = omega (arith, b, z) in y, λ z. let y : ⊥ = omega (arith, b, z) in y))
        ∙ r.writes_as i j h g;
    new_as = λ i j h g. same (new_cell i j) (λ u b. (λ z. let y : ⊥ = omega (arith, b, z) in y, λ z. let y : ⊥ = omega (arith, b, z) in y))
        ∙ r.new_as i j h g;
    last_place_as = λ j g. let z = all_there o m objects l 0 r.long (omega arith) j (omega arith) g in
        rw (r.writes_as o j m g, r.place_as o m, r.last_place_as j g) at z.0;
    last_value_as = λ j g. let z = all_there o m objects l 0 r.long (omega arith) j (omega arith) g in
        rw (r.writes_as o j m g, r.place_as o m, r.last_place_as j g, r.new_as o j m g, r.last_value_as j g) at z.1;
  }
    where
      same : (j : ℕ) → ((u : ℕ) → u < objects → (j ≢ last_place_cell u) × (j ≢ last_value_cell u)) → cell (all_taken objects l o 0) j ≡ cell l j
      same j e = all_else o m objects l 0 j (λ u a b. e u b)

  pub value_reads : (t : ℕ) → t < objects → value_of l t ≡ d.last_value t
  unfolding value_of
  value_reads t s = simp (eq-eqb (length l) size r.long, lt-ltb t objects s) (r.last_value_as t s)

-- ---- who a well-formed message names is an owner
both_left : (a b : Bool) → (a && b) ≡ true → a ≡ true
both_left true b e = refl
both_left false b e = e

both_right : (a b : Bool) → (a && b) ≡ true → b ≡ true
both_right true b e = e
both_right false b e = absurd (subst T (sym e) tt)

pub owner_below : (b : List ℕ) → check_of b ≡ 0 → owner_of b < nodes
unfolding accepted well_formed decode
owner_below b e =
    let m = decode b in
    let f = both_right (eqb (length b) (size_of m)) (well_formed m) (accepted_of_check b e) in
    let g = both_right (counts_ok m.kind (length m.entries) (length m.rivals) (length m.words) (word_of m))
    (names_ok m && (direction_ok m && (entries_ok m && rivals_ok m))) f in
    let n = both_left (names_ok m) (direction_ok m && (entries_ok m && rivals_ok m)) g in
    let k = both_right (ltb m.to nodes) (ltb m.owner nodes && (leb 1 m.serial && leb 1 m.stamp))
    (both_right (ltb m.from nodes) (ltb m.to nodes && (ltb m.owner nodes && (leb 1 m.serial && leb 1 m.stamp))) n) in
    ltb-true (owner_of b) nodes (both_left (ltb m.owner nodes) (leb 1 m.serial && leb 1 m.stamp) k)

unformed : (b : List ℕ) (serial place : ℕ) → eqb (check_of b) 0 ≡ false → first_yes serial place b ≡ false
unfolding first_yes
unformed b serial place e = simp e

-- ---- the laws, one for each call: an owner or an object that is not there is refused, and no digest's number of an owner or an object is altered
sheet_fine : (l : List ℕ) → length l ≡ size → sheet_number (length l) ≡ 0
unfolding sheet_number
sheet_fine l e = simp (eq-eqb (length l) size e)

owner_fine : (l : List ℕ) (o : ℕ) → length l ≡ size → o < nodes → owner_number (length l) o ≡ 0
unfolding owner_number
owner_fine l o e m = simp (eq-eqb (length l) size e, lt-leb nodes o m)

owner_strange : (l : List ℕ) (o : ℕ) → length l ≡ size → nodes ≤ o → owner_number (length l) o ≡ 0 → ⊥
unfolding owner_number
owner_strange l o e m z = let y : ◌≡◌ {A = ℕ} 4 0 = simp (eq-eqb (length l) size e, le-leb nodes o m) at z in let n : ⊥ = omega (arith, y) in n

object_fine : (l : List ℕ) (o t : ℕ) → length l ≡ size → o < nodes → t < objects → object_number (length l) o t ≡ 0
unfolding object_number
object_fine l o t e m s = simp (eq-eqb (length l) size e, lt-leb nodes o m, lt-leb objects t s)

object_strange : (l : List ℕ) (o t : ℕ) → length l ≡ size → nodes ≤ o → object_number (length l) o t ≡ 0 → ⊥
unfolding object_number
object_strange l o t e m z = let y : ◌≡◌ {A = ℕ} 4 0 = simp (eq-eqb (length l) size e, le-leb nodes o m) at z in let n : ⊥ = omega (arith, y) in n

object_unknown : (l : List ℕ) (o t : ℕ) → length l ≡ size → o < nodes → objects ≤ t → object_number (length l) o t ≡ 0 → ⊥
unfolding object_number
object_unknown l o t e m s z = let y : ◌≡◌ {A = ℕ} 6 0 = simp (eq-eqb (length l) size e, lt-leb nodes o m, le-leb objects t s) at z in
    let n : ⊥ = omega (arith, y) in n

-- places of a table that are not asked for
at_off : (f : ℕ → ℕ) (o v i : ℕ) → i ≢ o → at f o v i ≡ f i
unfolding at
at_off f o v i e = simp (ne_eqb i o e)

row_off : (f : ℕ → ℕ → ℕ) (o i j : ℕ) → i ≢ o → zero_row f o i j ≡ f i j
unfolding zero_row
row_off f o i j e = simp (ne_eqb i o e)

at2_off : (f : ℕ → ℕ → ℕ) (o t v i j : ℕ) → (i ≢ o) ⊎ (j ≢ t) → at2 f o t v i j ≡ f i j
unfolding at2
at2_off f o t v i j (inl e) = simp (ne_eqb i o e)
at2_off f o t v i j (inr e) = simp (ne_eqb j t e) (none (eqb i o))
  where
    none : (b : Bool) → cond (b && false) v (f i j) ≡ f i j
    none true = refl
    none false = refl

pub blank_law : (l : List ℕ) → length l ≡ size → Reads (blank_after l) blank_digest
unfolding blank_after
blank_law l e = subst (λ (m : List ℕ). Reads m blank_digest) (sym (unless_done (sheet_number (length l)) l (replicate size 0) (sheet_fine l e))) (record {
  long = length-replicate {A = ℕ} size 0;
  places_as = zeros count_cell (omega arith);
  serial_as = λ i h. zeros (serial_cell i) (omega (arith, h));
  place_as = λ i h. zeros (place_cell i) (omega (arith, h));
  writes_as = λ i j h g. zeros (writes_cell i j) (omega (arith, h, g));
  new_as = λ i j h g. zeros (new_cell i j) (omega (arith, h, g));
  last_place_as = λ j g. zeros (last_place_cell j) (omega (arith, g));
  last_value_as = λ j g. zeros (last_value_cell j) (omega (arith, g));
})
  where
    zeros : (i : ℕ) → i < size → cell (replicate size 0) i ≡ 0
    zeros i h = get_or-replicate size i 0 0 h

module _ (l : List ℕ) (d : Digest) (r : Reads l d) where
  -- the sheet after a call that is done, and after one that is refused
  done : (number : ℕ) (m : List ℕ) (e : Digest) → number ≡ 0 → Reads m e → Reads (unless number l m) e
  done number m e z q = subst (λ (k : List ℕ). Reads k e) (sym (unless_done number l m z)) q

  refused : (number : ℕ) (m : List ℕ) (e : Digest) → (number ≡ 0 → ⊥) → Reads l e → Reads (unless number l m) e
  refused number m e z q = subst (λ (k : List ℕ). Reads k e) (sym (unless_refused number l m z)) q

  pub begun_law : (o : ℕ) → Reads (begun_after l o) (begun d o)
  unfolding begun_after
  begun_law o = below? o nodes
      (λ m. done (owner_number (length l) o) (with_begun l o) (begun d o) (owner_fine l o r.long m) (begun_reads l d r o m))
      (λ m. refused (owner_number (length l) o) (with_begun l o) (begun d o) (owner_strange l o r.long m) (record {
        long = r.long;
        places_as = r.places_as;
        serial_as = λ i h. r.serial_as i h ∙ sym (at_off d.serial o (next (d.serial o)) i (λ e. let z : ⊥ = omega (arith, m, h, e) in z));
        place_as = λ i h. r.place_as i h ∙ sym (at_off d.place o 0 i (λ e. let z : ⊥ = omega (arith, m, h, e) in z));
        writes_as = λ i j h g. r.writes_as i j h g ∙ sym (row_off d.writes o i j (λ e. let z : ⊥ = omega (arith, m, h, e) in z));
        new_as = λ i j h g. r.new_as i j h g ∙ sym (row_off d.new o i j (λ e. let z : ⊥ = omega (arith, m, h, e) in z));
        last_place_as = r.last_place_as;
        last_value_as = r.last_value_as;
      }))

  -- an owner or an object that is not there
  abbrev Absent : ℕ → ℕ → Type 0
  Absent o t = (i j : ℕ) → i < nodes → j < objects → (i ≢ o) ⊎ (j ≢ t)

  by_object : (o t : ℕ) (m : List ℕ) (e : Digest) → (o < nodes → t < objects → Reads m e) → (Absent o t → Reads l e)
      → Reads (unless (object_number (length l) o t) l m) e
  by_object o t m e f g = below? o nodes
      (λ a. below? t objects (λ b. done (object_number (length l) o t) m e (object_fine l o t r.long a b) (f a b))
      (λ b. refused (object_number (length l) o t) m e (object_unknown l o t r.long a b)
      (g (λ i j h k. inr (λ q. let z : ⊥ = omega (arith, b, k, q) in z)))))
      (λ a. refused (object_number (length l) o t) m e (object_strange l o t r.long a)
      (g (λ i j h k. inl (λ q. let z : ⊥ = omega (arith, a, h, q) in z))))

  pub opened_law : (o t mode : ℕ) → Reads (opened_after l o t mode) (opened d o t mode)
  unfolding opened_after
  opened_law o t mode = by_object o t (set l (writes_cell o t) mode) (opened d o t mode) (writes_set l d r o t mode) (λ absent. record {
    long = r.long;
    places_as = r.places_as;
    serial_as = r.serial_as;
    place_as = r.place_as;
    writes_as = λ i j h g. r.writes_as i j h g ∙ sym (at2_off d.writes o t mode i j (absent i j h g));
    new_as = r.new_as;
    last_place_as = r.last_place_as;
    last_value_as = r.last_value_as;
  })

  pub valued_law : (o t v : ℕ) → Reads (valued_after l o t v) (valued d o t v)
  unfolding valued_after
  valued_law o t v = by_object o t (set l (new_cell o t) v) (valued d o t v) (new_set l d r o t v) (λ absent. record {
    long = r.long;
    places_as = r.places_as;
    serial_as = r.serial_as;
    place_as = r.place_as;
    writes_as = r.writes_as;
    new_as = λ i j h g. r.new_as i j h g ∙ sym (at2_off d.new o t v i j (absent i j h g));
    last_place_as = r.last_place_as;
    last_value_as = r.last_value_as;
  })

  pub put_law : (b : List ℕ) → Reads (put_after l b) (put d b)
  unfolding put_after with_put
  put_law b = done (sheet_number (length l)) (with_put l b) (put d b) (sheet_fine l r.long) (by (eqb (check_of b) 0) refl)
    where
      o : ℕ
      o = owner_of b

      either : (w : Bool) → (w ≡ true → o < nodes) → Reads (cond w (with_place l o) l) (cond w (placed d o) d)
      either true f = placed_reads l d r o (f refl)
      either false f = r

      by : (w : Bool) → eqb (check_of b) 0 ≡ w → Reads (with_put l b) (put d b)
      by true e =
          let m = owner_below b (eqb-true (check_of b) 0 e) in
          rw (r.serial_as o m, r.place_as o m) (either (first_yes (d.serial o) (d.place o) b) (λ z. m))
      by false e = rw (unformed b (cell l (serial_cell o)) (cell l (place_cell o)) e, unformed b (d.serial o) (d.place o) e) r

  pub committed_law : (o : ℕ) → o < nodes → Reads (committed_after l o) (committed d o)
  unfolding committed_after
  committed_law o m =
      done (owner_number (length l) o) (all_taken objects l o 0) (committed d o) (owner_fine l o r.long m) (committed_reads l d r o m)
