-- What a digest keeps of a ledger, and that each thing told keeps it so. The transactions that got a place are a list: the log without those that were
-- not their owner's present one at the root's yes, which never commit. An owner's place is its present transaction's in that list, and the last place
-- and value of an object are what replay of its committed ones holds.
use mathlib.Core.Path.{◌≡◌, refl, sym, ◌∙◌, ap, ap₂, subst}
use mathlib.Core.Logic.{◌≢◌, inl, inr}
use mathlib.Core.Bool.{Bool, true, false, cond, ◌&&◌}
use mathlib.Core.List.{List, [], ◌∷◌}
use Prim.Native.Nat.{ℕ, suc, ◌+◌, ◌<◌, ◌≤◌}
use native.Mathlib.Decide.{ℕ_discrete}
use native.Mathlib.Omega.{arith}
use lib.Dec.{eqb, ltb}
use lib.ListN.{length}
use borrow.Author.Tests.{eqb-true, eqb-false, eq-eqb, ne_eqb, lt-ltb}
use Rattle.wire.specs.Decode.{owner_of, serial_of, check_of}
use Rattle.replay.specs.Digest.{Digest, blank_digest, largest, next, at, at2, zero_row, begun, opened, valued, first_yes, placed, put, takes, committed}
use Rattle.protocol.specs.Table.{In, put2, times}
use Rattle.protocol.specs.Rules.{Mode, unused}
use Rattle.protocol.specs.State.{Tx, Tx-discrete, tx_path}
use Rattle.protocol.specs.Replay.{after}
use Rattle.protocol.proofs.Tables.{on, put_cases, put_here, put2_cases}
use Rattle.protocol.proofs.Lists.{in_select, replay_ext, select_cases}
use Rattle.history.specs.Ledger.{in?, tx_of, root_yes, first_only}
use Rattle.history.specs.Origin.{is_writing}
use Rattle.history.proofs.Sim.{tx}
use Rattle.history.proofs.Ranks.{rank, rank_top, rank_under, rank_none, rank_some, rank_down, Distinct, times_some, is_in}
use Rattle.history.proofs.Ranks.{held, among, one_more, Thin, thin_more, thin_in, in_thin}

-- its owner began another since, and it is not committed: it will not be
abbrev pub Passed : (ℕ → ℕ) → List Tx → Tx → Type 0
Passed serials c y = (y.serial < serials y.owner) × (In y c → ⊥)

-- k: how many steps there were, which bounds the places
pub record Tracks (k : ℕ) (log : List Tx) (serials : ℕ → ℕ) (c : List Tx) (mode : Tx → ℕ → Mode) (new : Tx → ℕ → ℕ) (d : Digest) : Type 0 where
  pub given : List Tx
  pub few : length given ≤ k
  pub thin : Thin (Passed serials c) log given
  pub distinct : Distinct given
  pub places_as : d.places ≡ length given
  pub serial_as : (n : ℕ) → d.serial n ≡ serials n
  pub place_as : (n : ℕ) → d.place n ≡ rank given (tx n (serials n))
  pub writes_as : (n t : ℕ) → eqb (d.writes n t) 1 ≡ is_writing (mode (tx n (serials n)) t)
  pub new_as : (n t : ℕ) → d.new n t ≡ new (tx n (serials n)) t
  pub last_place_as : (t : ℕ) → d.last_place t ≡ held mode (λ x o. rank given x) (among c given) t
  pub last_value_as : (t : ℕ) → d.last_value t ≡ held mode new (among c given) t

-- ---- tables changed at one place
same? : {P : Type 0} (i n : ℕ) → (i ≡ n → P) → (i ≢ n → P) → P
same? {P} i n f g = by (ℕ_discrete i n)
  where
    by : Dec (i ≡ n) → P
    by (yes e) = f e
    by (no e) = g e

at_here : (f : ℕ → ℕ) (n v : ℕ) → at f n v n ≡ v
unfolding at
at_here f n v = simp (eq-eqb n n refl)

at_else : (f : ℕ → ℕ) (n v i : ℕ) → i ≢ n → at f n v i ≡ f i
unfolding at
at_else f n v i e = simp (ne_eqb i n e)

at2_here : (f : ℕ → ℕ → ℕ) (n t v : ℕ) → at2 f n t v n t ≡ v
unfolding at2
at2_here f n t v = simp (eq-eqb n n refl, eq-eqb t t refl)

at2_else : (f : ℕ → ℕ → ℕ) (n t v i j : ℕ) → (i ≡ n → j ≡ t → ⊥) → at2 f n t v i j ≡ f i j
unfolding at2
at2_else f n t v i j e = same? i n (λ p. simp (ne_eqb j t (e p)) (none (eqb i n))) (λ p. simp (ne_eqb i n p))
  where
    none : (b : Bool) → cond (b && false) v (f i j) ≡ f i j
    none true = refl
    none false = refl

row_here : (f : ℕ → ℕ → ℕ) (n j : ℕ) → zero_row f n n j ≡ 0
unfolding zero_row
row_here f n j = simp (eq-eqb n n refl)

row_else : (f : ℕ → ℕ → ℕ) (n i j : ℕ) → i ≢ n → zero_row f n i j ≡ f i j
unfolding zero_row
row_else f n i j e = simp (ne_eqb i n e)

next_below : (n : ℕ) → n < largest → next n ≡ n + 1
unfolding next
next_below n h = simp (lt-ltb n largest h)

-- ---- nothing told yet
pub blank_tracks : (mode : Tx → ℕ → Mode) → ((x : Tx) (t : ℕ) → mode x t ≡ unused) → Tracks 0 [] (λ n. 0) [] mode (λ x t. 0) blank_digest
blank_tracks mode e = record {
  given = [];
  few = omega arith;
  thin = refl;
  distinct = tt;
  places_as = refl;
  serial_as = λ n. refl;
  place_as = λ n. refl;
  writes_as = λ n t. sym (ap is_writing (e (tx n 0) t));
  new_as = λ n t. refl;
  last_place_as = λ t. refl;
  last_value_as = λ t. refl;
}

module _ (k : ℕ) (log : List Tx) (serials : ℕ → ℕ) (c : List Tx) (mode : Tx → ℕ → Mode) (new : Tx → ℕ → ℕ) (d : Digest)
    (r : Tracks k log serials c mode new d) where
  abbrev now : ℕ → Tx
  now n = tx n (serials n)

  abbrev g : List Tx
  g = r.given

  -- a step that tells nothing
  pub idle_tracks : Tracks (suc k) log serials c mode new d
  idle_tracks = record {
    given = g;
    few = let h = r.few in omega (arith, h);
    thin = r.thin;
    distinct = r.distinct;
    places_as = r.places_as;
    serial_as = r.serial_as;
    place_as = r.place_as;
    writes_as = r.writes_as;
    new_as = r.new_as;
    last_place_as = r.last_place_as;
    last_value_as = r.last_value_as;
  }

  -- ---- an owner began: its next transaction is not in the log, and nothing was told of it
  module _ (n : ℕ) (small : serials n < largest) (unlogged : In (tx n (serials n + 1)) log → ⊥) (no_mode : (t : ℕ) → mode (tx n (serials n + 1)) t ≡ unused)
      (no_new : (t : ℕ) → new (tx n (serials n + 1)) t ≡ 0) where
    abbrev serials' : ℕ → ℕ
    serials' = Rattle.protocol.specs.Table.put ℕ_discrete serials n (serials n + 1)

    here : serials' n ≡ serials n + 1
    here = put_here ℕ_discrete serials n (serials n + 1)

    elsewhere : (i : ℕ) → i ≢ n → serials' i ≡ serials i
    elsewhere i e = on (put_cases ℕ_discrete serials n (serials n + 1) i) (λ z. absurd (e z.0)) (λ z. z.1)

    rises : (i s : ℕ) → s < serials i → s < serials' i
    rises i s h = on (put_cases ℕ_discrete serials n (serials n + 1) i)
        (λ z. let a = ap serials z.0 in let b = z.1 in omega (arith, h, a, b)) (λ z. let b = z.1 in omega (arith, h, b))

    pub begun_tracks : Tracks k log serials' c mode new (begun d n)
    begun_tracks = record {
      given = g;
      few = r.few;
      thin = thin_more (Passed serials c) (Passed serials' c) (λ y z. (rises y.owner y.serial z.0, z.1)) log g r.thin;
      distinct = r.distinct;
      places_as = r.places_as;
      serial_as = λ i. same? i n
          (λ e. subst (λ (i : ℕ). at d.serial n (next (d.serial n)) i ≡ serials' i) (sym e)
          (at_here d.serial n (next (d.serial n)) ∙ ap next (r.serial_as n) ∙ next_below (serials n) small ∙ sym here))
          (λ e. at_else d.serial n (next (d.serial n)) i e ∙ r.serial_as i ∙ sym (elsewhere i e));
      place_as = λ i. same? i n
          (λ e. subst (λ (i : ℕ). at d.place n 0 i ≡ rank g (tx i (serials' i))) (sym e)
          (at_here d.place n 0 ∙ sym (rank_none (tx n (serials n + 1)) g (λ j. unlogged (thin_in (Passed serials c) _ log g r.thin j)))
          ∙ ap (λ (s : ℕ). rank g (tx n s)) (sym here)))
          (λ e. at_else d.place n 0 i e ∙ r.place_as i ∙ ap (λ (s : ℕ). rank g (tx i s)) (sym (elsewhere i e)));
      writes_as = λ i t. same? i n
          (λ e. subst (λ (i : ℕ). eqb (zero_row d.writes n i t) 1 ≡ is_writing (mode (tx i (serials' i)) t)) (sym e)
          (ap (λ (w : ℕ). eqb w 1) (row_here d.writes n t) ∙ ap is_writing (sym (no_mode t)) ∙ ap (λ (s : ℕ). is_writing (mode (tx n s) t)) (sym here)))
          (λ e. ap (λ (w : ℕ). eqb w 1) (row_else d.writes n i t e) ∙ r.writes_as i t
          ∙ ap (λ (s : ℕ). is_writing (mode (tx i s) t)) (sym (elsewhere i e)));
      new_as = λ i t. same? i n
          (λ e. subst (λ (i : ℕ). zero_row d.new n i t ≡ new (tx i (serials' i)) t) (sym e)
          (row_here d.new n t ∙ sym (no_new t) ∙ ap (λ (s : ℕ). new (tx n s) t) (sym here)))
          (λ e. row_else d.new n i t e ∙ r.new_as i t ∙ ap (λ (s : ℕ). new (tx i s) t) (sym (elsewhere i e)));
      last_place_as = r.last_place_as;
      last_value_as = r.last_value_as;
    }

  -- ---- its present transaction, which is not committed, opened an object or gave it a new value
  module _ (n : ℕ) (undecided : In (now n) c → ⊥) (t : ℕ) where
    -- what is committed is another
    other : (x : Tx) → In x (among c g) → x ≢ now n
    other x i e = undecided (subst (λ (z : Tx). In z c) e (in_select (λ y. in? y c) g x i).1)

    module _ (m : Mode) (w : ℕ) (as_told : eqb w 1 ≡ is_writing m) where
      abbrev mode' : Tx → ℕ → Mode
      mode' = put2 Tx-discrete ℕ_discrete mode (now n) t m

      mode_else : (x : Tx) (j : ℕ) → (x ≡ now n → j ≡ t → ⊥) → mode' x j ≡ mode x j
      mode_else x j e = on (put2_cases Tx-discrete ℕ_discrete mode (now n) t m x j) (λ z. absurd (e z.0.0 z.0.1)) (λ z. z.1)

      mode_here : mode' (now n) t ≡ m
      mode_here = on (put2_cases Tx-discrete ℕ_discrete mode (now n) t m (now n) t) (λ z. z.1) (λ z. absurd (z.0 (refl, refl)))

      held_still : (f : Tx → ℕ → ℕ) (j : ℕ) → held mode f (among c g) j ≡ held mode' f (among c g) j
      held_still f j = sym (replay_ext 0 (λ x o a. after (mode x o) (f x o) a) (λ x o a. after (mode' x o) (f x o) a) (among c g) j
          (λ x i a. ap (λ (m : Mode). after m (f x j) a) (mode_else x j (λ e q. other x i e))))

      pub opened_tracks : Tracks k log serials c mode' new (opened d n t w)
      opened_tracks = record {
        given = g;
        few = r.few;
        thin = r.thin;
        distinct = r.distinct;
        places_as = r.places_as;
        serial_as = r.serial_as;
        place_as = r.place_as;
        writes_as = λ i j. same? i n
            (λ e. same? j t
            (λ q. subst (λ (i : ℕ). eqb (at2 d.writes n t w i j) 1 ≡ is_writing (mode' (now i) j)) (sym e)
            (subst (λ (j : ℕ). eqb (at2 d.writes n t w n j) 1 ≡ is_writing (mode' (now n) j)) (sym q)
            (ap (λ (w : ℕ). eqb w 1) (at2_here d.writes n t w) ∙ as_told ∙ ap is_writing (sym mode_here))))
            (λ q. still i j (λ a b. q b)))
            (λ e. still i j (λ a b. e a));
        new_as = r.new_as;
        last_place_as = λ j. r.last_place_as j ∙ held_still (λ x o. rank g x) j;
        last_value_as = λ j. r.last_value_as j ∙ held_still new j;
      }
        where
          still : (i j : ℕ) → (i ≡ n → j ≡ t → ⊥) → eqb (at2 d.writes n t w i j) 1 ≡ is_writing (mode' (now i) j)
          still i j e = ap (λ (w : ℕ). eqb w 1) (at2_else d.writes n t w i j e) ∙ r.writes_as i j
              ∙ ap is_writing (sym (mode_else (now i) j (λ q. e (ap (λ (x : Tx). x.owner) q))))

    module _ (v : ℕ) where
      abbrev new' : Tx → ℕ → ℕ
      new' = put2 Tx-discrete ℕ_discrete new (now n) t v

      new_else : (x : Tx) (j : ℕ) → (x ≡ now n → j ≡ t → ⊥) → new' x j ≡ new x j
      new_else x j e = on (put2_cases Tx-discrete ℕ_discrete new (now n) t v x j) (λ z. absurd (e z.0.0 z.0.1)) (λ z. z.1)

      new_here : new' (now n) t ≡ v
      new_here = on (put2_cases Tx-discrete ℕ_discrete new (now n) t v (now n) t) (λ z. z.1) (λ z. absurd (z.0 (refl, refl)))

      pub valued_tracks : Tracks k log serials c mode new' (valued d n t v)
      valued_tracks = record {
        given = g;
        few = r.few;
        thin = r.thin;
        distinct = r.distinct;
        places_as = r.places_as;
        serial_as = r.serial_as;
        place_as = r.place_as;
        writes_as = r.writes_as;
        new_as = λ i j. same? i n
            (λ e. same? j t
            (λ q. subst (λ (i : ℕ). at2 d.new n t v i j ≡ new' (now i) j) (sym e)
            (subst (λ (j : ℕ). at2 d.new n t v n j ≡ new' (now n) j) (sym q) (at2_here d.new n t v ∙ sym new_here)))
            (λ q. still i j (λ a b. q b)))
            (λ e. still i j (λ a b. e a));
        last_place_as = r.last_place_as;
        last_value_as = λ j. r.last_value_as j
            ∙ sym (replay_ext 0 (λ x o a. after (mode x o) (new x o) a) (λ x o a. after (mode x o) (new' x o) a) (among c g) j
            (λ x i a. ap (λ (v : ℕ). after (mode x j) v a) (new_else x j (λ e q. other x i e))));
      }
        where
          still : (i j : ℕ) → (i ≡ n → j ≡ t → ⊥) → at2 d.new n t v i j ≡ new' (now i) j
          still i j e = at2_else d.new n t v i j e ∙ r.new_as i j ∙ sym (new_else (now i) j (λ q. e (ap (λ (x : Tx). x.owner) q)))

  -- ---- it committed: it stands in the log, and was not committed before
  module _ (n : ℕ) (logged : In (now n) log) (undecided : In (now n) c → ⊥) where
    has_place : In (now n) g
    has_place = in_thin (Passed serials c) (now n) (λ z. let h = z.0 in let b : ⊥ = omega (arith, h) in b) log g r.thin logged

    taken_as : (t : ℕ) → takes (d.writes n t) (d.place n) (d.last_place t)
        ≡ (is_writing (mode (now n) t) && ltb (held mode (λ x o. rank g x) (among c g) t) (rank g (now n)))
    unfolding takes
    taken_as t = ap₂ (λ (a b : Bool). a && b) (r.writes_as n t) (ap₂ ltb (r.last_place_as t) (r.place_as n))

    more : (f : Tx → ℕ → ℕ) (t a b : ℕ) → a ≡ f (now n) t → b ≡ held mode f (among c g) t
        → cond (takes (d.writes n t) (d.place n) (d.last_place t)) a b ≡ held mode f (among (now n ∷ c) g) t
    more f t a b p q = ap (λ (w : Bool). cond w a b) (taken_as t)
        ∙ ap₂ (λ (a b : ℕ). cond (is_writing (mode (now n) t) && ltb (held mode (λ x o. rank g x) (among c g) t) (rank g (now n))) a b) p q
        ∙ sym (one_more mode (rank g) c (now n) undecided t f g has_place (rank_down g r.distinct) (rank_some (now n) g has_place))

    pub committed_tracks : Tracks k log serials (now n ∷ c) mode new (committed d n)
    committed_tracks = record {
      given = g;
      few = r.few;
      thin = thin_more (Passed serials c) (Passed serials (now n ∷ c))
          (λ y z. (
            z.0,
            λ i. on i (λ e. let h = z.0 in let p = ap (λ (x : Tx). x.serial) e in let q = ap (λ (x : Tx). serials x.owner) e in
                let b : ⊥ = omega (arith, h, p, q) in b) z.1,
          )) log g r.thin;
      distinct = r.distinct;
      places_as = r.places_as;
      serial_as = r.serial_as;
      place_as = r.place_as;
      writes_as = r.writes_as;
      new_as = r.new_as;
      last_place_as = λ t. more (λ x o. rank g x) t (d.place n) (d.last_place t) (r.place_as n) (r.last_place_as t);
      last_value_as = λ t. more new t (d.new n t) (d.last_value t) (r.new_as n t) (r.last_value_as t);
    }

  -- ---- a message was put. A committed transaction is in the log; what the root says yes to is its owner's present transaction or an earlier one
  module _ (b : List ℕ) (well : check_of b ≡ 0) (room : k < largest) (logged : (y : Tx) → In y c → In y log)
      (not-later : root_yes b ≡ true → serial_of b ≤ serials (owner_of b)) where
    abbrev o : ℕ
    o = owner_of b

    abbrev x : Tx
    x = tx_of b

    -- the root's yes, to the owner's present transaction, which has no place
    abbrev unplaced : Bool
    unplaced = eqb (serial_of b) (d.serial o) && eqb (d.place o) 0

    first_as : first_yes (d.serial o) (d.place o) b ≡ (root_yes b && unplaced)
    unfolding first_yes
    first_as = simp (eq-eqb (check_of b) 0 well)
        (joined (eqb (Rattle.wire.specs.Decode.kind_of b) 4) (eqb (Rattle.wire.specs.Items.word_of b) 1) (eqb (Rattle.wire.specs.Decode.from_of b) 0))
      where
        joined : (p q r : Bool) → (p && (q && (r && unplaced))) ≡ ((p && (q && r)) && unplaced)
        joined true true r = refl
        joined true false r = refl
        joined false q r = refl

    put_as : (w : Bool) → (root_yes b && unplaced) ≡ w → put d b ≡ cond w (placed d o) d
    put_as w e = ap (λ (w : Bool). cond w (placed d o) d) (first_as ∙ e)

    -- nothing is told, and the log is as it was or one longer
    nothing : (root_yes b && unplaced) ≡ false → Tracks (suc k) log serials c mode new (put d b)
    nothing e = subst (Tracks (suc k) log serials c mode new) (sym (put_as false e)) idle_tracks

    module _ (yes_of : root_yes b ≡ true) where
      told_as : (w : Bool) → unplaced ≡ w → (root_yes b && unplaced) ≡ w
      told_as w e = ap (λ (y : Bool). y && unplaced) yes_of ∙ e

      is_now : serial_of b ≡ serials o → x ≡ now o
      is_now e = tx_path x (now o) refl e

      stale : serial_of b ≢ serials o → unplaced ≡ false
      stale e = ap (λ (w : Bool). w && eqb (d.place o) 0) (ne_eqb (serial_of b) (d.serial o) (λ q. e (q ∙ r.serial_as o)))

      -- it stands in the log already
      again : In x log → unplaced ≡ false
      again i = same? (serial_of b) (serials o)
          (λ e. let p = rank_some (now o) g (in_thin (Passed serials c) (now o) (λ z. let h = z.0 in let n : ⊥ = omega (arith, h) in n) log g r.thin
          (subst (λ (z : Tx). In z log) (is_now e) i)) in
          let q = r.place_as o in
          ap (λ (w : Bool). eqb (serial_of b) (d.serial o) && w) (ne_eqb (d.place o) 0 (λ z. let n : ⊥ = omega (arith, p, q, z) in n))
          ∙ never (eqb (serial_of b) (d.serial o)))
          stale
        where
          never : (w : Bool) → (w && false) ≡ false
          never true = refl
          never false = refl

      -- it is new there, and its owner began another since
      left_out : (In x log → ⊥) → serial_of b ≢ serials o → Tracks (suc k) (x ∷ log) serials c mode new (put d b)
      left_out fresh e =
          let h = not-later yes_of in
          record {
            given = g;
            few = let f = r.few in omega (arith, f);
            thin = inl ((below h, λ i. fresh (logged x i)), r.thin);
            distinct = r.distinct;
            places_as = ap (λ (z : Digest). z.places) same ∙ r.places_as;
            serial_as = λ n. ap (λ (z : Digest). z.serial n) same ∙ r.serial_as n;
            place_as = λ n. ap (λ (z : Digest). z.place n) same ∙ r.place_as n;
            writes_as = λ n t. ap (λ (z : Digest). eqb (z.writes n t) 1) same ∙ r.writes_as n t;
            new_as = λ n t. ap (λ (z : Digest). z.new n t) same ∙ r.new_as n t;
            last_place_as = λ t. ap (λ (z : Digest). z.last_place t) same ∙ r.last_place_as t;
            last_value_as = λ t. ap (λ (z : Digest). z.last_value t) same ∙ r.last_value_as t;
          }
        where
          same : put d b ≡ d
          same = put_as false (told_as false (stale e))

          below : serial_of b ≤ serials o → serial_of b < serials o
          below h = let n = e in omega (arith, h, n)

      -- it is new there, and its owner's present one: it gets the next place
      first : (In x log → ⊥) → serial_of b ≡ serials o → Tracks (suc k) (x ∷ log) serials c mode new (put d b)
      first fresh e = subst (Tracks (suc k) (x ∷ log) serials c mode new) (sym (put_as true (told_as true lacks))) (record {
        given = x ∷ g;
        few = let f = r.few in omega (arith, f);
        thin = inr (g, refl, r.thin);
        distinct = (out, r.distinct);
        places_as = number;
        serial_as = r.serial_as;
        place_as = λ i. same? i o
            (λ q. subst (λ (i : ℕ). at d.place o (next d.places) i ≡ rank (x ∷ g) (now i)) (sym q)
            (at_here d.place o (next d.places) ∙ number ∙ sym (rank_top x g) ∙ ap (rank (x ∷ g)) (is_now e)))
            (λ q. at_else d.place o (next d.places) i q ∙ r.place_as i
            ∙ sym (rank_under (now i) x g (λ z. q (ap (λ (y : Tx). y.owner) z))));
        writes_as = r.writes_as;
        new_as = r.new_as;
        last_place_as = λ t. r.last_place_as t
            ∙ sym (replay_ext 0 (λ y j a. after (mode y j) (rank g y) a) (λ y j a. after (mode y j) (rank (x ∷ g) y) a) (among c g) t
            (λ y i a. ap (λ (v : ℕ). after (mode y t) v a)
            (rank_under y x g (λ z. out (subst (λ (u : Tx). In u g) z (in_select (λ u. in? u c) g y i).0)))))
            ∙ ap (λ (l : List Tx). held mode (λ y j. rank (x ∷ g) y) l t) (sym as_before);
        last_value_as = λ t. r.last_value_as t ∙ ap (λ (l : List Tx). held mode new l t) (sym as_before);
      })
        where
          out : In x g → ⊥
          out i = fresh (thin_in (Passed serials c) x log g r.thin i)

          lacks : unplaced ≡ true
          lacks = ap₂ (λ (v w : Bool). v && w) (eq-eqb (serial_of b) (d.serial o) (e ∙ sym (r.serial_as o)))
              (eq-eqb (d.place o) 0 (r.place_as o ∙ ap (rank g) (sym (is_now e)) ∙ rank_none x g out))

          number : next d.places ≡ suc (length g)
          number = let f = r.few in let p = r.places_as in next_below d.places (omega (arith, f, p, room)) ∙ (let q : d.places + 1 ≡ suc (length g) =
              omega (arith, p) in q)

          as_before : among c (x ∷ g) ≡ among c g
          as_before = on (select_cases (λ y. in? y c) x g) (λ z. absurd (fresh (logged x z.0))) (λ z. z.1)

      by_log : (w : Bool) → eqb (times Tx-discrete x log) 0 ≡ w → Tracks (suc k) (cond w (x ∷ log) log) serials c mode new (put d b)
      by_log true e =
          let fresh : In x log → ⊥ = λ i. times_some x log i (eqb-true (times Tx-discrete x log) 0 e) in
          same? (serial_of b) (serials o) (first fresh) (left_out fresh)
      by_log false e = nothing (told_as false (again (is_in x log (eqb-false (times Tx-discrete x log) 0 e))))

    by_yes : (w : Bool) → root_yes b ≡ w → Tracks (suc k) (cond w (first_only x log) log) serials c mode new (put d b)
    by_yes true e = by_log e (eqb (times Tx-discrete x log) 0) refl
    by_yes false e = nothing (ap (λ (w : Bool). w && unplaced) e)

    pub put_tracks : Tracks (suc k) (cond (root_yes b) (first_only x log) log) serials c mode new (put d b)
    put_tracks = by_yes (root_yes b) refl
