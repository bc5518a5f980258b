-- The clauses as facts: what `valid` computes is that the counts are right and each owner and each copy is sound. By the parts of the tests.
use mathlib.Core.Path.{◌≡◌, refl, sym, subst}
use mathlib.Core.Bool.{Bool, true, false, cond, not, ◌&&◌, ◌||◌}
use mathlib.Core.List.{List}
use mathlib.Core.Logic.{◌⊎◌, inl, inr, ⊎_elim}
use Prim.Native.Nat.{ℕ, zero, suc, ◌^◌, ◌<◌, ◌≤◌}
use native.Mathlib.Omega.{arith}
use lib.Bits.{bit_and, and_le_r}
use lib.Dec.{T, eqb, ltb, leb, eqb→eq, ltb→lt, lt→ltb, leb→le, le→leb, eqb_refl, eqb-suc-zero, T_not, not_T}
use lib.Pow.{pow_mono}
use lib.ListN.{length}
use borrow.Author.Tests.{eq-eqb}
use Rattle.numbers.specs.Sizes.{nodes, every_node, nobody}
use Rattle.mask.specs.Mask.{contains, joined, within}
use Rattle.mask.proofs.Laws.{bit_high, contains_within, within_contains, within_joined}
use Rattle.mask.proofs.Tests.{same_test, and_both, and_left, and_right, or_left, or_right, or_cases, T_true}
use Rattle.image.specs.Field.{field_of}
use Rattle.image.specs.Layout.{shape, image_size, object_count, owner_count, holder, readers, writers, author, author_serial, serial, state, stamp}
use Rattle.image.specs.Valid.{over, listed, held, refused}
use Rattle.image.specs.Valid.{each, holder_ok, state_ok, mask_ok, serial_ok, held_ok, listed_ok, counts_ok, formed, author_ok, authors_ok, valid, check_as}
use Rattle.image.specs.Valid.{check}
use Rattle.image.specs.Pass.{holder_fits, copy_fits, owner_fits}
use Rattle.image.proofs.Each.{each_at, each_all, lt_or_le}
use Rattle.image.proofs.Marks.{Marks}

-- serial and stamp are both 0, then in state 0, or neither is
abbrev pub Named : ℕ → ℕ → ℕ → Type 0
Named serial state stamp = ((serial ≡ 0) × (stamp ≡ 0) × (state ≡ over)) ⊎ ((serial ≡ 0 → ⊥) × (stamp ≡ 0 → ⊥))

pub record OwnerSound (serial state stamp : ℕ) : Type 0 where
  pub small : state ≤ refused
  pub named : Named serial state stamp

-- nobody, or an owner in state 2
abbrev pub HolderSound : (ℕ → ℕ) → ℕ → Type 0
HolderSound states h = (h ≡ nobody) ⊎ ((h < nodes) × (states h ≡ held))

-- owners in state 1, and no other bit
abbrev pub ListSound : (ℕ → ℕ) → ℕ → Type 0
ListSound states m = (o : ℕ) → T (contains m o) → (o < nodes) × (states o ≡ listed)

pub record CopySound (states : ℕ → ℕ) (h r w : ℕ) : Type 0 where
  pub holding : HolderSound states h
  pub reading : ListSound states r
  pub writing : ListSound states w

pub record Clauses (l : List ℕ) : Type 0 where
  pub objects_counted : field_of object_count l 0 ≡ shape.objects
  pub owners_counted : field_of (owner_count shape) l 0 ≡ nodes
  pub owners_sound : (o : ℕ) → o < nodes → OwnerSound (serial l o) (state l o) (stamp l o)
  pub copies_sound : (t : ℕ) → t < shape.objects → CopySound (state l) (holder l t) (readers l t) (writers l t)

-- object t's author is in order
abbrev pub Authored : List ℕ → ℕ → Type 0
Authored l t = T (author_ok (author l t) (author_serial l t))

-- an image: its length, the clauses, and the authors
pub record Sound (l : List ℕ) : Type 0 where
  pub size : length l ≡ image_size shape
  pub clauses : Clauses l
  pub authors : (t : ℕ) → t < shape.objects → Authored l t

-- ---- one owner
eq-T : (m n : ℕ) → m ≡ n → T (eqb m n)
eq-T m n e = subst (λ (k : ℕ). T (eqb m k)) e (eqb_refl m)

named_ok : (serial state stamp : ℕ) → Named serial state stamp → T (serial_ok serial state stamp)
named_ok serial state stamp h =
    ⊎_elim
    (λ (a : (serial ≡ 0) × (stamp ≡ 0) × (state ≡ over)).
    or_left (eqb serial 0 && eqb stamp 0 && eqb state 0) (not (eqb serial 0) && not (eqb stamp 0))
    (and_both (eqb serial 0 && eqb stamp 0) (eqb state 0) (and_both (eqb serial 0) (eqb stamp 0) (eq-T serial 0 a.0) (eq-T stamp 0 a.1))
    (eq-T state 0 a.2)))
    (λ a. or_right (eqb serial 0 && eqb stamp 0 && eqb state 0) (not (eqb serial 0) && not (eqb stamp 0))
    (and_both (not (eqb serial 0)) (not (eqb stamp 0)) (not_T (eqb serial 0) (λ t. a.0 (eqb→eq serial 0 t)))
    (not_T (eqb stamp 0) (λ t. a.1 (eqb→eq stamp 0 t)))))
    h

ok_named : (serial state stamp : ℕ) → T (serial_ok serial state stamp) → Named serial state stamp
ok_named serial state stamp t =
    or_cases (Named serial state stamp) (eqb serial 0 && eqb stamp 0 && eqb state 0) (not (eqb serial 0) && not (eqb stamp 0))
    (λ a.
    let b = and_left (eqb serial 0 && eqb stamp 0) (eqb state 0) a in
    inl (
      eqb→eq serial 0 (and_left (eqb serial 0) (eqb stamp 0) b),
      eqb→eq stamp 0 (and_right (eqb serial 0) (eqb stamp 0) b),
      eqb→eq state 0 (and_right (eqb serial 0 && eqb stamp 0) (eqb state 0) a),
    ))
    (λ a. inr (
      λ e. T_not (eqb serial 0) (and_left (not (eqb serial 0)) (not (eqb stamp 0)) a) (eq-T serial 0 e),
      λ e. T_not (eqb stamp 0) (and_right (not (eqb serial 0)) (not (eqb stamp 0)) a) (eq-T stamp 0 e),
    ))
    t

-- ---- one holder
module _ (states : ℕ → ℕ) (h : ℕ) where
  pub ok_holder : T (holder_ok h) → T (held_ok states h) → HolderSound states h
  ok_holder a b =
      or_cases (HolderSound states h) (eqb h nobody) (eqb (states h) held) (λ t. inl (eqb→eq h nobody t))
      (λ t. or_cases (HolderSound states h) (ltb h nodes) (eqb h nobody) (λ s. inr (ltb→lt h nodes s, eqb→eq (states h) held t))
      (λ s. inl (eqb→eq h nobody s)) a)
      b

  pub holder_ok_lem : HolderSound states h → T (holder_ok h)
  holder_ok_lem s =
      ⊎_elim (λ (e : h ≡ nobody). or_right (ltb h nodes) (eqb h nobody) (eq-T h nobody e))
      (λ e. or_left (ltb h nodes) (eqb h nobody) (lt→ltb h nodes e.0)) s

  pub holder_held : HolderSound states h → T (held_ok states h)
  holder_held s =
      ⊎_elim (λ (e : h ≡ nobody). or_left (eqb h nobody) (eqb (states h) held) (eq-T h nobody e))
      (λ e. or_right (eqb h nobody) (eqb (states h) held) (eq-T (states h) held e.1)) s

-- ---- one list
pub no_high_bit : (m o : ℕ) → m ≤ every_node → T (contains m o) → o < nodes
no_high_bit m o h t =
    ⊎_elim (λ (a : o < nodes). a)
    (λ a. let z : m < 2 ^ o = omega (arith, pow_mono {i = nodes} {j = o} a) in absurd (subst (λ (x : ℕ). T (eqb x 1)) (bit_high m o z) t))
    (lt_or_le o nodes)

-- owners alone make a small mask
pub low_bits : (m : ℕ) → ((o : ℕ) → T (contains m o) → o < nodes) → m ≤ every_node
unfolding each
low_bits m f =
    let e : bit_and m every_node ≡ m = eqb→eq (bit_and m every_node) m
    (contains_within m every_node (λ o t. each_at (contains every_node) nodes tt o (f o t))) in
    omega (arith, and_le_r m every_node)

module _ (states : ℕ → ℕ) (m : ℕ) where
  pub ok_list : T (mask_ok m) → T (listed_ok states m) → ListSound states m
  ok_list a b o t =
      let k : o < nodes = no_high_bit m o (leb→le m every_node a) t in (
        k,
        or_cases (states o ≡ listed) (not (contains m o)) (eqb (states o) listed) (λ n. absurd (T_not (contains m o) n t))
            (λ s. eqb→eq (states o) listed s)
            (each_at (λ i. not (contains m i) || eqb (states i) listed) nodes b o k),
      )

  pub list_ok : ListSound states m → T (mask_ok m)
  list_ok f = le→leb m every_node (low_bits m (λ o t. (f o t).0))

  pub list_listed : ListSound states m → T (listed_ok states m)
  list_listed f = each_all (λ i. not (contains m i) || eqb (states i) listed) nodes (λ o k. by o (contains m o) refl)
    where
      by : (o : ℕ) (b : Bool) → contains m o ≡ b → T (not (contains m o) || eqb (states o) listed)
      by o true e = or_right (not (contains m o)) (eqb (states o) listed) (eq-T (states o) listed (f o (subst T (sym e) tt)).1)
      by o false e = or_left (not (contains m o)) (eqb (states o) listed) (subst (λ (c : Bool). T (not c)) (sym e) tt)

-- ---- all of them
module _ (l : List ℕ) where
  abbrev counts : Bool
  counts = counts_ok shape l

  abbrev holders : Bool
  holders = each shape.objects (λ t. holder_ok (holder l t))

  abbrev states : Bool
  states = each nodes (λ o. state_ok (state l o))

  abbrev masks : Bool
  masks = each shape.objects (λ t. mask_ok (readers l t) && mask_ok (writers l t))

  abbrev names : Bool
  names = each nodes (λ o. serial_ok (serial l o) (state l o) (stamp l o))

  abbrev holds : Bool
  holds = each shape.objects (λ t. held_ok (state l) (holder l t))

  abbrev lists : Bool
  lists = each shape.objects (λ t. listed_ok (state l) (readers l t) && listed_ok (state l) (writers l t))

  pub valid_clauses : T (formed shape l) → Clauses l
  unfolding formed
  valid_clauses v =
      let a = and_left (counts && holders && states && masks && names && holds) lists v in
      let b = and_left (counts && holders && states && masks && names) holds a in
      let c = and_left (counts && holders && states && masks) names b in
      let d = and_left (counts && holders && states) masks c in
      let e = and_left (counts && holders) states d in
      let f = and_left counts holders e in
      let hs = and_right counts holders e in
      let ss = and_right (counts && holders) states d in
      let ms = and_right (counts && holders && states) masks c in
      let ns = and_right (counts && holders && states && masks) names b in
      let ds = and_right (counts && holders && states && masks && names) holds a in
      let ls = and_right (counts && holders && states && masks && names && holds) lists v in
      record {
        objects_counted = eqb→eq (field_of object_count l 0) shape.objects (and_left (eqb (field_of object_count l 0) shape.objects) _ f);
        owners_counted = eqb→eq (field_of (owner_count shape) l 0) nodes (and_right (eqb (field_of object_count l 0) shape.objects) _ f);
        owners_sound = λ o k. record {
          small = leb→le (state l o) refused (each_at (λ i. state_ok (state l i)) nodes ss o k);
          named = ok_named (serial l o) (state l o) (stamp l o) (each_at (λ i. serial_ok (serial l i) (state l i) (stamp l i)) nodes ns o k);
        };
        copies_sound = λ t k.
            let m = each_at (λ i. mask_ok (readers l i) && mask_ok (writers l i)) shape.objects ms t k in
            let n = each_at (λ i. listed_ok (state l) (readers l i) && listed_ok (state l) (writers l i)) shape.objects ls t k in
            record {
              holding = ok_holder (state l) (holder l t) (each_at (λ i. holder_ok (holder l i)) shape.objects hs t k)
                  (each_at (λ i. held_ok (state l) (holder l i)) shape.objects ds t k);
              reading = ok_list (state l) (readers l t) (and_left (mask_ok (readers l t)) (mask_ok (writers l t)) m)
                  (and_left (listed_ok (state l) (readers l t)) (listed_ok (state l) (writers l t)) n);
              writing = ok_list (state l) (writers l t) (and_right (mask_ok (readers l t)) (mask_ok (writers l t)) m)
                  (and_right (listed_ok (state l) (readers l t)) (listed_ok (state l) (writers l t)) n);
            };
      }

  pub clauses_valid : Clauses l → T (formed shape l)
  unfolding formed
  clauses_valid s =
      let cs = s.copies_sound in
      let a = and_both (eqb (field_of object_count l 0) shape.objects) (eqb (field_of (owner_count shape) l 0) nodes)
      (eq-T (field_of object_count l 0) shape.objects s.objects_counted) (eq-T (field_of (owner_count shape) l 0) nodes s.owners_counted) in
      let b = and_both counts holders a
      (each_all (λ t. holder_ok (holder l t)) shape.objects (λ t k. holder_ok_lem (state l) (holder l t) (cs t k).holding)) in
      let c = and_both (counts && holders) states b
      (each_all (λ o. state_ok (state l o)) nodes (λ o k. le→leb (state l o) refused (s.owners_sound o k).small)) in
      let d = and_both (counts && holders && states) masks c
      (each_all (λ t. mask_ok (readers l t) && mask_ok (writers l t)) shape.objects
      (λ t k. and_both (mask_ok (readers l t)) (mask_ok (writers l t)) (list_ok (state l) (readers l t) (cs t k).reading)
      (list_ok (state l) (writers l t) (cs t k).writing))) in
      let e = and_both (counts && holders && states && masks) names d
      (each_all (λ o. serial_ok (serial l o) (state l o) (stamp l o)) nodes
      (λ o k. named_ok (serial l o) (state l o) (stamp l o) (s.owners_sound o k).named)) in
      let f = and_both (counts && holders && states && masks && names) holds e
      (each_all (λ t. held_ok (state l) (holder l t)) shape.objects (λ t k. holder_held (state l) (holder l t) (cs t k).holding)) in
      and_both (counts && holders && states && masks && names && holds) lists f
      (each_all (λ t. listed_ok (state l) (readers l t) && listed_ok (state l) (writers l t)) shape.objects
      (λ t k. and_both (listed_ok (state l) (readers l t)) (listed_ok (state l) (writers l t)) (list_listed (state l) (readers l t) (cs t k).reading)
      (list_listed (state l) (writers l t) (cs t k).writing)))

  -- the check's 0 says exactly that the image is sound
  pub check_sound : check l ≡ 0 → Sound l
  unfolding check_as valid
  check_sound e = by (eqb (length l) (image_size shape)) refl (valid shape l) refl e
    where
      by : (b : Bool) → eqb (length l) (image_size shape) ≡ b → (v : Bool) → valid shape l ≡ v
          → ◌≡◌ {A = ℕ} (cond (not b) 1 (cond (not v) 2 0)) 0 → Sound l
      by true p true q h =
          let w : T (formed shape l && authors_ok shape l) = subst T (sym q) tt in
          record {
            size = eqb→eq (length l) (image_size shape) (subst T (sym p) tt);
            clauses = valid_clauses (and_left (formed shape l) (authors_ok shape l) w);
            authors = each_at (λ t. author_ok (author l t) (author_serial l t)) shape.objects (and_right (formed shape l) (authors_ok shape l) w);
          }
      by true p false q h = absurd (omega arith)
      by false p true q h = absurd (omega arith)
      by false p false q h = absurd (omega arith)

  pub sound_check : Sound l → check l ≡ 0
  unfolding check_as valid
  sound_check s =
      let w = and_both (formed shape l) (authors_ok shape l) (clauses_valid s.clauses)
      (each_all (λ t. author_ok (author l t) (author_serial l t)) shape.objects s.authors) in
      simp (eq-eqb (length l) (image_size shape) s.size, T_true (formed shape l && authors_ok shape l) w)

-- ---- the check's passes
-- an owner with serial 0 is sound exactly when stamp and state are 0 too
pub unused : (state stamp : ℕ) → (eqb stamp 0 && eqb state 0) ≡ (state_ok state && serial_ok 0 state stamp)
unused zero stamp = by (eqb stamp 0)
  where
    by : (b : Bool) → (b && true) ≡ (b && true || false)
    by true = refl
    by false = refl
unused (suc state) stamp = simp (eqb-suc-zero state) (by (eqb stamp 0) (leb (suc state) refused))
  where
    by : (b x : Bool) → (b && false) ≡ (x && (b && false || false))
    by true true = refl
    by true false = refl
    by false true = refl
    by false false = refl

-- a copy within the masks of the owners in states 1 and 2 is a sound one
module _ (states : ℕ → ℕ) (inListed inHeld : ℕ) (in1 : Marks inListed nodes (λ o. eqb (states o) listed))
    (in2 : Marks inHeld nodes (λ o. eqb (states o) held)) where
  marked : (m s o : ℕ) → Marks m nodes (λ i. eqb (states i) s) → T (contains m o) → (o < nodes) × (states o ≡ s)
  marked m s o f t =
      let b : T (ltb o nodes && eqb (states o) s) = subst T (f o) t in
      (ltb→lt o nodes (and_left (ltb o nodes) (eqb (states o) s) b), eqb→eq (states o) s (and_right (ltb o nodes) (eqb (states o) s) b))

  mark : (m s o : ℕ) → Marks m nodes (λ i. eqb (states i) s) → (o < nodes) × (states o ≡ s) → T (contains m o)
  mark m s o f h = subst T (sym (f o)) (and_both (ltb o nodes) (eqb (states o) s) (lt→ltb o nodes h.0) (eq-T (states o) s h.1))

  pub fits_sound : (h r w : ℕ) → T (holder_fits inHeld h && within (joined r w) inListed) → CopySound states h r w
  fits_sound h r w t =
      let a = and_left (holder_fits inHeld h) (within (joined r w) inListed) t in
      let b : T (within r inListed && within w inListed) = subst T (within_joined r w inListed)
      (and_right (holder_fits inHeld h) (within (joined r w) inListed) t) in
      record {
        holding = or_cases (HolderSound states h) (eqb h nobody) (contains inHeld h) (λ s. inl (eqb→eq h nobody s))
            (λ s. inr (marked inHeld held h in2 s)) a;
        reading = λ o s. marked inListed listed o in1 (within_contains r inListed (and_left (within r inListed) (within w inListed) b) o s);
        writing = λ o s. marked inListed listed o in1 (within_contains w inListed (and_right (within r inListed) (within w inListed) b) o s);
      }

  pub sound_fits : (h r w : ℕ) → CopySound states h r w → T (holder_fits inHeld h && within (joined r w) inListed)
  sound_fits h r w c =
      and_both (holder_fits inHeld h) (within (joined r w) inListed)
      (⊎_elim (λ (e : h ≡ nobody). or_left (eqb h nobody) (contains inHeld h) (eq-T h nobody e))
      (λ e. or_right (eqb h nobody) (contains inHeld h) (mark inHeld held h in2 e)) c.holding)
      (subst T (sym (within_joined r w inListed)) (and_both (within r inListed) (within w inListed)
      (contains_within r inListed (λ o s. mark inListed listed o in1 (c.reading o s)))
      (contains_within w inListed (λ o s. mark inListed listed o in1 (c.writing o s)))))

-- all passes together are the clauses
pub passes : (l : List ℕ) (inListed inHeld : ℕ) → Marks inListed nodes (λ o. eqb (state l o) listed)
    → Marks inHeld nodes (λ o. eqb (state l o) held)
    → (counts_ok shape l && each nodes (owner_fits l) && each shape.objects (copy_fits inListed inHeld l)) ≡ formed shape l
passes l inListed inHeld p q =
    same_test (C && each nodes (owner_fits l) && each shape.objects (copy_fits inListed inHeld l)) (formed shape l)
    (λ t.
    let a = and_left (C && each nodes (owner_fits l)) (each shape.objects (copy_fits inListed inHeld l)) t in
    let b = and_right (C && each nodes (owner_fits l)) (each shape.objects (copy_fits inListed inHeld l)) t in
    let c = and_left C (each nodes (owner_fits l)) a in
    let d = and_right C (each nodes (owner_fits l)) a in
    clauses_valid l (record {
      objects_counted = eqb→eq (field_of object_count l 0) shape.objects (and_left (eqb (field_of object_count l 0) shape.objects) _ c);
      owners_counted = eqb→eq (field_of (owner_count shape) l 0) nodes (and_right (eqb (field_of object_count l 0) shape.objects) _ c);
      owners_sound = λ o k.
          let e = each_at (owner_fits l) nodes d o k in
          record {
            small = leb→le (state l o) refused (and_left (state_ok (state l o)) (serial_ok (serial l o) (state l o) (stamp l o)) e);
            named = ok_named (serial l o) (state l o) (stamp l o) (and_right (state_ok (state l o)) (serial_ok (serial l o) (state l o) (stamp l o)) e);
          };
      copies_sound = λ t k. fits_sound (state l) inListed inHeld p q (holder l t) (readers l t) (writers l t)
          (each_at (copy_fits inListed inHeld l) shape.objects b t k);
    }))
    (λ t.
    let s = valid_clauses l t in
    and_both (C && each nodes (owner_fits l)) (each shape.objects (copy_fits inListed inHeld l))
    (and_both C (each nodes (owner_fits l))
    (and_both (eqb (field_of object_count l 0) shape.objects) (eqb (field_of (owner_count shape) l 0) nodes)
    (eq-T (field_of object_count l 0) shape.objects s.objects_counted) (eq-T (field_of (owner_count shape) l 0) nodes s.owners_counted))
    (each_all (owner_fits l) nodes (λ o k. and_both (state_ok (state l o)) (serial_ok (serial l o) (state l o) (stamp l o))
    (le→leb (state l o) refused (s.owners_sound o k).small) (named_ok (serial l o) (state l o) (stamp l o) (s.owners_sound o k).named))))
    (each_all (copy_fits inListed inHeld l) shape.objects
    (λ t k. sound_fits (state l) inListed inHeld p q (holder l t) (readers l t) (writers l t) (s.copies_sound t k))))
  where
    C : Bool
    C = counts_ok shape l
