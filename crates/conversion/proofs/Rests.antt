-- A station at rest is one at rest once it is converted: its images read as they did (Fields), and what it has besides is as it was.
use mathlib.Core.Path.{◌≡◌, refl, sym, ◌∙◌, ap, subst}
use mathlib.Core.Bool.{Bool, true, false, cond, not}
use mathlib.Core.List.{List, ◌∷◌}
use mathlib.Core.Logic.{◌⊎◌, inl, inr, by_cases}
use mathlib.Core.Option.{Option, none, some}
use Prim.Native.Nat.{ℕ, ◌<◌, ◌≤◌}
use native.Mathlib.Decide.{ℕ_discrete}
use native.Mathlib.Omega.{arith}
use lib.Dec.{eqb}
use lib.ListN.{length}
use borrow.Author.Tests.{lt-ltb, le-ltb, eq-eqb, ne_eqb}
use Rattle.numbers.specs.Sizes.{nodes, nobody, unknown}
use Rattle.octets.proofs.Laws.{Bytes}
use Rattle.wire.specs.Decode.{from_of, to_of, owner_of, serial_of}
use Rattle.image.specs.Field.{field_of}
use Rattle.image.specs.Layout.{Shape, shape, has_author, image_size, value_field, version_field, author_field, author_serial_field, serial_field, state_field}
use Rattle.image.specs.Layout.{value, version, author, author_serial, serial, state}
use Rattle.image.specs.Valid.{valid, check_as, check}
use Rattle.image.proofs.Each.{lt_or_le}
use Rattle.intake.specs.Take.{author_at, taken_in}
use Rattle.intake.proofs.Taken.{bytes_taken, taken_author, taken_author_serial, taken_serial, taken_state}
use Rattle.intake.proofs.Judged.{taken_check}
use Rattle.protocol.specs.State.{Tx}
use Rattle.protocol.proofs.Tables.{on}
use Rattle.protocol.proofs.Refine.Authors.{names_cases}
use Rattle.history.specs.Origin.{Carried, held_after, writer_after, writers_of, writes, AuthorAs, AuthorIs, SpentAs, Spent}
use Rattle.history.specs.Origin.{Origin as Machine, RestedAs as MachineRestedAs, Rested as MachineRested}
use Rattle.history.specs.Claims.{KnownAs, Known}
use Rattle.accounts.specs.Accounts.{Origin, RestedAs, Rested}
use Rattle.conversion.specs.Converted.{Convertible, taken_station, taken_origin, taken_service}
use Rattle.conversion.proofs.Fields.{beyond_version, beyond_author, beyond_serial, version_as, value_as, author_as, author_serial_as, author_known}

-- an image without a number is valid
check_valid : (s : Shape) (l : List ℕ) → check_as s l ≡ 0 → valid s l ≡ true
unfolding check_as
check_valid s l e = by (eqb (length l) (image_size s)) (valid s l) e
  where
    by : (n v : Bool) → ◌≡◌ {A = ℕ} (cond (not n) 1 (cond (not v) 2 0)) 0 → v ≡ true
    by true true q = refl
    by true false q = absurd (let z : ⊥ = omega arith in z)
    by false v q = absurd (let z : ⊥ = omega arith in z)

module _ (s : Shape) (fit : Convertible s) (o : Machine) (r : MachineRestedAs s o) where
  abbrev old : ℕ → List ℕ
  old n = o.station.images n

  abbrev new : ℕ → List ℕ
  new n = (taken_station s o.station).images n

  abbrev k : Carried
  k = o.carried

  -- every image is taken in; that of what is no node was blank
  image_as : (n : ℕ) → new n ≡ taken_in s (old n)
  image_as n = on (lt_or_le n nodes) (λ h. rw (lt-ltb n nodes h) refl)
      (λ h. rw (le-ltb n nodes h) (sym (ap (taken_in s) (r.beyond n h) ∙ fit.blank)))

  -- ---- its fields are those that were
  module _ (n : ℕ) where
    pub version_kept : (t : ℕ) → version (new n) t ≡ field_of (version_field s) (old n) t
    version_kept t = ap (λ (l : List ℕ). version l t) (image_as n) ∙ version_as s fit.room (old n) (r.bytes n) t

    pub value_kept : (t : ℕ) → value (new n) t ≡ field_of (value_field s) (old n) t
    value_kept t = ap (λ (l : List ℕ). value l t) (image_as n) ∙ value_as s fit.room (old n) (r.bytes n) t

    pub serial_kept : (w : ℕ) → serial (new n) w ≡ field_of (serial_field s) (old n) w
    serial_kept w = ap (λ (l : List ℕ). serial l w) (image_as n) ∙ taken_serial s (old n) fit.room (r.bytes n) w

    pub state_kept : (w : ℕ) → state (new n) w ≡ field_of (state_field s) (old n) w
    state_kept w = ap (λ (l : List ℕ). state l w) (image_as n) ∙ taken_state s (old n) fit.room (r.bytes n) w

    -- ---- authors
    none_of : (t v : ℕ) → v ≡ 0 → writer_after k t v ≡ none
    none_of t v e = on (names_cases (writes k) k.txs t v (omega (arith, e))) (λ z. z.1)
        (λ z. absurd (let f = z.4 in let y : ⊥ = omega (arith, e, f) in y))

    abbrev Authored : ℕ → Type 0
    Authored t = AuthorIs (taken_in s (old n)) t (writer_after k t (version (taken_in s (old n)) t)) ⊎ (author (taken_in s (old n)) t ≡ unknown)

    -- nobody has written version 0
    by_nobody : (t : ℕ) → version (taken_in s (old n)) t ≡ 0 → author (taken_in s (old n)) t ≡ nobody → author_serial (taken_in s (old n)) t ≡ 0 → Authored t
    by_nobody t v a b = inl (subst (AuthorIs (taken_in s (old n)) t) (sym (none_of t (version (taken_in s (old n)) t) v)) (a, b))

    -- the older copy has an author, and keeps it
    with_author_lem : has_author s ≡ true → (t : ℕ) → t < s.objects → Authored t
    with_author_lem e t h = on (r.authors e n t h)
        (λ a. inl (subst (λ (v : ℕ). AuthorIs (taken_in s (old n)) t (writer_after k t v)) (sym (version_as s fit.room (old n) (r.bytes n) t))
        (keeps (writer_after k t (field_of (version_field s) (old n) t)) a)))
        (λ u. inr (p ∙ u))
      where
        p : author (taken_in s (old n)) t ≡ field_of (author_field s) (old n) t
        p = author_as s fit.room (old n) (r.bytes n) e t h

        q : author_serial (taken_in s (old n)) t ≡ field_of (author_serial_field s) (old n) t
        q = author_serial_as s fit.room (old n) (r.bytes n) e t h

        keeps : (w : Option Tx) → AuthorAs s (old n) t w → AuthorIs (taken_in s (old n)) t w
        keeps none a = (p ∙ a.0, q ∙ a.1)
        keeps (some x) a = (a.0, p ∙ a.1, q ∙ a.2)

    -- it has none: nobody at version 0, unknown above
    without_author : has_author s ≡ false → (t : ℕ) → t < s.objects → Authored t
    without_author e t h =
        let v = field_of (version_field s) (old n) t in
        let a : author (taken_in s (old n)) t ≡ author_at v =
        taken_author s (old n) fit.room (r.bytes n) t h ∙ ap (λ (b : Bool). cond b (field_of (author_field s) (old n) t) (author_at v)) e in
        let b : author_serial (taken_in s (old n)) t ≡ 0 =
        taken_author_serial s (old n) fit.room (r.bytes n) t h ∙ ap (λ (b : Bool). cond b (field_of (author_serial_field s) (old n) t) 0) e in
        by_cases (ℕ_discrete v 0)
        (λ z. by_nobody t (version_as s fit.room (old n) (r.bytes n) t ∙ z) (a ∙ ap (λ (q : Bool). cond q nobody unknown) (eq-eqb v 0 z)) b)
        (λ z. inr (a ∙ ap (λ (q : Bool). cond q nobody unknown) (ne_eqb v 0 z)))

    authored : (t : ℕ) → t < shape.objects → Authored t
    authored t h = on (lt_or_le t s.objects) (λ q. by (has_author s) refl q)
        (λ q. by_nobody t (beyond_version s fit.room (old n) (r.bytes n) t q) (beyond_author s fit.room (old n) (r.bytes n) t q h)
        (beyond_serial s fit.room (old n) (r.bytes n) t q))
      where
        by : (b : Bool) → has_author s ≡ b → t < s.objects → Authored t
        by true e = with_author_lem e t
        by false e = without_author e t

  -- ---- what waits is spent
  spent : (b : List ℕ) → SpentAs s o.station b → Spent (taken_station s o.station) b
  spent b z = record {
    well = z.well;
    bytes = z.bytes;
    begun = z.begun;
    stamped = z.stamped;
    arrives = λ e. subst (λ (v : ℕ). serial_of b ≤ v) (sym (serial_kept (to_of b) (owner_of b))) (z.arrives e);
    said = λ e. subst (λ (v : ℕ). serial_of b ≤ v) (sym (serial_kept (from_of b) (owner_of b))) (z.said e);
  }

  -- THE THEOREM: it is an origin
  pub taken_rests : MachineRested (taken_origin s o)
  taken_rests = record {
    sane = r.sane;
    idle = r.idle;
    clauses = r.clauses;
    widths = r.widths;
    valid = λ n. subst (λ (l : List ℕ). check l ≡ 0) (sym (image_as n))
        (taken_check s (old n) fit.room (r.bytes n) (check_valid s (old n) (r.valid n)));
    bytes = λ n. subst Bytes (sym (image_as n)) (bytes_taken s (old n));
    beyond = λ n h. rw (le-ltb n nodes h) refl;
    all_over = λ n w. state_kept n w ∙ r.all_over n w;
    below = λ n w. subst (λ (v : ℕ). v ≤ (o.station.records w).serial) (sym (serial_kept n w)) (r.below n w);
    once = r.once;
    begun = r.begun;
    write_quorum = r.write_quorum;
    late = λ x n i c. subst (λ (v : ℕ). x.serial ≤ v) (sym (serial_kept n x.owner)) (r.late x n i c);
    stored = λ x l n t i c e. subst (λ (v : ℕ). writers_of k (x ∷ l) t ≤ v) (sym (version_kept n t)) (r.stored x l n t i c e);
    written = λ n t. subst (λ (v : ℕ). v ≤ writers_of k k.txs t) (sym (version_kept n t)) (r.written n t);
    copies = λ n t. value_kept n t ∙ r.copies n t ∙ ap (held_after k t) (sym (version_kept n t));
    authors = λ e n t h. subst (λ (l : List ℕ). AuthorIs l t (writer_after k t (version l t)) ⊎ (author l t ≡ unknown)) (sym (image_as n)) (authored n t h);
    waits = λ b i. spent b (r.waits b i);
    room = r.room;
  }

  -- where authors were kept and known, they still are
  pub known_kept : has_author s ≡ true → KnownAs s o.station → Known (taken_station s o.station)
  known_kept e known n t = subst (λ (l : List ℕ). author l t ≡ unknown → ⊥) (sym (image_as n))
      (author_known s fit.room (old n) (r.bytes n) e t (known n t))

-- the service too: its weights and its settings are as they were
pub taken_service_rests : (s : Shape) → Convertible s → (o : Origin) → RestedAs s o → Rested (taken_service s o)
taken_service_rests s fit o r = record { machine = taken_rests s fit o.machine r.machine; settings = r.settings; weighs = r.weighs }
