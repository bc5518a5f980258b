-- What the events tell of an owner's votes, against its record. P, C, A, S: the participants that were answered, what was told committed, the yes
-- votes that came, what is spoilt. Nothing was told of what comes later; while voting the record has the votes that came, and it is not spoilt; what is
-- over was told committed, or cannot be ripe. Then what each change of a record and of what is told leaves of that.
use mathlib.Core.Path.{◌≡◌, refl, sym, ◌∙◌, ap, subst}
use mathlib.Core.Logic.{◌≢◌, ◌⊎◌, inl, inr}
use mathlib.Core.Bool.{Bool, true, false, not, ◌||◌}
use mathlib.Core.List.{List}
use Prim.Native.Nat.{ℕ, ◌+◌, ◌<◌, ◌≤◌}
use native.Mathlib.Decide.{ℕ_discrete}
use native.Mathlib.Omega.{arith}
use lib.Dec.{T, eqb}
use borrow.Author.Tests.{eq-eqb, ne_eqb, eqb-true, eqb-false}
use Rattle.mask.specs.Mask.{contains, only, joined, within}
use Rattle.mask.proofs.Laws.{contains_joined, contains_power, only_small, within_contains}
use Rattle.mask.proofs.Tests.{T_true, compared}
use Rattle.clauses.proofs.Parts.{true-T, by_test}
use Rattle.coordinator.specs.State.{idle_phase, open_phase, voting_phase, finishing_phase}
use Rattle.protocol.specs.Table.{put, put2, In}
use Rattle.protocol.specs.State.{Tx, Tx-discrete}
use Rattle.protocol.proofs.Tables.{on, put_cases, put_here, put2_cases, put2_here, mark_stays}
use Rattle.history.proofs.Tests.{no_both, or-true}
use Rattle.history.proofs.Sim.{tx}

-- ---- what is told of one transaction
pub record Untouched (P : Tx → ℕ) (A : Tx → ℕ → Bool) (S : Tx → Bool) (x : Tx) : Type 0 where
  pub unasked : P x ≡ 0
  pub nobody : (m : ℕ) → A x m ≡ false
  pub unspoilt : S x ≡ false

pub record Voting (P : Tx → ℕ) (A : Tx → ℕ → Bool) (S : Tx → Bool) (x : Tx) (said : ℕ) : Type 0 where
  pub is_asked : P x ≢ 0
  pub unspoilt : S x ≡ false
  -- the record has a participant's yes exactly when one came
  pub came : (m : ℕ) → contains said m ≡ true → A x m ≡ true
  pub taken : (m : ℕ) → A x m ≡ true → contains (P x) m ≡ true → contains said m ≡ true

abbrev pub Over : (Tx → ℕ) → List Tx → (Tx → Bool) → Tx → Type 0
Over P C S x = In x C ⊎ ((P x ≡ 0) ⊎ (S x ≡ true))

-- every participant's yes came
pub record Full (P : Tx → ℕ) (A : Tx → ℕ → Bool) (x : Tx) : Type 0 where
  pub is_asked : P x ≢ 0
  pub everyone : (m : ℕ) → contains (P x) m ≡ true → A x m ≡ true

-- ---- of all of an owner's, by its record
pub record Counted (P : Tx → ℕ) (C : List Tx) (A : Tx → ℕ → Bool) (S : Tx → Bool) (n serial phase said : ℕ) : Type 0 where
  pub later : (s : ℕ) → serial < s → Untouched P A S (tx n s)
  pub while_open : phase ≡ open_phase → Untouched P A S (tx n serial)
  pub while_voting : phase ≡ voting_phase → Voting P A S (tx n serial) said
  pub ended : (phase ≡ idle_phase) ⊎ (phase ≡ finishing_phase) → Over P C S (tx n serial)
  pub earlier : (s : ℕ) → s < serial → Over P C S (tx n s)

-- ---- where nothing changed
untouched_on : (P P' : Tx → ℕ) (A A' : Tx → ℕ → Bool) (S S' : Tx → Bool) (x : Tx) → P' x ≡ P x → ((m : ℕ) → A' x m ≡ A x m) → S' x ≡ S x
    → Untouched P A S x → Untouched P' A' S' x
untouched_on P P' A A' S S' x p a s u = record { unasked = p ∙ u.unasked; nobody = λ m. a m ∙ u.nobody m; unspoilt = s ∙ u.unspoilt }

voting_on : (P P' : Tx → ℕ) (A A' : Tx → ℕ → Bool) (S S' : Tx → Bool) (x : Tx) (said : ℕ) → P' x ≡ P x → ((m : ℕ) → A' x m ≡ A x m) → S' x ≡ S x
    → Voting P A S x said → Voting P' A' S' x said
voting_on P P' A A' S S' x said p a s v = record {
  is_asked = λ e. v.is_asked (sym p ∙ e);
  unspoilt = s ∙ v.unspoilt;
  came = λ m e. a m ∙ v.came m e;
  taken = λ m e f. v.taken m (sym (a m) ∙ e) (subst (λ (q : ℕ). contains q m ≡ true) p f);
}

over_on : (P P' : Tx → ℕ) (C C' : List Tx) (S S' : Tx → Bool) (x : Tx) → P' x ≡ P x → (In x C → In x C') → (S x ≡ true → S' x ≡ true)
    → Over P C S x → Over P' C' S' x
over_on P P' C C' S S' x p c s (inl i) = inl (c i)
over_on P P' C C' S S' x p c s (inr (inl e)) = inr (inl (p ∙ e))
over_on P P' C C' S S' x p c s (inr (inr e)) = inr (inr (s e))

pub full_on : (P P' : Tx → ℕ) (A A' : Tx → ℕ → Bool) (x : Tx) → P' x ≡ P x → ((m : ℕ) → A x m ≡ true → A' x m ≡ true) → Full P A x → Full P' A' x
full_on P P' A A' x p a f = record {
  is_asked = λ e. f.is_asked (sym p ∙ e);
  everyone = λ m e. a m (f.everyone m (subst (λ (q : ℕ). contains q m ≡ true) p e));
}

-- of an owner whose transactions were left alone
pub counted_on : (P P' : Tx → ℕ) (C C' : List Tx) (A A' : Tx → ℕ → Bool) (S S' : Tx → Bool) (n serial phase said : ℕ)
    → ((s : ℕ) → P' (tx n s) ≡ P (tx n s)) → ((x : Tx) → In x C → In x C') → ((s m : ℕ) → A' (tx n s) m ≡ A (tx n s) m)
    → ((s : ℕ) → S' (tx n s) ≡ S (tx n s)) → Counted P C A S n serial phase said → Counted P' C' A' S' n serial phase said
counted_on P P' C C' A A' S S' n serial phase said p c a s k = record {
  later = λ r h. untouched_on P P' A A' S S' (tx n r) (p r) (a r) (s r) (k.later r h);
  while_open = λ e. untouched_on P P' A A' S S' (tx n serial) (p serial) (a serial) (s serial) (k.while_open e);
  while_voting = λ e. voting_on P P' A A' S S' (tx n serial) said (p serial) (a serial) (s serial) (k.while_voting e);
  ended = λ e. over_on P P' C C' S S' (tx n serial) (p serial) (c (tx n serial)) (λ f. s serial ∙ f) (k.ended e);
  earlier = λ r h. over_on P P' C C' S S' (tx n r) (p r) (c (tx n r)) (λ f. s r ∙ f) (k.earlier r h);
}

-- ---- two transactions of one owner; a test that holds by its last part
same_serial : (n s r : ℕ) → tx n s ≡ tx n r → s ≡ r
same_serial n s r e = ap (λ (x : Tx). x.serial) e

or_last : (b : Bool) → (b || true) ≡ true
or_last true = refl
or_last false = refl

-- ---- spoilt: what was asked for is, and what was spoilt stays so
abbrev pub spoil : (Tx → ℕ) → (Tx → Bool) → Tx → Tx → Bool
spoil P S x = put Tx-discrete S x (S x || not (eqb (P x) 0))

module _ (P : Tx → ℕ) (S : Tx → Bool) (x : Tx) where
  pub spoil_else : (z : Tx) → (z ≡ x → ⊥) → spoil P S x z ≡ S z
  spoil_else z e = on (put_cases Tx-discrete S x (S x || not (eqb (P x) 0)) z) (λ q. absurd (e q.0)) (λ q. q.1)

  pub spoil_stays : (z : Tx) → S z ≡ true → spoil P S x z ≡ true
  spoil_stays z e = on (put_cases Tx-discrete S x (S x || not (eqb (P x) 0)) z)
      (λ q. q.1 ∙ ap (λ (b : Bool). b || not (eqb (P x) 0)) (subst (λ (y : Tx). S y ≡ true) q.0 e)) (λ q. q.1 ∙ e)

  spoil_asked : P x ≢ 0 → spoil P S x x ≡ true
  spoil_asked e = put_here Tx-discrete S x (S x || not (eqb (P x) 0)) ∙ ap (λ (b : Bool). S x || not b) (ne_eqb (P x) 0 e) ∙ or_last (S x)

  spoil_unasked : (z : Tx) → P z ≡ 0 → S z ≡ false → spoil P S x z ≡ false
  spoil_unasked z p e = on (put_cases Tx-discrete S x (S x || not (eqb (P x) 0)) z)
      (λ q. q.1 ∙ ap (λ (b : Bool). b || not (eqb (P x) 0)) (subst (λ (y : Tx). S y ≡ false) q.0 e)
      ∙ ap not (eq-eqb (P x) 0 (subst (λ (y : Tx). P y ≡ 0) q.0 p))) (λ q. q.1 ∙ e)

  -- a transaction that is asked for or not: it cannot be ripe any more
  spoil_over : (C : List Tx) → Over P C (spoil P S x) x
  spoil_over C = by_test (Over P C (spoil P S x) x) (eqb (P x) 0) (λ e. inr (inl (eqb-true (P x) 0 e))) (λ e. inr (inr (spoil_asked (eqb-false (P x) 0 e))))

module _ (P : Tx → ℕ) (C : List Tx) (A : Tx → ℕ → Bool) (S : Tx → Bool) (n serial phase said : ℕ) (k : Counted P C A S n serial phase said) where
  abbrev now : Tx
  now = tx n serial

  -- ---- spoilt while the record stays: not what is voted for
  still_untouched : (x z : Tx) → Untouched P A S z → Untouched P A (spoil P S x) z
  still_untouched x z u = record { unasked = u.unasked; nobody = u.nobody; unspoilt = spoil_unasked P S x z u.unasked u.unspoilt }

  still_over : (x z : Tx) → Over P C S z → Over P C (spoil P S x) z
  still_over x z o = over_on P P C C S (spoil P S x) z refl (λ i. i) (spoil_stays P S x z) o

  pub spoilt_aside : (x : Tx) → (phase ≡ voting_phase → now ≡ x → ⊥) → Counted P C A (spoil P S x) n serial phase said
  spoilt_aside x other = record {
    later = λ s h. still_untouched x (tx n s) (k.later s h);
    while_open = λ e. still_untouched x now (k.while_open e);
    while_voting = λ e. voting_on P P A A S (spoil P S x) now said refl (λ m. refl) (spoil_else P S x now (other e)) (k.while_voting e);
    ended = λ e. still_over x now (k.ended e);
    earlier = λ s h. still_over x (tx n s) (k.earlier s h);
  }

  -- the present one, which ends
  pub spoilt_ends : (phase' said' : ℕ) → (phase' ≡ idle_phase) ⊎ (phase' ≡ finishing_phase) → Counted P C A (spoil P S now) n serial phase' said'
  spoilt_ends phase' said' e = record {
    later = λ s h. still_untouched now (tx n s) (k.later s h);
    while_open = λ f. absurd (on e (λ g. let z : ⊥ = omega (arith, f, g) in z) (λ g. let z : ⊥ = omega (arith, f, g) in z));
    while_voting = λ f. absurd (on e (λ g. let z : ⊥ = omega (arith, f, g) in z) (λ g. let z : ⊥ = omega (arith, f, g) in z));
    ended = λ f. spoil_over P S now C;
    earlier = λ s h. still_over now (tx n s) (k.earlier s h);
  }

  -- ---- a yes that came
  abbrev agree : Tx → ℕ → Tx → ℕ → Bool
  agree x m = put2 Tx-discrete ℕ_discrete A x m true

  agree_else : (x z : Tx) (i m : ℕ) → (z ≡ x → ⊥) → agree x i z m ≡ A z m
  agree_else x z i m e = on (put2_cases Tx-discrete ℕ_discrete A x i true z m) (λ q. absurd (e q.0.0)) (λ q. q.1)

  -- it changes no record: it is of no later transaction, of no open one, and while voting from no participant
  pub agreed_aside : (r i : ℕ) → r ≤ serial → (phase ≡ open_phase → r ≡ serial → ⊥) → (phase ≡ voting_phase → r ≡ serial → contains (P now) i ≡ false)
      → Counted P C (agree (tx n r) i) S n serial phase said
  agreed_aside r i h fresh outside = record {
    later = λ s g. untouched_on P P A A' S S (tx n s) refl
        (λ m. agree_else x (tx n s) i m (λ e. let z : ⊥ = omega (arith, g, h, same_serial n s r e) in z)) refl (k.later s g);
    while_open = λ f. untouched_on P P A A' S S now refl (λ m. agree_else x now i m (λ e. fresh f (sym (same_serial n serial r e)))) refl (k.while_open f);
    while_voting = λ f. let v = k.while_voting f in record {
      is_asked = v.is_asked;
      unspoilt = v.unspoilt;
      came = λ m e. mark_stays Tx-discrete ℕ_discrete A x i now m (v.came m e);
      taken = λ m e p. on (put2_cases Tx-discrete ℕ_discrete A x i true now m)
          (λ q. absurd (no_both (subst (λ (j : ℕ). contains (P now) j ≡ true) q.0.1 p) (outside f (sym (same_serial n serial r q.0.0)))))
          (λ q. v.taken m (sym q.1 ∙ e) p);
    };
    ended = k.ended;
    earlier = k.earlier;
  }
    where
      x : Tx
      x = tx n r

      A' : Tx → ℕ → Bool
      A' = agree x i

  -- a participant's, while voting
  module _ (voting : phase ≡ voting_phase) (i : ℕ) (small : i < 16) where
    joined_last : contains (joined said (only i)) i ≡ true
    joined_last = contains_joined said (only i) i ∙ ap (λ (b : Bool). contains said i || b)
        (ap (λ (q : ℕ). contains q i) (only_small i small) ∙ contains_power i i ∙ eq-eqb i i refl) ∙ or_last (contains said i)

    joined_first : (m : ℕ) → contains said m ≡ true → contains (joined said (only i)) m ≡ true
    joined_first m e = contains_joined said (only i) m ∙ ap (λ (b : Bool). b || contains (only i) m) e

    joined_came : (m : ℕ) → contains (joined said (only i)) m ≡ true → agree now i now m ≡ true
    joined_came m e = on (or-true (contains said m) (contains (only i) m) (sym (contains_joined said (only i) m) ∙ e))
        (λ f. mark_stays Tx-discrete ℕ_discrete A now i now m ((k.while_voting voting).came m f))
        (λ f. subst (λ (j : ℕ). agree now i now j ≡ true)
        (eqb-true i m (sym (contains_power i m) ∙ ap (λ (q : ℕ). contains q m) (sym (only_small i small)) ∙ f))
        (put2_here Tx-discrete ℕ_discrete A now i true))

    later_else : (s : ℕ) → serial < s → Untouched P (agree now i) S (tx n s)
    later_else s g = untouched_on P P A (agree now i) S S (tx n s) refl
        (λ m. agree_else now (tx n s) i m (λ e. let z : ⊥ = omega (arith, g, same_serial n s serial e) in z)) refl (k.later s g)

    pub agreed_one : Counted P C (agree now i) S n serial voting_phase (joined said (only i))
    agreed_one = let v = k.while_voting voting in record {
      later = later_else;
      while_open = λ f. absurd (let z : ⊥ = omega arith in z);
      while_voting = λ f. record {
        is_asked = v.is_asked;
        unspoilt = v.unspoilt;
        came = joined_came;
        taken = λ m e p. on (put2_cases Tx-discrete ℕ_discrete A now i true now m)
            (λ q. subst (λ (j : ℕ). contains (joined said (only i)) j ≡ true) (sym q.0.1) joined_last)
            (λ q. joined_first m (v.taken m (sym q.1 ∙ e) p));
      };
      ended = λ e. absurd (on e (λ g. let z : ⊥ = omega arith in z) (λ g. let z : ⊥ = omega arith in z));
      earlier = k.earlier;
    }

    -- the last one
    pub agreed_last : (C' : List Tx) (said' : ℕ) → ((x : Tx) → In x C → In x C') → In now C' → Counted P C' (agree now i) S n serial finishing_phase said'
    agreed_last C' said' c here = record {
      later = later_else;
      while_open = λ f. absurd (let z : ⊥ = omega arith in z);
      while_voting = λ f. absurd (let z : ⊥ = omega arith in z);
      ended = λ e. inl here;
      earlier = λ s h. over_on P P C C' S S (tx n s) refl (c (tx n s)) (λ e. e) (k.earlier s h);
    }

    pub agreed_full : T (within (P now) (joined said (only i))) → Full P (agree now i) now
    agreed_full t = record {
      is_asked = (k.while_voting voting).is_asked;
      everyone = λ m e. joined_came m (T_true (contains (joined said (only i)) m)
          (within_contains (P now) (joined said (only i)) t m (true-T (contains (P now) m) e)));
    }

  -- ---- the record's other ways: the last done, a begin, a request
  pub rested : phase ≡ finishing_phase → (said' : ℕ) → Counted P C A S n serial idle_phase said'
  rested f said' = record {
    later = k.later;
    while_open = λ e. absurd (let z : ⊥ = omega arith in z);
    while_voting = λ e. absurd (let z : ⊥ = omega arith in z);
    ended = λ e. k.ended (inr f);
    earlier = k.earlier;
  }

  pub begun_next : phase ≡ idle_phase → (said' : ℕ) → Counted P C A S n (serial + 1) open_phase said'
  begun_next f said' = record {
    later = λ s h. k.later s (omega arith);
    while_open = λ e. k.later (serial + 1) (omega arith);
    while_voting = λ e. absurd (let z : ⊥ = omega arith in z);
    ended = λ e. absurd (on e (λ g. let z : ⊥ = omega arith in z) (λ g. let z : ⊥ = omega arith in z));
    earlier = λ s h. compared (Over P C S (tx n s)) s serial (λ g. k.earlier s g)
        (λ e. subst (λ (r : ℕ). Over P C S (tx n r)) (sym e) (k.ended (inl f))) (λ g. absurd (let z : ⊥ = omega arith in z));
  }

  pub asked_next : phase ≡ open_phase → (party : ℕ) → party ≢ 0 → ((m : ℕ) → contains said m ≡ true → ⊥)
      → Counted (put Tx-discrete P now party) C A S n serial voting_phase said
  asked_next f party some none = record {
    later = λ s h. untouched_on P P' A A S S (tx n s) (else s (λ e. let z : ⊥ = omega (arith, h, e) in z)) (λ m. refl) refl (k.later s h);
    while_open = λ e. absurd (let z : ⊥ = omega arith in z);
    while_voting = λ e. let u = k.while_open f in record {
      is_asked = λ z. some (sym (put_here Tx-discrete P now party) ∙ z);
      unspoilt = u.unspoilt;
      came = λ m q. absurd (none m q);
      taken = λ m q. absurd (no_both q (u.nobody m));
    };
    ended = λ e. absurd (on e (λ g. let z : ⊥ = omega arith in z) (λ g. let z : ⊥ = omega arith in z));
    earlier = λ s h. over_on P P' C C S S (tx n s) (else s (λ e. let z : ⊥ = omega (arith, h, e) in z)) (λ i. i) (λ e. e) (k.earlier s h);
  }
    where
      P' : Tx → ℕ
      P' = put Tx-discrete P now party

      else : (s : ℕ) → (s ≡ serial → ⊥) → P' (tx n s) ≡ P (tx n s)
      else s e = on (put_cases Tx-discrete P now party (tx n s)) (λ q. absurd (e (same_serial n s serial q.0))) (λ q. q.1)
