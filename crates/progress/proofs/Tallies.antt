-- What one more round adds to what was handed over of a transaction: its message and its answer, each 1 with the round's participant. So after the rounds
-- with the participants below k it is 1 with each of these, and 0 with the others.
use mathlib.Core.Path.{◌≡◌, refl, sym, ◌∙◌, ap, ap₂}
use mathlib.Core.Logic.{◌≢◌, by_cases}
use mathlib.Core.Bool.{Bool, true, false, cond, ◌&&◌}
use mathlib.Core.List.{List, [], ◌∷◌}
use Prim.Native.Nat.{ℕ, suc, ◌+◌, ◌<◌}
use native.Mathlib.Decide.{ℕ_discrete}
use native.Mathlib.Omega.{arith}
use lib.Dec.{eqb, ltb}
use borrow.Author.Tests.{eqb-true, eq-eqb, ne_eqb, lt-ltb, le-ltb}
use Rattle.numbers.specs.Sizes.{nodes}
use Rattle.mask.specs.Mask.{bit, contains}
use Rattle.mask.proofs.Laws.{bit_counted}
use Rattle.image.proofs.Each.{lt_or_le}
use Rattle.wire.specs.Message.{ask, vote, outcome, done}
use Rattle.wire.specs.Decode.{owner_of, serial_of}
use Rattle.protocol.specs.State.{Tx}
use Rattle.protocol.proofs.Tables.{on}
use Rattle.progress.specs.Deliveries.{is_with, count}
use Rattle.progress.proofs.Stages.{With}
use Rattle.progress.proofs.Counting.{one, count_one}

-- ---- 1 with each participant below k
abbrev pub below : ℕ → ℕ → ℕ → ℕ
below party k i = cond (ltb i k) (bit party i) 0

pub below_all : (party k i : ℕ) → i < k → below party k i ≡ bit party i
below_all party k i h = ap (λ (b : Bool). cond b (bit party i) 0) (lt-ltb i k h)

below_none : (party k i : ℕ) → (i < k → ⊥) → below party k i ≡ 0
below_none party k i h = ap (λ (b : Bool). cond b (bit party i) 0) (le-ltb i k (omega (arith, h)))

pub below_first : (party i : ℕ) → 0 ≡ below party 0 i
below_first party i = sym (below_none party 0 i (λ h. let y : ⊥ = omega (arith, h) in y))

-- at another node there is no difference
below_other : (party k i : ℕ) → i ≢ k → below party k i ≡ below party (suc k) i
below_other party k i e = on (lt_or_le i k)
    (λ h. let a = below_all party k i h in let b = below_all party (suc k) i (omega (arith, h)) in omega (arith, a, b))
    (λ h. let a = below_none party k i (λ z. let y : ⊥ = omega (arith, h, z) in y) in
    let b = below_none party (suc k) i (λ z. let y : ⊥ = omega (arith, h, z, e) in y) in omega (arith, a, b))

module _ (party k i : ℕ) where
  at_node : i ≡ k → (below party k i ≡ 0) × (below party (suc k) i ≡ bit party i)
  at_node e = (below_none party k i (λ z. let y : ⊥ = omega (arith, e, z) in y), below_all party (suc k) i (omega (arith, e)))

  pub below_next : contains party k ≡ true → one (eqb k i) + below party k i ≡ below party (suc k) i
  below_next q = by_cases (ℕ_discrete i k)
      (λ e.
      let a = (at_node e).0 in
      let b = (at_node e).1 in
      let c : bit party i ≡ 1 = ap (bit party) e ∙ eqb-true (bit party k) 1 q in
      let d : k ≡ i = omega (arith, e) in
      let f : one (eqb k i) ≡ 1 = ap one (eq-eqb k i d) in
      omega (arith, a, b, c, f))
      (λ e. let a = below_other party k i e in
      let f : one (eqb k i) ≡ 0 = ap one (ne_eqb k i (λ z. let y : ⊥ = omega (arith, e, z) in y)) in omega (arith, a, f))

  pub below_skip : contains party k ≡ false → below party k i ≡ below party (suc k) i
  below_skip q = by_cases (ℕ_discrete i k)
      (λ e.
      let a = (at_node e).0 in
      let b = (at_node e).1 in
      let c : bit party i ≡ 0 = ap (bit party) e ∙ bit_counted party k ∙ ap one q in
      omega (arith, a, b, c))
      (below_other party k i)

-- ---- what was handed over of the transaction x
module _ (x : Tx) where
  -- a message of it, of a kind, with a participant, and no other
  only_with : (b : List ℕ) (kind n k i : ℕ) → With x kind n b → is_with x k i b ≡ (eqb kind k && eqb n i)
  only_with b kind n k i z =
      let o = ap (λ (y : Tx). y.owner) z.its_tx in
      let s = ap (λ (y : Tx). y.serial) z.its_tx in
      ap₂ ◌&&◌ (ap₂ ◌&&◌ (eq-eqb (owner_of b) x.owner o) (eq-eqb (serial_of b) x.serial s))
      (ap₂ (λ (u v : ℕ). eqb u k && eqb v i) z.its_kind z.its_member)

  -- of asks and of votes p, of outcomes and of dones q
  pub record Tally (p q : ℕ → ℕ) (l : List (List ℕ)) : Type 0 where
    pub asks : (i : ℕ) → i < nodes → count (is_with x ask i) l ≡ p i
    pub votes : (i : ℕ) → i < nodes → count (is_with x vote i) l ≡ p i
    pub outcomes : (i : ℕ) → i < nodes → count (is_with x outcome i) l ≡ q i
    pub dones : (i : ℕ) → i < nodes → count (is_with x done i) l ≡ q i

  pub tally_as : {p q p' q' : ℕ → ℕ} {l : List (List ℕ)} → ((i : ℕ) → i < nodes → p i ≡ p' i) → ((i : ℕ) → i < nodes → q i ≡ q' i) → Tally p q l
      → Tally p' q' l
  tally_as a b t = record {
    asks = λ i h. t.asks i h ∙ a i h;
    votes = λ i h. t.votes i h ∙ a i h;
    outcomes = λ i h. t.outcomes i h ∙ b i h;
    dones = λ i h. t.dones i h ∙ b i h;
  }

  pub tally_none : Tally (λ i. 0) (λ i. 0) []
  unfolding count
  tally_none = record { asks = λ i h. refl; votes = λ i h. refl; outcomes = λ i h. refl; dones = λ i h. refl }

  module _ (a b : List ℕ) (n : ℕ) (p q : ℕ → ℕ) (l : List (List ℕ)) (t : Tally p q l) where
    two_more : (order answer k i : ℕ) → With x order n b → With x answer n a
        → count (is_with x k i) (a ∷ b ∷ l) ≡ one (eqb answer k && eqb n i) + (one (eqb order k && eqb n i) + count (is_with x k i) l)
    two_more order answer k i u v =
        let c = count_one (is_with x k i) a (b ∷ l) in
        let d = count_one (is_with x k i) b l in
        let e = ap one (only_with a answer n k i v) in
        let f = ap one (only_with b order n k i u) in
        omega (arith, c, d, e, f)

    pub tally_asked : With x ask n b → With x vote n a → Tally (λ i. one (eqb n i) + p i) q (a ∷ b ∷ l)
    tally_asked u v = record {
      asks = λ i h. let c = two_more ask vote ask i u v in let d = t.asks i h in omega (arith, c, d);
      votes = λ i h. let c = two_more ask vote vote i u v in let d = t.votes i h in omega (arith, c, d);
      outcomes = λ i h. let c = two_more ask vote outcome i u v in let d = t.outcomes i h in omega (arith, c, d);
      dones = λ i h. let c = two_more ask vote done i u v in let d = t.dones i h in omega (arith, c, d);
    }

    pub tally_ended : With x outcome n b → With x done n a → Tally p (λ i. one (eqb n i) + q i) (a ∷ b ∷ l)
    tally_ended u v = record {
      asks = λ i h. let c = two_more outcome done ask i u v in let d = t.asks i h in omega (arith, c, d);
      votes = λ i h. let c = two_more outcome done vote i u v in let d = t.votes i h in omega (arith, c, d);
      outcomes = λ i h. let c = two_more outcome done outcome i u v in let d = t.outcomes i h in omega (arith, c, d);
      dones = λ i h. let c = two_more outcome done done i u v in let d = t.dones i h in omega (arith, c, d);
    }
