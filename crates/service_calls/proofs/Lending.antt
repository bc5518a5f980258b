-- A node's part of a buffer, lent on and taken back; the lower of a number and 0.
use mathlib.Core.Path.{◌≡◌, refl, sym, ap, ◌∙◌}
use mathlib.Core.Bool.{Bool, true, false}
use mathlib.Core.List.{List, ◌++◌}
use Prim.Native.Nat.{ℕ, ◌+◌, ◌-◌, ◌*◌}
use native.Mathlib.Omega.{arith}
use lib.Dec.{eqb}
use lib.ListN.{take, drop}
use borrow.Author.Tests.{eqb-true}
use Rattle.numbers.specs.Refusal.{lower}
use Rattle.parts.specs.Parts.{part, splice}
use Rattle.parts.proofs.Laws.{lent as back}
use Rattle.record.specs.Layout.{record_size}
use Rattle.buffers.specs.Buffers.{record_at, with_record_at}
use Rattle.settings.specs.Settings.{settings_size}
use Rattle.service_calls.specs.Lent.{settings_at, with_settings_at}

-- ---- the part of a node, lent on
pub lent_part : (S : List ℕ) (w n : ℕ) → w ≡ n → take (settings_size * w + settings_size - settings_size * w) (drop (settings_size * w) S) ≡ settings_at S n
unfolding settings_at part
lent_part S w n e = let d : settings_size * w + settings_size - settings_size * w ≡ settings_size = omega arith in rw (d, e)

pub lent_record_lem : (R : List ℕ) (w n : ℕ) → w ≡ n → take (record_size * w + record_size - record_size * w) (drop (record_size * w) R) ≡ record_at R n
unfolding record_at part
lent_record_lem R w n e = let d : record_size * w + record_size - record_size * w ≡ record_size = omega arith in rw (d, e)

pub record_back : (R : List ℕ) (w n : ℕ) → w ≡ n → (f : List ℕ → List ℕ) (last : List ℕ)
    → last ≡ f (take (record_size * w + record_size - record_size * w) (drop (record_size * w) R))
    → take (record_size * w) R ++ (last ++ drop (record_size * w + record_size - record_size * w) (drop (record_size * w) R))
    ≡ with_record_at R n (f (record_at R n))
unfolding with_record_at record_at
record_back R w n e f last p =
    let d : record_size * w + record_size - record_size * w ≡ record_size = omega arith in
    back f record_size (record_size * w) _ R last d p
    ∙ ap (λ (k : ℕ). splice record_size (record_size * k) (f (part record_size (record_size * k) R)) R) e

pub lent_back : (S : List ℕ) (w n : ℕ) → w ≡ n → (f : List ℕ → List ℕ) (last : List ℕ)
    → last ≡ f (take (settings_size * w + settings_size - settings_size * w) (drop (settings_size * w) S))
    → take (settings_size * w) S ++ (last ++ drop (settings_size * w + settings_size - settings_size * w) (drop (settings_size * w) S))
    ≡ with_settings_at S n (f (settings_at S n))
unfolding with_settings_at settings_at
lent_back S w n e f last p =
    let d : settings_size * w + settings_size - settings_size * w ≡ settings_size = omega arith in
    back f settings_size (settings_size * w) _ S last d p
    ∙ ap (λ (k : ℕ). splice settings_size (settings_size * k) (f (part settings_size (settings_size * k) S)) S) e

-- ---- the lower of two numbers
pub lower_zero : (k : ℕ) → lower k 0 ≡ k
unfolding lower
lower_zero k = go (eqb k 0) refl
  where
    go : (b : Bool) → eqb k 0 ≡ b → lower k 0 ≡ k
    go true e = simp e (sym (eqb-true k 0 e))
    go false e = simp e

-- both parts lent on together, to a function that leaves f of the record and g of the settings
module _ (R S : List ℕ) (w v n : ℕ) (p : w ≡ n) (q : v ≡ n) (f g : List ℕ → List ℕ → List ℕ) where
  abbrev lent_record : List ℕ
  lent_record = take (record_size * w + record_size - record_size * w) (drop (record_size * w) R)

  abbrev lent_settings : List ℕ
  lent_settings = take (settings_size * v + settings_size - settings_size * v) (drop (settings_size * v) S)

  pub both_record : (last : List ℕ) → last ≡ f lent_record lent_settings
      → take (record_size * w) R ++ (last ++ drop (record_size * w + record_size - record_size * w) (drop (record_size * w) R))
      ≡ with_record_at R n (f (record_at R n) (settings_at S n))
  both_record last e = record_back R w n p (λ (m : List ℕ). f m (settings_at S n)) last (e ∙ ap (f lent_record) (lent_part S v n q))

  pub both_settings : (last : List ℕ) → last ≡ g lent_record lent_settings
      → take (settings_size * v) S ++ (last ++ drop (settings_size * v + settings_size - settings_size * v) (drop (settings_size * v) S))
      ≡ with_settings_at S n (g (record_at R n) (settings_at S n))
  both_settings last e =
      lent_back S v n q (g (record_at R n)) last (e ∙ ap (λ (m : List ℕ). g m lent_settings) (lent_record_lem R w n p))
