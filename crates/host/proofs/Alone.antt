-- What a station's call leaves alone: where the call on the node's record and settings leaves the settings, or the record, as they were, so does the step
-- over the buffers of all thirteen.
use mathlib.Core.Path.{◌≡◌, refl, sym, ap, subst, ◌∙◌}
use mathlib.Core.Bool.{Bool, true, false, cond}
use mathlib.Core.Logic.{◌⊎◌, inl, inr}
use mathlib.Core.List.{List, [], ◌∷◌}
use Prim.Native.Nat.{ℕ, zero, suc, ◌+◌, ◌*◌, ◌<◌}
use native.Mathlib.Omega.{arith}
use lib.Dec.{eqb, ltb}
use lib.ListN.{length, take, drop}
use lib.Seq.{get_or-drop}
use borrow.Author.Tests.{eqb-true, eqb-false, ltb-true, ltb-false}
use Rattle.numbers.specs.Sizes.{nodes}
use Rattle.numbers.specs.Refusal.{lower}
use Rattle.octets.proofs.Laws.{Bytes}
use Rattle.mask.specs.Mask.{contains}
use Rattle.parts.specs.Parts.{part}
use Rattle.record.specs.Layout.{record_size}
use Rattle.increments.specs.Deeds.{Edit}
use Rattle.buffers.specs.Buffers.{record_at, with_record_at, on_of, wrong, ends_first}
use Rattle.buffers.proofs.Records.{splice_same, record_same}
use Rattle.settings.specs.Settings.{settings_size}
use Rattle.frontend.specs.Plan.{edit, request, load_classes, nowhere, list_number, off_told, front_told, front_record, front_settings}
use Rattle.frontend.specs.Plan.{Call as Front}
use Rattle.frontend.proofs.Alone.{edit_alone, request_alone, classes_alone}
use Rattle.service_calls.specs.Lent.{Lent, lent, all_settings, settings_at, with_settings_at}
use Rattle.service_calls.specs.Lent.{front_records as stepRecords, front_settings as stepSettings}
use Rattle.service_calls.proofs.Fronts.{refused_first, no_node, off_node, on_node}

module _ (R O S : List ℕ) (n : ℕ) (a : Front) where
  abbrev b : Lent
  b = lent [] R [] O S

  abbrev first : ℕ
  first = lower (lower (ends_first (length R) O) (cond (wrong S all_settings) 1 0)) (list_number a)

  abbrev rec : List ℕ
  rec = record_at R n

  abbrev set : List ℕ
  set = settings_at S n

  abbrev Left : List ℕ → List ℕ → Type 0
  Left R' S' = (R' ≡ stepRecords b n a) × (S' ≡ stepSettings b n a)

  -- everything is left, or what the call on the node's record and settings leaves of them
  left : Left R S ⊎ Left (with_record_at R n (front_record rec set n a)) (with_settings_at S n (front_settings rec set n a))
  left = by (eqb first 0) (ltb n nodes) (contains (on_of O) n) refl refl refl
    where
      by : (x y z : Bool) → eqb first 0 ≡ x → ltb n nodes ≡ y → contains (on_of O) n ≡ z
          → Left R S ⊎ Left (with_record_at R n (front_record rec set n a)) (with_settings_at S n (front_settings rec set n a))
      by false y z p q r = let d = refused_first R O S n a first refl (eqb-false first 0 p) in inl (d.records, d.settings)
      by true false z p q r =
          let d = no_node R O S n a (eqb-true first 0 p) (ltb-false n nodes q) (nowhere a) refl in inl (d.records, d.settings)
      by true true false p q r =
          let d = off_node R O S n a (eqb-true first 0 p) (ltb-true n nodes q) r (off_told rec set n a) refl in inl (d.records, d.settings)
      by true true true p q r =
          let d = on_node R O S n a (eqb-true first 0 p) (ltb-true n nodes q) r (front_told rec set n a) refl in inr (d.records, d.settings)

  pub settings_alone : set ≡ front_settings rec set n a → stepSettings b n a ≡ S
  unfolding with_settings_at settings_at
  settings_alone e = by left
    where
      by : Left R S ⊎ Left (with_record_at R n (front_record rec set n a)) (with_settings_at S n (front_settings rec set n a)) → stepSettings b n a ≡ S
      by (inl z) = sym z.1
      by (inr z) = sym z.1 ∙ ap (with_settings_at S n) (sym e) ∙ splice_same settings_size (settings_size * n) S

  pub records_alone : rec ≡ front_record rec set n a → stepRecords b n a ≡ R
  records_alone e = by left
    where
      by : Left R S ⊎ Left (with_record_at R n (front_record rec set n a)) (with_settings_at S n (front_settings rec set n a)) → stepRecords b n a ≡ R
      by (inl z) = sym z.0
      by (inr z) = sym z.0 ∙ ap (with_record_at R n) (sym e) ∙ record_same R n

-- ---- an open, a value and a request leave the settings; a table of classes leaves the records, which are bytes
take_small : (k : ℕ) (l : List ℕ) → Bytes l → Bytes (take k l)
take_small zero l h j = omega arith
take_small (suc k) [] h j = omega arith
take_small (suc k) (x ∷ l) h zero = h zero
take_small (suc k) (x ∷ l) h (suc j) = take_small k l (λ i. h (suc i)) j

record_small : (R : List ℕ) (n : ℕ) → Bytes R → Bytes (record_at R n)
unfolding record_at part
record_small R n h =
    take_small record_size (drop (record_size * n) R) (λ j. subst (λ (x : ℕ). x < 256) (sym (get_or-drop (record_size * n) R j 0)) (h (record_size * n + j)))

module _ (R O S : List ℕ) (n : ℕ) where
  pub edit_stays : (e : Edit) → stepSettings (lent [] R [] O S) n (edit e) ≡ S
  edit_stays e = settings_alone R O S n (edit e) (edit_alone (record_at R n) (settings_at S n) n e)

  pub request_stays : stepSettings (lent [] R [] O S) n request ≡ S
  request_stays = settings_alone R O S n request (request_alone (record_at R n) (settings_at S n) n)

  pub classes_stays : Bytes R → (list : List ℕ) → stepRecords (lent [] R [] O S) n (load_classes list) ≡ R
  classes_stays h list =
      records_alone R O S n (load_classes list) (classes_alone (record_at R n) (settings_at S n) n (record_small R n h) list)
