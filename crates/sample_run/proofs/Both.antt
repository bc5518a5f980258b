-- What the steps of a list tell and what they leave, in one pass; the oldest waiting message is delivered without the checks.
use mathlib.Core.Path.{◌≡◌, refl, ap, ◌∙◌}
use mathlib.Core.Logic.{◌⊎◌, inl, inr}
use mathlib.Core.Bool.{Bool, true, false, cond}
use mathlib.Core.List.{List, [], ◌∷◌}
use Prim.Native.Nat.{ℕ}
use lib.Dec.{ltb}
use lib.ListN.{length, get_or}
use borrow.Author.Tests.{ltb-true}
use Rattle.steps.specs.Station.{Station}
use Rattle.steps.specs.Step.{Call, send, delivery, Outcome, step}
use Rattle.steps.specs.Run.{event_of}
use Rattle.protocol.specs.Proof.Tables.{clash}
use Rattle.history.specs.Ledger.{Ledger, note, ledger_from}
use Rattle.history.specs.Origin.{Origin, ledger_of, Rested}
use Rattle.history.specs.Claims.{Typed, AllTyped, Crowded, reached, told}
use Rattle.history.proofs.Numbered.{delivery_number}
use Rattle.sample_run.specs.Sample.{exchanged}
use Rattle.sample_run.proofs.Quick.{accepted, is_accepted}

pub record Both : Type 0 where
  pub ledger : Ledger
  pub station : Station

-- ---- one pass, from an origin
unfoldable pub at_first : Origin → Both
at_first o = record { ledger = ledger_of o; station = o.station }

unfoldable pub noted : Both → Call → Outcome → Both
noted b c o = record { ledger = note b.ledger (event_of c o); station = o.station }

unfoldable pub stepped : Both → Call → Both
stepped b c = noted b c (step b.station c)

-- the oldest waiting message, if any
unfoldable pub oldest : Station → Outcome
oldest st = cond (ltb 0 (length st.pool)) (accepted st 0 (get_or st.pool 0 [])) (step st (delivery 0 false))

unfoldable pub delivered : Both → Both
delivered b = noted b (delivery 0 false) (oldest b.station)

unfoldable pub both_exchanged : List ℕ → Both → Both
both_exchanged [] b = b
both_exchanged (n ∷ ns) b = both_exchanged ns (delivered (delivered (stepped b (send 4 n 0))))

-- ---- is what a list tells and leaves
module _ (o : Origin) (r : Rested o) where
  abbrev pub both_of : List Call → Both
  both_of cs = record { ledger = told o cs; station = reached o cs }

  pub record Agrees (cs : List Call) (b : Both) : Type 0 where
    pub typed : AllTyped cs
    pub same : both_of cs ≡ b

  pub first_agrees : Agrees [] (at_first o)
  unfolding at_first ledger_from
  first_agrees = record { typed = tt; same = refl }

  pub stepped_agrees : (cs : List Call) (b : Both) (c : Call) → Typed c → Agrees cs b → Agrees (c ∷ cs) (stepped b c)
  unfolding stepped noted ledger_from
  stepped_agrees cs b c t a = record { typed = (t, a.typed); same = ap (λ (x : Both). stepped x c) a.same }

  is_oldest : (cs : List Call) → AllTyped cs → step (reached o cs) (delivery 0 false) ≡ oldest (reached o cs)
  unfolding oldest
  is_oldest cs a = by (ltb 0 (length st.pool)) refl
    where
      st : Station
      st = reached o cs

      no_refusal : ((step st (delivery 0 false)).number ≡ 0)
          ⊎ Crowded st.pool false (step st (delivery 0 false)).number (step st (delivery 0 false)).put → (step st (delivery 0 false)).number ≡ 0
      no_refusal (inl z) = z
      no_refusal (inr z) = let k = z.is_kept in absurd (clash (cc))

      by : (t : Bool) → ltb 0 (length st.pool) ≡ t
          → step st (delivery 0 false) ≡ cond t (accepted st 0 (get_or st.pool 0 [])) (step st (delivery 0 false))
      by true e = is_accepted st 0 (no_refusal ((delivery_number o r cs a).one_waits 0 false (ltb-true 0 (length st.pool) e)))
      by false e = refl

  pub delivered_agrees : (cs : List Call) (b : Both) → Agrees cs b → Agrees (delivery 0 false ∷ cs) (delivered b)
  unfolding delivered noted ledger_from
  delivered_agrees cs b a = record {
    typed = (tt, a.typed);
    same = ap (noted (both_of cs) (delivery 0 false)) (is_oldest cs a.typed) ∙ ap delivered a.same;
  }

  pub exchanged_agrees : (ns : List ℕ) (cs : List Call) (b : Both) → Agrees cs b → Agrees (exchanged ns cs) (both_exchanged ns b)
  unfolding both_exchanged
  exchanged_agrees [] cs b a = a
  exchanged_agrees (n ∷ ns) cs b a = exchanged_agrees ns _ _ (delivered_agrees _ _ (delivered_agrees _ _ (stepped_agrees cs b (send 4 n 0) tt a)))
