-- Demand 3, the numbers of deliveries, what late messages do, who wrote last and the sums of every list of the service's steps, from an origin that is at
-- rest: the claims with replay as the machine has it (OnMachine), where replay that adds is the same (Effects). The blank service is an origin, and so is
-- what a list leaves at rest.
use mathlib.Core.Path.{◌≡◌, refl, sym, subst, ◌∙◌}
use mathlib.Core.Logic.{◌≢◌, inl, inr}
use mathlib.Core.List.{List, []}
use Prim.Native.Nat.{ℕ}
use native.Mathlib.Omega.{arith}
use Rattle.numbers.specs.Sizes.{unknown}
use Rattle.parts.specs.Parts.{part}
use Rattle.wire.specs.declared.Entry.{Entry}
use Rattle.image.specs.Layout.{value, author}
use Rattle.settings.proofs.Sound.{blank_number_lem}
use Rattle.steps.specs.Station.{Station, Quiescent}
use Rattle.protocol.specs.Table.{In, Suffix}
use Rattle.protocol.specs.State.{Tx}
use Rattle.protocol.proofs.Lists.{suffix_tail}
use Rattle.history.specs.Ledger.{ledger_from, last_writer}
use Rattle.history.specs.Ledger.{last_value as machineLast, given_to as machineGiven}
use Rattle.history.specs.Origin.{ledger_of, AuthorIs}
use Rattle.history.specs.Origin.{Rested as MachineRested, origin_of as machine_of}
use Rattle.history.specs.Claims.{Demand3, DeliveryNumbers, EarlierTries, Finds, Carries, Sourced, NewestAtRest, Known, LastWriters}
use Rattle.history.specs.Claims.{AllTyped as AllStepsTyped}
use Rattle.history.proofs.Claimed.{typed_suffix}
use Rattle.history.proofs.Resting.{carried_last}
use Rattle.history.proofs.Resting.{rests as machine-rests, last_writers as machine-last-writers}
use Rattle.history.proofs.Origins.{blank_known}
use Rattle.history.proofs.Origins.{blank_rested as machine-blank-rested}
use Rattle.service.specs.Service.{Call}
use Rattle.accounts.specs.Accounts.{Origin, Rested, blank_origin, AllTyped, reached, expand, told, effects, last_value, gave_to, account}
use Rattle.accounts.specs.Claims.{AddsExactly}
use Rattle.accounts.specs.Weighed.{origin_of}
use Rattle.accounts.proofs.Expand.{same_machine, expand_suffix}
use Rattle.accounts.proofs.OnMachine.{plain_demand, plain_numbers, plain_tries}
use Rattle.accounts.proofs.Typed.{settings_sound, settings_long, expand_typed}
use Rattle.accounts.proofs.Weighed.{weighs}
use Rattle.accounts.proofs.Effects.{last_same, given_same, gave_same, gives_exactly}

-- before the first step nothing adds: replay is the machine's
first_last : (o : Origin) (t : ℕ) → (account o).last [] t ≡ machineLast (ledger_of o.machine) t
unfolding last_value machineLast ledger_from
first_last o t = refl

module _ (o : Origin) (r : Rested o) where
  -- ---- replay that adds, where the machine's is told
  module _ (cs : List Call) (a : AllStepsTyped (expand o cs)) where
    carries_same : (x : Tx) (es : List Entry) → In x (told o cs).committed → Carries (told o cs) (told o cs).new x es
        → Carries (told o cs) (gave_to (told o cs) (effects o cs)) x es
    carries_same x es i c = record {
      each_object = c.each_object;
      each_mode = c.each_mode;
      each_value = λ e j m. gave_same o r.machine (settings_long o r) cs a x i e.object m ∙ c.each_value e j m;
    }

    sourced_same : (t v : ℕ) → Sourced (told o cs) (told o cs).new t v → Sourced (told o cs) (gave_to (told o cs) (effects o cs)) t v
    sourced_same t v (inl e) = inl e
    sourced_same t v (inr z) = inr (z.0, z.1, z.2, z.3 ∙ sym (gave_same o r.machine (settings_long o r) cs a z.0 z.1 t z.2))

  module _ (cs : List Call) (typed : AllTyped cs) where
    a : AllStepsTyped (expand o cs)
    a = expand_typed o r cs typed

    before : (ds : List Call) → Suffix ds cs → AllStepsTyped (expand o ds)
    before ds s = typed_suffix o.machine r.machine (expand o ds) (expand o cs) (expand_suffix o ds cs s) a

    given : (x : Tx) (t : ℕ) → (account o).given cs x t ≡ machineGiven (told o cs) x t
    given = given_same o r.machine (settings_long o r) cs a

    -- ---- THE THEOREMS: for every list of the service's steps, whichever nodes are on
    pub demand_3 : Demand3 (account o) cs
    demand_3 = let d = plain_demand o r.machine cs a in record {
      committed_ripens = d.committed_ripens;
      ripens_committed = d.ripens_committed;
      logged_once = d.logged_once;
      fed_once = d.fed_once;
      entries_as = λ x b i j e q. carries_same cs a x _ i (d.entries_as x b i j e q);
      commits_only = d.commits_only;
      was_ready = λ x t i n q. let z = d.was_ready x t i n q in
          (z.0, z.1, subst (Finds (reached o z.0).machine x t) (sym (given x t)) z.2);
      serial = λ x t v ds i s f. d.serial x t v ds i s f ∙ sym (given x t);
      shown = λ x n t ds i s e q. d.shown x n t ds i s e q ∙ sym (given x t);
      sourced = λ x t v ds s f. sourced_same ds (before ds s) t v (d.sourced x t v ds s f);
      shown_sourced = λ n t ds s q. sourced_same ds (before ds (suffix_tail _ ds cs s)) t _ (d.shown_sourced n t ds s q);
      newest = λ s q e n t h i u w. d.newest s q e n t h i u w ∙ sym (last_same o r.machine (settings_long o r) cs a t);
    }

    pub delivery_number : DeliveryNumbers (account o) cs
    delivery_number = let d = plain_numbers o r.machine cs a in record { none_waits = d.none_waits; one_waits = d.one_waits }

    pub earlier_tries : EarlierTries (account o) cs
    earlier_tries = let d = plain_tries o r.machine cs a in record { late = d.late; yields = d.yields }

    pub adds_exactly : AddsExactly o cs
    adds_exactly = gives_exactly o r.machine (settings_long o r) cs a

    pub last_writers : LastWriters (account o) cs
    last_writers =
        let d = machine-last-writers o.machine r.machine (expand o cs) a in
        let e = sym (same_machine o cs) in
        record {
          known = λ k. subst Known e (d.known k);
          newest_value = λ rest q c n t h i u w.
              subst (λ (st : Station). NewestAtRest st (λ l t. value l t ≡ machineLast (told o cs) t)) e d.newest_value rest q c n t h i u w
              ∙ sym (last_same o r.machine (settings_long o r) cs a t);
          newest_author =
              subst (λ (st : Station). NewestAtRest st (λ l t. author l t ≢ unknown → AuthorIs l t (last_writer (told o cs) t))) e d.newest_author;
        }

    -- ---- what it leaves at rest is an origin again, and replay goes on where it was
    pub rests : Quiescent (reached o cs).machine → Rested (origin_of o cs)
    rests q = record {
      machine = subst (λ (st : Station). MachineRested (machine_of st (told o cs))) (sym (same_machine o cs))
          (machine-rests o.machine r.machine (expand o cs) a (subst Quiescent (same_machine o cs) q));
      settings = settings_sound o r cs;
      weighs = (weighs o r cs typed).kept;
    }

    pub rests_last : (t : ℕ) → (account (origin_of o cs)).last [] t ≡ (account o).last cs t
    rests_last t = first_last (origin_of o cs) t
        ∙ carried_last (reached o cs).machine (told o cs) t ∙ sym (last_same o r.machine (settings_long o r) cs a t)

-- ---- the blank service is an origin, whichever nodes are on
pub blank_rested : (up : ℕ) → Rested (blank_origin up)
unfolding part
blank_rested up = record {
  machine = machine-blank-rested up;
  settings = λ n. blank_number_lem;
  weighs = λ n i h. absurd (let z : ⊥ = omega (arith, h) in z);
}

pub from_blank : (up : ℕ) (cs : List Call) → AllTyped cs → Demand3 (account (blank_origin up)) cs
from_blank up = demand_3 (blank_origin up) (blank_rested up)

-- from there every author is known, so at rest every newest copy's author is replay's last writer
pub writers_from_blank : (up : ℕ) (cs : List Call) → AllTyped cs
    → NewestAtRest (reached (blank_origin up) cs).machine (λ l t. AuthorIs l t (last_writer (told (blank_origin up) cs) t))
writers_from_blank up cs typed rest q c n t h i u w =
    let d = last_writers (blank_origin up) (blank_rested up) cs typed in
    d.newest_author rest q c n t h i u w (d.known (blank_known up) n t)
