-- Demand 3, the numbers of deliveries and what late messages do, of the service's lists, with replay as the machine's ledger has it: crate history's claims
-- of the machine's steps that they make. A front end's call makes none ripe, for none of its steps is a delivery; what was found within it is found at its
-- end or was before it.
use mathlib.Core.Path.{◌≡◌, refl, sym, subst, to_path_p}
use mathlib.Core.Logic.{◌⊎◌, inl, inr}
use mathlib.Core.Bool.{Bool, true, false, cond, Bool-set}
use mathlib.Core.List.{List, [], ◌∷◌, ◌++◌}
use Prim.Native.Nat.{ℕ}
use Rattle.increments.specs.Deeds.{reads, writes, values, Deed, begins, edits, asks, aborts}
use Rattle.coordinator.specs.State.{committed}
use Rattle.steps.specs.Step.{Call as Step, delivery, found}
use Rattle.protocol.specs.Table.{Suffix}
use Rattle.protocol.specs.State.{Tx}
use Rattle.protocol.proofs.Lists.{suffix_tail, suffix_whole}
use Rattle.protocol.specs.Proof.Tables.{clash}
use Rattle.protocol.proofs.Tables.{on}
use Rattle.history.specs.Ledger.{given_to, last_value}
use Rattle.history.specs.Origin.{Rested as MachineRested}
use Rattle.history.specs.Claims.{Account, Demand3, DeliveryNumbers, EarlierTries, Finds, Ripe, Commits, Ripens}
use Rattle.history.specs.Claims.{reached as machineReached, told as machineTold, votes as machineVotes, account as machineAccount, AllTyped as AllStepsTyped}
use Rattle.history.proofs.Claimed.{typed_suffix}
use Rattle.history.proofs.Claimed.{demand_3 as machine-demand-3}
use Rattle.history.proofs.Numbered.{delivery_number as machine-delivery-number}
use Rattle.history.proofs.Tries.{earlier_tries as machine-earlier-tries}
use Rattle.service.specs.Service.{Service, Call, front, load_hours, plain, is_front, is_on, plan_at, step_at, steps_at, made, number_of, answer_of, put_of}
use Rattle.accounts.specs.Accounts.{Origin, reached, expand, told, votes}
use Rattle.accounts.proofs.Expand.{same_machine, expand_suffix}
use Rattle.accounts.proofs.Follows.{Following, deeds_found}
use Rattle.accounts.proofs.Plans.{plan_follows}

-- which step of the machine a plain one is, is all that it is
pub plain_same : (c d : Step) (p : is_front c ≡ false) (q : is_front d ≡ false) → c ≡ d → plain c p ≡ plain d q
plain_same c d p q e =
    let s = to_path_p (λ i. is_front (e i) ≡ false) (Bool-set _ _ _ q) in
    λ i. plain (e i) (s i)

-- no deed is a delivery
no_delivery : (n : ℕ) (d : Deed) (k : ℕ) (kept : Bool) → step_at n d ≡ delivery k kept → ⊥
no_delivery n (begins w) k kept e = clash (cc)
no_delivery n (edits (reads t)) k kept e = clash (cc)
no_delivery n (edits (writes t)) k kept e = clash (cc)
no_delivery n (edits (values t v)) k kept e = clash (cc)
no_delivery n asks k kept e = clash (cc)
no_delivery n aborts k kept e = clash (cc)

module _ (o : Origin) where
  -- ---- the service's account, but for replay as the machine's ledger has it; and the same with every part read from the machine
  abbrev pub plain_account : Account Call
  plain_account =
      record {
        carried = o.machine.carried.txs;
        reached = λ cs. (reached o cs).machine;
        told = told o;
        votes = votes o;
        given = λ cs. given_to (told o cs);
        gave = λ cs. (told o cs).new;
        last = λ cs. last_value (told o cs);
        number = λ ds c. number_of (reached o ds) c;
        answer = λ ds c. answer_of (reached o ds) c;
        put = λ ds c. put_of (reached o ds) c;
        deliver = λ k kept. plain (delivery k kept) refl;
        find = λ n t. plain (found n t) refl;
      }

  abbrev service_on : List Call → Service
  service_on cs = record { machine = machineReached o.machine (expand o cs); settings = (reached o cs).settings }

  abbrev on_machine : Account Call
  on_machine =
      record {
        carried = o.machine.carried.txs;
        reached = λ cs. machineReached o.machine (expand o cs);
        told = told o;
        votes = votes o;
        given = λ cs. given_to (told o cs);
        gave = λ cs. (told o cs).new;
        last = λ cs. last_value (told o cs);
        number = λ ds c. number_of (service_on ds) c;
        answer = λ ds c. answer_of (service_on ds) c;
        put = λ ds c. put_of (service_on ds) c;
        deliver = λ k kept. plain (delivery k kept) refl;
        find = λ n t. plain (found n t) refl;
      }

  same_service : (cs : List Call) → reached o cs ≡ service_on cs
  same_service cs = λ i. record { machine = same_machine o cs i; settings = (reached o cs).settings }

  same_account : plain_account ≡ on_machine
  same_account = λ i. record {
    carried = o.machine.carried.txs;
    reached = λ cs. same_machine o cs i;
    told = told o;
    votes = votes o;
    given = λ cs. given_to (told o cs);
    gave = λ cs. (told o cs).new;
    last = λ cs. last_value (told o cs);
    number = λ ds c. number_of (same_service ds i) c;
    answer = λ ds c. answer_of (same_service ds i) c;
    put = λ ds c. put_of (same_service ds i) c;
    deliver = λ k kept. plain (delivery k kept) refl;
    find = λ n t. plain (found n t) refl;
  }

  module _ (r : MachineRested o.machine) (cs : List Call) (a : AllStepsTyped (expand o cs)) where
    pub machine_claims : Demand3 (machineAccount o.machine) (expand o cs)
    machine_claims = machine-demand-3 o.machine r (expand o cs) a

    -- ---- what 'committed' means
    commits_ripen : (x : Tx) (c : Call) (ds : List Call) → Suffix (c ∷ ds) cs → Commits on_machine ds c x → Ripens on_machine ds c x
    unfolding number_of answer_of made
    commits_ripen x c ds s z =
        subst (λ (e : Call). Suffix (e ∷ ds) cs → on_machine.number ds e ≡ 0 → on_machine.answer ds e ≡ committed → Ripens on_machine ds e x)
        (sym z.a_delivery)
        (λ t p q. machine_claims.committed_ripens x (delivery z.place z.kept) (expand o ds)
        (expand_suffix o (plain (delivery z.place z.kept) refl ∷ ds) cs t)
        (record { place = z.place; kept = z.kept; a_delivery = refl; accepted = p; says_so = q; names = z.names }))
        s z.accepted z.says_so

    abbrev RipeAt : List Step → Tx → Type 0
    RipeAt es x = Ripe (machineTold o.machine es) (machineVotes o.machine es) x

    -- deeds make none ripe
    none_ripens : (x : Tx) (n : ℕ) (ds : List Deed) (es : List Step) → Suffix (steps_at n ds ++ es) (expand o cs) → (RipeAt es x → ⊥)
        → RipeAt (steps_at n ds ++ es) x → ⊥
    none_ripens x n [] es s f q = f q
    none_ripens x n (d ∷ ds) es s f q =
        let rest = steps_at n ds ++ es in
        let z = machine_claims.ripens_committed x (step_at n d) rest s (none_ripens x n ds es (suffix_tail (step_at n d) rest (expand o cs) s) f, q) in
        no_delivery n d z.place z.kept z.a_delivery

    ripe_commits : (x : Tx) (c : Call) (ds : List Call) → Suffix (c ∷ ds) cs → Ripens on_machine ds c x → Commits on_machine ds c x
    unfolding number_of answer_of made
    ripe_commits x (front n b) ds s z = absurd (never (is_on (reached o ds) n) (expand_suffix o (front n b ∷ ds) cs s) z)
      where
        deeds : List Deed
        deeds = (plan_at (reached o ds) n b).deeds

        never : (up : Bool) → Suffix (cond up (steps_at n deeds) [] ++ expand o ds) (expand o cs)
            → (RipeAt (expand o ds) x → ⊥) × RipeAt (cond up (steps_at n deeds) [] ++ expand o ds) x → ⊥
        never true t y = none_ripens x n deeds (expand o ds) t y.0 y.1
        never false t y = y.0 y.1
    ripe_commits x (load_hours n list) ds s z = absurd (z.0 z.1)
    ripe_commits x (plain c p) ds s z =
        let y = machine_claims.ripens_committed x c (expand o ds) (expand_suffix o (plain c p ∷ ds) cs s) z in
        record {
          place = y.place;
          kept = y.kept;
          a_delivery = plain_same c (delivery y.place y.kept) p refl y.a_delivery;
          accepted = y.accepted;
          says_so = y.says_so;
          names = y.names;
        }

  -- ---- what was found after the machine's steps was found after the service's
  module _ (r : MachineRested o.machine) (x : Tx) (t v : ℕ) where
    abbrev FindsAt : List Step → Type 0
    FindsAt es = Finds (machineReached o.machine es) x t v

    -- within a step of the service
    found_in : (c : Call) (cs : List Call) (es : List Step) → AllStepsTyped (expand o (c ∷ cs)) → Suffix es (expand o (c ∷ cs)) → FindsAt es
        → Suffix es (expand o cs) ⊎ FindsAt (expand o (c ∷ cs))
    unfolding made
    found_in (front n b) cs es a s f = by (is_on (reached o cs) n) a s
      where
        deeds : List Deed
        deeds = (plan_at (reached o cs) n b).deeds

        follow : Following deeds
        follow = let w = reached o cs in plan_follows w.machine.own.system (w.machine.records n) (w.settings n) n b

        by : (up : Bool) → AllStepsTyped (cond up (steps_at n deeds) [] ++ expand o cs) → Suffix es (cond up (steps_at n deeds) [] ++ expand o cs)
            → Suffix es (expand o cs) ⊎ FindsAt (cond up (steps_at n deeds) [] ++ expand o cs)
        by true a s = deeds_found o.machine r x t v n deeds es (expand o cs) follow a s f
        by false a s = inl s
    found_in (load_hours n list) cs es a s f = inl s
    found_in (plain c p) cs es a (inl e) f = inr (subst FindsAt e f)
    found_in (plain c p) cs es a (inr s) f = inl s

    pub found_at : (cs : List Call) (es : List Step) → AllStepsTyped (expand o cs) → Suffix es (expand o cs) → FindsAt es
        → (ds : List Call) × Suffix ds cs × FindsAt (expand o ds)
    found_at [] es a s f = ([], refl, subst FindsAt s f)
    found_at (c ∷ cs) es a s f = on (found_in c cs es a s f)
        (λ q. let z = found_at cs es (typed_suffix o.machine r (expand o cs) (expand o (c ∷ cs))
        (expand_suffix o cs (c ∷ cs) (inr (suffix_whole cs))) a) q f in (z.0, inr z.1, z.2))
        (λ g. (c ∷ cs, inl refl, g))

  -- ---- the claims
  module _ (r : MachineRested o.machine) (cs : List Call) (a : AllStepsTyped (expand o cs)) where
    on_machine_lem : Demand3 on_machine cs
    unfolding number_of answer_of made
    on_machine_lem = let d = machine_claims r cs a in record {
      committed_ripens = commits_ripen r cs a;
      ripens_committed = ripe_commits r cs a;
      logged_once = d.logged_once;
      fed_once = d.fed_once;
      entries_as = d.entries_as;
      commits_only = d.commits_only;
      was_ready = λ x t i n q. let z = d.was_ready x t i n q in found_at r x t (given_to (told o cs) x t) cs z.0 a z.1 z.2;
      serial = λ x t v ds i s. d.serial x t v (expand o ds) i (expand_suffix o ds cs s);
      shown = λ x n t ds i s. d.shown x n t (expand o ds) i (expand_suffix o (plain (found n t) refl ∷ ds) cs s);
      sourced = λ x t v ds s. d.sourced x t v (expand o ds) (expand_suffix o ds cs s);
      shown_sourced = λ n t ds s. d.shown_sourced n t (expand o ds) (expand_suffix o (plain (found n t) refl ∷ ds) cs s);
      newest = d.newest;
    }

    on_machine_numbers : DeliveryNumbers on_machine cs
    unfolding number_of put_of
    on_machine_numbers = let d = machine-delivery-number o.machine r (expand o cs) a in
        record { none_waits = d.none_waits; one_waits = d.one_waits }

    on_machine_tries : EarlierTries on_machine cs
    unfolding made
    on_machine_tries = let d = machine-earlier-tries o.machine r (expand o cs) a in record { late = d.late; yields = d.yields }

    pub plain_demand : Demand3 plain_account cs
    plain_demand = subst (λ (A : Account Call). Demand3 A cs) (sym same_account) on_machine_lem

    pub plain_numbers : DeliveryNumbers plain_account cs
    plain_numbers = subst (λ (A : Account Call). DeliveryNumbers A cs) (sym same_account) on_machine_numbers

    pub plain_tries : EarlierTries plain_account cs
    plain_tries = subst (λ (A : Account Call). EarlierTries A cs) (sym same_account) on_machine_tries
