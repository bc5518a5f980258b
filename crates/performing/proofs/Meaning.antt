-- What is printed for a step is what happened: where the buffers hold what a list of steps left, the message shown as put is the one that the step put,
-- and replay's sheet after the step is the one of the longer list.
use mathlib.Core.Path.{◌≡◌, refl, sym, ap, subst, ◌∙◌}
use mathlib.Core.Bool.{Bool, true, false, cond}
use mathlib.Core.List.{List, [], ◌∷◌, ◌++◌}
use mathlib.Core.Option.{Option, none, some}
use Prim.Native.Nat.{ℕ, ◌+◌, ◌-◌, ◌<◌, ◌≤◌}
use native.Mathlib.Omega.{arith}
use lib.Dec.{eqb, ltb}
use lib.ListN.{length, get_or, length-append}
use lib.Seq.{get_or-append-add}
use borrow.Author.Tests.{eq-eqb, ne_eqb, eqb-true, eqb-false, lt-ltb, le-ltb, ltb-true}
use Rattle.wire.specs.Decode.{owner_of}
use Rattle.coordinator.specs.Step.{Step as Host}
use Rattle.coordinator.specs.State.{committed}
use Rattle.coordinator.specs.Calls.{no_node}
use Rattle.mask.specs.Mask.{contains, only, joined, minus}
use Rattle.pool.specs.Pool.{count, check, message_at, waiting}
use Rattle.pool.proofs.Numbers.{fine}
use Rattle.pool.proofs.Laws.{length_waiting, get_d_waiting}
use Rattle.replay.specs.Sheet.{committed_after}
use Rattle.buffers.specs.declared.Answer.{Answer}
use Rattle.steps.specs.Station.{Station, with_record, with_pool, with_on, without}
use Rattle.steps.specs.Step.{found, reselect, abort, send, delivery, drop, switch, Outcome}
use Rattle.steps.specs.Step.{Call as Step, step as step_of}
use Rattle.steps.specs.Run.{after, event_of}
use Rattle.steps.specs.Run.{trace as machineTrace}
use Rattle.steps.specs.Step.{refused_with, taken, when_off, hosted, delivery_of, drop_of, switch_of}
use Rattle.clauses.proofs.Parts.{by_test}
use Rattle.increments.specs.Deeds.{reads, writes, values}
use Rattle.service.specs.Service.{Service, Call, front, load_hours, plain, is_front, is_on, plan_at, steps_at, made, number_of, answer_of, step}
use Rattle.service.specs.Service.{put_of as putIt}
use Rattle.service.proofs.Laws.{after_at}
use Rattle.service_calls.specs.Lent.{Lent}
use Rattle.frontend.specs.Plan.{begin, batch, edit, request, load_classes}
use Rattle.frontend.specs.Plan.{Call as Front}
use Rattle.history.specs.Ledger.{Ledger, pool_put, note, noted, ledger_from}
use Rattle.history.specs.Origin.{ledger_of}
use Rattle.accounts.specs.Accounts.{Origin, Rested, FrontTyped, Typed, AllTyped, reached, expand, told}
use Rattle.accounts.proofs.Expand.{same_machine}
use Rattle.accounts.proofs.Typed.{expand_typed}
use Rattle.history.specs.Running.{put_in, sheet_keeper, telling, keeping, kept_from, sheet}
use Rattle.history.proofs.Claimed.{always_good}
use Rattle.history.proofs.Room.{length_without}
use Rattle.orders.specs.declared.Order.{Order}
use Rattle.orders.specs.declared.Kind.{Kind}
use Rattle.orders.specs.declared.Kind.TheVariants.{Begin, Batch, OpenRead, OpenWrite, SetValue, Found, Reselect, RequestCommit, Abort}
use Rattle.orders.specs.declared.Kind.TheVariants.{LoadHours, LoadClasses, Send, Deliver, Drop, Switch}
use Rattle.runs.specs.Order.{call_by, call_of}
use Rattle.runs.specs.Left.{left_of}
use Rattle.runs.specs.Left.{told_of as answerTo}
use Rattle.runs.specs.Held.{Holds, Next}
use Rattle.runs.proofs.Demand.{claimed}
use Rattle.results.specs.Told.{there, seen, nobody, owner_seen, sheet_put, sheet_told, taken_out, put_place, put_by, sheet_by}
use Rattle.telling.specs.Telling.{told_of}
use Rattle.telling.specs.Telling.{told as batchTold}
use Rattle.telling.proofs.Deeds.{tell_deed}
use Rattle.telling.proofs.Law.{call_told, front_tells}
use Rattle.performing.specs.Steps.{put_of, step_sheet}
use Rattle.results.proofs.Seen.{unseen, is_seen}

-- ---- where the message that was put is found
there_of : (P : List ℕ) (k : ℕ) → check P ≡ 0 → k < count P → there P k ≡ true
unfolding there
there_of P k e h = simp (eq-eqb (check P) 0 e, lt-ltb k (count P) h)

not_there : (P : List ℕ) (k : ℕ) → check P ≡ 0 → count P ≤ k → there P k ≡ false
unfolding there
not_there P k e h = simp (eq-eqb (check P) 0 e, le-ltb k (count P) h)

nothing_there : (P : List ℕ) → check P ≡ 0 → seen P nobody ≡ none
nothing_there P e = let r = (fine P e).room in unseen P nobody (not_there P nobody e (omega arith))

-- of a pool in which wait the rest of n messages, and one that was put
placed : (P : List ℕ) (rest : List (List ℕ)) (p : Option (List ℕ)) (n gone : ℕ) → check P ≡ 0 → waiting P ≡ pool_put p rest → length rest + gone ≡ n
    → seen P (put_place n gone (count P)) ≡ p
unfolding put_place
placed P rest none n gone e w h = ap (seen P) (go (eqb (count P) 0) refl) ∙ nothing_there P e
  where
    long : count P ≡ length rest
    long = sym (length_waiting P) ∙ ap length w

    go : (t : Bool) → eqb (count P) 0 ≡ t → cond t nobody (cond (eqb (count P + gone) (n + 1)) (count P - 1) nobody) ≡ nobody
    go true t = refl
    go false t = simp (ne_eqb (count P + gone) (n + 1) (λ q. omega (arith, q, long, h)))
placed P rest (some m) n gone e w h = ap (seen P) place ∙ is_seen P (length rest) (there_of P (length rest) e (omega (arith, long))) ∙ ap some message
  where
    long : count P ≡ length rest + 1
    long = sym (length_waiting P) ∙ ap length w ∙ length-append rest (m ∷ [])

    place : cond (eqb (count P) 0) nobody (cond (eqb (count P + gone) (n + 1)) (count P - 1) nobody) ≡ length rest
    place =
        let z : count P - 1 ≡ length rest = omega (arith, long) in
        simp (ne_eqb (count P) 0 (λ q. omega (arith, q, long)), eq-eqb (count P + gone) (n + 1) (omega (arith, long, h))) z

    message : message_at P (length rest) ≡ m
    message =
        let z : length rest ≡ length rest + 0 = omega arith in
        sym (get_d_waiting P (length rest) (omega (arith, long)))
        ∙ ap (λ (l : List (List ℕ)). get_or l (length rest) []) w
        ∙ ap (λ (i : ℕ). get_or (rest ++ (m ∷ [])) i []) z
        ∙ get_or-append-add rest (m ∷ []) 0 []

-- ---- what a step puts: a host call, a drop and a switch nothing
hosted_none : (st : Station) (n : ℕ) (s : Host) → (hosted st n s).put ≡ none
unfolding hosted
hosted_none st n s = go (contains st.own.on n) (eqb s.number 0)
  where
    go : (a b : Bool)
        → (cond a (cond b (taken s.answer (with_record st n s.coordinator)) (refused_with s.number st)) (refused_with (when_off s.number) st)).put
        ≡ none
    go true true = refl
    go true false = refl
    go false b = refl

drop_none : (st : Station) (k : ℕ) → (drop_of st k).put ≡ none
unfolding drop_of
drop_none st k = go (ltb k (length st.pool))
  where
    go : (a : Bool) → (cond a (taken 0 (with_pool st (without k st.pool))) (refused_with 5 st)).put ≡ none
    go true = refl
    go false = refl

switch_none : (st : Station) (n : ℕ) (on : Bool) → (switch_of st n on).put ≡ none
unfolding switch_of
switch_none st n on = go (no_node n)
  where
    go : (a : Bool) → (cond a (refused_with 4 st) (taken 0 (with_on st (cond on (joined st.own.on (only n)) (minus st.own.on (only n)))))).put ≡ none
    go true = refl
    go false = refl

-- an accepted delivery or drop names a message that waits
named_waits : (st : Station) (k : ℕ) (x : Outcome) → (cond (ltb k (length st.pool)) x (refused_with 5 st)).number ≡ 0 → k < length st.pool
named_waits st k x = go (ltb k (length st.pool)) refl
  where
    go : (t : Bool) → ltb k (length st.pool) ≡ t → (cond t x (refused_with 5 st)).number ≡ 0 → k < length st.pool
    go true p e = ltb-true k (length st.pool) p
    go false p e = absurd (let z : 5 ≡ 0 = e in omega (arith, z))

left_one : (kept : Bool) (k : ℕ) (l : List (List ℕ)) → k < length l → length (cond kept l (without k l)) + cond kept 0 1 ≡ length l
left_one true k l h = omega arith
left_one false k l h = length_without k l h

-- a call of a front end puts nothing, and leaves the pool
front_pool : (v : Service) (n : ℕ) (a : Front) → (step v (front n a)).service.machine.pool ≡ v.machine.pool
unfolding made
front_pool v n a = by (is_on v n) refl
  where
    by : (up : Bool) → is_on v n ≡ up → (after v.machine (cond up (steps_at n (plan_at v n a).deeds) [])).pool ≡ v.machine.pool
    by true e = ap (λ (w : Station). w.pool) (after_at v.machine n (plan_at v n a).deeds e)
    by false e = refl

module _ (from : Origin) (rested : Rested from) (cs : List Call) (o : Order) (list : List ℕ) where
  abbrev v : Service
  v = reached from cs

  abbrev st : Station
  st = v.machine

  abbrev L : Ledger
  L = told from cs

  -- the ledger's pool is the machine's
  pool_as : (ds : List Call) → AllTyped ds → (told from ds).pool ≡ (reached from ds).machine.pool
  pool_as ds a =
      (always_good from.machine rested.machine (expand from ds) (expand_typed from rested ds a)).world.books.pool_as
      ∙ ap (λ (s : Station). s.pool) (sym (same_machine from ds))

  pool_told : AllTyped cs → L.pool ≡ st.pool
  pool_told a = pool_as cs a

  -- what the machine's own step tells, as the machine of the service takes it
  plain_told : (c : Step) (p : is_front c ≡ false) → told from (plain c p ∷ cs) ≡ note L (event_of c (step_of st c))
  unfolding ledger_from made
  plain_told c p = ap (λ (w : Station). note L (event_of c (step_of w c))) (sym (same_machine from cs))

  -- the pool after an accepted step, by the ledger
  plain_after : (c : Step) (p : is_front c ≡ false) → AllTyped (plain c p ∷ cs) → (step_of st c).number ≡ 0
      → (step v (plain c p)).service.machine.pool ≡ (noted L c (step_of st c).answer (step_of st c).put).pool
  unfolding note
  plain_after c p a z =
      sym (pool_as (plain c p ∷ cs) a) ∙ ap (λ (K : Ledger). K.pool) (plain_told c p) ∙ simp (eq-eqb (step_of st c).number 0 z)

  -- by the kind: the pool P before the step and the pool Q that it left
  module _ (P Q : List ℕ) (before : waiting P ≡ st.pool) (well : check Q ≡ 0) where
    abbrev Put : Kind → Type 0
    Put k =
        AllTyped (call_by k o list ∷ cs) → (step v (call_by k o list)).number ≡ 0 → waiting Q ≡ (step v (call_by k o list)).service.machine.pool
        → seen Q (put_place (count P) (taken_out k o.flag) (count Q)) ≡ (step v (call_by k o list)).put

    long : length st.pool ≡ count P
    long = ap length (sym before) ∙ length_waiting P

    -- a step that leaves the pool alone
    still : (p : Option (List ℕ)) → p ≡ none → waiting Q ≡ L.pool → L.pool ≡ st.pool → seen Q (put_place (count P) 0 (count Q)) ≡ p
    still p e w l = placed Q st.pool none (count P) 0 well (w ∙ l) (omega (arith, long)) ∙ sym e

    -- a call of a front end, and a load of hours
    still_front : (n : ℕ) (a : Front) → waiting Q ≡ (step v (front n a)).service.machine.pool → seen Q (put_place (count P) 0 (count Q)) ≡ none
    still_front n a w = placed Q st.pool none (count P) 0 well (w ∙ front_pool v n a) (omega (arith, long))

    by_kind : (k : Kind) → Put k
    unfolding call_by taken_out noted number_of answer_of putIt made step_of delivery_of drop_of
    by_kind Begin a z w = still_front o.node (begin o.with o.day o.minute) w
    by_kind Batch a z w = still_front o.node (batch o.with o.day o.minute list) w
    by_kind OpenRead a z w = still_front o.node (edit (reads o.object)) w
    by_kind OpenWrite a z w = still_front o.node (edit (writes o.object)) w
    by_kind SetValue a z w = still_front o.node (edit (values o.object o.value)) w
    by_kind RequestCommit a z w = still_front o.node request w
    by_kind LoadClasses a z w = still_front o.node (load_classes list) w
    by_kind LoadHours a z w = placed Q st.pool none (count P) 0 well w (omega (arith, long))
    by_kind Found a z w = still _ (hosted_none st _ _) (w ∙ plain_after (found o.node o.object) refl a z) (pool_told a.1)
    by_kind Reselect a z w =
        still _ (hosted_none st _ _) (w ∙ plain_after (reselect o.node o.with.live o.with.distances) refl a z) (pool_told a.1)
    by_kind Abort a z w = still _ (hosted_none st _ _) (w ∙ plain_after (abort o.node) refl a z) (pool_told a.1)
    by_kind Switch a z w = still _ (switch_none st _ _) (w ∙ plain_after (switch o.node o.flag) refl a z) (pool_told a.1)
    by_kind Send a z w =
        let c = send o.node o.to o.object in
        placed Q st.pool (step_of st c).put (count P) 0 well
        (w ∙ plain_after c refl a z ∙ ap (pool_put (step_of st c).put) (pool_told a.1)) (omega (arith, long))
    by_kind Deliver a z w =
        let c = delivery o.place o.flag in
        let rest : List (List ℕ) → List (List ℕ) = λ l. cond o.flag l (without o.place l) in
        placed Q (rest st.pool) (step_of st c).put (count P) (cond o.flag 0 1) well
        (w ∙ plain_after c refl a z ∙ ap (λ (l : List (List ℕ)). pool_put (step_of st c).put (rest l)) (pool_told a.1))
        (left_one o.flag o.place st.pool (named_waits st o.place _ z) ∙ long)
    by_kind Drop a z w =
        let c = drop o.place in
        placed Q (without o.place st.pool) (step_of st c).put (count P) 1 well
        (w ∙ plain_after c refl a z ∙ ap (λ (l : List (List ℕ)). pool_put (step_of st c).put (without o.place l)) (pool_told a.1))
        (length_without o.place st.pool (named_waits st o.place _ z) ∙ long)

  -- ---- what replay is told
  -- the sheet that is kept over the machine's steps of a list
  abbrev kept : List ℕ → List Call → List ℕ
  kept l ds = sheet (ledger_of from.machine) l (machineTrace from.machine.station (expand from ds))

  -- what the program tells of an accepted step, from what it answered and put, and the record and the settings of its node after it
  abbrev telling_by : Kind → List ℕ → ℕ → List ℕ
  telling_by k l owner =
      told_of k ((step v (call_by k o list)).service.machine.records o.node) ((step v (call_by k o list)).service.settings o.node) o.node
      (sheet_told k (sheet_put l (step v (call_by k o list)).put) o (step v (call_by k o list)).answer owner)

  module _ (l : List ℕ) (owner : ℕ) where
    abbrev S : List ℕ
    S = kept l cs

    -- a step of the machine's own tells what its event does
    plain_longer : (c : Step) (p : is_front c ≡ false)
        → kept l (plain c p ∷ cs) ≡ cond (eqb (step_of st c).number 0) (telling sheet_keeper L S c (step_of st c).answer (step_of st c).put) S
    unfolding kept_from keeping made
    plain_longer c p =
        ap (λ (w : Station). cond (eqb (step_of w c).number 0) (telling sheet_keeper L S c (step_of w c).answer (step_of w c).put) S)
        (sym (same_machine from cs))

    plain_same : (c : Step) (p : is_front c ≡ false) (z : List ℕ) → z ≡ telling sheet_keeper L S c (step_of st c).answer (step_of st c).put
        → cond (eqb (step_of st c).number 0) z S ≡ kept l (plain c p ∷ cs)
    plain_same c p z e = ap (λ (x : List ℕ). cond (eqb (step_of st c).number 0) x S) e ∙ sym (plain_longer c p)

    -- a load of hours makes no step of the machine's
    hours_same : (a : Bool) → cond a S S ≡ kept l (load_hours o.node list ∷ cs)
    unfolding made
    hours_same true = refl
    hours_same false = refl

    unfoldable Longer : Kind → Type 0
    Longer k = cond (eqb (step v (call_by k o list)).number 0) (telling_by k S owner) S ≡ kept l (call_by k o list ∷ cs)

    by_front : (n : ℕ) (a : Front) → AllTyped cs → FrontTyped n a
        → cond (eqb (step v (front n a)).number 0)
        (call_told n a ((step v (front n a)).service.machine.records n) ((step v (front n a)).service.settings n) S) S
        ≡ kept l (front n a ∷ cs)
    by_front n a t h = sym (front_tells from rested cs t l n a h)

    sheet_longer : (k : Kind) → AllTyped (call_by k o list ∷ cs) → (k ≡ Deliver → owner ≡ owner_of (get_or L.pool o.place [])) → Longer k
    unfolding Longer call_by call_told told_of tell_deed sheet_told sheet_put telling number_of answer_of putIt step_of
    sheet_longer Begin t f = by_front o.node (begin o.with o.day o.minute) t.1 t.0
    sheet_longer Batch t f = by_front o.node (batch o.with o.day o.minute list) t.1 t.0
    sheet_longer OpenRead t f = by_front o.node (edit (reads o.object)) t.1 t.0
    sheet_longer OpenWrite t f = by_front o.node (edit (writes o.object)) t.1 t.0
    sheet_longer SetValue t f = by_front o.node (edit (values o.object o.value)) t.1 t.0
    sheet_longer RequestCommit t f = by_front o.node request t.1 t.0
    sheet_longer LoadClasses t f = by_front o.node (load_classes list) t.1 t.0
    sheet_longer LoadHours t f = hours_same (eqb (step v (load_hours o.node list)).number 0)
    sheet_longer Found t f = plain_same (found o.node o.object) refl _ (ap (put_in sheet_keeper S) (hosted_none st _ _))
    sheet_longer Reselect t f =
        plain_same (reselect o.node o.with.live o.with.distances) refl _ (ap (put_in sheet_keeper S) (hosted_none st _ _))
    sheet_longer Abort t f = plain_same (abort o.node) refl _ (ap (put_in sheet_keeper S) (hosted_none st _ _))
    sheet_longer Switch t f = plain_same (switch o.node o.flag) refl _ (ap (put_in sheet_keeper S) (switch_none st _ _))
    sheet_longer Send t f = plain_same (send o.node o.to o.object) refl _ refl
    sheet_longer Drop t f = plain_same (drop o.place) refl _ refl
    sheet_longer Deliver t f =
        let r = step_of st (delivery o.place o.flag) in
        plain_same (delivery o.place o.flag) refl _
        (ap (λ (w : ℕ). cond (eqb r.answer committed) (committed_after (put_in sheet_keeper S r.put) w) (put_in sheet_keeper S r.put)) (f refl))

  -- the owner of the message that an accepted delivery names
  owner_named : (P : List ℕ) → waiting P ≡ st.pool → check P ≡ 0 → AllTyped cs → (k : Kind) → (step v (call_by k o list)).number ≡ 0 → k ≡ Deliver
      → owner_seen (seen P o.place) ≡ owner_of (get_or L.pool o.place [])
  unfolding call_by number_of step_of delivery_of owner_seen
  owner_named P w e a k z q = go (subst (λ (j : Kind). (step v (call_by j o list)).number ≡ 0) q z)
    where
      go : (step v (call_by Deliver o list)).number ≡ 0 → owner_seen (seen P o.place) ≡ owner_of (get_or L.pool o.place [])
      go y =
          let n = length_waiting P in
          let m = ap length w in
          let h = named_waits st o.place _ y in
          let i : o.place < count P = omega (arith, n, m, h) in
          ap owner_seen (is_seen P o.place (there_of P o.place e i))
          ∙ ap owner_of (sym (get_d_waiting P o.place i))
          ∙ ap (λ (l : List (List ℕ)). owner_of (get_or l o.place [])) (w ∙ sym (pool_told a))

  -- ---- THE MEANING of a step, where the buffers hold what the steps of a list left
  module _ (b : Lent) (t : Typed (call_of o list)) (h : Holds from cs b) where
    abbrev P : List ℕ
    P = b.station.pool

    abbrev now : Answer
    now = answerTo b (call_of o list)

    abbrev B : Lent
    B = left_of b (call_of o list)

    next : Next from cs (call_of o list) now (left_of b (call_of o list))
    next = claimed b (call_of o list) t from cs h

    before_as : waiting P ≡ st.pool
    before_as = ap (λ (s : Service). s.machine.pool) h.service

    after_as : waiting B.station.pool ≡ (step v (call_of o list)).service.machine.pool
    after_as = ap (λ (s : Service). s.machine.pool) next.holds.service

    -- the message shown as put is the one that the step put
    pub put_is : (answerTo b (call_of o list)).number ≡ 0 → put_of b o list ≡ (step v (call_of o list)).put
    unfolding put_by
    put_is z =
        simp (eq-eqb now.number 0 z)
        (by_kind P B.station.pool before_as next.holds.whole.station.pool_fine o.kind next.holds.typed (sym next.number ∙ z) after_as)

    -- what is told of a batch is told from the node's record and settings after the step
    told_is : (z : List ℕ) → now.number ≡ 0 → batchTold now.number o.kind B.station.records B.settings o.node z
        ≡ told_of o.kind ((step v (call_of o list)).service.machine.records o.node) ((step v (call_of o list)).service.settings o.node) o.node z
    unfolding batchTold
    told_is z e =
        let w = next.holds.whole in
        simp (eq-eqb now.number 0 e, eq-eqb _ _ w.station.records_long, eq-eqb _ _ w.settings_long)
        (ap (λ (s : Service). told_of o.kind (s.machine.records o.node) (s.settings o.node) o.node z) next.holds.service)

    refused_is : (z : List ℕ) → (now.number ≡ 0 → ⊥) → batchTold now.number o.kind B.station.records B.settings o.node z ≡ z
    unfolding batchTold
    refused_is z e = simp (ne_eqb now.number 0 e)

    -- the sheet after the step is the one of the longer list
    pub sheet_is : (l : List ℕ)
        → step_sheet b o list (sheet (ledger_of from.machine) l (machineTrace from.machine.station (expand from cs)))
        ≡ sheet (ledger_of from.machine) l (machineTrace from.machine.station (expand from (call_of o list ∷ cs)))
    unfolding step_sheet sheet_by Longer
    sheet_is l = by_test _ (eqb now.number 0) accepted refused
      where
        w : ℕ
        w = owner_seen (seen P o.place)

        m : List ℕ
        m = sheet_told o.kind (sheet_put (kept l cs) (put_of b o list)) o now.answer w

        z : List ℕ
        z = cond (eqb now.number 0) m (kept l cs)

        tells : List ℕ → List ℕ
        tells x = told_of o.kind ((step v (call_of o list)).service.machine.records o.node) ((step v (call_of o list)).service.settings o.node)
            o.node x

        accepted : eqb now.number 0 ≡ true
            → batchTold now.number o.kind B.station.records B.settings o.node z ≡ kept l (call_of o list ∷ cs)
        accepted a =
            let e = eqb-true now.number 0 a in
            let y : (step v (call_of o list)).number ≡ 0 = sym next.number ∙ e in
            told_is z e ∙ ap (λ (t : Bool). tells (cond t m (kept l cs))) a
            ∙ ap tells (λ i. sheet_told o.kind (sheet_put (kept l cs) (put_is e i)) o (next.answer i) w)
            ∙ sym (ap (λ (t : Bool). cond t (telling_by o.kind (kept l cs) w) (kept l cs)) (eq-eqb (step v (call_of o list)).number 0 y))
            ∙ sheet_longer l w o.kind next.holds.typed
            (owner_named P before_as h.whole.station.pool_fine h.typed o.kind y)

        refused : eqb now.number 0 ≡ false
            → batchTold now.number o.kind B.station.records B.settings o.node z ≡ kept l (call_of o list ∷ cs)
        refused a =
            let e = eqb-false now.number 0 a in
            let u = owner_of (get_or L.pool o.place []) in
            refused_is z e ∙ ap (λ (t : Bool). cond t m (kept l cs)) a
            ∙ sym (ap (λ (t : Bool). cond t (telling_by o.kind (kept l cs) u) (kept l cs))
            (ne_eqb (step v (call_of o list)).number 0 (λ y. e (next.number ∙ y))))
            ∙ sheet_longer l u o.kind next.holds.typed (λ k. refl)
