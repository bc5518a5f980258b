-- One order: what each kind of step tells and leaves, in terms of all five buffers.
use mathlib.Core.Path.{◌≡◌, refl, sym, ap, subst, ◌∙◌}
use mathlib.Core.Bool.{Bool, true, false, cond}
use mathlib.Core.List.{List, []}
use Prim.Native.Nat.{ℕ, ◌<◌, ◌^◌}
use Rattle.coordinator.specs.Step.{Step}
use Rattle.buffers.specs.declared.Answer.{Answer}
use Rattle.buffers.specs.Buffers.{Buffers, station_of, all, ends, answer_with}
use Rattle.steps.specs.Step.{hosted, send, delivery, drop, switch}
use Rattle.steps.specs.Step.{Call as Step-call, step as step_of}
use Rattle.station_calls.specs.Calls.{switching, switch_told, switch_own}
use Rattle.station_calls.specs.Calls.{host_told as call_told, host_records as callRecords}
use Rattle.station.specs.Messages.{sending, send_told, send_pool, dropping, drop_told, drop_pool, delivery_told, delivery_images, delivery_records}
use Rattle.station.specs.Messages.{delivery_pool}
use Rattle.holding.specs.Left.{told_of as stepTold, left_of as stepLeft, host_left as stepHostLeft}
use Rattle.holding.proofs.Same.{host_told_lem, host_records_lem, send_same, drop_same, switch_same}
use Rattle.history.specs.Claims.{Distances}
use Rattle.frontend.specs.Asked.{call_by as actCall, call_of as actsCall}
use Rattle.service.specs.Service.{front, plain, is_front}
use Rattle.service_calls.specs.Lent.{Lent, lent, front_told, front_records, front_settings, load_told, load_settings}
use Rattle.accounts.specs.Accounts.{Typed}
use Rattle.orders.specs.declared.Kind.{Kind}
use Rattle.orders.specs.declared.Kind.TheVariants.{Begin, Batch, OpenRead, OpenWrite, SetValue, Found, Reselect, RequestCommit, Abort}
use Rattle.orders.specs.declared.Kind.TheVariants.{LoadHours, LoadClasses, Send, Deliver, Drop, Switch}
use Rattle.orders.specs.declared.Order.{Order}
use Rattle.runs.specs.Order.{is_host, is_planned, act_of, ask_of, call_by, call_of}
use Rattle.runs.specs.Left.{told_of, left_of, host_told, host_left, other_told, other_left}
use Rattle.runs.specs.Held.{Claimed}
use Rattle.runs.proofs.Demand.{claimed}
use Rattle.runs.proofs.Same.{front_told_lem, front_records_lem, front_settings_lem, load_same}

-- ---- an order's numbers are of their types, and so are the step's
pub order_typed : (o : Order) (list : List ℕ) → o.value < 2 ^ 64 → o.with.timestamp < 2 ^ 32 → Distances o.with.distances → Typed (call_of o list)
unfolding call_by
order_typed o list v t d = by o.kind
  where
    by : (k : Kind) → Typed (call_by k o list)
    by Begin = (t, d)
    by Batch = (t, d)
    by OpenRead = tt
    by OpenWrite = tt
    by SetValue = v
    by Found = tt
    by Reselect = d
    by RequestCommit = tt
    by Abort = tt
    by LoadHours = tt
    by LoadClasses = tt
    by Send = tt
    by Deliver = tt
    by Drop = tt
    by Switch = tt

-- ---- an order that a front end plans, as it is asked
clash : false ≡ true → ⊥
clash e = subst (λ (x : Bool). cond x ⊥ (Unit {0})) e tt

asked_is : (k : Kind) (o : Order) (list : List ℕ) → is_planned k ≡ true
    → call_by k o list ≡ front o.node (actCall (act_of k)
    (record { act = act_of k; with = o.with; object = o.object; value = o.value; day = o.day; minute = o.minute }) list)
unfolding call_by actCall
asked_is Begin o list h = refl
asked_is Batch o list h = refl
asked_is OpenRead o list h = refl
asked_is OpenWrite o list h = refl
asked_is SetValue o list h = refl
asked_is Found o list h = absurd (clash h)
asked_is Reselect o list h = absurd (clash h)
asked_is RequestCommit o list h = refl
asked_is Abort o list h = absurd (clash h)
asked_is LoadHours o list h = absurd (clash h)
asked_is LoadClasses o list h = refl
asked_is Send o list h = absurd (clash h)
asked_is Deliver o list h = absurd (clash h)
asked_is Drop o list h = absurd (clash h)
asked_is Switch o list h = absurd (clash h)

planned_host : (k : Kind) → is_planned k ≡ true → is_host k ≡ true
planned_host Begin h = refl
planned_host Batch h = refl
planned_host OpenRead h = refl
planned_host OpenWrite h = refl
planned_host SetValue h = refl
planned_host Found h = refl
planned_host Reselect h = refl
planned_host RequestCommit h = refl
planned_host Abort h = refl
planned_host LoadHours h = refl
planned_host LoadClasses h = refl
planned_host Send h = h
planned_host Deliver h = h
planned_host Drop h = h
planned_host Switch h = h

-- ---- a host's call
module _ (R O S list : List ℕ) (o : Order) where
  abbrev pub HostTells : Answer → List ℕ → List ℕ → Type 0
  HostTells a r s = ((I P : List ℕ) → a ≡ host_told (lent I R P O S) o list) × ((I P : List ℕ) → lent I r P O s ≡ host_left (lent I R P O S) o list)

  -- by its kind
  by_kind : (k : Kind) → o.kind ≡ k → is_host k ≡ true → (a : Answer) (r s : List ℕ)
      → ((I P : List ℕ) → a ≡ told_of (lent I R P O S) (call_by k o list)) → ((I P : List ℕ) → lent I r P O s ≡ left_of (lent I R P O S) (call_by k o list))
      → HostTells a r s
  by_kind k e h a r s t l = (
    λ I P. t I P ∙ sym (ap (λ (j : Kind). cond (is_host j) (told_of (lent I R P O S) (call_by j o list)) (answer_with 5 0)) e
        ∙ ap (λ (x : Bool). cond x (told_of (lent I R P O S) (call_by k o list)) (answer_with 5 0)) h),
    λ I P. l I P ∙ sym (ap (λ (j : Kind). cond (is_host j) (left_of (lent I R P O S) (call_by j o list)) (lent I R P O S)) e
        ∙ ap (λ (x : Bool). cond x (left_of (lent I R P O S) (call_by k o list)) (lent I R P O S)) h),
  )

  pub plain_tells : (k : Kind) → o.kind ≡ k → is_host k ≡ true → (n : ℕ) (c : Step-call) (p : is_front c ≡ false) (s : Step) → call_by k o list ≡ plain c p
      → ((I P : List ℕ) → stepTold (all I R P O) c ≡ call_told (all I R P O) n c)
      → ((I P : List ℕ) → stepLeft (all I R P O) c ≡ stepHostLeft (all I R P O) n c)
      → ((I P : List ℕ) → step_of (station_of (all I R P O)) c ≡ hosted (station_of (all I R P O)) n s)
      → (a : Answer) (r : List ℕ) → a ≡ call_told (ends R O) n c → r ≡ callRecords (ends R O) n c → HostTells a r S
  unfolding told_of left_of
  plain_tells k e h n c p s f t l x a r u v = by_kind k e h a r S
      (λ I P. u ∙ host_told_lem I R P O n c s (x [] []) (x I P) ∙ sym (t I P) ∙ ap (told_of (lent I R P O S)) (sym f))
      (λ I P. (λ j. record {
        station = (ap (λ (m : List ℕ). all I m P O) (v ∙ host_records_lem I R P O n c s (x [] []) (x I P)) ∙ sym (l I P)) j;
        settings = S;
      })
      ∙ ap (left_of (lent I R P O S)) (sym f))

  pub front_tells : is_planned o.kind ≡ true → (a : Answer) (r s : List ℕ)
      → a ≡ front_told (lent [] R [] O S) o.node (actsCall (ask_of o) list)
      → r ≡ front_records (lent [] R [] O S) o.node (actsCall (ask_of o) list)
      → s ≡ front_settings (lent [] R [] O S) o.node (actsCall (ask_of o) list) → HostTells a r s
  unfolding told_of left_of
  front_tells h a r s u v w =
      let e = asked_is o.kind o list h in
      let f = actsCall (ask_of o) list in
      by_kind o.kind refl (planned_host o.kind h) a r s
      (λ I P. u ∙ front_told_lem I R P O S o.node f ∙ ap (told_of (lent I R P O S)) (sym e))
      (λ I P. (λ i. lent I ((v ∙ front_records_lem I R P O S o.node f) i) P O ((w ∙ front_settings_lem I R P O S o.node f) i))
      ∙ ap (left_of (lent I R P O S)) (sym e))

  pub load_tells : o.kind ≡ LoadHours → (a : Answer) (s : List ℕ) → a ≡ load_told (lent [] [] [] O S) o.node list
      → s ≡ load_settings (lent [] [] [] O S) o.node list → HostTells a R s
  unfolding told_of left_of call_by
  load_tells e a s u v = by_kind LoadHours e refl a R s
      (λ I P. u ∙ (load_same I R P O S o.node list).0)
      (λ I P. ap (λ (m : List ℕ). lent I R P O m) (v ∙ (load_same I R P O S o.node list).1))

  pub host_none : (k : Kind) → o.kind ≡ k → is_host k ≡ false → (a : Answer) → a ≡ answer_with 5 0 → HostTells a R S
  host_none k e h a u =
      let f : is_host o.kind ≡ false = ap is_host e ∙ h in (
        (λ I P. u ∙ sym (ap (λ (x : Bool). cond x (told_of (lent I R P O S) (call_of o list)) (answer_with 5 0)) f)),
        (λ I P. sym (ap (λ (x : Bool). cond x (left_of (lent I R P O S) (call_of o list)) (lent I R P O S)) f)),
      )

-- ---- a send, a delivery, a drop, a switch
module _ (I R P O : List ℕ) (o : Order) where
  abbrev pub OtherTells : Answer → List ℕ → List ℕ → List ℕ → List ℕ → Type 0
  OtherTells a i r p w = ((S list : List ℕ) → a ≡ other_told (lent I R P O S) o list)
      × ((S list : List ℕ) → lent i r p w S ≡ other_left (lent I R P O S) o list)

  abbrev B : Buffers
  B = all I R P O

  other_kind : (k : Kind) → o.kind ≡ k → is_host k ≡ false → (c : Step-call) (q : is_front c ≡ false) → ((list : List ℕ) → call_by k o list ≡ plain c q)
      → (a : Answer) (i r p w : List ℕ) → a ≡ stepTold B c → all i r p w ≡ stepLeft B c → OtherTells a i r p w
  unfolding told_of left_of
  other_kind k e h c q f a i r p w t l = (
    λ S list. t ∙ ap (told_of (lent I R P O S)) (sym (f list))
        ∙ sym (ap (λ (j : Kind). cond (is_host j) (answer_with 5 0) (told_of (lent I R P O S) (call_by j o list))) e
        ∙ ap (λ (x : Bool). cond x (answer_with 5 0) (told_of (lent I R P O S) (call_by k o list))) h),
    λ S list. ap (λ (m : Buffers). record { station = m; settings = S }) l ∙ ap (left_of (lent I R P O S)) (sym (f list))
        ∙ sym (ap (λ (j : Kind). cond (is_host j) (lent I R P O S) (left_of (lent I R P O S) (call_by j o list))) e
        ∙ ap (λ (x : Bool). cond x (lent I R P O S) (left_of (lent I R P O S) (call_by k o list))) h),
  )

  pub send_tells : o.kind ≡ Send → (a : Answer) (p : List ℕ) → a ≡ send_told (sending R P O) o.node o.to o.object
      → p ≡ send_pool (sending R P O) o.node o.to o.object → OtherTells a I R p O
  unfolding stepTold stepLeft call_by
  send_tells e a p x y =
      let z = send_same I R P O o.node o.to o.object in
      other_kind Send e refl (send o.node o.to o.object) refl (λ list. refl) a I R p O (x ∙ z.0) (ap (λ (m : List ℕ). all I R m O) (y ∙ z.1))

  pub delivery_tells : o.kind ≡ Deliver → (a : Answer) (i r p : List ℕ) → a ≡ delivery_told B o.place o.flag
      → i ≡ delivery_images B o.place o.flag → r ≡ delivery_records B o.place o.flag → p ≡ delivery_pool B o.place o.flag
      → OtherTells a i r p O
  unfolding stepTold stepLeft call_by
  delivery_tells e a i r p x y z w =
      other_kind Deliver e refl (delivery o.place o.flag) refl (λ list. refl) a i r p O x (λ j. all (y j) (z j) (w j) O)

  pub drop_tells : o.kind ≡ Drop → (a : Answer) (p : List ℕ) → a ≡ drop_told (dropping P) o.place → p ≡ drop_pool (dropping P) o.place
      → OtherTells a I R p O
  unfolding stepTold stepLeft call_by
  drop_tells e a p x y =
      let z = drop_same I R P O o.place in
      other_kind Drop e refl (drop o.place) refl (λ list. refl) a I R p O (x ∙ z.0) (ap (λ (m : List ℕ). all I R m O) (y ∙ z.1))

  pub switch_tells : o.kind ≡ Switch → (a : Answer) (w : List ℕ) → a ≡ switch_told (switching O) o.node o.flag
      → w ≡ switch_own (switching O) o.node o.flag → OtherTells a I R P w
  unfolding stepTold stepLeft call_by
  switch_tells e a w x y =
      let z = switch_same I R P O o.node o.flag in
      other_kind Switch e refl (switch o.node o.flag) refl (λ list. refl) a I R P w (x ∙ z.0) (ap (λ (m : List ℕ). all I R P m) (y ∙ z.1))

  pub other_none : is_host o.kind ≡ true → (a : Answer) → a ≡ answer_with 5 0 → OtherTells a I R P O
  other_none f a u = (
    λ S list. u ∙ sym (ap (λ (x : Bool). cond x (answer_with 5 0) (told_of (lent I R P O S) (call_of o list))) f),
    λ S list. sym (ap (λ (x : Bool). cond x (lent I R P O S) (left_of (lent I R P O S) (call_of o list))) f),
  )

-- ---- any order: its function's, with the claims
module _ (I R P O S list : List ℕ) (o : Order) (t : Typed (call_of o list)) where
  abbrev b : Lent
  b = lent I R P O S

  abbrev Tells : Answer → Lent → Type 0
  Tells a l = (a ≡ told_of b (call_of o list)) × ((l ≡ left_of b (call_of o list)) × Claimed b (call_of o list) a l)

  with_claims : (a : Answer) (l : Lent) → a ≡ told_of b (call_of o list) → l ≡ left_of b (call_of o list) → Tells a l
  with_claims a l e f = (
    e,
    (
      f,
      subst (λ (x : Answer). Claimed b (call_of o list) x l) (sym e)
          (subst (λ (x : Lent). Claimed b (call_of o list) (told_of b (call_of o list)) x) (sym f) (claimed b (call_of o list) t)),
    ),
  )

  pub host_all : is_host o.kind ≡ true → (a : Answer) (r s : List ℕ) → HostTells R O S list o a r s → Tells a (lent I r P O s)
  host_all h a r s z = with_claims a (lent I r P O s)
      (z.0 I P ∙ ap (λ (x : Bool). cond x (told_of b (call_of o list)) (answer_with 5 0)) h)
      (z.1 I P ∙ ap (λ (x : Bool). cond x (left_of b (call_of o list)) b) h)

  pub other_all : is_host o.kind ≡ false → (a : Answer) (i r p w : List ℕ) → OtherTells I R P O o a i r p w → Tells a (lent i r p w S)
  other_all h a i r p w z = with_claims a (lent i r p w S)
      (z.0 S list ∙ ap (λ (x : Bool). cond x (answer_with 5 0) (told_of b (call_of o list))) h)
      (z.1 S list ∙ ap (λ (x : Bool). cond x b (left_of b (call_of o list))) h)
