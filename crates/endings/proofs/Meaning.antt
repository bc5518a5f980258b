-- What the end of a scenario says, after every list of steps from an origin: where it says `settled yes`, every newest copy has replay's last
-- value, so each line shows that value twice; and where the events say so, it is said.
use mathlib.Core.Path.{◌≡◌, refl, sym, ap, subst, ◌∙◌}
use mathlib.Core.Logic.{inr, by_cases}
use mathlib.Core.Bool.{true}
use mathlib.Core.List.{List, []}
use Prim.Native.Nat.{ℕ, zero, suc, ◌^◌, ◌+◌, ◌-◌, ◌<◌}
use native.Mathlib.Decide.{ℕ_discrete}
use native.Mathlib.Omega.{arith}
use lib.ListN.{length}
use borrow.Author.Tests.{eq-eqb}
use Rattle.numbers.specs.Sizes.{nodes, every_node, objects}
use Rattle.mask.specs.Mask.{contains}
use Rattle.quorum.specs.Quorum.{is_quorum}
use Rattle.image.specs.Layout.{shape, value, version, state, serial, state_field}
use Rattle.image.specs.Valid.{held}
use Rattle.image.proofs.Each.{lt_or_le}
use Rattle.image.proofs.Lens.{of_out}
use Rattle.steps.specs.Station.{Station, system, Quiescent}
use Rattle.steps.specs.Step.{Call}
use Rattle.steps.specs.Run.{trace}
use Rattle.buffers.specs.Buffers.{Buffers, image_at, station_of}
use Rattle.steps.proofs.Nodes.{node_on}
use Rattle.protocol.specs.State.{committed, OwnerState, Contents, State}
use Rattle.protocol.specs.Claims.{AllApplied}
use Rattle.protocol.proofs.Refine.Growth.{late_not_held}
use Rattle.protocol.specs.Proof.Tables.{clash}
use Rattle.protocol.proofs.Tables.{on}
use Rattle.history.specs.Ledger.{Ledger, last_value}
use Rattle.history.specs.Origin.{Origin, ledger_of, Rested, origin_of}
use Rattle.history.specs.Claims.{AllTyped, Settled, Newest, reached, told}
use Rattle.history.proofs.Sim.{tx, state_of}
use Rattle.history.proofs.Books.{Past, World, phases, asked_contents}
use Rattle.history.proofs.InTurn.{InTurn}
use Rattle.history.proofs.Claimed.{applied_newest, always_good}
use Rattle.history.proofs.Numbered.{always_in_turn}
use Rattle.history.proofs.Running.{Starts, sheet_is_replay}
use Rattle.history.specs.Running.{sheet}
use Rattle.replay.specs.Sheet.{value_of}
use Rattle.holding.specs.Held.{Holds}
use Rattle.holding.proofs.Demand.{anew}
use Rattle.closing.specs.Copies.{newest_of, newest}
use Rattle.closing.specs.State.{at_rest, settled}
use Rattle.closing.specs.Meaning.{Holding, Released}
use Rattle.closing.proofs.Answers.{image_in_lem, rest_says, settled_says, settled_said}
use Rattle.closing.proofs.Newest.{none_newer, some_has}

-- what is held is in state 2
held_two : (k : ℕ) → state_of k ≡ OwnerState.held → k ≡ held
held_two zero e = absurd (clash (cc))
held_two (suc zero) e = absurd (clash (cc))
held_two (suc (suc zero)) e = refl
held_two (suc (suc (suc k))) e = absurd (clash (cc))

module _ (st : Station) (L : Ledger) (F : Past) (w : World st L F) (t : InTurn st) where
  abbrev σ : State ℕ
  σ = w.state

  -- ---- whoever holds a committed transaction is a participant whose owner finishes it
  module _ (free : Released st) where
    not_held : (o n s : ℕ) → σ.history.phase (tx o s) ≡ committed → (σ.history.contents (tx o s)).participants n ≡ true
        → Holding (st.images n) o s → ⊥
    not_held o n s p q z =
        let a = t.not_over n o (λ e. let k = z.is_held in clash (cc)) in
        let c = st.records o in
        let m = w.valid.records o in
        let same : c.serial ≡ s = a.present ∙ z.of_serial in
        let now : σ.history.phase (tx o c.serial) ≡ committed = ap (λ (k : ℕ). σ.history.phase (tx o k)) same ∙ p in
        let small : o < nodes = on (lt_or_le o nodes) (λ h. h)
        (λ h. let k = z.is_held in let j = of_out (state_field shape) (st.images n) o h in absurd (clash (cc))) in
        let party : contains c.participants n ≡ true =
        sym (ap (λ (k : Contents ℕ). k.participants n) (asked_contents st σ w.log w.sim o m a.begun (inr now)))
        ∙ ap (λ (k : ℕ). (σ.history.contents (tx o k)).participants n) same ∙ q in
        phases st σ w.log w.sim o m a.begun
        (λ e. let f = (w.sim.owners o).while_open e in clash (cc))
        (λ e. let f = (w.sim.owners o).while_voting e in clash (cc))
        (λ e. free o n small (node_on c.participants n m.party.participants_known party) e (decided e now) party
        (record { is_held = z.is_held; of_serial = z.of_serial ∙ sym same }))
      where
        decided : (st.records o).phase ≡ 3 → σ.history.phase (tx o (st.records o).serial) ≡ committed → (st.records o).outcome ≡ 1
        decided e now = by_cases (ℕ_discrete (st.records o).outcome 1) (λ f. f)
            (λ f. let v = (w.valid.records o).votes in
            let two : (st.records o).outcome ≡ 2 = v.else_aborted e (λ g. f (v.agreed_commits e g)) in
            let g = (w.sim.owners o).when_aborted e two in
            absurd (clash (cc)))

    pub released_applied : AllApplied σ.votes σ.history
    released_applied x n p q =
        let v = w.sim.kept.inv.votes in
        on (v.v_then n x (v.v_all n x p q))
        (λ h. absurd (not_held x.owner n x.serial p q (record {
          is_held = held_two (state (st.images n) x.owner) (sym (w.sim.reads.r_state n x.owner) ∙ h.1);
          of_serial = sym (w.sim.reads.r_last n x.owner) ∙ h.0;
        })))
        (λ s. on s (λ a. absurd (clash (cc))) (λ a. a))

  -- ---- what the events tell to be done is held no more
  pub settled_released : Settled L → Released st
  settled_released told o n small h e f party z =
      let c = st.records o in
      let x = tx o c.serial in
      let d = w.books.decided in
      let p = (w.sim.owners o).when_committed e f in
      let k = asked_contents st σ w.log w.sim o (w.valid.records o) (λ i. clash (cc)) (inr p) in
      let q : contains (L.participants x) n ≡ true = d.its_party_lem x p n ∙ ap (λ (y : Contents ℕ). y.participants n) k ∙ party in
      late_not_held σ.ends n x (w.books.dones x n (told x (d.is_told x p) n q))
      (w.sim.reads.r_last n o ∙ z.of_serial, w.sim.reads.r_state n o ∙ ap state_of z.is_held)

  -- ---- a copy of version 0 has the value 0
  pub blank_value : (n a : ℕ) → version (st.images n) a ≡ 0 → value (st.images n) a ≡ 0
  blank_value n a e =
      let i = w.sim.kept.inv.chain in
      sym (w.sim.reads.r_value n a) ∙ (i.c_copy n a).1 ∙ ap (σ.chain.entry a) (w.sim.reads.r_version n a ∙ e) ∙ i.c_blank a

-- at rest nothing is being finished
pub rest_released : (st : Station) → Quiescent st → Released st
rest_released st rest o n small h e f party z = let k = rest o small in clash (cc)

-- THE THEOREM: where no participant holds what was committed, in every read quorum, whichever nodes are on, every newest copy has replay's last value
pub settled_newest : (o : Origin) → Rested o → (cs : List Call) → AllTyped cs → Released (reached o cs) → (q : ℕ) → (system (reached o cs)).is_read q ≡ true
    → (n t : ℕ) → Newest (reached o cs) q n t → value ((reached o cs).images n) t ≡ last_value (told o cs) t
settled_newest o x cs a free q r n t new =
    let g = always_good o x cs a in
    applied_newest _ _ _ g (released_applied (reached o cs) _ _ g.world (always_in_turn o x cs a) free) q r n t new

-- ---- the same of the buffers that hold what the steps left
module _ (o : Origin) (cs : List Call) (b : Buffers) (h : Holds o cs b) where
  its_image : (n : ℕ) → n < nodes → (reached o cs).images n ≡ image_at b.images n
  its_image n s = ap (λ (st : Station). st.images n) (sym h.station) ∙ image_in_lem b.images n s

  its_version : (n t : ℕ) → n < nodes → version ((reached o cs).images n) t ≡ version (image_at b.images n) t
  its_version n t s = ap (λ (l : List ℕ). version l t) (its_image n s)

  -- the station of the buffers works by the tree, and all nodes together are a read quorum of it
  everyone : (system (reached o cs)).is_read every_node ≡ true
  unfolding is_quorum
  everyone = subst (λ (st : Station). (system st).is_read every_node ≡ true) h.station refl

  -- a node with the newest copy has replay's last value
  at_node : Released (reached o cs) → (n t : ℕ) → n < nodes → (newest_of b.images t nodes).version ≡ version (image_at b.images n) t
      → value ((reached o cs).images n) t ≡ last_value (told o cs) t
  at_node free n t s e = settled_newest o h.rested cs h.typed free every_node everyone n t (λ m i j.
      let k = none_newer b.images t nodes m i in
      let p = its_version m t i in
      let q = its_version n t s in
      omega arith)

  its_value : Released (reached o cs) → (t : ℕ) → (newest_of b.images t nodes).value ≡ last_value (told o cs) t
  its_value free t = on (some_has b.images t nodes)
      (λ z.
      let e : version (image_at b.images 0) t ≡ 0 = let k = none_newer b.images t nodes 0 (omega arith) in let p = z.0 in omega arith in
      let g = always_good o h.rested cs h.typed in
      z.1 ∙ sym (blank_value (reached o cs) _ _ g.world (always_in_turn o h.rested cs h.typed) 0 t (its_version 0 t (omega arith) ∙ e))
      ∙ at_node free 0 t (omega arith) (z.0 ∙ sym e))
      (λ z. sym z.its_value ∙ sym (ap (λ (l : List ℕ). value l t) (its_image z.node z.below))
      ∙ at_node free z.node t z.below (sym z.its_version))

  -- THE THEOREM: where it says `settled yes`, the value printed for an object is replay's last value; at rest it says so
  pub settled_shows : settled b.images b.records ≡ true → (t : ℕ) → (newest b.images t).value ≡ last_value (told o cs) t
  unfolding newest
  settled_shows e t = simp (eq-eqb _ _ h.whole.images_long) (its_value (subst Released h.station (settled_says b e)) t)

  pub rest_settled : at_rest b.records ≡ true → settled b.images b.records ≡ true
  rest_settled e = settled_said b h.whole.images_long h.whole.records_long (rest_released (station_of b) (rest_says b e))

  -- where the events say that it is settled, it is said
  pub told_settled : Settled (told o cs) → settled b.images b.records ≡ true
  told_settled s = settled_said b h.whole.images_long h.whole.records_long
      (subst Released (sym h.station)
      (settled_released (reached o cs) _ _ (always_good o h.rested cs h.typed).world (always_in_turn o h.rested cs h.typed) s))

  -- at rest the buffers hold an origin of their own: what follows may be counted from there
  pub rest_origin : at_rest b.records ≡ true → Holds (origin_of (reached o cs) (told o cs)) [] b
  rest_origin e = anew o cs b h (rest_says b e)

  -- the value printed as replay's is replay's, and it is the other one where it says `settled yes`
  module _ (k : ℕ) (l : List ℕ) (starts : Starts o k l) (few : length cs + k < 2 ^ 64 - 1) (t : ℕ) (known : t < objects) where
    abbrev printed : ℕ
    printed = value_of (sheet (ledger_of o) l (trace o.station cs)) t

    pub replay_shows : printed ≡ last_value (told o cs) t
    replay_shows = sheet_is_replay o h.rested k l starts cs h.typed few t known

    pub both_same : settled b.images b.records ≡ true → (newest b.images t).value ≡ printed
    both_same e = settled_shows e t ∙ sym replay_shows
