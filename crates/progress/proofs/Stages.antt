-- How the transaction (o, s) with participants p gets through, from the request for votes on: the votes are out, and every participant lets it through or
-- holds it (Waiting); it is committed and its dones are awaited (Finishing); or it has ended. Whoever's vote or done was delivered is counted, and every
-- vote of it that waits is a yes. One step that spares it keeps this.
use mathlib.Core.Path.{◌≡◌, refl, sym, ◌∙◌, ap, ap₂, subst}
use mathlib.Core.Logic.{◌≢◌, ◌⊎◌, inl, inr}
use mathlib.Core.Bool.{Bool, true, false, cond, ◌&&◌, ◌||◌}
use mathlib.Core.List.{List, ◌∷◌, ◌++◌}
use Prim.Native.Nat.{ℕ, zero, suc, ◌%◌, ◌<◌, ◌≤◌}
use native.Mathlib.Omega.{arith}
use lib.Dec.{T, eqb}
use borrow.Author.Tests.{eqb-true, eq-eqb, ne_eqb}
use Rattle.numbers.specs.Refusal.{first_of}
use Rattle.mask.specs.Mask.{contains, only, joined, within}
use Rattle.mask.proofs.Laws.{contains_joined}
use Rattle.image.proofs.Marks.{contains_only}
use Rattle.wire.specs.Message.{vote, done}
use Rattle.wire.specs.Items.{word_of}
use Rattle.wire.specs.Decode.{kind_of, from_of, to_of, owner_of, serial_of, stamp_of, decode, check_of}
use Rattle.image.specs.Layout.{serial}
use Rattle.replica.specs.Steps.{Answer, silent, says}
use Rattle.replica.proofs.Taken.{Taken}
use Rattle.coordinator.specs.declared.Coordinator.{Coordinator}
use Rattle.coordinator.specs.State.{idle_phase, voting_phase, finishing_phase, committed, awaited, idle_after}
use Rattle.arrivals.specs.Receive.{for_replica, receive_refusals, receive_of}
use Rattle.clauses.proofs.Parts.{true-T, false-T, by_test}
use Rattle.clauses.proofs.Facts.{Meets}
use Rattle.clauses.proofs.Sets.{node_known}
use Rattle.clauses_arrive.proofs.Messages.{answer_owner}
use Rattle.clauses_arrive.proofs.Laws.{receive_serial}
use Rattle.clauses_arrive.proofs.Deliveries.{said_yes, named}
use Rattle.steps.specs.Station.{Station, system, put_at}
use Rattle.steps.specs.Step.{Call, abort, step}
use Rattle.protocol.specs.Table.{In}
use Rattle.protocol.specs.State.{Tx, voting, Contents}
use Rattle.protocol.specs.Proof.Tables.{clash}
use Rattle.protocol.proofs.Tables.{on}
use Rattle.history.specs.Ledger.{Ledger, tx_of}
use Rattle.history.proofs.Tests.{no_both, and-true}
use Rattle.history.proofs.Sim.{tx, contents_of, Match, waits_well, waits_tells}
use Rattle.history.proofs.Books.{Past, World}
use Rattle.history.proofs.Carry.{put_all}
use Rattle.history.proofs.Words.{header, tx_decoded, kind_of_lem, word_of_lem, tx_of_lem}
use Rattle.history.proofs.Stamped.{Stamped}
use Rattle.history.proofs.Moves.{Behind, Bound, Replies, served_step}
use Rattle.history.proofs.InTurn.{Awaited, heard_of, InTurn}
use Rattle.history.proofs.Going.{nodes_named, in_within}
use Rattle.history.proofs.Numbered.{coordinator_clear}
use Rattle.progress.specs.Deliveries.{handed_by, member_of, is_of, is_with, count}
use Rattle.progress.specs.Oldest.{Near, Voting}
use Rattle.progress.proofs.Stored.{Stored}
use Rattle.progress.proofs.Members.{Member, member_on, NotNo, bound_not_no, member_next}
use Rattle.progress.proofs.Heard.{yield_other, voting_same, finishing_same, idle_same, yes_counted, done_counted}
use Rattle.progress.proofs.Steps.{Called, Said, served, by_step}

-- ---- counting
-- what one message more counts
one_more : (q : List ℕ → Bool) (b : List ℕ) (l : List (List ℕ)) → 1 ≤ count q (b ∷ l) → (q b ≡ true) ⊎ (1 ≤ count q l)
unfolding count
one_more q b l = by (q b) refl
  where
    by : (x : Bool) → q b ≡ x → 1 ≤ cond x (suc (count q l)) (count q l) → (q b ≡ true) ⊎ (1 ≤ count q l)
    by true e h = inl e
    by false e h = inr h

-- ---- a message of a kind, with a node
pub record With (x : Tx) (kind n : ℕ) (b : List ℕ) : Type 0 where
  pub its_tx : tx_of b ≡ x
  pub its_kind : kind_of b ≡ kind
  pub its_member : member_of b ≡ n

with_of_lem : (x : Tx) (kind n : ℕ) (b : List ℕ) → is_with x kind n b ≡ true → With x kind n b
with_of_lem x kind n b e =
    let a = and-true (is_of x b) (eqb (kind_of b) kind && eqb (member_of b) n) e in
    let o = and-true (eqb (owner_of b) x.owner) (eqb (serial_of b) x.serial) a.0 in
    let k = and-true (eqb (kind_of b) kind) (eqb (member_of b) n) a.1 in
    record {
      its_tx = ap₂ (λ (i j : ℕ). record { owner = i; serial = j }) (eqb-true (owner_of b) x.owner o.0) (eqb-true (serial_of b) x.serial o.1);
      its_kind = eqb-true (kind_of b) kind k.0;
      its_member = eqb-true (member_of b) n k.1;
    }

-- an answer is with the node that it comes from
from_member : (b : List ℕ) (n : ℕ) → for_replica (kind_of b) ≡ false → member_of b ≡ n → from_of b ≡ n
from_member b n e m = sym (ap (λ (x : Bool). cond x (to_of b) (from_of b)) e) ∙ m

-- ---- sets
joined_left : (a i n : ℕ) → contains a n ≡ true → contains (joined a (only i)) n ≡ true
joined_left a i n e = contains_joined a (only i) n ∙ ap (λ (x : Bool). x || contains (only i) n) e

joined_right : (a i n : ℕ) → i < 16 → i ≡ n → contains (joined a (only i)) n ≡ true
joined_right a i n small e = contains_joined a (only i) n ∙ last (contains a n) (contains_only i n small ∙ eq-eqb i n e)
  where
    last : (x : Bool) {y : Bool} → y ≡ true → (x || y) ≡ true
    last true q = refl
    last false q = q

module _ (o s p : ℕ) where
  abbrev x : Tx
  x = record { owner = o; serial = s }

  -- ---- the stages: of the owner's record, the images and the messages that were delivered since
  pub record Waiting (c : Coordinator) (images : ℕ → List ℕ) (d : List (List ℕ)) : Type 0 where
    pub present : c.serial ≡ s
    pub phase : c.phase ≡ voting_phase
    pub party : c.participants ≡ p
    pub members : (n : ℕ) → contains p n ≡ true → Member c o (images n)
    pub voted : (n : ℕ) → contains p n ≡ true → 1 ≤ count (is_with x vote n) d → contains c.yes n ≡ true
    pub no_done : (n : ℕ) → contains p n ≡ true → 1 ≤ count (is_with x done n) d → ⊥

  pub record Finishing (c : Coordinator) (d : List (List ℕ)) : Type 0 where
    pub present : c.serial ≡ s
    pub phase : c.phase ≡ finishing_phase
    pub commits : c.outcome ≡ committed
    pub party : c.participants ≡ p
    pub said_done_lem : (n : ℕ) → contains p n ≡ true → 1 ≤ count (is_with x done n) d → contains c.done n ≡ true

  abbrev pub Over : Coordinator → Type 0
  Over c = (s < c.serial) ⊎ ((c.serial ≡ s) × (c.phase ≡ idle_phase))

  -- K: what is known once it has ended
  abbrev pub Stage : Type 0 → Coordinator → (ℕ → List ℕ) → List (List ℕ) → Type 0
  Stage K c images d = Waiting c images d ⊎ (Finishing c d ⊎ (Over c × K))

  abbrev pub YesVotes : List (List ℕ) → Type 0
  YesVotes pool = (b : List ℕ) → In b pool → tx_of b ≡ x → kind_of b ≡ vote → word_of b ≡ 1

  -- ---- a message more that is no vote and no done of the transaction from a participant
  abbrev Uncounted : List ℕ → Type 0
  Uncounted b = (kind n : ℕ) → (kind ≡ vote) ⊎ (kind ≡ done) → contains p n ≡ true → With x kind n b → ⊥

  uncounted : (b : List ℕ) (d : List (List ℕ)) → Uncounted b → (kind n : ℕ) → (kind ≡ vote) ⊎ (kind ≡ done) → contains p n ≡ true
      → 1 ≤ count (is_with x kind n) (b ∷ d) → 1 ≤ count (is_with x kind n) d
  uncounted b d u kind n k e h = on (one_more (is_with x kind n) b d h) (λ q. absurd (u kind n k e (with_of_lem x kind n b q))) (λ q. q)

  waiting_more : (c : Coordinator) (images : ℕ → List ℕ) (b : List ℕ) (d : List (List ℕ)) → Uncounted b → Waiting c images d → Waiting c images (b ∷ d)
  waiting_more c images b d u z = record {
    present = z.present;
    phase = z.phase;
    party = z.party;
    members = z.members;
    voted = λ n e h. z.voted n e (uncounted b d u vote n (inl refl) e h);
    no_done = λ n e h. z.no_done n e (uncounted b d u done n (inr refl) e h);
  }

  finishing_more : (c : Coordinator) (b : List ℕ) (d : List (List ℕ)) → Uncounted b → Finishing c d → Finishing c (b ∷ d)
  finishing_more c b d u z = record {
    present = z.present;
    phase = z.phase;
    commits = z.commits;
    party = z.party;
    said_done_lem = λ n e h. z.said_done_lem n e (uncounted b d u done n (inr refl) e h);
  }

  stage_more : {K : Type 0} (c : Coordinator) (images : ℕ → List ℕ) (b : List ℕ) (d : List (List ℕ)) → Uncounted b → Stage K c images d
      → Stage K c images (b ∷ d)
  stage_more c images b d u (inl z) = inl (waiting_more c images b d u z)
  stage_more c images b d u (inr (inl z)) = inr (inl (finishing_more c b d u z))
  stage_more c images b d u (inr (inr z)) = inr (inr z)

  -- ---- a host call at its own node
  stage_called : {K G : Type 0} (c c' : Coordinator) (images : ℕ → List ℕ) (d : List (List ℕ)) → Called c c' G
      → (G → (c.serial ≡ s) × (c.phase ≡ voting_phase) → ⊥) → Stage K c images d → Stage K c' images d
  stage_called {K} c c' images d k g (inl z) = on (k.while_voting z.phase) (λ e. subst (λ (a : Coordinator). Stage K a images d) (sym e) (inl z))
      (λ q. absurd (g q (z.present, z.phase)))
  stage_called {K} c c' images d k g (inr (inl z)) =
      subst (λ (a : Coordinator). Stage K a images d) (sym (k.while_finishing z.phase)) (inr (inl z))
  stage_called c c' images d k g (inr (inr (inl h, t))) = inr (inr (inl (let r = k.rises in omega (arith, r, h)), t))
  stage_called {K} c c' images d k g (inr (inr (inr e, t))) = on (k.while_idle e.1)
      (λ q. subst (λ (a : Coordinator). Stage K a images d) (sym q) (inr (inr (inr e, t)))) (λ h. inr (inr (inl (let r = e.0 in omega (arith, r, h)), t)))

  -- ---- one step
  module _ (st : Station) (L : Ledger) (F : Past) (w : World st L F) (m : Stamped st) (t : InTurn st) (y : Stored st) where
    abbrev c : Coordinator
    c = st.records o

    meets : Meets (system st) c
    meets = w.valid.records o

    -- ---- what each stage says of the nodes
    awaits_party : c.participants ≡ p → (c.participants ≡ 0 → ⊥) → awaited c ≡ p
    awaits_party e q = ap (λ (b : Bool). cond b c.contacted c.participants) (ne_eqb c.participants 0 q) ∙ e

    -- while the votes are out the transaction is late nowhere
    not_late : (n : ℕ) → c.phase ≡ voting_phase → Behind (st.images n) o c.serial → ⊥
    not_late n e (inl h) = let b = t.below n o in let z : ⊥ = omega (arith, h, b) in z
    not_late n e (inr z) = y.undecided n o (inr e) (begun c.serial refl) z.0 z.1
      where
        begun : (i : ℕ) → c.serial ≡ i → 1 ≤ serial (st.images n) o
        begun zero q = absurd (let u = (meets.numbers.unused q).1.0 in let v : ⊥ = omega (arith, e, u) in v)
        begun (suc i) q = let r = z.0 in omega (arith, q, r)

    party_there : {images : ℕ → List ℕ} {d : List (List ℕ)} → Waiting c images d → awaited c ≡ p
    party_there z = awaits_party z.party (meets.party.asked_for z.phase)

    -- once it is committed every participant holds it, or is late
    agreed : {d : List (List ℕ)} → Finishing c d → (c.participants ≡ 0 → ⊥) × T (within c.participants c.yes)
    agreed z = (
      λ e. aborts (λ g. g.0 e),
      by_test (T (within c.participants c.yes)) (within c.participants c.yes) (true-T _) (λ e. absurd (aborts (λ g. false-T _ e g.1))),
    )
      where
        aborts : ((c.participants ≡ 0 → ⊥) × T (within c.participants c.yes) → ⊥) → ⊥
        aborts g = let a = meets.votes.else_aborted z.phase g in let b = z.commits in omega (arith, a, b)

    pub finishing_party : {d : List (List ℕ)} → Finishing c d → awaited c ≡ p
    finishing_party z = awaits_party z.party (agreed z).0

    all_bound : {d : List (List ℕ)} → Finishing c d → (n : ℕ) → contains p n ≡ true → Bound (st.images n) o c.serial
    all_bound z n e = t.said_yes_lem n o (in_within c.participants c.yes n (agreed z).1 (subst (λ (q : ℕ). contains q n ≡ true) (sym z.party) e))

    -- ---- a message that waits
    module _ (b : List ℕ) (in_pool : In b st.pool) where
      well : check_of b ≡ 0
      well = waits_well w.state b (w.sim.waits b in_pool)

      -- an answer goes to its owner
      to_owner : (k : ℕ) → eqb (k % 2) 1 ≡ false → kind_of b ≡ k → owner_of b ≡ to_of b
      to_owner k even e = answer_owner (to_of b) b (record { checked = well; to_me = refl; a_node = (nodes_named b well).0 }) k even e

      counted_to : (kind n : ℕ) → (kind ≡ vote) ⊎ (kind ≡ done) → With x kind n b → to_of b ≡ o
      counted_to kind n (inl k) z = sym (to_owner vote refl (z.its_kind ∙ k)) ∙ ap (λ (a : Tx). a.owner) z.its_tx
      counted_to kind n (inr k) z = sym (to_owner done refl (z.its_kind ∙ k)) ∙ ap (λ (a : Tx). a.owner) z.its_tx

      replica_uncounted : for_replica (kind_of b) ≡ true → Uncounted b
      replica_uncounted e kind n (inl k) q z = no_both e (ap for_replica (z.its_kind ∙ k))
      replica_uncounted e kind n (inr k) q z = no_both e (ap for_replica (z.its_kind ∙ k))

      -- ---- of the transaction
      module _ (mine : tx_of b ≡ x) where
        its_owner : owner_of b ≡ o
        its_owner = ap (λ (a : Tx). a.owner) mine

        its_serial : serial_of b ≡ s
        its_serial = ap (λ (a : Tx). a.serial) mine

        its_stamp : c.serial ≡ s → stamp_of b ≡ c.timestamp
        its_stamp e = m.stamp_as b in_pool (its_serial ∙ sym e ∙ ap (λ (i : ℕ). (st.records i).serial) (sym its_owner))
            ∙ ap (λ (i : ℕ). (st.records i).timestamp) its_owner

        decoded_owner : (decode b).owner ≡ o
        decoded_owner = (header b).3 ∙ its_owner

        decoded_serial : (decode b).serial ≡ s
        decoded_serial = (header b).4 ∙ its_serial

        -- an ask has the objects of the record that votes
        ask_match : c.serial ≡ s → c.phase ≡ voting_phase → (decode b).kind ≡ 3 → Match (contents_of c) (decode b).entries
        ask_match e q k =
            let h = w.state.history in
            let now : h.phase x ≡ voting = ap (λ (i : ℕ). h.phase (tx o i)) (sym e) ∙ (w.sim.owners o).while_voting q in
            let tells = waits_tells w.state b x mine (λ z. let u = sym now ∙ z in clash (cc)) (λ z. let u = sym now ∙ z in clash (cc))
            (w.sim.waits b in_pool) in
            subst (λ (a : Contents ℕ). Match a (decode b).entries)
            (ap h.contents (mine ∙ ap (tx o) (sym e)) ∙ (w.sim.owners o).asked (meets.party.asked_for q)) (tells.an_ask (sym (header b).0 ∙ k)).1

        -- ---- at a replica
        module _ (order : for_replica (kind_of b) ≡ true) (taken : Taken (st.images (to_of b)) (decode b)) where
          abbrev n : ℕ
          n = to_of b

          abbrev l : List ℕ
          l = st.images n

          member_at : {d : List (List ℕ)} → Waiting c st.images d → contains p n ≡ true → Member c o (served st b).image × NotNo (served st b).answer
          member_at z e =
              let r = member_next l (decode b) taken n (w.valid.images n).1 c (decoded_serial ∙ sym z.present)
              ((header b).5 ∙ its_stamp z.present)
              (λ q. y.stamp_as n (decode b).owner q ∙ ap (λ (i : ℕ). (st.records i).timestamp) decoded_owner)
              (ask_match z.present z.phase)
              (subst (λ (i : ℕ). Member c i l) (sym decoded_owner) (z.members n e)) in
              (subst (λ (i : ℕ). Member c i (served st b).image) decoded_owner r.0, r.1)

          not_no_bound : Bound l o s → NotNo (served st b).answer
          not_no_bound u = bound_not_no l (decode b) taken n (w.valid.images n).1
              (subst (λ (i : ℕ). Bound l i (decode b).serial) (sym decoded_owner) (subst (Bound l o) (sym decoded_serial) u))

          -- where the node is awaited
          awaited_not_no : {K : Type 0} {d : List (List ℕ)} → Stage K c st.images d → Awaited c n (decode b).serial → NotNo (served st b).answer
          awaited_not_no (inl z) a = (member_at z (subst (λ (q : ℕ). contains q n ≡ true) (party_there z) a.named)).1
          awaited_not_no (inr (inl z)) a = not_no_bound
              (subst (Bound l o) z.present (all_bound z n (subst (λ (q : ℕ). contains q n ≡ true) (finishing_party z) a.named)))
          awaited_not_no (inr (inr (inl h, u))) a = absurd (let e = a.present ∙ decoded_serial in let v : ⊥ = omega (arith, h, e) in v)
          awaited_not_no (inr (inr (inr e, u))) a = absurd (a.begun e.1)

          not_no : {K : Type 0} {d : List (List ℕ)} → Stage K c st.images d → NotNo (served st b).answer
          not_no z = on (heard_of st.images st.records b (t.waits b in_pool) order)
              (λ q. bound_not_no l (decode b) taken n (w.valid.images n).1 (inl q))
              (λ a. awaited_not_no z (subst (λ (i : ℕ). Awaited (st.records i) n (decode b).serial) decoded_owner a))

        -- ---- at its own coordinator
        module _ (here : to_of b ≡ o) (order : for_replica (kind_of b) ≡ false) where
          clear : first_of (receive_refusals c o b) ≡ 0
          clear = subst (λ (i : ℕ). first_of (receive_refusals (st.records i) i b) ≡ 0) here
              (coordinator_clear st L F w t b in_pool order)

          abbrev after : Coordinator
          after = (receive_of (system st) c o b).coordinator

          small : contains p (from_of b) ≡ true → c.participants ≡ p → from_of b < 16
          small e q =
              let h = node_known c.participants (from_of b) meets.party.participants_known
              (true-T _ (subst (λ (i : ℕ). contains i (from_of b) ≡ true) (sym q) e)) in
              omega (arith, h)

          -- no done of it waits while the votes are out
          done_early : {d : List (List ℕ)} → Waiting c st.images d → kind_of b ≡ done → (i : ℕ) → from_of b ≡ i → ⊥
          done_early z k i e = not_late i z.phase
              (subst (Behind (st.images i) o) (sym z.present)
              (subst (λ (j : ℕ). Behind (st.images i) o j) its_serial (subst (λ (j : ℕ). Behind (st.images i) j (serial_of b)) its_owner
              (subst (λ (j : ℕ). Behind (st.images j) (owner_of b) (serial_of b)) e ((t.waits b in_pool).a_done_lem k)))))

          -- a vote of a participant, which is a yes
          yes_next : {K : Type 0} {d : List (List ℕ)} → word_of b ≡ 1 → kind_of b ≡ vote → contains p (from_of b) ≡ true → Waiting c st.images d
              → Stage K after st.images (b ∷ d)
          yes_next {K} {d} word k e z = on (yes_counted (system st) c o b clear (its_serial ∙ sym z.present) (its_stamp z.present) z.phase k
              (subst (λ (i : ℕ). contains i (from_of b) ≡ true) (sym z.party) e) word)
              (λ q. subst (λ (a : Coordinator). Stage K a st.images (b ∷ d)) (sym q) (inr (inl (record {
                present = z.present;
                phase = refl;
                commits = refl;
                party = z.party;
                said_done_lem = λ i u h. absurd (none i u h);
              }))))
              (λ q. subst (λ (a : Coordinator). Stage K a st.images (b ∷ d)) (sym q) (inl (record {
                present = z.present;
                phase = refl;
                party = z.party;
                members = λ i u. member_on c o (st.images i) voting_phase c.outcome c.participants (said_yes c b) c.done (named c b) (z.members i u);
                voted = λ i u h. on (one_more (is_with x vote i) b d h)
                    (λ v. joined_right c.yes (from_of b) i (small e z.party) (from_member b i order (with_of_lem x vote i b v).its_member))
                    (λ v. joined_left c.yes (from_of b) i (z.voted i u v));
                no_done = none;
              })))
            where
              none : (i : ℕ) → contains p i ≡ true → 1 ≤ count (is_with x done i) (b ∷ d) → ⊥
              none i u h = on (one_more (is_with x done i) b d h)
                  (λ v. let f = (with_of_lem x done i b v).its_kind in let r : ⊥ = omega (arith, f, k) in r) (λ v. z.no_done i u v)

          -- any other message
          waits_still : {K : Type 0} {d : List (List ℕ)} → (eqb (kind_of b) vote && contains p (from_of b)) ≡ false → Waiting c st.images d
              → Stage K after st.images (b ∷ d)
          waits_still {K} {d} e z = subst (λ (a : Coordinator). Stage K a st.images (b ∷ d)) (sym same) (inl (waiting_more c st.images b d u z))
            where
              both : kind_of b ≡ vote → contains p (from_of b) ≡ true → ⊥
              both k q = no_both (ap₂ (λ (g h : Bool). g && h) (eq-eqb (kind_of b) vote k) q) e

              u : Uncounted b
              u kind i (inl k) q v = both (v.its_kind ∙ k) (subst (λ (j : ℕ). contains p j ≡ true) (sym (from_member b i order v.its_member)) q)
              u kind i (inr k) q v = done_early z (v.its_kind ∙ k) i (from_member b i order v.its_member)

              same : after ≡ c
              same = voting_same (system st) c o b z.phase (λ k q. both k (subst (λ (i : ℕ). contains i (from_of b) ≡ true) z.party q))
                  (λ k. yield_other b well k (here ∙ sym its_owner))

          -- a done of a participant
          done_next : {K : Type 0} {d : List (List ℕ)} → K → kind_of b ≡ done → contains p (from_of b) ≡ true → Finishing c d
              → Stage K after st.images (b ∷ d)
          unfolding idle_after
          done_next {K} {d} told k e z = on (done_counted (system st) c o b clear (its_serial ∙ sym z.present) (its_stamp z.present) z.phase k
              (subst (λ (i : ℕ). contains i (from_of b) ≡ true) (sym (finishing_party z)) e))
              (λ q. subst (λ (a : Coordinator). Stage K a st.images (b ∷ d)) (sym q) (inr (inr (inr (z.present, refl), told))))
              (λ q. subst (λ (a : Coordinator). Stage K a st.images (b ∷ d)) (sym q) (inr (inl (record {
                present = z.present;
                phase = z.phase;
                commits = z.commits;
                party = z.party;
                said_done_lem = λ i u h. on (one_more (is_with x done i) b d h)
                    (λ v. joined_right c.done (from_of b) i (small e z.party) (from_member b i order (with_of_lem x done i b v).its_member))
                    (λ v. joined_left c.done (from_of b) i (z.said_done_lem i u v));
              }))))

          finishes_still : {K : Type 0} {d : List (List ℕ)} → (eqb (kind_of b) done && contains p (from_of b)) ≡ false → Finishing c d
              → Stage K after st.images (b ∷ d)
          finishes_still {K} {d} e z = subst (λ (a : Coordinator). Stage K a st.images (b ∷ d)) (sym same) (inr (inl (record {
            present = z.present;
            phase = z.phase;
            commits = z.commits;
            party = z.party;
            said_done_lem = λ i u h. on (one_more (is_with x done i) b d h)
                (λ v. let f = with_of_lem x done i b v in
                absurd (both f.its_kind (subst (λ (j : ℕ). contains p j ≡ true) (sym (from_member b i order f.its_member)) u)))
                (λ v. z.said_done_lem i u v);
          })))
            where
              both : kind_of b ≡ done → contains p (from_of b) ≡ true → ⊥
              both k q = no_both (ap₂ (λ (g h : Bool). g && h) (eq-eqb (kind_of b) done k) q) e

              same : after ≡ c
              same = finishing_same (system st) c o b z.phase (λ k q. both k (subst (λ (i : ℕ). contains i (from_of b) ≡ true) (finishing_party z) q))

          stage_heard : {K : Type 0} {d : List (List ℕ)} → (kind_of b ≡ vote → word_of b ≡ 1) → (Finishing c d → K) → Stage K c st.images d
              → Stage K after st.images (b ∷ d)
          stage_heard {K} {d} word told (inl z) = by_test (Stage K after st.images (b ∷ d)) (eqb (kind_of b) vote && contains p (from_of b))
              (λ q. let v = and-true (eqb (kind_of b) vote) (contains p (from_of b)) q in
              let k = eqb-true (kind_of b) vote v.0 in yes_next (word k) k v.1 z)
              (λ q. waits_still q z)
          stage_heard {K} {d} word told (inr (inl z)) = by_test (Stage K after st.images (b ∷ d)) (eqb (kind_of b) done && contains p (from_of b))
              (λ q. let v = and-true (eqb (kind_of b) done) (contains p (from_of b)) q in done_next (told z) (eqb-true (kind_of b) done v.0) v.1 z)
              (λ q. finishes_still q z)
          stage_heard word told (inr (inr (inl h, u))) =
              inr (inr (inl (subst (λ (i : ℕ). s < i) (sym (receive_serial (system st) c o b)) h), u))
          stage_heard {K} {d} word told (inr (inr (inr e, u))) =
              subst (λ (a : Coordinator). Stage K a st.images (b ∷ d)) (sym (idle_same (system st) c o b e.1)) (inr (inr (inr e, u)))

    -- ---- the votes among the answers
    said_yes_lem : (b : List ℕ) (l : List ℕ) (taken : Taken l (decode b)) (k : List ℕ) (n : ℕ) (a : Answer) → Replies l (decode b) taken k n a
        → (tx_of b ≡ x → NotNo a) → (v : List ℕ) → Said a v → tx_of v ≡ x → kind_of v ≡ vote → word_of v ≡ 1
    said_yes_lem b l taken k n silent r f v q e i = absurd q
    said_yes_lem b l taken k n (says a) r f v q e i =
        let mine : tx_of b ≡ x = tx_decoded b ∙ ap₂ (λ (g h : ℕ). tx g h) (sym r.owner) (sym r.serial) ∙ sym (tx_of_lem a r.fits) ∙ ap tx_of (sym q) ∙ e in
        ap word_of q ∙ word_of_lem a r.fits ∙ f mine (sym (kind_of_lem a r.fits) ∙ ap kind_of (sym q) ∙ i)

    -- ---- one step that spares it
    -- every participant and its own node is on after it, and what it hands to these is of the transaction
    abbrev pub Next : Type 0 → List (List ℕ) → Station → List (List ℕ) → Type 0
    Next K d next h = ((n : ℕ) → Near x p n → contains next.own.on n ≡ true) → ((b : List ℕ) → In b h → Near x p (to_of b) → tx_of b ≡ x)
        → Stage K (next.records o) next.images (h ++ d) × YesVotes next.pool

    module _ {K : Type 0} {d : List (List ℕ)} (told : Finishing c d → K) (stage : Stage K c st.images d) (yes : YesVotes st.pool) where
      -- an image changed at one node
      replica_stage : (b : List ℕ) (in_pool : In b st.pool) → for_replica (kind_of b) ≡ true → (taken : Taken (st.images (to_of b)) (decode b))
          → (Near x p (to_of b) → tx_of b ≡ x) → Stage K c st.images (b ∷ d)
          → Stage K c (put_at st.images (to_of b) (served st b).image) (b ∷ d)
      replica_stage b in_pool order taken mine (inl z) = inl (record {
        present = z.present;
        phase = z.phase;
        party = z.party;
        members = put_all (λ (i : ℕ) (l : List ℕ). contains p i ≡ true → Member c o l) st.images (to_of b) (served st b).image
            (λ e. (member_at b in_pool (mine (inl e)) order taken z e).0) (λ i q e. z.members i e);
        voted = z.voted;
        no_done = z.no_done;
      })
      replica_stage b in_pool order taken mine (inr z) = inr z

      -- a record changed at one node
      record_stage : (n : ℕ) (c' : Coordinator) (h : List (List ℕ)) → (n ≡ o → Stage K c' st.images h) → (n ≢ o → Stage K c st.images h)
          → Stage K (put_at st.records n c' o) st.images h
      record_stage n c' h f g = put_all (λ (i : ℕ) (a : Coordinator). i ≡ o → Stage K a st.images h) st.records n c' f
          (λ i q e. subst (λ (j : ℕ). Stage K (st.records j) st.images h) (sym e) (g (λ u. q (e ∙ sym u)))) o refl

      pub stage_next : (call : Call) → (call ≡ abort o → Voting st x → ⊥)
          → Next K d (step st call).station (handed_by st call)
      stage_next call not_given_up = by_step st w.valid.messages (Next K d) call (record {
        same = λ up own. (stage, yes);
        rests = λ pool own' new up own. (stage, λ b i e k. on (new b i) (λ j. yes b j e k) (λ q. absurd (q k)));
        calls = λ n c' k up own. (
          record_stage n c' d (λ e. stage_called c c' st.images d (subst (λ (i : ℕ). Called (st.records i) c' (call ≡ abort i)) e k) not_given_up stage)
              (λ e. stage),
          yes,
        );
        at_replica_lem = λ b i order taken pool new up own. (
          replica_stage b i order taken (own b (inl refl)) (stage_more c st.images b d (replica_uncounted b i order) stage),
          λ v j e k. on (new v j) (λ q. yes v q e k)
              (λ q. said_yes_lem b (st.images (to_of b)) taken (served st b).image (to_of b) (served st b).answer
              (served_step (st.images (to_of b)) (decode b) taken (to_of b) (w.valid.images (to_of b)).1).1
              (λ mine. not_no b i mine order taken stage) v q e k),
        );
        at_coordinator_lem = λ b i order pool sub up own. (
          record_stage (to_of b) _ (b ∷ d)
              (λ here. subst (λ (n : ℕ). Stage K (receive_of (system st) (st.records n) n b).coordinator st.images (b ∷ d)) (sym here)
              (stage_heard b i (own b (inl refl) (inr here)) here order (yes b i (own b (inl refl) (inr here))) told stage))
              (λ else. stage_more c st.images b d (λ kind n k e z. else (counted_to b i kind n k z)) stage),
          λ v j. yes v (sub v j),
        );
        unheard = λ b i off pool sub up own. (
          stage_more c st.images b d (λ kind n k e z. no_both (up (to_of b) (inr (counted_to b i kind n k z))) off) stage,
          λ v j. yes v (sub v j),
        );
      })
