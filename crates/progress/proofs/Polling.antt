-- The record of a transaction as the answers of its participants come in, ascending: after an accepted request it is voting with no yes; it goes on voting
-- until the last yes, then it is finishing with no done, until the last done.
use mathlib.Core.Path.{◌≡◌, refl, sym, ◌∙◌, ap, subst}
use mathlib.Core.Logic.{◌≢◌, ◌⊎◌, inl, inr, by_cases}
use mathlib.Core.Bool.{Bool, true, false, cond, ◌||◌}
use mathlib.Core.List.{List}
use Prim.Native.Nat.{ℕ, suc, ◌<◌}
use native.Mathlib.Decide.{ℕ_discrete}
use native.Mathlib.Omega.{arith}
use lib.Dec.{eqb, ltb}
use borrow.Author.Tests.{eqb-true, eq-eqb, ne_eqb, ltb-true}
use Rattle.numbers.specs.Sizes.{nodes}
use Rattle.mask.specs.Mask.{contains, only, joined, within}
use Rattle.mask.proofs.Laws.{contains_joined, contains_power, only_small}
use Rattle.quorum.specs.Nearest.{mask_of}
use Rattle.wire.specs.Message.{done}
use Rattle.image.specs.Layout.{serial}
use Rattle.coordinator.specs.declared.Coordinator.{Coordinator}
use Rattle.coordinator.specs.Step.{Step}
use Rattle.coordinator.specs.State.{open_phase, voting_phase, finishing_phase, awaited}
use Rattle.coordinator.specs.Calls.{request_commit_refusals, requested, request_commit_of}
use Rattle.arrivals.specs.Receive.{with_yes, with_done}
use Rattle.clauses.proofs.Facts.{Meets}
use Rattle.clauses.proofs.Parts.{true-T, by_test, on_cond}
use Rattle.steps.specs.Station.{Station, system}
use Rattle.steps.specs.Step.{request_commit, Outcome, step}
use Rattle.protocol.proofs.Tables.{on}
use Rattle.history.proofs.Tests.{no_both, not-false}
use Rattle.history.proofs.Quiet.{no_bit, agreed_by}
use Rattle.history.proofs.Calls.{host_cases}
use Rattle.history.proofs.Acts.{put_same}
use Rattle.history.proofs.Going.{in_within}

-- ---- sets of nodes
not_in : (a i : ℕ) → (contains a i ≡ true → ⊥) → contains a i ≡ false
not_in a i h = by_test (contains a i ≡ false) (contains a i) (λ e. absurd (h e)) (λ e. e)

either_in : (a b : Bool) → (a ≡ true) ⊎ (b ≡ true) → (a || b) ≡ true
either_in true b e = refl
either_in false b (inl e) = absurd (no_both e refl)
either_in false b (inr e) = e

joined_has : (s k i : ℕ) → k < 16 → (contains s i ≡ true) ⊎ (i ≡ k) → contains (joined s (only k)) i ≡ true
joined_has s k i h e = contains_joined s (only k) i ∙ either_in (contains s i) (contains (only k) i)
    (on e inl (λ q. inr (ap (λ (m : ℕ). contains m i) (only_small k h) ∙ contains_power k i ∙ eq-eqb k i (sym q))))

-- ---- right after an accepted request
pub record Requested (st : Station) (o : ℕ) : Type 0 where
  pub known : o < nodes
  pub is_voting : (st.records o).phase ≡ voting_phase
  pub unsaid : (n : ℕ) → contains (st.records o).yes n ≡ true → ⊥

pub request_accepted : (st : Station) (o : ℕ) → Meets (system st) (st.records o) → (step st (request_commit o)).number ≡ 0
    → Requested (step st (request_commit o)).station o
unfolding step request_commit_of request_commit_refusals requested
request_accepted st o m =
    let c = st.records o in
    let q = (system st).nearest_write o c.live c.distances in
    let all = joined (mask_of q) c.contacted in
    host_cases (λ (r : Outcome). r.number ≡ 0 → Requested r.station o) st o (request_commit_refusals (system st) c o q) all (requested c all) tt
    (λ number e z. absurd (e z))
    (λ k z.
    let p = eqb-true c.phase open_phase (not-false (eqb c.phase open_phase) k.1.0) in
    let here = put_same st.records o (requested c all) in
    record {
      known = ltb-true o nodes (not-false (ltb o nodes) k.0);
      is_voting = ap (λ (d : Coordinator). d.phase) here;
      unsaid = λ n e. no_bit n (subst (λ (a : ℕ). contains a n ≡ true) (m.party.not_asked (omega (arith, p)))
          (in_within c.yes c.participants n m.votes.of_participants (sym (ap (λ (d : Coordinator). contains d.yes n) here) ∙ e)));
    })

-- ---- the record, while votes come in and while dones do
module _ (s party : ℕ) where
  -- yes from the participants below k
  pub record Polled (k : ℕ) (c : Coordinator) : Type 0 where
    pub present : c.serial ≡ s
    pub members : c.participants ≡ party
    pub voting : (c.phase ≡ voting_phase) ⊎ ((c.phase ≡ finishing_phase) × ((n : ℕ) → contains party n ≡ true → n < k))
    pub said : (n : ℕ) → contains c.yes n ≡ true → n < k
    pub all_said : (n : ℕ) → contains party n ≡ true → n < k → contains c.yes n ≡ true
    pub none_done : (n : ℕ) → contains c.done n ≡ true → ⊥

  -- done from the participants below k, if any is above
  abbrev pub Closing : ℕ → Coordinator → Type 0
  Closing k c =
      ((c.phase ≡ finishing_phase) × (c.serial ≡ s) × (c.participants ≡ party) × ((n : ℕ) → contains c.done n ≡ true → n < k))
      ⊎ ((n : ℕ) → contains party n ≡ true → n < k)

  not_this : (k n : ℕ) → contains party k ≡ false → contains party n ≡ true → n < suc k → n < k
  not_this k n e q h = by_cases (ℕ_discrete n k) (λ z. absurd (no_both q (ap (contains party) z ∙ e))) (λ z. omega (arith, h, z))

  pub polled_skip : (k : ℕ) (c : Coordinator) → contains party k ≡ false → Polled k c → Polled (suc k) c
  polled_skip k c e p = record {
    present = p.present;
    members = p.members;
    voting = on p.voting inl (λ z. inr (z.0, λ n q. let h = z.1 n q in omega (arith, h)));
    said = λ n q. let h = p.said n q in omega (arith, h);
    all_said = λ n q h. p.all_said n q (not_this k n e q h);
    none_done = p.none_done;
  }

  pub closing_skip : (k : ℕ) (c : Coordinator) → contains party k ≡ false → Closing k c → Closing (suc k) c
  closing_skip k c e (inl z) = inl (z.0, z.1, z.2, λ n q. let h = z.3 n q in omega (arith, h))
  closing_skip k c e (inr z) = inr (λ n q. let h = z n q in omega (arith, h))

  -- ---- the answer of participant k
  module _ (k : ℕ) (c : Coordinator) (small : k < nodes) (member : contains party k ≡ true) where
    one_more : (said : ℕ) → ((n : ℕ) → contains said n ≡ true → n < k) → (n : ℕ) → contains (joined said (only k)) n ≡ true → n < suc k
    one_more said h n e = agreed_by said n k (omega (arith, small)) e (λ q. let z = h n q in omega (arith, z)) (λ q. omega (arith, q))

    pub polled_next : (rivals : List ℕ) → Polled k c → Polled (suc k) (with_yes c (joined c.yes (only k)) rivals).coordinator
    unfolding with_yes
    polled_next rivals p = on_cond (λ (r : Step). Polled (suc k) r.coordinator) (within c.participants agreed) _ _
        (λ e. record {
          present = p.present;
          members = p.members;
          voting = inr (refl, λ n q. all_more n (in_within c.participants agreed n (true-T _ e) (ap (λ (a : ℕ). contains a n) p.members ∙ q)));
          said = all_more;
          all_said = has_more;
          none_done = p.none_done;
        })
        (λ e. record {
          present = p.present;
          members = p.members;
          voting = inl refl;
          said = all_more;
          all_said = has_more;
          none_done = p.none_done;
        })
      where
        agreed : ℕ
        agreed = joined c.yes (only k)

        all_more : (n : ℕ) → contains agreed n ≡ true → n < suc k
        all_more = one_more c.yes p.said

        has_more : (n : ℕ) → contains party n ≡ true → n < suc k → contains agreed n ≡ true
        has_more n q h = joined_has c.yes k n (omega (arith, small))
            (by_cases (ℕ_discrete n k) inr (λ z. inl (p.all_said n q (omega (arith, h, z)))))

    some_party : party ≢ 0
    some_party e = no_bit k (ap (λ (a : ℕ). contains a k) (sym e) ∙ member)

    pub awaited_is : c.participants ≡ party → awaited c ≡ party
    awaited_is e = ap (λ (a : ℕ). cond (eqb a 0) c.contacted a) e ∙ ap (λ (b : Bool). cond b c.contacted party) (ne_eqb party 0 some_party)

    pub closing_next : c.phase ≡ finishing_phase → c.serial ≡ s → c.participants ≡ party → ((n : ℕ) → contains c.done n ≡ true → n < k)
        → Closing (suc k) (with_done c (joined c.done (only k))).coordinator
    unfolding with_done
    closing_next p q e h = on_cond (λ (r : Step). Closing (suc k) r.coordinator) (within (awaited c) (joined c.done (only k))) _ _
        (λ w. inr (λ n z. one_more c.done h n (in_within (awaited c) (joined c.done (only k)) n (true-T _ w)
        (ap (λ (a : ℕ). contains a n) (awaited_is e) ∙ z))))
        (λ w. inl (p, q, e, one_more c.done h))
