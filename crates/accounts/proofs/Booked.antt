-- What a transaction that adds has told, after every list of steps: while it is open its new values are its amounts; once votes were asked for, each is
-- a value that it found with the amount added, and no such sum is past the range. Every step keeps it; only a request on a batch makes sums (Sums).
use mathlib.Core.Path.{◌≡◌, sym, ap, subst, ◌∙◌}
use mathlib.Core.Logic.{◌≢◌, ◌⊎◌, inl, inr, by_cases}
use mathlib.Core.Bool.{true, false}
use mathlib.Core.List.{List, ◌∷◌}
use Prim.Native.Nat.{ℕ}
use native.Mathlib.Decide.{ℕ_discrete}
use Rattle.coordinator.specs.State.{open_phase}
use Rattle.increments.specs.Sums.{sum64, past}
use Rattle.protocol.specs.Table.{Suffix}
use Rattle.protocol.specs.Rules.{Mode, write}
use Rattle.protocol.specs.State.{Tx, Tx-discrete}
use Rattle.protocol.specs.Proof.Tables.{clash}
use Rattle.settings.specs.Settings.{adds as kindAdds}
use Rattle.history.specs.Ledger.{Ledger, current}
use Rattle.history.specs.Claims.{Finds}
use Rattle.history.proofs.Host.{SameTold}
use Rattle.service.specs.Service.{Service, Call}
use Rattle.accounts.specs.Accounts.{Origin, Effect, sets, adds, reached, effects}
use Rattle.accounts.specs.Weighed.{amount_of}
use Rattle.accounts.proofs.Ledgers.{current_same}

-- an effect is of one kind, with one amount
pub sets_not_adds : (f : Effect) (g : ℕ → ℕ) → f ≡ sets → f ≡ adds g → ⊥
sets_not_adds f g p q = let z : sets ≡ adds g = sym p ∙ q in clash (cc)

pub same_amount : (f : Effect) (g h : ℕ → ℕ) → f ≡ adds g → f ≡ adds h → (t : ℕ) → g t ≡ h t
same_amount f g h p q t = ap (λ (e : Effect). amount_of e t) (sym p ∙ q)

module _ (o : Origin) where
  -- the new value is a value found with the amount added
  pub record Summed (cs : List Call) (L : Ledger) (x : Tx) (g : ℕ → ℕ) (t : ℕ) : Type 0 where
    pub value : ℕ
    pub when : List Call
    pub earlier : Suffix when cs
    pub finds : Finds (reached o when).machine x t value
    pub is_sum : L.new x t ≡ sum64 value (g t)
    pub in_range : past value (g t) ≡ false

  pub record Booked (cs : List Call) (v : Service) (L : Ledger) (E : Tx → Effect) : Type 0 where
    pub own : (n : ℕ) → (v.machine.records n).phase ≡ open_phase → kindAdds (v.settings n) ≡ false → E (current L n) ≡ sets
    pub adding : (n : ℕ) → (v.machine.records n).phase ≡ open_phase → kindAdds (v.settings n) ≡ true
        → (g : ℕ → ℕ) × (E (current L n) ≡ adds g) × ((t : ℕ) → L.new (current L n) t ≡ g t)
    pub summed : (x : Tx) (g : ℕ → ℕ) → E x ≡ adds g → (L.participants x ≡ 0) ⊎ ((t : ℕ) → L.mode x t ≡ write → Summed cs L x g t)

  -- what was summed by then
  pub summed_on : (c : Call) (cs : List Call) (L L' : Ledger) (x : Tx) (g : ℕ → ℕ) → ((t : ℕ) → L'.mode x t ≡ L.mode x t)
      → ((t : ℕ) → L'.new x t ≡ L.new x t) → L'.participants x ≡ L.participants x
      → (L.participants x ≡ 0) ⊎ ((t : ℕ) → L.mode x t ≡ write → Summed cs L x g t)
      → (L'.participants x ≡ 0) ⊎ ((t : ℕ) → L'.mode x t ≡ write → Summed (c ∷ cs) L' x g t)
  summed_on c cs L L' x g m n p (inl e) = inl (p ∙ e)
  summed_on c cs L L' x g m n p (inr f) = inr (λ t e. let z = f t (sym (m t) ∙ e) in record {
    value = z.value;
    when = z.when;
    earlier = inr z.earlier;
    finds = z.finds;
    is_sum = n t ∙ z.is_sum;
    in_range = z.in_range;
  })

  module _ (c : Call) (cs : List Call) (v v' : Service) (L L' : Ledger) (E E' : Tx → Effect) (k : Booked cs v L E) where
    -- ---- a step that tells nothing of transactions, and leaves every kind
    pub booked_same : ((i : ℕ) → (v'.machine.records i).phase ≡ open_phase → (v.machine.records i).phase ≡ open_phase)
        → ((i : ℕ) → kindAdds (v'.settings i) ≡ kindAdds (v.settings i)) → SameTold L L' → E' ≡ E → Booked (c ∷ cs) v' L' E'
    booked_same phases kinds t e = record {
      own = λ n p q. at n ∙ k.own n (phases n p) (sym (kinds n) ∙ q);
      adding = λ n p q. let z = k.adding n (phases n p) (sym (kinds n) ∙ q) in (
        z.0,
        at n ∙ z.1,
        λ u. ap (λ (x : Tx). L'.new x u) (current_same L L' n t.serials) ∙ ap (λ (f : Tx → ℕ → ℕ). f (current L n) u) t.news ∙ z.2 u,
      );
      summed = λ x g p. summed_on c cs L L' x g (λ u. ap (λ (f : Tx → ℕ → Mode). f x u) t.modes) (λ u. ap (λ (f : Tx → ℕ → ℕ). f x u) t.news)
          (ap (λ (f : Tx → ℕ). f x) t.parties) (k.summed x g (ap (λ (f : Tx → Effect). f x) (sym e) ∙ p));
    }
      where
        at : (n : ℕ) → E' (current L' n) ≡ E (current L n)
        at n = ap E' (current_same L L' n t.serials) ∙ ap (λ (f : Tx → Effect). f (current L n)) e

    -- ---- a step at a node, that tells of one of its transactions alone
    module _ (n : ℕ) (x : Tx) (its : x.owner ≡ n) where
      pub record Elsewhere : Type 0 where
        pub phases : (i : ℕ) → i ≢ n → (v'.machine.records i).phase ≡ open_phase → (v.machine.records i).phase ≡ open_phase
        pub kinds : (i : ℕ) → i ≢ n → kindAdds (v'.settings i) ≡ kindAdds (v.settings i)
        pub serials : (i : ℕ) → i ≢ n → L'.serials i ≡ L.serials i
        pub effects : (y : Tx) → y ≢ x → E' y ≡ E y
        pub modes : (y : Tx) → y ≢ x → (t : ℕ) → L'.mode y t ≡ L.mode y t
        pub news : (y : Tx) → y ≢ x → (t : ℕ) → L'.new y t ≡ L.new y t
        pub parties : (y : Tx) → y ≢ x → L'.participants y ≡ L.participants y

      pub booked_else : Elsewhere
          → ((v'.machine.records n).phase ≡ open_phase → kindAdds (v'.settings n) ≡ false → E' (current L' n) ≡ sets)
          → ((v'.machine.records n).phase ≡ open_phase → kindAdds (v'.settings n) ≡ true
          → (g : ℕ → ℕ) × (E' (current L' n) ≡ adds g) × ((t : ℕ) → L'.new (current L' n) t ≡ g t))
          → ((g : ℕ → ℕ) → E' x ≡ adds g → (L'.participants x ≡ 0) ⊎ ((t : ℕ) → L'.mode x t ≡ write → Summed (c ∷ cs) L' x g t))
          → Booked (c ∷ cs) v' L' E'
      booked_else w own-here adding-here summed-here = record {
        own = λ i p q. by_cases (ℕ_discrete i n) (λ e. own_at i e p q)
            (λ e. at i e ∙ k.own i (w.phases i e p) (sym (w.kinds i e) ∙ q));
        adding = λ i p q. by_cases (ℕ_discrete i n) (λ e. adding_at i e p q)
            (λ e. let z = k.adding i (w.phases i e p) (sym (w.kinds i e) ∙ q) in (
              z.0,
              at i e ∙ z.1,
              λ u. ap (λ (y : Tx). L'.new y u) (now i e) ∙ w.news (current L i) (other i e) u ∙ z.2 u,
            ));
        summed = λ y g p. by_cases (Tx-discrete y x) (λ e. summed_at y e g p)
            (λ e. summed_on c cs L L' y g (w.modes y e) (w.news y e) (w.parties y e) (k.summed y g (sym (w.effects y e) ∙ p)));
      }
        where
          now : (i : ℕ) → i ≢ n → current L' i ≡ current L i
          now i e = ap (λ (s : ℕ). record { owner = i; serial = s }) (w.serials i e)

          other : (i : ℕ) → i ≢ n → current L i ≢ x
          other i e q = e (ap (λ (y : Tx). y.owner) q ∙ its)

          at : (i : ℕ) (e : i ≢ n) → E' (current L' i) ≡ E (current L i)
          at i e = ap E' (now i e) ∙ w.effects (current L i) (other i e)

          own_at : (i : ℕ) → i ≡ n → (v'.machine.records i).phase ≡ open_phase → kindAdds (v'.settings i) ≡ false → E' (current L' i) ≡ sets
          own_at i e = subst (λ (j : ℕ). (v'.machine.records j).phase ≡ open_phase → kindAdds (v'.settings j) ≡ false → E' (current L' j) ≡ sets)
              (sym e) own-here

          adding_at : (i : ℕ) → i ≡ n → (v'.machine.records i).phase ≡ open_phase → kindAdds (v'.settings i) ≡ true
              → (g : ℕ → ℕ) × (E' (current L' i) ≡ adds g) × ((t : ℕ) → L'.new (current L' i) t ≡ g t)
          adding_at i e = subst (λ (j : ℕ). (v'.machine.records j).phase ≡ open_phase → kindAdds (v'.settings j) ≡ true
              → (g : ℕ → ℕ) × (E' (current L' j) ≡ adds g) × ((t : ℕ) → L'.new (current L' j) t ≡ g t)) (sym e) adding-here

          summed_at : (y : Tx) → y ≡ x → (g : ℕ → ℕ) → E' y ≡ adds g
              → (L'.participants y ≡ 0) ⊎ ((t : ℕ) → L'.mode y t ≡ write → Summed (c ∷ cs) L' y g t)
          summed_at y e = subst (λ (z : Tx). (g : ℕ → ℕ) → E' z ≡ adds g
              → (L'.participants z ≡ 0) ⊎ ((t : ℕ) → L'.mode z t ≡ write → Summed (c ∷ cs) L' z g t)) (sym e) summed-here
