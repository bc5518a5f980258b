-- What is kept of a node's batches since its table was loaded, over one node's record, settings and serial and what was told. Either the law holds with what
-- waits, and nothing but a begin or a load changes that; or the newest batch is the node's present transaction: the law holds without it with the tenths
-- that waited when it began, and its own grams and what it leaves over are those tenths with its weights. Then what each kind of step leaves of that.
use mathlib.Core.Path.{◌≡◌, refl, sym, ap, ap₂, subst, ◌∙◌}
use mathlib.Core.Logic.{◌⊎◌, inl, inr}
use mathlib.Core.Bool.{Bool, true, false, cond, ◌&&◌}
use mathlib.Core.List.{List, [], ◌∷◌}
use Prim.Native.Nat.{ℕ, ◌+◌, ◌*◌, ◌<◌, ◌≤◌}
use native.Mathlib.Omega.{arith}
use lib.ListN.{length, get_or}
use Rattle.classes.specs.Classes.{most_classes, tally_count, bounds, tallies, sound}
use Rattle.classes.specs.Weights.{weights, grams_in, left_of}
use Rattle.classes.specs.Weights.{weighed as weighedIn}
use Rattle.classes.proofs.Table.{accepted_bounded}
use Rattle.classes.proofs.Theorems.{tenths_kept, length_left, left_at}
use Rattle.coordinator.specs.declared.Coordinator.{Coordinator}
use Rattle.coordinator.specs.State.{idle_phase}
use Rattle.settings.specs.Settings.{settings_size, classes_in, own_kind, batch_kind, waited_in, left_in, decided_committed, tenths, settled_as, no_tenths}
use Rattle.settings.specs.Settings.{adds as kindAdds}
use Rattle.settings.proofs.Sound.{settled_classes, settled_waited, settled_left}
use Rattle.protocol.specs.Table.{pick, In}
use Rattle.protocol.specs.State.{Tx}
use Rattle.protocol.proofs.Tables.{on, pick_cases}
use Rattle.history.specs.Ledger.{in?}
use Rattle.history.proofs.Tests.{no_both}
use Rattle.history.proofs.Sim.{tx}
use Rattle.accounts.specs.Accounts.{Effect}
use Rattle.accounts.specs.Weighed.{Batch, Since, loaded_now, with_batch, amount_of, over_committed}
use Rattle.accounts.proofs.Facts.{own_kind_lem, batch_kind_lem}
use Rattle.accounts.proofs.Decided.{Both}
use Rattle.accounts.proofs.Grams.{has_table}

-- ---- the tenths that wait, by the kind and by the record's word
pub tenths_own : (c : Coordinator) (s : List ℕ) → kindAdds s ≡ false → tenths c s ≡ waited_in s
unfolding tenths
tenths_own c s e = ap (λ (b : Bool). cond (b && decided_committed c) (left_in s) (waited_in s)) e

tenths_batch : (c : Coordinator) (s : List ℕ) (b : Bool) → kindAdds s ≡ true → decided_committed c ≡ b → tenths c s ≡ cond b (left_in s) (waited_in s)
unfolding tenths
tenths_batch c s b e f = ap₂ (λ (a d : Bool). cond (a && d) (left_in s) (waited_in s)) e f

-- ---- the law, of a table and the tenths that wait
abbrev pub Law : List ℕ → List ℕ → List Tx → (Tx → Effect) → Since → List Batch → Type 0
Law k waiting l E v bs = (i : ℕ) → i < tally_count k
    → 10 * (v.booked i + over_committed l (λ b. amount_of (E b.tx) (get_or (tallies k) i 0)) bs) + get_or waiting i 0
    ≡ v.weighed i + over_committed l (λ b. weighedIn (bounds k) i (weights b.list)) bs

-- one batch, of what waited when it began and what it leaves over
abbrev pub One : List ℕ → List ℕ → List ℕ → Effect → List ℕ → Type 0
One k waited left e list = (i : ℕ) → i < tally_count k
    → 10 * amount_of e (get_or (tallies k) i 0) + get_or left i 0 ≡ get_or waited i 0 + weighedIn (bounds k) i (weights list)

one_on : {k k' waited waited' left left' : List ℕ} {e e' : Effect} (list : List ℕ) → k' ≡ k → waited' ≡ waited → left' ≡ left → e' ≡ e
    → One k waited left e list → One k' waited' left' e' list
one_on {k} {k'} {waited} {waited'} {left} {left'} {e} {e'} list p q r t f =
    subst (λ (a : List ℕ). One a waited' left' e' list) (sym p) (subst (λ (a : List ℕ). One k a left' e' list) (sym q)
    (subst (λ (a : List ℕ). One k waited a e' list) (sym r) (subst (λ (a : Effect). One k waited left a list) (sym t) f)))

-- ---- batches of a node before a serial
abbrev pub Behind : ℕ → ℕ → List Batch → Type 0
Behind n serial [] = Unit {0}
Behind n serial (b ∷ bs) = ((b.tx.owner ≡ n) × (b.tx.serial < serial)) × Behind n serial bs

behind_later : (n serial : ℕ) (bs : List Batch) → Behind n serial bs → Behind n (serial + 1) bs
behind_later n serial [] k = tt
behind_later n serial (b ∷ bs) k = ((k.0.0, let h = k.0.1 in omega (arith, h)), behind_later n serial bs k.1)

-- of those the same is told, and their effects are the same
pub record SameOf (n serial : ℕ) (l l' : List Tx) (E E' : Tx → Effect) : Type 0 where
  pub told : (x : Tx) → x.owner ≡ n → x.serial < serial → Both (In x l') (In x l)
  pub effects : (x : Tx) → x.owner ≡ n → x.serial < serial → E' x ≡ E x

pick_same : {P Q : Type 0} (d : Dec P) (e : Dec Q) (a : ℕ) → Both P Q → pick d a 0 ≡ pick e a 0
pick_same d e a f = on (pick_cases d a 0)
    (λ p. on (pick_cases e a 0) (λ q. p.1 ∙ sym q.1) (λ q. absurd (q.0 (f.0 p.0))))
    (λ p. on (pick_cases e a 0) (λ q. absurd (p.0 (f.1 q.0))) (λ q. p.1 ∙ sym q.1))

module _ (n serial : ℕ) (l l' : List Tx) (E E' : Tx → Effect) (same : SameOf n serial l l' E E') where
  over_same : (f f' : Batch → ℕ) → ((b : Batch) → b.tx.owner ≡ n → b.tx.serial < serial → f' b ≡ f b) → (bs : List Batch) → Behind n serial bs
      → over_committed l' f' bs ≡ over_committed l f bs
  over_same f f' e [] k = refl
  over_same f f' e (b ∷ bs) k = ap₂ (λ (x y : ℕ). x + y)
      (ap (λ (a : ℕ). pick (in? b.tx l') a 0) (e b k.0.0 k.0.1) ∙ pick_same _ _ (f b) (same.told b.tx k.0.0 k.0.1))
      (over_same f f' e bs k.1)

  pub law_on : (k waiting : List ℕ) (v : Since) (bs : List Batch) → Behind n serial bs → Law k waiting l E v bs → Law k waiting l' E' v bs
  law_on k waiting v bs p f i h =
      let a = over_same (λ b. amount_of (E b.tx) (get_or (tallies k) i 0)) (λ b. amount_of (E' b.tx) (get_or (tallies k) i 0))
      (λ b q r. ap (λ (e : Effect). amount_of e (get_or (tallies k) i 0)) (same.effects b.tx q r)) bs p in
      let d = over_same (λ b. weighedIn (bounds k) i (weights b.list)) (λ b. weighedIn (bounds k) i (weights b.list)) (λ b q r. refl) bs p in
      ap (λ (x : ℕ). 10 * (v.booked i + x) + get_or waiting i 0) a ∙ f i h ∙ ap (λ (x : ℕ). v.weighed i + x) (sym d)

-- ---- where a node stands: its record, settings and serial, what is told committed, the effects, the batches since its table was loaded
module _ (n : ℕ) where
  pub record Settled (c : Coordinator) (s : List ℕ) (serial : ℕ) (l : List Tx) (E : Tx → Effect) (v : Since) : Type 0 where
    pub behind : Behind n serial v.batches
    pub still : (kindAdds s ≡ false) ⊎ (c.phase ≡ idle_phase)
    pub law : Law (classes_in s) (tenths c s) l E v v.batches

  pub record Pending (start : ℕ) (s : List ℕ) (serial : ℕ) (l : List Tx) (E : Tx → Effect) (v : Since) : Type 0 where
    pub list : List ℕ
    pub rest : List Batch
    pub is : v.batches ≡ record { tx = tx n serial; list = list } ∷ rest
    pub behind : Behind n serial rest
    pub begun : start < serial
    pub adding : kindAdds s ≡ true
    pub law : Law (classes_in s) (waited_in s) l E v rest
    pub one : One (classes_in s) (waited_in s) (left_in s) (E (tx n serial)) list

  pub record Stands (start : ℕ) (c : Coordinator) (s : List ℕ) (serial : ℕ) (l : List Tx) (E : Tx → Effect) (v : Since) : Type 0 where
    pub grown : start ≤ serial
    pub stage : Settled c s serial l E v ⊎ Pending start s serial l E v

  module _ (start : ℕ) (c : Coordinator) (s : List ℕ) (serial : ℕ) (l : List Tx) (E : Tx → Effect) (v : Since)
      (k : Stands start c s serial l E v) where
    -- ---- THE LAW there, where the record says of its present transaction what is told
    pub law_now : (start < serial → Both (In (tx n serial) l) (decided_committed c ≡ true)) → Law (classes_in s) (tenths c s) l E v v.batches
    law_now decided = on k.stage (λ z. z.law) (λ z. subst (Law (classes_in s) (tenths c s) l E v) (sym z.is) (by z (decided_committed c) refl))
      where
        by : (z : Pending start s serial l E v) (b : Bool) → decided_committed c ≡ b
            → Law (classes_in s) (tenths c s) l E v (record { tx = tx n serial; list = z.list } ∷ z.rest)
        by z true e i h =
            let w : get_or (tenths c s) i 0 ≡ get_or (left_in s) i 0 = ap (λ (t : List ℕ). get_or t i 0) (tenths_batch c s true z.adding e) in
            let is = (decided z.begun).1 e in
            let a = amount_of (E (tx n serial)) (get_or (tallies (classes_in s)) i 0) in
            let u = weighedIn (bounds (classes_in s)) i (weights z.list) in
            let p : pick (in? (tx n serial) l) a 0 ≡ a = on (pick_cases (in? (tx n serial) l) a 0) (λ q. q.1) (λ q. absurd (q.0 is)) in
            let q : pick (in? (tx n serial) l) u 0 ≡ u = on (pick_cases (in? (tx n serial) l) u 0) (λ q. q.1) (λ q. absurd (q.0 is)) in
            let x = z.law i h in
            let y = z.one i h in
            omega (arith, w, p, q, x, y)
        by z false e i h =
            let w : get_or (tenths c s) i 0 ≡ get_or (waited_in s) i 0 = ap (λ (t : List ℕ). get_or t i 0) (tenths_batch c s false z.adding e) in
            let not : In (tx n serial) l → ⊥ = λ j. no_both ((decided z.begun).0 j) e in
            let a = amount_of (E (tx n serial)) (get_or (tallies (classes_in s)) i 0) in
            let u = weighedIn (bounds (classes_in s)) i (weights z.list) in
            let p : pick (in? (tx n serial) l) a 0 ≡ 0 = on (pick_cases (in? (tx n serial) l) a 0) (λ q. absurd (not q.0)) (λ q. q.1) in
            let q : pick (in? (tx n serial) l) u 0 ≡ 0 = on (pick_cases (in? (tx n serial) l) u 0) (λ q. absurd (not q.0)) (λ q. q.1) in
            let x = z.law i h in
            omega (arith, w, p, q, x)

    -- all of its batches are before the next serial
    all_behind : Behind n (serial + 1) v.batches
    all_behind = on k.stage (λ z. behind_later n serial v.batches z.behind)
        (λ z. subst (Behind n (serial + 1)) (sym z.is) ((refl, omega arith), behind_later n serial z.rest z.behind))

    -- ---- a begin of the host's own, and a batch: what waits is settled
    module _ (now : Law (classes_in s) (tenths c s) l E v v.batches) (long : length s ≡ settings_size) (c' : Coordinator) (l' : List Tx) (E' : Tx → Effect)
        (same : SameOf n (serial + 1) l l' E E') where
      law_settled : (k waiting : List ℕ) → k ≡ classes_in s → waiting ≡ tenths c s → Law k waiting l' E' v v.batches
      law_settled k waiting p q = subst (λ (t : List ℕ). Law t waiting l' E' v v.batches) (sym p)
          (subst (λ (t : List ℕ). Law (classes_in s) t l' E' v v.batches) (sym q)
          (law_on n (serial + 1) l l' E E' same (classes_in s) (tenths c s) v v.batches all_behind now))

      pub stands_begun : Stands start c' (settled_as own_kind no_tenths c s) (serial + 1) l' E' v
      stands_begun = let own = own_kind_lem c s long in record {
        grown = let g = k.grown in omega (arith, g);
        stage = inl (record {
          behind = all_behind;
          still = inl own;
          law = law_settled _ _ (settled_classes c s long own_kind no_tenths refl)
              (tenths_own c' (settled_as own_kind no_tenths c s) own ∙ settled_waited c s long own_kind no_tenths refl);
        });
      }

      module _ (list : List ℕ) (fine : sound (classes_in s) ≡ true)
          (amounts : (i : ℕ) → i < tally_count (classes_in s)
          → amount_of (E' (tx n (serial + 1))) (get_or (tallies (classes_in s)) i 0) ≡ grams_in (classes_in s) (tenths c s) list i) where
        abbrev over : List ℕ
        over = left_of (classes_in s) (tenths c s) list

        over_long : length over ≡ most_classes
        over_long = length_left (classes_in s) (tenths c s) list

        one_settled : One (classes_in s) (tenths c s) over (E' (tx n (serial + 1))) list
        one_settled i h =
            let b = accepted_bounded false (classes_in s) (has_table (classes_in s) i fine h) in
            let a = amounts i h in
            let r = left_at (classes_in s) (tenths c s) list i (omega (arith, h, b.few, b.tallied)) in
            let t = tenths_kept (classes_in s) (tenths c s) list i in
            ap₂ (λ (x y : ℕ). 10 * x + y) a r ∙ t

        pub stands_batch : Stands start c' (settled_as batch_kind over c s) (serial + 1) l' E' (with_batch v (tx n (serial + 1)) list)
        stands_batch =
            let p = settled_classes c s long batch_kind over over_long in
            let q = settled_waited c s long batch_kind over over_long in
            let r = settled_left c s long batch_kind over over_long in record {
              grown = let g = k.grown in omega (arith, g);
              stage = inr (record {
                list = list;
                rest = v.batches;
                is = refl;
                behind = all_behind;
                begun = let g = k.grown in omega (arith, g);
                adding = batch_kind_lem over c s over_long long;
                law = law_settled _ _ p q;
                one = one_on {e = E' (tx n (serial + 1))} list p q r refl one_settled;
              });
            }

    -- ---- a table that is loaded
    pub stands_loaded : (s' : List ℕ) → kindAdds s' ≡ false → ((i : ℕ) → i < tally_count (classes_in s') → get_or (waited_in s') i 0 ≡ 0)
        → Stands start c s' serial l E loaded_now
    stands_loaded s' own none = record {
      grown = k.grown;
      stage = inl (record {
        behind = tt;
        still = inl own;
        law = λ i h. let a : get_or (tenths c s') i 0 ≡ 0 = ap (λ (t : List ℕ). get_or t i 0) (tenths_own c s' own) ∙ none i h in omega (arith, a);
      });
    }

  -- ---- a step that leaves the node's batches
  pub record Leaves (c c' : Coordinator) (s s' : List ℕ) (serial serial' : ℕ) (l l' : List Tx) (E E' : Tx → Effect) : Type 0 where
    pub serials : serial' ≡ serial
    pub classes : classes_in s' ≡ classes_in s
    pub kind : kindAdds s' ≡ kindAdds s
    pub waited : waited_in s' ≡ waited_in s
    pub left : left_in s' ≡ left_in s
    pub told : (x : Tx) → x.owner ≡ n → x.serial < serial → Both (In x l') (In x l)
    pub effects : (x : Tx) → x.owner ≡ n → E' x ≡ E x
    pub idle : c.phase ≡ idle_phase → (c'.phase ≡ idle_phase) × (decided_committed c' ≡ decided_committed c)

  module _ (start : ℕ) (c c' : Coordinator) (s s' : List ℕ) (serial serial' : ℕ) (l l' : List Tx) (E E' : Tx → Effect) (v : Since)
      (u : Leaves c c' s s' serial serial' l l' E E') where
    same : SameOf n serial l l' E E'
    same = record { told = u.told; effects = λ x p q. u.effects x p }

    -- what waits is the same, unless a batch is under way
    tenths_same : (kindAdds s ≡ false) ⊎ (c.phase ≡ idle_phase) → tenths c' s' ≡ tenths c s
    unfolding tenths
    tenths_same (inl p) = tenths_own c' s' (u.kind ∙ p) ∙ u.waited ∙ sym (tenths_own c s p)
    tenths_same (inr p) =
        ap (λ (b : Bool). cond (b && decided_committed c') (left_in s') (waited_in s')) u.kind
        ∙ ap (λ (b : Bool). cond (kindAdds s && b) (left_in s') (waited_in s')) (u.idle p).1
        ∙ ap₂ (λ (x y : List ℕ). cond (kindAdds s && decided_committed c) x y) u.left u.waited

    law_leaves : (waiting waiting' : List ℕ) (bs : List Batch) → waiting' ≡ waiting → Behind n serial bs → Law (classes_in s) waiting l E v bs
        → Law (classes_in s') waiting' l' E' v bs
    law_leaves waiting waiting' bs p b f = subst (λ (t : List ℕ). Law t waiting' l' E' v bs) (sym u.classes)
        (subst (λ (t : List ℕ). Law (classes_in s) t l' E' v bs) (sym p) (law_on n serial l l' E E' same (classes_in s) waiting v bs b f))

    settled_leaves : Settled c s serial l E v → Settled c' s' serial l' E' v
    settled_leaves z = record {
      behind = z.behind;
      still = on z.still (λ p. inl (u.kind ∙ p)) (λ p. inr (u.idle p).0);
      law = law_leaves (tenths c s) (tenths c' s') v.batches (tenths_same z.still) z.behind z.law;
    }

    pending_leaves : Pending start s serial l E v → Pending start s' serial l' E' v
    pending_leaves z = record {
      list = z.list;
      rest = z.rest;
      is = z.is;
      behind = z.behind;
      begun = z.begun;
      adding = u.kind ∙ z.adding;
      law = law_leaves (waited_in s) (waited_in s') z.rest u.waited z.behind z.law;
      one = one_on z.list u.classes u.waited u.left (u.effects (tx n serial) refl) z.one;
    }

    pub stands_still : Stands start c s serial l E v → Stands start c' s' serial' l' E' v
    stands_still k = subst (λ (m : ℕ). Stands start c' s' m l' E' v) (sym u.serials)
        (record { grown = k.grown; stage = on k.stage (λ z. inl (settled_leaves z)) (λ z. inr (pending_leaves z)) })
