-- A message delivered at a replica, with what the events tell: pool, log and dones. Records and history stay.
use mathlib.Core.Path.{◌≡◌, refl, sym, ◌∙◌, ap, subst}
use mathlib.Core.Logic.{◌⊎◌, inl, inr}
use mathlib.Core.Bool.{Bool, true, false, cond, ◌&&◌}
use mathlib.Core.List.{List, [], ◌∷◌, ◌++◌}
use mathlib.Core.Option.{Option, none, some}
use Prim.Native.Nat.{ℕ, zero, suc, ◌+◌, ◌<◌}
use native.Mathlib.Decide.{ℕ_discrete}
use native.Mathlib.Omega.{arith}
use lib.ListN.{length, get_or, take, drop}
use Rattle.octets.proofs.Laws.{Bytes}
use Rattle.wire.specs.Message.{Message}
use Rattle.wire.specs.Encode.{encode}
use Rattle.wire.specs.Decode.{kind_of, from_of, decode}
use Rattle.image.proofs.Sound.{Sound}
use Rattle.replica.specs.Receive.{step}
use Rattle.replica.proofs.Kept.{keeps_step}
use Rattle.replica.proofs.Taken.{Taken}
use Rattle.steps.specs.Station.{Station, put_at, with_image, without}
use Rattle.protocol.specs.Table.{put2, In}
use Rattle.protocol.specs.State.{Tx, Tx-discrete, Contents, History, State}
use Rattle.protocol.proofs.Tables.{on, put2_cases}
use Rattle.protocol.specs.Refine.Growth.{Late}
use borrow.Author.Tests.{eqb-true}
use Rattle.history.proofs.Tests.{and-true}
use Rattle.history.specs.Ledger.{Ledger, tx_of, is_commit, is_done, pool_put, log_put, dones_put, with_put, with_delivered}
use Rattle.history.proofs.Sim.{Tells}
use Rattle.history.proofs.Carry.{put_all, onward, tells_on, by_pool}
use Rattle.history.proofs.Books.{Decided, Past, More, Asked, Valid, World, found_next}
use Rattle.history.proofs.Host.{SameTold, objects_still, present_on}
use Rattle.history.proofs.Words.{tx_in, kind_of_lem, from_of_lem, tx_decoded}
use Rattle.history.proofs.Acts.{Acted}
use Rattle.history.proofs.Answers.{bytes_step}
use Rattle.history.proofs.Replies.{Heard}

-- ---- lists
pub in_append : {A : Type 0} (x : A) (a b : List A) → In x (a ++ b) → In x a ⊎ In x b
in_append x [] b i = inr i
in_append x (y ∷ a) b (inl e) = inl (inl e)
in_append x (y ∷ a) b (inr i) = on (in_append x a b i) (λ j. inl (inr j)) (λ j. inr j)

in_take : {A : Type 0} (x : A) (k : ℕ) (l : List A) → In x (take k l) → In x l
in_take x zero l i = absurd i
in_take x (suc k) [] i = absurd i
in_take x (suc k) (y ∷ l) (inl e) = inl e
in_take x (suc k) (y ∷ l) (inr i) = inr (in_take x k l i)

in_drop : {A : Type 0} (x : A) (k : ℕ) (l : List A) → In x (drop k l) → In x l
in_drop x zero l i = i
in_drop x (suc k) [] i = absurd i
in_drop x (suc k) (y ∷ l) i = inr (in_drop x k l i)

pub in_without : {A : Type 0} (x : A) (k : ℕ) (l : List A) → In x (without k l) → In x l
in_without x k l i = on (in_append x (take k l) (drop (k + 1) l) i) (in_take x k l) (in_drop x (k + 1) l)

pub in_place : {A : Type 0} (l : List A) (k : ℕ) (d : A) → k < length l → In (get_or l k d) l
in_place [] k d h = absurd (let z : ⊥ = omega arith in z)
in_place (x ∷ l) zero d h = inl refl
in_place (x ∷ l) (suc k) d h = inr (in_place l k d (omega arith))

-- the pool without the k-th message, or with it kept
pub in_left : (kept : Bool) (k : ℕ) (l : List (List ℕ)) (b : List ℕ) → In b (cond kept l (without k l)) → In b l
in_left true k l b i = i
in_left false k l b i = in_without b k l i

-- ---- a delivery at node n of the message b, which is taken there
module _ (st : Station) (L : Ledger) (F : Past) (w : World st L F) (n : ℕ) (b : List ℕ) (pool : List (List ℕ))
    (sub : (y : List ℕ) → In y pool → In y st.pool) (k : Taken (st.images n) (decode b)) where
  abbrev m : Message
  m = decode b

  abbrev σ : State ℕ
  σ = w.state

  abbrev image : List ℕ
  image = (step (st.images n) n m).image

  -- the ledger after it: what was put
  abbrev told : Option (List ℕ) → Ledger
  told p = with_delivered (with_put L pool p) b 0 p

  abbrev next : List (List ℕ) → Station
  next pool' = record { images = put_at st.images n image; records = st.records; pool = pool'; own = st.own }

  valid_next : (pool' : List (List ℕ)) → ((y : List ℕ) → In y pool' → Bytes y) → Valid (next pool')
  valid_next pool' f = record {
    images = put_all (λ (i : ℕ) (l : List ℕ). Sound l × Bytes l) st.images n image
        (keeps_step (st.images n) m k.sound k.owner k.serial k.stamp k.fits n, bytes_step (st.images n) m (w.valid.images n).1 n)
        (λ i e. w.valid.images i);
    records = w.valid.records;
    messages = f;
  }

  same_told : (p : Option (List ℕ)) → SameTold L (told p)
  same_told p = record { serials = refl; modes = refl; news = refl; parties = refl }

  -- the state and the log after it are those of the transitions, the records and the history as before
  module _ (P : State ℕ → List Tx → Type 0) (a : Acted st σ w.log w.sim n m k image P) where
    abbrev τ : State ℕ
    τ = a.after

    abbrev same : τ.history ≡ σ.history
    same = a.history_same

    phase_as : (x : Tx) → τ.history.phase x ≡ σ.history.phase x
    phase_as x = ap (λ (h : History ℕ). h.phase x) same

    contents_as : (x : Tx) → τ.history.contents x ≡ σ.history.contents x
    contents_as x = ap (λ (h : History ℕ). h.contents x) same

    asked_as : (x : Tx) → Asked τ.history x → Asked σ.history x
    asked_as x q = on q (λ e. inl (sym (phase_as x) ∙ e)) (λ e. inr (sym (phase_as x) ∙ e))

    decided_as : (p : Option (List ℕ)) → Decided (told p) τ.history
    decided_as p = let d = w.books.decided in record {
      told_so = λ x i. phase_as x ∙ d.told_so x i;
      is_told = λ x e. d.is_told x (sym (phase_as x) ∙ e);
      its_mode = λ x e t. d.its_mode x (sym (phase_as x) ∙ e) t ∙ ap (λ (c : Contents ℕ). c.mode t) (sym (contents_as x));
      its_new = λ x e t. d.its_new x (sym (phase_as x) ∙ e) t ∙ ap (λ (c : Contents ℕ). c.new t) (sym (contents_as x));
      its_party_lem = λ x e i. d.its_party_lem x (sym (phase_as x) ∙ e) i ∙ ap (λ (c : Contents ℕ). c.participants i) (sym (contents_as x));
    }

    pub arrived : (p : Option (List ℕ)) (pool' : List (List ℕ)) → pool_put p pool ≡ pool' → a.log_after ≡ log_put p w.log
        → ((y : List ℕ) → In y pool' → In y pool ⊎ (Tells τ.history τ.votes τ.sent y × Bytes y))
        → ((y : List ℕ) → In y (pool_put p L.puts) → In y L.puts ⊎ Tells τ.history τ.votes τ.sent y)
        → ((x : Tx) (i : ℕ) → dones_put b p L.dones x i ≡ true → (L.dones x i ≡ true) ⊎ Late τ.ends i x)
        → World (next pool') (told p) (More F (next pool'))
    arrived p pool' e f g gp h =
        let sim' = by_pool (with_image st n image) a.log_after a.sim_after pool' st.own (λ y i. on (g y i) (λ j. inl (sub y j)) (λ z. inr z.0)) in
        let bk = w.books in
        record {
          sane = w.sane;
          state = τ;
          log = a.log_after;
          sim = sim';
          valid = valid_next pool' (λ y i. on (g y i) (λ j. w.valid.messages y (sub y j)) (λ z. z.1));
          books = record {
            pool_as = e;
            puts_true = λ y i. on (gp y i) (λ j. tells_on (onward a.grows) y (bk.puts_true y j)) (λ z. z);
            log_as = ap (log_put p) bk.log_as ∙ sym f;
            decided = decided_as p;
            present = λ i. present_on L (told p) i (st.records i) (st.records i) (objects_still (st.records i)) (same_told p) (bk.present i);
            dones = λ x i e. on (h x i e) (λ j. a.grows.g_late i x (bk.dones x i j)) (λ z. z);
            found = found_next F (next pool') τ a.log_after sim' w.valid.records
                (λ x t v q r. bk.found.still x t v q (sym (phase_as x) ∙ r))
                (λ x t v q r. let z = bk.found.carried x t v q (asked_as x r) in
                (ap (λ (c : Contents ℕ). c.found t) (contents_as x) ∙ z.0, λ u. z.1 (ap (λ (c : Contents ℕ). c.mode t) (sym (contents_as x)) ∙ u)))
                (λ x t q r. inl (subst (F x t) (ap (λ (c : Contents ℕ). c.found t) (sym (contents_as x)))
                (bk.found.had x t (asked_as x q) (λ u. r (ap (λ (c : Contents ℕ). c.mode t) (contents_as x) ∙ u)))));
          };
        }

  -- no answer
  pub silent_world : Acted st σ w.log w.sim n m k image (λ τ l'. l' ≡ w.log) → World (next pool) (told none) (More F (next pool))
  silent_world a = arrived _ a none pool refl a.told (λ y i. inl i) (λ y i. inl i) (λ x i e. inl e)

  -- an answer at the pool's end
  put_cases : (y c : List ℕ) → In y (pool ++ (c ∷ [])) → In y pool ⊎ (y ≡ c)
  put_cases y c i = on (in_append y pool (c ∷ []) i) inl (λ j. on j (λ e. inr e) (λ z. absurd z))

  done_of_lem : (c : Message) (t : Bool) (f : Tx → ℕ → Bool) (x : Tx) (i : ℕ)
      → cond t (put2 Tx-discrete ℕ_discrete f (tx_of b) (from_of (encode c)) true) f x i ≡ true
      → (f x i ≡ true) ⊎ ((t ≡ true) × (x ≡ tx_of b) × (i ≡ from_of (encode c)))
  done_of_lem c true f x i e = on (put2_cases Tx-discrete ℕ_discrete f (tx_of b) (from_of (encode c)) true x i)
      (λ z. inr (refl, z.0.0, z.0.1)) (λ z. inl (sym z.1 ∙ e))
  done_of_lem c false f x i e = inl e

  pub answer_world : (c : Message) → Acted st σ w.log w.sim n m k image (λ τ l'. Heard τ w.log l' (tx_in m) c)
      → World (next (pool ++ (encode c ∷ []))) (told (some (encode c))) (More F (next (pool ++ (encode c ∷ []))))
  answer_world c a = let z = a.told in
      arrived _ a (some (encode c)) (pool ++ (encode c ∷ [])) refl z.logs
      (λ y i. on (put_cases y (encode c) i) inl
      (λ e. inr (subst (Tells a.after.history a.after.votes a.after.sent) (sym e) z.tells, subst Bytes (sym e) z.bytes)))
      (λ y i. on (in_append y L.puts (encode c ∷ []) i) inl
      (λ j. inr (on j (λ e. subst (Tells a.after.history a.after.votes a.after.sent) (sym e) z.tells) (λ q. absurd q))))
      (λ x i e. on (done_of_lem c (is_commit b && is_done (encode c)) L.dones x i e) inl
      (λ q. inr (subst (Late a.after.ends i) (sym q.1) (subst (λ (g : ℕ). Late a.after.ends g (tx_of b)) (sym q.2)
      (subst (λ (g : ℕ). Late a.after.ends g (tx_of b)) (sym (from_of_lem c z.fits))
      (subst (Late a.after.ends c.from) (sym (tx_decoded b))
      (z.a_done_lem (sym (kind_of_lem c z.fits) ∙ eqb-true (kind_of (encode c)) 6 (and-true (is_commit b) (is_done (encode c)) q.0).1))))))))
