-- Members, ends, counts and replays of lists; and what replay in a list's order gives a member that stands there once.
use Rattle.std.specs.Prelude.{◌≡◌, refl, ◌≢◌, Bool, true, false, cond, suc, ◌≤◌}
use Rattle.std.proofs.Common.{sym, ◌∙◌, ap, subst, inl, inr, arith}
use mathlib.Core.List.{List, [], ◌∷◌, cons≢nil, head-eq_of_cons-eq, tail-eq_of_cons-eq}
use Rattle.protocol.specs.Table.{In, Suffix, AtMostOnce, select, times}
use Rattle.protocol.specs.Rules.{Object, Mode, unused, read, write}
use Rattle.protocol.specs.State.{Tx, Phase, fresh, voting, committed, aborted, History}
use Rattle.protocol.specs.Replay.{replay, given, after, turn, committed?, committed_of}
use Rattle.protocol.specs.Invariant.{committed_write, count, effect}
use Rattle.protocol.proofs.Tables.{on, Changed, pick_cases}

-- Ends of lists.

pub suffix_of_equal : {A : Type 0} (l m : List A) → l ≡ m → Suffix l m
suffix_of_equal l [] e = e
suffix_of_equal l (x ∷ m) e = inl e

pub suffix_whole : {A : Type 0} (l : List A) → Suffix l l
suffix_whole l = suffix_of_equal l l refl

pub suffix_tail : {A : Type 0} (a : A) (l m : List A) → Suffix (a ∷ l) m → Suffix l m
suffix_tail a l [] e = absurd (cons≢nil e)
suffix_tail a l (x ∷ m) (inl e) = inr (suffix_of_equal l m (tail-eq_of_cons-eq e))
suffix_tail a l (x ∷ m) (inr s) = inr (suffix_tail a l m s)

pub in_suffix : {A : Type 0} (a : A) (l m : List A) → Suffix l m → In a l → In a m
in_suffix a l [] e i = subst (In a) e i
in_suffix a l (x ∷ m) (inl e) i = subst (In a) e i
in_suffix a l (x ∷ m) (inr s) i = inr (in_suffix a l m s i)

pub suffix_trans : {A : Type 0} (k l m : List A) → Suffix k l → Suffix l m → Suffix k m
suffix_trans k l [] s e = subst (Suffix k) e s
suffix_trans k l (x ∷ m) s (inl e) = subst (Suffix k) e s
suffix_trans k l (x ∷ m) s (inr t) = inr (suffix_trans k l m s t)

-- A member stands in front of some end.
pub in_front : {A : Type 0} (a : A) (l : List A) → In a l → (m : List A) × Suffix (a ∷ m) l
in_front a (x ∷ l) (inl e) = (l, inl (ap (λ y. y ∷ l) e))
in_front a (x ∷ l) (inr i) = let z = in_front a l i in (z.0, inr z.1)
in_front a [] i = absurd i

-- Counts and replays read only the members of their list.

pub count_ext : (w w' : Tx → Object → Bool) (l : List Tx) (o : Object) → ((x : Tx) → In x l → w' x o ≡ w x o) → count w' l o ≡ count w l o
count_ext w w' [] o h = refl
count_ext w w' (x ∷ l) o h = rw (h x (inl refl), count_ext w w' l o (λ y m. h y (inr m)))

-- Two replays are equal where each turn makes the same of the value that it finds.
pub replay_turns : {X A : Type 0} (z : A) (f f' : X → Object → A → A) (l : List X) (o : Object)
    → ((x : X) (m : List X) → Suffix (x ∷ m) l → f' x o (replay z f m o) ≡ f x o (replay z f m o)) → replay z f' l o ≡ replay z f l o
replay_turns z f f' [] o h = refl
replay_turns z f f' (x ∷ l) o h = ap (f' x o) (replay_turns z f f' l o (λ y m s. h y m (inr s))) ∙ h x l (inl refl)

pub replay_ext : {X A : Type 0} (z : A) (f f' : X → Object → A → A) (l : List X) (o : Object)
    → ((x : X) → In x l → (a : A) → f' x o a ≡ f x o a) → replay z f' l o ≡ replay z f l o
replay_ext z f f' l o h = replay_turns z f f' l o (λ x m s. h x (in_suffix x (x ∷ m) l s (inl refl)) (replay z f m o))

pub count_suffix : (w : Tx → Object → Bool) (l m : List Tx) (o : Object) → Suffix l m → count w l o ≤ count w m o
count_suffix w l [] o e = rw e (omega arith)
count_suffix w l (x ∷ m) o (inl e) = rw e (omega arith)
count_suffix w l (x ∷ m) o (inr s) = let k = count_suffix w l m o s in go (w x o) k
  where
    go : (b : Bool) → count w l o ≤ count w m o → count w l o ≤ cond b (suc (count w m o)) (count w m o)
    go true k = omega arith
    go false k = k

-- Standing once.

module _ {A : Type 0} (d : Discrete A) where
  pub times_none : (a : A) (l : List A) → (In a l → ⊥) → times d a l ≡ 0
  times_none a [] n = refl
  times_none a (x ∷ l) n = on (pick_cases (d a x) (suc (times d a l)) (times d a l))
      (λ z. absurd (n (inl z.0)))
      (λ z. z.1 ∙ times_none a l (λ i. n (inr i)))

  pub times_once : (a : A) (l : List A) → In a l → AtMostOnce a l → times d a l ≡ 1
  times_once a [] i once = absurd i
  times_once a (x ∷ l) i once = on (pick_cases (d a x) (suc (times d a l)) (times d a l))
      (λ z. z.1 ∙ ap suc (times_none a l (once l (inl (ap (λ y. y ∷ l) z.0)))))
      (λ z. z.1 ∙ times_once a l (on i (λ e. absurd (z.0 e)) (λ j. j)) (λ m s. once m (inr s)))

  -- what replay gives to one that stands once is what is held after those before it
  pub given_at_lem : {B : Type 0} (z : B) (f : A → Object → B → B) (a : A) (l m : List A) (o : Object)
      → Suffix (a ∷ m) l → AtMostOnce a l → given d z f a l o ≡ replay z f m o
  given_at_lem z f a [] m o s once = absurd (cons≢nil s)
  given_at_lem z f a (x ∷ l) m o (inl e) once = on (pick_cases (d a x) (replay z f l o) (given d z f a l o))
      (λ y. y.1 ∙ ap (λ k. replay z f k o) (sym (tail-eq_of_cons-eq e)))
      (λ y. absurd (y.0 (head-eq_of_cons-eq e)))
  given_at_lem z f a (x ∷ l) m o (inr s) once = on (pick_cases (d a x) (replay z f l o) (given d z f a l o))
      (λ y. absurd (once l (inl (ap (λ k. k ∷ l) y.0)) (in_suffix a (a ∷ m) l s (inl refl))))
      (λ y. y.1 ∙ given_at_lem z f a l m o s (λ k t. once k (inr t)))

  pub given_ext : {B : Type 0} (z : B) (f f' : A → Object → B → B) (a : A) (l : List A) (o : Object)
      → ((x : A) → In x l → (b : B) → f' x o b ≡ f x o b) → given d z f' a l o ≡ given d z f a l o
  given_ext z f f' a [] o h = refl
  given_ext z f f' a (x ∷ l) o h = rw (replay_ext z f f' l o (λ y i. h y (inr i)), given_ext z f f' a l o (λ y i. h y (inr i)))

-- Who is no committed writer.

pub not_committed : (p : Phase) (m : Mode) → p ≢ committed → committed_write p m ≡ false
not_committed fresh m n = refl
not_committed voting m n = refl
not_committed aborted m n = refl
not_committed committed m n = absurd (n refl)

pub not_written : (p : Phase) (m : Mode) → m ≢ write → committed_write p m ≡ false
not_written fresh m n = refl
not_written voting m n = refl
not_written aborted m n = refl
not_written committed unused n = refl
not_written committed read n = refl
not_written committed write n = absurd (n refl)

-- The members that are selected.

module _ {A : Type 0} {P : A → Type 0} (d : (a : A) → Dec (P a)) where
  pub select_cases : (x : A) (l : List A) → Changed (P x) (select d (x ∷ l)) (x ∷ select d l) (select d l)
  select_cases x l = pick_cases (d x) (x ∷ select d l) (select d l)

  pub in_select : (l : List A) (a : A) → In a (select d l) → In a l × P a
  in_select (x ∷ l) a i = on (select_cases x l)
      (λ z. let j : In a (x ∷ select d l) = subst (In a) z.1 i in
      on j (λ e. (inl e, subst P (sym e) z.0)) (λ k. let r = in_select l a k in (inr r.0, r.1)))
      (λ z. let r = in_select l a (subst (In a) z.1 i) in (inr r.0, r.1))
  in_select [] a i = absurd i

  pub select_in : (l : List A) (a : A) → P a → In a l → In a (select d l)
  select_in (x ∷ l) a p i = on (select_cases x l)
      (λ z. subst (In a) (sym z.1) (on i (λ e. inl e) (λ j. inr (select_in l a p j))))
      (λ z. subst (In a) (sym z.1) (on i (λ e. absurd (z.0 (subst P e p))) (λ j. select_in l a p j)))
  select_in [] a p i = i

  -- in front of an end of the selected ones stands who stands in front of an end of the list
  pub in_front_of_select : (a : A) (k l : List A) → Suffix (a ∷ k) (select d l) → (m : List A) × Suffix (a ∷ m) l × (k ≡ select d m)
  in_front_of_select a k [] s = absurd (cons≢nil s)
  in_front_of_select a k (x ∷ l) s = on (select_cases x l)
      (λ z. let r : Suffix (a ∷ k) (x ∷ select d l) = subst (Suffix (a ∷ k)) z.1 s in
      on r
      (λ e. (l, inl (ap (λ u. u ∷ l) (head-eq_of_cons-eq e)), tail-eq_of_cons-eq e))
      (λ q. let w = in_front_of_select a k l q in (w.0, inr w.1, w.2)))
      (λ z. let w = in_front_of_select a k l (subst (Suffix (a ∷ k)) z.1 s) in (w.0, inr w.1, w.2))

  -- and the other way
  pub select_in_front : (a : A) (m l : List A) → P a → Suffix (a ∷ m) l → Suffix (a ∷ select d m) (select d l)
  select_in_front a m [] p s = absurd (cons≢nil s)
  select_in_front a m (x ∷ l) p s = on (select_cases x l)
      (λ z. subst (Suffix (a ∷ select d m)) (sym z.1) (on s
      (λ e. inl (rw (head-eq_of_cons-eq e, tail-eq_of_cons-eq e)))
      (λ t. inr (select_in_front a m l p t))))
      (λ z. subst (Suffix (a ∷ select d m)) (sym z.1) (on s
      (λ e. absurd (z.0 (subst P (head-eq_of_cons-eq e) p)))
      (λ t. select_in_front a m l p t)))

  pub select_once : (a : A) (l : List A) → AtMostOnce a l → AtMostOnce a (select d l)
  select_once a l once k s i = let z = in_front_of_select a k l s in once z.0 z.1 (in_select z.0 a (subst (In a) z.2 i)).0

  pub select_all : (l : List A) → ((a : A) → In a l → P a) → select d l ≡ l
  select_all [] c = refl
  select_all (x ∷ l) c = on (select_cases x l)
      (λ z. z.1 ∙ ap (λ k. x ∷ k) (select_all l (λ y i. c y (inr i))))
      (λ z. absurd (z.0 (c x (inl refl))))

-- Two questions with the same answers select the same.
pub select_ext : {A : Type 0} {P Q : A → Type 0} (d : (a : A) → Dec (P a)) (e : (a : A) → Dec (Q a)) (l : List A)
    → ((a : A) → In a l → (P a → Q a) × (Q a → P a)) → select d l ≡ select e l
select_ext d e [] h = refl
select_ext d e (x ∷ l) h = let ih = select_ext d e l (λ a i. h a (inr i)) in let hx = h x (inl refl) in on (select_cases d x l)
    (λ y. on (select_cases e x l) (λ z. y.1 ∙ ap (λ k. x ∷ k) ih ∙ sym z.1) (λ z. absurd (z.0 (hx.0 y.0))))
    (λ y. on (select_cases e x l) (λ z. absurd (y.0 (hx.1 z.0))) (λ z. y.1 ∙ ih ∙ sym z.1))

-- The effects of a list are the turns of its committed members.
pub replay_committed_of : {A : Type 0} (h : History A) (z : A) (l : List Tx) (o : Object)
    → replay z (effect h) l o ≡ replay z (turn h.contents) (committed_of h l) o
replay_committed_of h z [] o = refl
replay_committed_of {A} h z (x ∷ l) o = on (select_cases (committed? h) x l)
    (λ y. rw (y.1, y.0)
    (same ((h.contents x).mode o) ((h.contents x).new o) (replay z (effect h) l o) ∙ ap (turn h.contents x o) (replay_committed_of h z l o)))
    (λ y. rw (y.1, not_committed (h.phase x) ((h.contents x).mode o) y.0) (replay_committed_of h z l o))
  where
    same : (m : Mode) (new a : A) → cond (committed_write committed m) new a ≡ after m new a
    same unused new a = refl
    same read new a = refl
    same write new a = refl
