-- A loop over the places marks where each object stands, and a loop over the objects gathers the entries into an array and a count.
use mathlib.Core.Path.{◌≡◌, refl, sym, ap, subst, ◌∙◌}
use mathlib.Core.Bool.{Bool, true, false, ◌&&◌}
use mathlib.Core.List.{List, [], ◌∷◌, ◌++◌}
use Prim.Native.Nat.{ℕ, ◌+◌, ◌<◌}
use native.Mathlib.Numerals.{add-one}
use native.Mathlib.Omega.{arith}
use lib.Dec.{ltb}
use borrow.Author.Tests.{ltb-true}
use lib.ListN.{length, get_or, drop, set, replicate, length-append, get_or-replicate}
use lib.Seq.{take-suc-set}
use Rattle.numbers.specs.Sizes.{objects as objectsEnd, most_open}
use Rattle.wire.specs.declared.Entry.{Entry}
use Rattle.letters.specs.Write.{first_entries}
use Rattle.letters.proofs.Sending.{entries_take}
use Rattle.coordinator.specs.declared.Object.{Object}
use Rattle.coordinator.specs.declared.Coordinator.{Coordinator}
use Rattle.coordinator.specs.State.{no_object, across, here_else, place_in, place_of, object_at, is_open}
use Rattle.coordinator.proofs.Across.{across_start}
use Rattle.due.specs.declared.Gathered.{Gathered}
use Rattle.due.specs.Gather.{Lists}
use Rattle.due.specs.Due.{entry_for, with_next, entries_below}

-- an entry put behind those that are there
pub one_more : (g : Gathered) (e : Entry) (es : List Entry) → length g.entries ≡ most_open → g.count < most_open → Lists g es
    → Lists (record { entries = set g.entries g.count e; count = g.count + 1 }) (es ++ (e ∷ []))
one_more g e es full h l =
    record {
      same = rw add-one (take-suc-set g.entries g.count e (omega arith) ∙ ap (λ (x : List Entry). x ++ (e ∷ [])) l.same);
      count = simp length-append (omega (arith, l.count));
      room = omega arith;
    }

-- the next object: open and with room, or not
module _ (c : Coordinator) (n : ℕ) (g r : Gathered) (es : List Entry) (l : Lists g es) where
  pub next_taken : (is_open c n && ltb g.count most_open) ≡ true → Lists r (es ++ (entry_for (object_at c n) ∷ [])) → Lists r (with_next c n es)
  unfolding with_next
  next_taken t m = let u : (is_open c n && ltb (length es) most_open) ≡ true = ap (λ (k : ℕ). is_open c n && ltb k most_open) (sym l.count) ∙ t in simp u m

  pub next_left : (is_open c n && ltb g.count most_open) ≡ false → Lists g (with_next c n es)
  unfolding with_next
  next_left t = let u : (is_open c n && ltb (length es) most_open) ≡ false = ap (λ (k : ℕ). is_open c n && ltb k most_open) (sym l.count) ∙ t in simp u l

-- all of them, as a writer takes them
pub listed_all : (g : Gathered) (es : List Entry) → Lists g es → first_entries g.count g.entries ≡ es
listed_all g es l = entries_take g.count g.entries (ap length l.same ∙ sym l.count) ∙ l.same

-- the second of two tests that hold
pub second_fits : (a : Bool) (k n : ℕ) → (a && ltb k n) ≡ true → k < n
second_fits true k n t = ltb-true k n t
second_fits false k n t = absurd (let z : ◌≡◌ {A = ℕ} 0 1 = cc in let w : ⊥ = omega arith in w)

pub below_none : (c : Coordinator) → entries_below c 0 ≡ []
unfolding entries_below
below_none c = refl

pub below_more : (c : Coordinator) (n : ℕ) → entries_below c (n + 1) ≡ with_next c n (entries_below c n)
unfolding entries_below
below_more c n = ap (entries_below c) (add-one n)

-- ---- where each object stands, looked for from place i on
abbrev pub Marks : List ℕ → List Object → ℕ → ℕ → Type 0
Marks places objects count i = (n : ℕ) → n < objectsEnd → get_or places n 0 ≡ across (here_else n count) most_open i (drop i objects)

pub marks_start : (objects : List Object) (count : ℕ) → length objects ≡ most_open → Marks (replicate objectsEnd most_open) objects count most_open
marks_start objects count e n h = get_or-replicate objectsEnd n most_open 0 h
    ∙ sym (across_start (here_else n count) most_open objects most_open (omega arith))

pub marks_whole : (places : List ℕ) (objects : List Object) (count : ℕ) → Marks places objects count 0
    → (n : ℕ) → n < objectsEnd → get_or places n 0 ≡ place_in objects count n
unfolding place_in
marks_whole places objects count m n h = m n h

-- ---- the entries of the objects below n, for every record with these objects at these places
abbrev pub Gathers : List Object → List ℕ → List Entry → ℕ → ℕ → Type 0
Gathers objects places entries count n =
    (c : Coordinator) → c.objects ≡ objects → ((k : ℕ) → k < objectsEnd → get_or places k 0 ≡ place_of c k)
    → Lists (record { entries = entries; count = count }) (entries_below c n)

pub gathers_none : (objects : List Object) (places : List ℕ) (entries : List Entry) → Gathers objects places entries 0 0
gathers_none objects places entries c e f =
    subst (Lists (record { entries = entries; count = 0 })) (sym (below_none c)) (record { same = refl; count = refl; room = omega arith })

module _ (objects : List Object) (places : List ℕ) (entries : List Entry) (count n p : ℕ) (h : n < objectsEnd) (at : p ≡ get_or places n 0)
    (l : Gathers objects places entries count n) where
  test : (c : Coordinator) → ((k : ℕ) → k < objectsEnd → get_or places k 0 ≡ place_of c k) → (b : Bool) → (ltb p most_open && ltb count most_open) ≡ b
      → (is_open c n && ltb count most_open) ≡ b
  test c f b t = ap (λ (k : ℕ). ltb k most_open && ltb count most_open) (sym (at ∙ f n h)) ∙ t

  pub gathers_more : (e : Entry) → length entries ≡ most_open → (ltb p most_open && ltb count most_open) ≡ true → e ≡ entry_for (get_or objects p no_object)
      → Gathers objects places (set entries count e) (count + 1) (n + 1)
  gathers_more e full t same c o f =
      let g : Gathered = record { entries = entries; count = count } in
      let r : Gathered = record { entries = set entries count e; count = count + 1 } in
      let es = entries_below c n in
      let x : e ≡ entry_for (object_at c n) =
      same ∙ ap (λ (k : ℕ). entry_for (get_or objects k no_object)) (at ∙ f n h)
      ∙ ap (λ (y : List Object). entry_for (get_or y (place_of c n) no_object)) (sym o) in
      let m : Lists r (es ++ (e ∷ [])) = one_more g e es full (second_fits (ltb p most_open) count most_open t) (l c o f) in
      subst (Lists r) (sym (below_more c n))
      (next_taken c n g r es (l c o f) (test c f true t) (subst (λ (y : Entry). Lists r (es ++ (y ∷ []))) x m))

  pub gathers_same : (ltb p most_open && ltb count most_open) ≡ false → Gathers objects places entries count (n + 1)
  gathers_same t c o f =
      let g : Gathered = record { entries = entries; count = count } in
      subst (Lists g) (sym (below_more c n)) (next_left c n g g (entries_below c n) (l c o f) (test c f false t))
