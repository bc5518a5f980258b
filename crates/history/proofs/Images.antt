-- What a replica's step makes of an image, as the rows that a transition changes: from the laws of crate replica, field by field, at every number.
use mathlib.Core.Path.{◌≡◌, refl, sym, ◌∙◌, ap, ap₂, subst}
use mathlib.Core.Logic.{inl, inr}
use mathlib.Core.Bool.{Bool, true, false, cond, not, ◌&&◌, ◌||◌}
use mathlib.Core.List.{List, [], ◌∷◌}
use mathlib.Core.Option.{Option, none, some}
use Prim.Native.Nat.{ℕ, ◌<◌, ◌≤◌}
use native.Mathlib.Omega.{arith}
use lib.Dec.{eqb, ltb}
use borrow.Author.Tests.{eqb-true, eqb-false, eq-eqb, ne_eqb, lt-ltb, le-ltb, ltb-true}
use Rattle.numbers.specs.Sizes.{nodes, nobody, unknown, objects}
use Rattle.wire.specs.declared.Entry.{Entry}
use Rattle.wire.specs.Formed.{every, entry_ok}
use Rattle.wire.specs.Encode.{All}
use Rattle.image.specs.declared.Copy.{Copy}
use Rattle.image.specs.declared.Field.{Field}
use Rattle.image.specs.declared.Owner.{Owner}
use Rattle.image.specs.Field.{field_of}
use Rattle.image.specs.Layout.{shape, value_field, version_field, holder_field, serial_field, state_field, value, version, holder, serial, state, copy_of}
use Rattle.image.specs.Layout.{author_field, author_serial_field, author, author_serial, owner_of}
use Rattle.image.specs.Change.{freeing}
use Rattle.image.proofs.Each.{lt_or_le}
use Rattle.image.proofs.Lens.{of_out}
use Rattle.replica.proofs.Fields.{writes_to, mark_in}
use Rattle.replica.proofs.Holders.{writes_in}
use Rattle.protocol.specs.Table.{In}
use Rattle.protocol.specs.Rules.{read, write}
use Rattle.protocol.specs.State.{Contents}
use Rattle.protocol.specs.Proof.Tables.{clash}
use Rattle.protocol.proofs.Tables.{on}
use Rattle.protocol.specs.Refine.Authors.{unwritten, lost, by}
use Rattle.history.proofs.Tests.{and-true, or-true}
use Rattle.history.proofs.Sim.{holder_of, tx, signer, author_of, mode_of, Match}
use Rattle.history.proofs.Rows.{SameCopies, SameHolders, OneOwner, FreedHolders}

-- a field that is the same at every item is the same at every number: past the items it reads 0
pub same_field : (f : Field) (l k : List ℕ) → ((t : ℕ) → t < f.items → field_of f k t ≡ field_of f l t) → (t : ℕ) → field_of f k t ≡ field_of f l t
same_field f l k h t = on (lt_or_le t f.items) (λ p. h t p) (λ p. of_out f k t p ∙ sym (of_out f l t p))

-- what a commit writes of a copy
pub record Content : Type 0 where
  pub value : ℕ
  pub version : ℕ
  pub author : ℕ
  pub serial : ℕ

abbrev pub content_of : Copy → Content
content_of c = record { value = c.value; version = c.version; author = c.author; serial = c.serial }

-- an author whose owner and serial are the same is read the same; one of an object that is not there is nobody
pub same_author : (l k : List ℕ) (t : ℕ) → author k t ≡ author l t → author_serial k t ≡ author_serial l t → author_of k t ≡ author_of l t
same_author l k t e f = ap₂ (λ (a s : ℕ). cond (ltb t objects) (signer a s) unwritten) e f

pub author_out : (l : List ℕ) (t : ℕ) → objects ≤ t → author_of l t ≡ unwritten
author_out l t p = rw (le-ltb t objects p)

pub author_none : (l : List ℕ) (t : ℕ) → author l t ≡ nobody → author_of l t ≡ unwritten
author_none l t e = go (ltb t objects)
  where
    go : (b : Bool) → cond b (signer (author l t) (author_serial l t)) unwritten ≡ unwritten
    go true = rw (eq-eqb (author l t) nobody e)
    go false = refl

pub author_lost : (l : List ℕ) (t : ℕ) → t < objects → author l t ≡ unknown → author_of l t ≡ lost
author_lost l t p e = rw (lt-ltb t objects p, e)

pub author_by : (l : List ℕ) (t o s : ℕ) → t < objects → o < nodes → author l t ≡ o → author_serial l t ≡ s → author_of l t ≡ by (tx o s)
author_by l t o s p small e f =
    rw (lt-ltb t objects p, e, f, ne_eqb o nobody (λ q. let z : ⊥ = omega arith in z), ne_eqb o unknown (λ q. let z : ⊥ = omega arith in z))

module _ (l k : List ℕ) where
  -- copies with the same content
  pub copies_from : ((t : ℕ) → t < shape.objects → content_of (copy_of k t) ≡ content_of (copy_of l t)) → SameCopies l k
  unfolding copy_of
  copies_from h =
      record {
        versions = same_field (version_field shape) l k (λ t p. ap (λ (c : Content). c.version) (h t p));
        values = same_field (value_field shape) l k (λ t p. ap (λ (c : Content). c.value) (h t p));
        authors = λ t. same_author l k t (same_field (author_field shape) l k (λ t p. ap (λ (c : Content). c.author) (h t p)) t)
            (same_field (author_serial_field shape) l k (λ t p. ap (λ (c : Content). c.serial) (h t p)) t);
      }

  pub holders_from : ((t : ℕ) → t < shape.objects → (copy_of k t).holder ≡ (copy_of l t).holder) → SameHolders l k
  unfolding copy_of
  holders_from h = same_field (holder_field shape) l k h

  -- one owner w, the others as they were
  pub owner_from : (o : ℕ) (w : Owner) → o < nodes
      → ((p : ℕ) → p < nodes → owner_of k p ≡ cond (eqb p o) w (owner_of l p)) → OneOwner l k o w.serial w.state
  unfolding owner_of
  owner_from o w small h = record {
    its_serial = ap (λ (x : Owner). x.serial) here;
    its_state = ap (λ (x : Owner). x.state) here;
    serials = λ p e. on (lt_or_le p nodes) (λ q. ap (λ (x : Owner). x.serial) (else p q e)) (λ q. of_out (serial_field shape) k p q
        ∙ sym (of_out (serial_field shape) l p q));
    states = λ p e. on (lt_or_le p nodes) (λ q. ap (λ (x : Owner). x.state) (else p q e)) (λ q. of_out (state_field shape) k p q
        ∙ sym (of_out (state_field shape) l p q));
  }
    where
      here : owner_of k o ≡ w
      here = h o small ∙ ap (λ (b : Bool). cond b w (owner_of l o)) (eq-eqb o o refl)

      else : (p : ℕ) → p < nodes → (p ≡ o → ⊥) → owner_of k p ≡ owner_of l p
      else p q e = h p q ∙ ap (λ (b : Bool). cond b w (owner_of l p)) (ne_eqb p o e)

-- ---- holders
-- a holder as it is read
abbrev read_holder : ℕ → ℕ → Option ℕ
read_holder t h = cond (ltb t objects) (cond (eqb h nobody) none (some h)) none

pub holder_some : (t w : ℕ) → t < objects → (w ≡ nobody → ⊥) → cond (ltb t objects) (cond (eqb w nobody) none (some w)) none ≡ some w
holder_some t w p e = rw (lt-ltb t objects p, ne_eqb w nobody e)

pub holder_none : (t h : ℕ) → h ≡ nobody → cond (ltb t objects) (cond (eqb h nobody) none (some h)) none ≡ none
holder_none t h e = by (ltb t objects) (eqb h nobody) (eq-eqb h nobody e)
  where
    by : (a b : Bool) → b ≡ true → ◌≡◌ {A = Option ℕ} (cond a (cond b none (some h)) none) none
    by true true q = refl
    by true false q = absurd (let z : false ≡ true = q in clash (cc))
    by false b q = refl

some_is : {a b : ℕ} → ◌≡◌ {A = Option ℕ} (some a) (some b) → a ≡ b
some_is e = cc

none_some : {a : ℕ} → ◌≡◌ {A = Option ℕ} none (some a) → ⊥
none_some e = clash (cc)

freed_by : (a b c : Bool) (h w : ℕ) → eqb h nobody ≡ b → eqb h w ≡ c → (w ≡ nobody → ⊥)
    → (cond a (cond b none (some h)) none ≡ some w → cond a (cond (eqb (cond c nobody h) nobody) none (some (cond c nobody h))) none ≡ none)
    × ((cond a (cond b none (some h)) none ≡ some w → ⊥)
    → cond a (cond (eqb (cond c nobody h) nobody) none (some (cond c nobody h))) none ≡ cond a (cond b none (some h)) none)
freed_by false b c h w p q n = ((λ e. refl), (λ e. refl))
freed_by true true true h w p q n = ((λ e. refl), (λ e. refl))
freed_by true true false h w p q n = ((λ e. absurd (none_some e)), (λ e. rw p))
freed_by true false true h w p q n = ((λ e. refl), (λ e. absurd (e (ap some (eqb-true h w q)))))
freed_by true false false h w p q n = ((λ e. absurd (eqb-false h w q (some_is e))), (λ e. rw p))

pub freed_from : (l k : List ℕ) (w : ℕ) → w < nodes → ((t : ℕ) → t < shape.objects → (copy_of k t).holder ≡ freeing w (copy_of l t).holder)
    → FreedHolders l k w
unfolding copy_of
freed_from l k w small h = record { its = λ t. (both t).0; other = λ t. (both t).1 }
  where
    big : w ≡ nobody → ⊥
    big e = let z : ⊥ = omega (arith, small, e) in z

    below : (t : ℕ) → t < objects → (holder_of l t ≡ some w → holder_of k t ≡ none) × ((holder_of l t ≡ some w → ⊥) → holder_of k t ≡ holder_of l t)
    below t p =
        let z = freed_by (ltb t objects) (eqb (holder l t) nobody) (eqb (holder l t) w) (holder l t) w refl refl big in
        let f : holder_of k t ≡ read_holder t (freeing w (holder l t)) = ap (read_holder t) (h t p) in
        ((λ e. f ∙ z.0 e), (λ e. f ∙ z.1 e))

    above : (t : ℕ) → objects ≤ t → (holder_of l t ≡ some w → holder_of k t ≡ none) × ((holder_of l t ≡ some w → ⊥) → holder_of k t ≡ holder_of l t)
    above t p = let e = le-ltb t objects p in (
      (λ q. ap (λ (b : Bool). cond b (cond (eqb (holder k t) nobody) none (some (holder k t))) none) e),
      (λ q. ap (λ (b : Bool). cond b (cond (eqb (holder k t) nobody) none (some (holder k t))) none) e
          ∙ sym (ap (λ (b : Bool). cond b (cond (eqb (holder l t) nobody) none (some (holder l t))) none) e)),
    )

    both : (t : ℕ) → (holder_of l t ≡ some w → holder_of k t ≡ none) × ((holder_of l t ≡ some w → ⊥) → holder_of k t ≡ holder_of l t)
    both t = on (lt_or_le t objects) (below t) (above t)

-- ---- what the entries write
pub all_in : (P : Entry → Type 0) (es : List Entry) → All P es → (e : Entry) → In e es → P e
all_in P [] a e i = absurd i
all_in P (x ∷ es) a e (inl q) = subst P (sym q) a.0
all_in P (x ∷ es) a e (inr i) = all_in P es a.1 e i

writes_entry : (t : ℕ) (es : List Entry) → writes_in es t ≡ true → (e : Entry) × In e es × (writes_to e t ≡ true)
unfolding Rattle.judge.specs.Judge.some
writes_entry t [] w = absurd (let z : false ≡ true = w in clash (cc))
writes_entry t (x ∷ es) w = on (or-true (writes_to x t) (writes_in es t) w)
    (λ q. (x, inl refl, q)) (λ q. let r = writes_entry t es q in (r.0, inr r.1, r.2))

entry_writes : (t : ℕ) (es : List Entry) (e : Entry) → In e es → writes_to e t ≡ true → writes_in es t ≡ true
unfolding Rattle.judge.specs.Judge.some
entry_writes t [] e i w = absurd i
entry_writes t (x ∷ es) e (inl q) w = ap (λ (b : Bool). b || writes_in es t) (ap (λ (y : Entry). writes_to y t) (sym q) ∙ w)
entry_writes t (x ∷ es) e (inr i) w = last_true (writes_to x t) (writes_in es t) (entry_writes t es e i w)
  where
    last_true : (a b : Bool) → b ≡ true → (a || b) ≡ true
    last_true true b q = refl
    last_true false b q = q

-- an entry's mode: not 0 is a write
mode_write : (m : ℕ) → mode_of m ≡ write → eqb m 0 ≡ false
mode_write m = by (eqb m 0)
  where
    by : (b : Bool) → cond b read write ≡ write → b ≡ false
    by true e = absurd (clash (cc))
    by false e = refl

module _ (k : Contents ℕ) (es : List Entry) (match : Match k es) (t : ℕ) where
  -- the entry that writes an object that is written
  pub its_entry : k.mode t ≡ write → (e : Entry) × In e es × (e.object ≡ t) × (eqb e.mode 0 ≡ false)
  its_entry w =
      let z = match.lists t (λ q. let r = w in clash (cc)) in
      let a : mode_of z.0.mode ≡ write = sym (match.mode_as z.0 z.1) ∙ ap k.mode z.2 ∙ w in
      (z.0, z.1, z.2, mode_write z.0.mode a)

  pub written_in : k.mode t ≡ write → writes_in es t ≡ true
  written_in w =
      let z = its_entry w in
      entry_writes t es z.0 z.1 (ap (λ (b : Bool). not b && eqb t z.0.object) z.3 ∙ eq-eqb t z.0.object (sym z.2))

  pub in_written : writes_in es t ≡ true → k.mode t ≡ write
  in_written w =
      let z = writes_entry t es w in
      let a = and-true (not (eqb z.0.mode 0)) (eqb t z.0.object) z.2 in
      ap k.mode (eqb-true t z.0.object a.1) ∙ match.mode_as z.0 z.1 ∙ is_write_lem (eqb z.0.mode 0) a.0
    where
      is_write_lem : (b : Bool) → not b ≡ true → cond b read write ≡ write
      is_write_lem true e = absurd (let z : false ≡ true = e in clash (cc))
      is_write_lem false e = refl

  pub not_in : (k.mode t ≡ write → ⊥) → writes_in es t ≡ false
  not_in n = by (writes_in es t) refl
    where
      by : (b : Bool) → writes_in es t ≡ b → b ≡ false
      by true e = absurd (n (in_written e))
      by false e = refl

-- what is marked with o: the holder after a yes, the author after a commit
abbrev Taking : ℕ → ℕ → List Entry → ℕ → Type 0
Taking o t es h = (writes_in es t ≡ true → mark_in o es t h ≡ o) × (writes_in es t ≡ false → mark_in o es t h ≡ h)

mark_in_lem : (o t : ℕ) (es : List Entry) (h : ℕ) → Taking o t es h
unfolding Rattle.judge.specs.Judge.some mark_in
mark_in_lem o t [] h = ((λ e. absurd (let z : false ≡ true = e in clash (cc))), (λ e. refl))
mark_in_lem o t (x ∷ es) h = by (writes_to x t) (writes_in es t) refl (mark_in_lem o t es)
  where
    at_end : (b : Bool) → writes_in es t ≡ b → Taking o t es o → mark_in o es t o ≡ o
    at_end true e r = r.0 e
    at_end false e r = r.1 e

    by : (a b : Bool) → writes_in es t ≡ b → ((g : ℕ) → Taking o t es g)
        → ((a || b) ≡ true → mark_in o es t (cond a o h) ≡ o) × ((a || b) ≡ false → mark_in o es t (cond a o h) ≡ h)
    by true b e r = ((λ q. at_end b e (r o)), (λ q. absurd (let z : true ≡ false = q in clash (cc))))
    by false b e r = ((λ q. (r h).0 (e ∙ q)), (λ q. (r h).1 (e ∙ q)))

pub mark_taken : (o t : ℕ) (es : List Entry) (h : ℕ) → writes_in es t ≡ true → mark_in o es t h ≡ o
mark_taken o t es h = (mark_in_lem o t es h).0

pub mark_left : (o t : ℕ) (es : List Entry) (h : ℕ) → writes_in es t ≡ false → mark_in o es t h ≡ h
mark_left o t es h = (mark_in_lem o t es h).1

-- the objects of a message's entries
pub small_object : (kind : ℕ) (es : List Entry) → every (entry_ok kind) es ≡ true → (e : Entry) → In e es → e.object < objects
unfolding entry_ok
small_object kind [] w e i = absurd i
small_object kind (x ∷ es) w e (inl q) =
    let f = (and-true (entry_ok kind x) (every (entry_ok kind) es) w).0 in
    subst (λ (y : Entry). y.object < objects) (sym q) (ltb-true x.object objects (and-true (ltb x.object objects) _ f).0)
small_object kind (x ∷ es) w e (inr i) = small_object kind es (and-true (entry_ok kind x) (every (entry_ok kind) es) w).1 e i
