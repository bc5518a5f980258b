-- What is stored of one owner may change while no copy names it: then only the owner's own clauses are asked. Where its state says so, no copy does.
use mathlib.Core.Path.{◌≡◌, sym, ap, ◌∙◌, subst}
use mathlib.Core.List.{List}
use mathlib.Core.Logic.{inl, inr, ⊎_elim}
use Prim.Native.Nat.{ℕ, ◌^◌, ◌<◌, ◌≤◌}
use native.Mathlib.Omega.{arith}
use lib.Dec.{T}
use lib.ListN.{length}
use Rattle.numbers.specs.Sizes.{nodes, nobody}
use Rattle.mask.specs.Mask.{contains}
use Rattle.image.specs.declared.Field.{Field}
use Rattle.image.specs.Field.{field_of, with_field}
use Rattle.image.specs.Layout.{shape, image_size, object_count, owner_count, holder_field, readers_field, writers_field}
use Rattle.image.specs.Layout.{author_field, author_serial_field, serial_field, state_field, stamp_field}
use Rattle.image.specs.Layout.{holder, readers, writers, author, author_serial, serial, state, stamp}
use Rattle.image.specs.Valid.{listed, held}
use Rattle.image.specs.Change.{with_serial, with_state, with_owner, free, unlist}
use Rattle.image.proofs.Each.{same_or_not}
use Rattle.image.proofs.Lens.{apart, together, length_with, of_with, of_with_item, of_with_apart, bytes_with_lem}
use Rattle.image.proofs.Sound.{Sound, OwnerSound}
use Rattle.octets.proofs.Laws.{Bytes}
use Rattle.image.proofs.Keep.{same_authors}
use Rattle.image.proofs.Whole.{free_same, unlist_same, free_none, unlist_apart, unlist_no_reader, unlist_no_writer, keeps_free}

-- o holds no copy and is in no list
pub record Idle (l : List ℕ) (o : ℕ) : Type 0 where
  pub holds : (t : ℕ) → t < shape.objects → holder l t ≡ o → ⊥
  pub reads : (t : ℕ) → t < shape.objects → T (contains (readers l t) o) → ⊥
  pub writes : (t : ℕ) → t < shape.objects → T (contains (writers l t) o) → ⊥

-- ---- what its state says of an owner
module _ (l : List ℕ) (o : ℕ) (s : Sound l) (small : o < nodes) where
  pub not_holding : (state l o ≡ held → ⊥) → (t : ℕ) → t < shape.objects → holder l t ≡ o → ⊥
  not_holding ne t k e =
      ⊎_elim (λ (p : holder l t ≡ nobody). omega arith) (λ p. ne (sym (ap (state l) e) ∙ p.1)) (s.clauses.copies_sound t k).holding

  pub not_reading : (state l o ≡ listed → ⊥) → (t : ℕ) → t < shape.objects → T (contains (readers l t) o) → ⊥
  not_reading ne t k c = ne ((s.clauses.copies_sound t k).reading o c).1

  pub not_writing : (state l o ≡ listed → ⊥) → (t : ℕ) → t < shape.objects → T (contains (writers l t) o) → ⊥
  not_writing ne t k c = ne ((s.clauses.copies_sound t k).writing o c).1

  -- so there is nothing to free, or to strike
  pub free_unless_held : Bytes l → (state l o ≡ held → ⊥) → free l o ≡ l
  free_unless_held b ne = free_same l o b (not_holding ne)

  pub unlist_unless_listed : Bytes l → (state l o ≡ listed → ⊥) → unlist l o ≡ l
  unlist_unless_listed b ne = unlist_same l o b (omega arith) (not_reading ne) (not_writing ne)

  -- over or refused
  pub idle_by_state : (state l o ≡ listed → ⊥) → (state l o ≡ held → ⊥) → Idle l o
  idle_by_state a b = record { holds = not_holding b; reads = not_reading a; writes = not_writing a }

  -- listed, and then struck from all lists
  pub idle_unlisted : (state l o ≡ held → ⊥) → Idle (unlist l o) o
  idle_unlisted b =
      record {
        holds = λ t k e. not_holding b t k (sym (unlist_apart l o (holder_field shape) t tt tt) ∙ e);
        reads = unlist_no_reader l o s small;
        writes = unlist_no_writer l o s small;
      }

  -- in any state, freed and struck
  pub idle_released : Idle (unlist (free l o) o) o
  idle_released =
      record {
        holds = λ t k e. free_none l o s small t k (sym (unlist_apart (free l o) o (holder_field shape) t tt tt) ∙ e);
        reads = unlist_no_reader (free l o) o (keeps_free l o s) small;
        writes = unlist_no_writer (free l o) o (keeps_free l o s) small;
      }

-- ---- an idle owner's serial, state and stamp
-- m is l but for owner o
pub record OtherThan (o : ℕ) (l m : List ℕ) : Type 0 where
  pub size : length m ≡ length l
  pub first : field_of object_count m 0 ≡ field_of object_count l 0
  pub second : field_of (owner_count shape) m 0 ≡ field_of (owner_count shape) l 0
  pub holders : (t : ℕ) → holder m t ≡ holder l t
  pub readings : (t : ℕ) → readers m t ≡ readers l t
  pub writings : (t : ℕ) → writers m t ≡ writers l t
  pub authors : (t : ℕ) → author m t ≡ author l t
  pub author_serials : (t : ℕ) → author_serial m t ≡ author_serial l t
  pub serials : (p : ℕ) → (p ≡ o → ⊥) → serial m p ≡ serial l p
  pub states : (p : ℕ) → (p ≡ o → ⊥) → state m p ≡ state l p
  pub stamps : (p : ℕ) → (p ≡ o → ⊥) → stamp m p ≡ stamp l p

pub sound_owner : (l m : List ℕ) (o : ℕ) → OtherThan o l m → Sound l → Idle l o → OwnerSound (serial m o) (state m o) (stamp m o) → Sound m
sound_owner l m o e s idle ok =
    record {
      size = e.size ∙ s.size;
      clauses = record {
        objects_counted = e.first ∙ s.clauses.objects_counted;
        owners_counted = e.second ∙ s.clauses.owners_counted;
        owners_sound = λ p k.
            ⊎_elim (λ (q : p ≡ o). subst (λ (x : ℕ). OwnerSound (serial m x) (state m x) (stamp m x)) (sym q) ok)
            (λ q. rw (e.serials p q, e.states p q, e.stamps p q) (s.clauses.owners_sound p k))
            (same_or_not p o);
        copies_sound = λ t k. let c = s.clauses.copies_sound t k in rw (e.holders t, e.readings t, e.writings t) (record {
          holding = ⊎_elim (λ (h : holder l t ≡ nobody). inl h)
              (λ h. inr (h.0, e.states (holder l t) (λ q. idle.holds t k q) ∙ h.1)) c.holding;
          reading = λ p b. (
            (c.reading p b).0,
            e.states p (λ q. idle.reads t k (subst (λ (x : ℕ). T (contains (readers l t) x)) q b)) ∙ (c.reading p b).1,
          );
          writing = λ p b. (
            (c.writing p b).0,
            e.states p (λ q. idle.writes t k (subst (λ (x : ℕ). T (contains (writers l t) x)) q b)) ∙ (c.writing p b).1,
          );
        });
      };
      authors = same_authors l m e.authors e.author_serials s;
    }

-- a change of one field of owner o is such a change, and so are several, one after the other
pub with_other : (f : Field) (l : List ℕ) (o v : ℕ) → T (apart f object_count) → T (apart f (owner_count shape)) → T (apart f (holder_field shape))
    → T (apart f (readers_field shape)) → T (apart f (writers_field shape)) → T (apart f (author_field shape)) → T (apart f (author_serial_field shape))
    → T (together f (serial_field shape)) → T (together f (state_field shape)) → T (together f (stamp_field shape)) → OtherThan o l (with_field f l o v)
with_other f l o v a b c d e g h x y z =
    record {
      size = length_with f l o v;
      first = of_with_apart f object_count l o 0 v a;
      second = of_with_apart f (owner_count shape) l o 0 v b;
      holders = λ t. of_with_apart f (holder_field shape) l o t v c;
      readings = λ t. of_with_apart f (readers_field shape) l o t v d;
      writings = λ t. of_with_apart f (writers_field shape) l o t v e;
      authors = λ t. of_with_apart f (author_field shape) l o t v g;
      author_serials = λ t. of_with_apart f (author_serial_field shape) l o t v h;
      serials = λ p ne. of_with_item f (serial_field shape) l o p v x ne;
      states = λ p ne. of_with_item f (state_field shape) l o p v y ne;
      stamps = λ p ne. of_with_item f (stamp_field shape) l o p v z ne;
    }

pub other_then : (o : ℕ) (l m n : List ℕ) → OtherThan o l m → OtherThan o m n → OtherThan o l n
other_then o l m n a b =
    record {
      size = b.size ∙ a.size;
      first = b.first ∙ a.first;
      second = b.second ∙ a.second;
      holders = λ t. b.holders t ∙ a.holders t;
      readings = λ t. b.readings t ∙ a.readings t;
      writings = λ t. b.writings t ∙ a.writings t;
      authors = λ t. b.authors t ∙ a.authors t;
      author_serials = λ t. b.author_serials t ∙ a.author_serials t;
      serials = λ p ne. b.serials p ne ∙ a.serials p ne;
      states = λ p ne. b.states p ne ∙ a.states p ne;
      stamps = λ p ne. b.stamps p ne ∙ a.stamps p ne;
    }

owner_other : (l : List ℕ) (o n st sp : ℕ) → OtherThan o l (with_owner l o n st sp)
owner_other l o n st sp =
    let a = with_serial l o n in
    let b = with_state a o st in
    other_then o l b (with_owner l o n st sp)
    (other_then o l a b (with_other (serial_field shape) l o n tt tt tt tt tt tt tt tt tt tt)
    (with_other (state_field shape) a o st tt tt tt tt tt tt tt tt tt tt))
    (with_other (stamp_field shape) b o sp tt tt tt tt tt tt tt tt tt tt)

-- an owner that was in no list is in none once its serial, state and stamp are new
pub unlist_new : (l : List ℕ) (o n st sp : ℕ) → Bytes l → o < nodes → Idle l o → unlist (with_owner l o n st sp) o ≡ with_owner l o n st sp
unlist_new l o n st sp b h idle =
    let e = owner_other l o n st sp in
    let a = with_serial l o n in
    unlist_same (with_owner l o n st sp) o
    (bytes_with_lem (stamp_field shape) (with_state a o st) o sp (bytes_with_lem (state_field shape) a o st (bytes_with_lem (serial_field shape) l o n b)))
    (omega arith)
    (λ t k c. idle.reads t k (subst (λ (m : ℕ). T (contains m o)) (e.readings t) c))
    (λ t k c. idle.writes t k (subst (λ (m : ℕ). T (contains m o)) (e.writings t) c))

-- what is read of the owner then
module _ (l : List ℕ) (o n st sp : ℕ) (fit : image_size shape ≤ length l) (small : o < nodes) where
  abbrev a : List ℕ
  a = with_serial l o n

  abbrev b : List ℕ
  b = with_state a o st

  pub serial_of_lem : n < 2 ^ 32 → serial (with_owner l o n st sp) o ≡ n
  serial_of_lem h =
      of_with_apart (stamp_field shape) (serial_field shape) b o o sp tt ∙ of_with_apart (state_field shape) (serial_field shape) a o o st tt
      ∙ of_with (serial_field shape) l o n tt (omega arith) small h

  pub state_of_lem : st < 256 → state (with_owner l o n st sp) o ≡ st
  state_of_lem h =
      of_with_apart (stamp_field shape) (state_field shape) b o o sp tt
      ∙ of_with (state_field shape) a o st tt (omega (arith, length_with (serial_field shape) l o n)) small h

  pub stamp_of_lem : sp < 2 ^ 32 → stamp (with_owner l o n st sp) o ≡ sp
  stamp_of_lem h =
      of_with (stamp_field shape) b o sp tt (omega (arith, length_with (serial_field shape) l o n, length_with (state_field shape) a o st)) small h

module _ (l : List ℕ) (o : ℕ) (s : Sound l) (small : o < nodes) (idle : Idle l o) where
  -- the state alone: over, listed, held or refused, where serial and stamp go with it
  pub keeps_state : (st : ℕ) → OwnerSound (serial l o) st (stamp l o) → Sound (with_state l o st)
  keeps_state st ok =
      sound_owner l (with_state l o st) o (with_other (state_field shape) l o st tt tt tt tt tt tt tt tt tt tt) s idle
      (rw (
        of_with_apart (state_field shape) (serial_field shape) l o o st tt,
        of_with_apart (state_field shape) (stamp_field shape) l o o st tt,
        of_with (state_field shape) l o st tt (omega (arith, s.size)) small (omega (arith, ok.small)),
      )
      ok)

  -- all three
  pub keeps_owner : (n st sp : ℕ) → n < 2 ^ 32 → sp < 2 ^ 32 → OwnerSound n st sp → Sound (with_owner l o n st sp)
  keeps_owner n st sp hn hs ok =
      sound_owner l (with_owner l o n st sp) o (owner_other l o n st sp) s idle
      (rw (
        serial_of_lem l o n st sp (omega (arith, s.size)) small hn,
        state_of_lem l o n st sp (omega (arith, s.size)) small (omega (arith, ok.small)),
        stamp_of_lem l o n st sp (omega (arith, s.size)) small hs,
      )
      ok)
