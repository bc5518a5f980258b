-- What the laws of the calls need of a quorum system, and that the tree has it: by the theorems of its choice.
use mathlib.Core.Path.{◌≡◌, sym, subst}
use mathlib.Core.Bool.{Bool, true, false}
use mathlib.Core.List.{List}
use Prim.Native.Nat.{ℕ, ◌≤◌}
use lib.Dec.{T}
use Rattle.std.specs.Prelude.{Some, None}
use Rattle.numbers.specs.Sizes.{every_node}
use Rattle.mask.specs.Mask.{within}
use Rattle.mask.proofs.Laws.{within_self}
use Rattle.mask.proofs.Tests.{or_left, or_right}
use Rattle.quorum.specs.Choice.{Choice}
use Rattle.quorum.specs.declared.Kind.{Kind}
use Rattle.quorum.specs.declared.Kind.TheVariants.{Read, Write}
use Rattle.quorum.specs.Quorum.{is_quorum}
use Rattle.quorum.specs.Smallest.{smallest}
use Rattle.quorum.specs.Nearest.{mask_of}
use Rattle.quorum.proofs.Contain.{any_within}
use Rattle.quorum.proofs.Theorems.{In, here, there, Chosen, chosen, larger_counts, quorum_contains_smallest}
use Rattle.coordinator.specs.System.{System, tree, nearest_in}
use Rattle.coordinator.specs.Calls.{is_none}
use Rattle.clauses.proofs.Parts.{false-T}
use Rattle.clauses.proofs.Sets.{within_known}

-- a choice that is there is a quorum of known nodes
abbrev pub GoodChoice : (ℕ → Bool) → Choice → Type 0
GoodChoice test x = is_none x ≡ false → T (test (mask_of x)) × (mask_of x ≤ every_node)

pub record Quorums (s : System) : Type 0 where
  pub read_chosen : (asker live : ℕ) (d : List ℕ) → live ≤ every_node → GoodChoice s.is_read (s.nearest_read asker live d)
  pub write_chosen : (asker live : ℕ) (d : List ℕ) → live ≤ every_node → GoodChoice s.is_write (s.nearest_write asker live d)
  pub write_larger : (a b : ℕ) → T (within a b) → T (s.is_write a) → T (s.is_write b)
  pub read_some : (m : ℕ) → T (s.is_read m) → m ≡ 0 → ⊥
  pub write_some : (m : ℕ) → T (s.is_write m) → m ≡ 0 → ⊥

-- ---- the tree
any_in : (q : ℕ) (qs : List ℕ) → In q qs → T (any_within qs q)
any_in q qs (here {qs = rest}) = or_left (within q q) (any_within rest q) (within_self q)
any_in q qs (there {p = p} {qs = rest} i) = or_right (within p q) (any_within rest q) (any_in q rest i)

good : (k : Kind) (live : ℕ) (d : List ℕ) (x : Choice) → live ≤ every_node → Chosen live d (smallest k) x → GoodChoice (is_quorum k) x
good k live d None h p e = absurd (false-T true e tt)
good k live d (Some x) h p e =
    (subst T (sym (quorum_contains_smallest k x.mask)) (any_in x.mask (smallest k) p.0), within_known x.mask live p.1 h)

some : (k : Kind) (m : ℕ) → T (is_quorum k m) → m ≡ 0 → ⊥
unfolding is_quorum
some Read m t e = subst (λ (n : ℕ). T (is_quorum Read n)) e t
some Write m t e = subst (λ (n : ℕ). T (is_quorum Write n)) e t

pub tree_quorums : Quorums tree
tree_quorums =
    record {
      read_chosen = λ asker live d h. good Read live d (nearest_in Read asker live d) h (chosen asker live d (smallest Read));
      write_chosen = λ asker live d h. good Write live d (nearest_in Write asker live d) h (chosen asker live d (smallest Write));
      write_larger = larger_counts Write;
      read_some = some Read;
      write_some = some Write;
    }
