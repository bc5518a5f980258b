-- The 76 masks of the smallest quorums, written out, and what a test that keeps them would answer. The library keeps no such table: its test works from the
-- tree. This page shows that the two agree at every mask.
use Rattle.std.specs.Prelude.{◌≡◌, refl, List, [], ◌∷◌, ℕ, ◌<◌}
use Rattle.std.proofs.Common.{ap, ◌∙◌}
use Rattle.quorum.specs.declared.Kind.{Kind}
use Rattle.quorum.specs.declared.Kind.TheVariants.{Read, Write}
use Rattle.quorum.specs.Quorum.{is_quorum}
use Rattle.quorum.specs.Smallest.{smallest}
use Rattle.quorum.proofs.Contain.{any_within}
use Rattle.quorum.proofs.Theorems.{quorum_contains_smallest}

abbrev pub table : Kind → List ℕ
table Read =
    1 ∷ 6 ∷ 386 ∷ 642 ∷ 770 ∷ 52 ∷ 432 ∷ 688 ∷ 816 ∷ 84 ∷ 464 ∷ 720 ∷ 848 ∷ 100 ∷ 480 ∷ 736 ∷ 864 ∷ 10 ∷ 3074 ∷ 5122 ∷ 6146 ∷ 56 ∷ 3120 ∷ 5168 ∷ 6192
    ∷ 88 ∷ 3152 ∷ 5200 ∷ 6224 ∷ 104 ∷ 3168 ∷ 5216 ∷ 6240 ∷ 12 ∷ 3076 ∷ 5124 ∷ 6148 ∷ 392 ∷ 3456 ∷ 5504 ∷ 6528 ∷ 648 ∷ 3712 ∷ 5760 ∷ 6784 ∷ 776 ∷ 3840
    ∷ 5888 ∷ 6912 ∷ []
table Write =
    439 ∷ 695 ∷ 823 ∷ 471 ∷ 727 ∷ 855 ∷ 487 ∷ 743 ∷ 871 ∷ 3131 ∷ 5179 ∷ 6203 ∷ 3163 ∷ 5211 ∷ 6235 ∷ 3179 ∷ 5227 ∷ 6251 ∷ 3469 ∷ 5517 ∷ 6541 ∷ 3725
    ∷ 5773 ∷ 6797 ∷ 3853 ∷ 5901 ∷ 6925 ∷ []

-- the table is the list of the smallest quorums
pub table_smallest : (k : Kind) → smallest k ≡ table k
unfolding smallest
table_smallest Read = refl
table_smallest Write = refl

-- THEOREM. For each of the 65,536 masks and both kinds the test's answer is the table's: whether some mask of it is inside.
pub same_as_table : (k : Kind) (m : ℕ) → m < 65536 → is_quorum k m ≡ any_within (table k) m
same_as_table k m h = quorum_contains_smallest k m ∙ ap (λ (qs : List ℕ). any_within qs m) (table_smallest k)
