-- The nine marked cases of document 01, whose asker is node 0, and the one of document 02: one table. The one fact over all of its rows is in proofs/Marked.
use Rattle.std.specs.Prelude.{Bool, true, false, ◌&&◌, List, [], ◌∷◌, ℕ, eqb, replicate, Some, None}
use Rattle.std.specs.Bool.{beq}
use Rattle.age.specs.Age.{older}
use Rattle.quorum.specs.Choice.{Choice, quorum_with}
use Rattle.quorum.specs.declared.Kind.TheVariants.{Read, Write}
use Rattle.quorum.specs.Smallest.{smallest}
use Rattle.quorum.specs.Nearest.{nearest_of}

-- a row: the asker, the live nodes, the distances, and the read and write quorums chosen; or two timestamps with their owners, and whether the first is older
pub data Row : Type 0 where
  near : ℕ → ℕ → List ℕ → Choice → Choice → Row
  aged : ℕ → ℕ → ℕ → ℕ → Bool → Row

abbrev pub same_choice : Choice → Choice → Bool
same_choice None None = true
same_choice None (Some x) = false
same_choice (Some x) None = false
same_choice (Some x) (Some y) = eqb x.mask y.mask && eqb x.sum y.sum

-- what the rules give is what the row says
abbrev pub right : Row → Bool
right (near asker live d read write) =
    same_choice (nearest_of asker live d (smallest Read)) read && same_choice (nearest_of asker live d (smallest Write)) write
right (aged s o t p b) = beq (older s o t p) b

-- distance x at node 0, 1 elsewhere
abbrev at0 : ℕ → List ℕ
at0 x = x ∷ replicate 12 1

abbrev pub rows : List Row
rows =
    near 0 8191 (at0 1) (quorum_with 1 1) (quorum_with 439 7)
    ∷ near 0 8190 (at0 1) (quorum_with 6 2) None
    ∷ near 0 8188 (at0 1) (quorum_with 12 2) None
    ∷ near 0 8176 (at0 1) (quorum_with 432 4) None
    ∷ near 0 8143 (at0 1) (quorum_with 1 1) (quorum_with 3469 7)
    ∷ near 0 8191 (at0 2) (quorum_with 1 2) (quorum_with 439 8)
    ∷ near 0 8191 (at0 9) (quorum_with 6 2) (quorum_with 439 15)
    ∷ near 0 0 (at0 1) None None
    ∷ aged 7 4 7 5 true
    ∷ near 3 8190 (at0 1) (quorum_with 10 2) None
    ∷ []

abbrev pub all_right : List Row → Bool
all_right [] = true
all_right (r ∷ rs) = right r && all_right rs
