-- Each byte of a reply. Assumes nothing.
use Rattle.std.specs.Prelude.{ℕ, List, [], ◌∷◌, ◌++◌, Some, None}
use Rattle.decimal.specs.Decimal.{decimal}
use Rattle.quorum.specs.Choice.{Choice}
use Rattle.quorum.specs.declared.Kind.{Kind}
use Rattle.quorum.specs.declared.Kind.TheVariants.{Read, Write}
use Rattle.quorum.specs.Nearest.{nearest_of}
use Rattle.quorum.specs.Smallest.{smallest}
use Rattle.quorum_lines.specs.Line.{Reading, Good, Bad}

-- the quorum of a kind that is chosen for an asker within the live nodes
unfoldable pub chosen : Kind → ℕ → ℕ → List ℕ → Choice
chosen kind asker live distances = nearest_of asker live distances (smallest kind)

-- its mask and its sum with a space between, or `- -`
unfoldable pub choice_text : Choice → List ℕ
choice_text (Some x) = decimal x.mask ++ (32 ∷ []) ++ decimal x.sum
choice_text None = 45 ∷ 32 ∷ 45 ∷ []

-- a column: a space, and the quorum of a kind that is chosen
unfoldable pub column : Kind → ℕ → ℕ → List ℕ → List ℕ
column kind asker live distances = (32 ∷ []) ++ choice_text (chosen kind asker live distances)

-- a good line: its mask, and the read quorum and the write quorum that are chosen for its asker
unfoldable pub row : ℕ → ℕ → List ℕ → List ℕ
row asker live distances = decimal live ++ column Read asker live distances ++ column Write asker live distances ++ (10 ∷ [])

-- the reply to a line: its row, or `bad`; each ends with byte 10
unfoldable pub reply : Reading → List ℕ
reply (Good live distances asker) = row asker live distances
reply Bad = 98 ∷ 97 ∷ 100 ∷ 10 ∷ []

-- the header: `live read sum write sum`
unfoldable pub header_text : List ℕ
header_text =
    108 ∷ 105 ∷ 118 ∷ 101 ∷ 32 ∷ 114 ∷ 101 ∷ 97 ∷ 100 ∷ 32 ∷ 115 ∷ 117 ∷ 109 ∷ 32 ∷ 119 ∷ 114 ∷ 105 ∷ 116 ∷ 101 ∷ 32 ∷ 115 ∷ 117 ∷ 109 ∷ 10 ∷ []
