-- The rules, the parameter of all that follows: which sets of nodes may be participants, and what a yes holds.
-- Two stations that differ only here, as the tree (Tree) and own quorums (Own), share every definition and every proof of the core.
use Rattle.std.specs.Prelude.{◌≡◌, ◌≢◌, Bool, true, ℕ}

-- Nodes (document 01: controllers) and objects (document 01: tallies) are numbers, any number of them.
abbrev pub Node : Type 0
Node = ℕ

abbrev pub Object : Type 0
Object = ℕ

-- The node that the tree has at its top.
abbrev pub root : Node
root = 0

-- What a transaction does with an object: "Open a tally once, to read or to write." One to be written is found as well.
pub data Mode : Type 0 where
  unused read write : Mode
  deriving Discrete as Mode-discrete

-- A set of nodes (document 01: a mask) is a test.
abbrev pub Nodes : Type 0
Nodes = Node → Bool

-- The node is in both sets.
abbrev pub Common : Nodes → Nodes → Node → Type 0
Common p q n = (p n ≡ true) × (q n ≡ true)

pub record Rules (A : Type 0) : Type 1 where
  -- The value that every object has at first (document 01: 0). Nothing else is known of values.
  pub blank : A
  -- Which sets may be participants (document 01: the party, "the chosen write quorum and the asked set").
  pub Good : Nodes → Type 0
  -- Any two of them meet (document 000, Definition 1).
  pub meet : (p q : Nodes) → Good p → Good q → (n : Node) × Common p q n
  -- What a yes holds until the outcome: what the transaction writes at least (the base), what it touches at most (2.9).
  pub Keeps : Mode → Type 0
  pub keeps_write : Keeps write
  pub keeps_touched : (m : Mode) → Keeps m → m ≢ unused
