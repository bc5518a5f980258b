-- Replay (document 01: the one-by-one running): transactions take turns, one at a time, in the order of a list.
-- "The one-by-one running holds a value for each tally, at first 0. [..] A booking finds the value held for each of its tallies, then its
-- written ones take their new values."
use Rattle.std.specs.Prelude.{◌≡◌, List, [], ◌∷◌}
use Rattle.protocol.specs.Table.{pick, select}
use Rattle.protocol.specs.Rules.{Object, Mode, unused, read, write, Rules}
use Rattle.protocol.specs.State.{Tx, Tx-discrete, committed, Phase-discrete, Contents, History}

-- The value held for an object after the turns of any list, the last turn first: `turn x o a` is held after x if a was held before.
abbrev pub replay : {X A : Type 0} → A → (X → Object → A → A) → List X → Object → A
replay z turn [] o = z
replay z turn (x ∷ l) o = turn x o (replay z turn l o)

-- The value held when x's turn comes: what replay of the list gives x. (The blank value if x has no turn.)
abbrev pub given : {X A : Type 0} → Discrete X → A → (X → Object → A → A) → X → List X → Object → A
given d z turn x [] o = z
given d z turn x (y ∷ l) o = pick (d x y) (replay z turn l o) (given d z turn x l o)

-- A transaction's turn: what it writes takes its new value, all else stays.
abbrev pub after : {A : Type 0} → Mode → A → A → A
after unused new a = a
after read new a = a
after write new a = new

abbrev pub turn : {A : Type 0} → (Tx → Contents A) → Tx → Object → A → A
turn k x o a = after ((k x).mode o) ((k x).new o) a

-- Replay of any list of transactions: the last values, and what it gives one of them.
abbrev pub last_value : {A : Type 0} → Rules A → (Tx → Contents A) → List Tx → Object → A
last_value R k l o = replay R.blank (turn k) l o

abbrev pub given_to : {A : Type 0} → Rules A → (Tx → Contents A) → Tx → List Tx → Object → A
given_to R k x l o = given Tx-discrete R.blank (turn k) x l o

-- The committed transactions of a list, in its order.
abbrev pub committed? : {A : Type 0} (h : History A) (x : Tx) → Dec (h.phase x ≡ committed)
committed? h x = Phase-discrete (h.phase x) committed

abbrev pub committed_of : {A : Type 0} → History A → List Tx → List Tx
committed_of h l = select (committed? h) l
