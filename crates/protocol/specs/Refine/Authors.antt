-- What proofs/Refine/Authors speaks of.
use Rattle.std.specs.Prelude.{◌≡◌, Bool, ℕ, suc}
use Rattle.std.proofs.Math.Option.{Option, none, some}
use mathlib.Core.List.{List}
use Rattle.std.proofs.Math.Bool.{cond}
use Rattle.protocol.specs.Table.{put_row}
use Rattle.protocol.specs.Rules.{Node, Object, Rules}
use Rattle.protocol.specs.State.{Tx, committed, Store, History, State, Writes, writes?}
use Rattle.protocol.specs.Transitions.{Step, ask, commit, abort, list, copy, vote_yes, vote_no, apply, drop}
use Rattle.protocol.specs.Replay.{replay}
use Rattle.protocol.specs.Refine.Origin.{values_of}

pub data Author : Type 0 where
  unwritten : Author
  lost : Author
  by : Tx → Author

abbrev pub AuthorTable : Type 0
AuthorTable = Node → Object → Author

-- what the author of one copy says of its version v
pub record AuthoredBy {A : Type 0} (h : History A) (o : Object) (v : ℕ) (a : Author) : Type 0 where
  pub no_version : a ≡ unwritten → v ≡ 0
  pub its_version : (x : Tx) → a ≡ by x → (h.phase x ≡ committed) × Writes h.contents x o × (v ≡ suc ((h.contents x).version o))

abbrev pub Authored : {A : Type 0} → AuthorTable → Store A → History A → Type 0
Authored t s h = (n : Node) (o : Object) → AuthoredBy h o (s.version n o) (t n o)

-- the table after each transition
abbrev pub signed : {A : Type 0} {R : Rules A} {σ σ' : State A} → Step R σ σ' → AuthorTable → AuthorTable
signed (ask x c g) t = t
signed (commit x g) t = t
signed (abort x g) t = t
signed (list n x g) t = t
signed (copy n o) t = t
signed (vote_yes n x g) t = t
signed (vote_no n x g) t = t
signed {σ = σ} (apply n x g) t = put_row (writes? (σ.history.contents x)) t n (λ o. by x)
signed (drop n x g) t = t

-- ---- the writers of an object in a list, by number; and the last of them, as replay leaves it where each writer writes its own name
abbrev pub names_of : (Tx → Object → Bool) → List Tx → Object → ℕ → Option Tx
names_of w l o i = values_of w (λ x u. some x) none l o i

abbrev pub last_name : (Tx → Object → Bool) → List Tx → Object → Option Tx
last_name w l o = replay none (λ x u a. cond (w x u) (some x) a) l o
