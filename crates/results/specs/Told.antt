-- The message that a step names and the message that it put into the pool, as texts; and what replay is told.
use Rattle.std.specs.Prelude.{ℕ, ◌+◌, ◌-◌, Bool, cond, ◌&&◌, List, [], ◌∷◌, ◌++◌, eqb, ltb}
use Rattle.std.proofs.Math.Option.{Option, none, some}
use Rattle.wire.specs.Decode.{owner_of}
use Rattle.coordinator.specs.State.{committed}
use Rattle.pool.specs.Pool.{count, check, message_at}
use Rattle.replay.specs.Sheet.{begun_after, opened_after, valued_after, committed_after}
use Rattle.buffers.specs.declared.Answer.{Answer}
use Rattle.history.specs.Running.{put_in, sheet_keeper}
use Rattle.orders.specs.declared.Kind.{Kind}
use Rattle.orders.specs.declared.Kind.TheVariants.{Begin, Batch, OpenRead, OpenWrite, SetValue, Found, Reselect, RequestCommit, Abort}
use Rattle.orders.specs.declared.Kind.TheVariants.{LoadHours, LoadClasses, Send, Deliver, Drop, Switch}
use Rattle.orders.specs.declared.Order.{Order}
use Rattle.report.specs.Texts.{Text, message_texts}
use Rattle.results.specs.Results.{newline}

-- `  takes `
abbrev pub takes_text : Text
takes_text = 32 ∷ 32 ∷ 116 ∷ 97 ∷ 107 ∷ 101 ∷ 115 ∷ 32 ∷ []

-- `  puts `
abbrev pub puts_text : Text
puts_text = 32 ∷ 32 ∷ 112 ∷ 117 ∷ 116 ∷ 115 ∷ 32 ∷ []

-- ---- the message that waits at a place of a pool
unfoldable pub there : List ℕ → ℕ → Bool
there pool k = eqb (check pool) 0 && ltb k (count pool)

unfoldable pub seen : List ℕ → ℕ → Option (List ℕ)
seen pool k = cond (there pool k) (some (message_at pool k)) none

-- ---- its line, its owner, and replay told that it was put
unfoldable pub message_line : Text → Option (List ℕ) → List Text
message_line label none = []
message_line label (some m) = label ∷ (message_texts m ++ (newline ∷ []))

-- no node, and no place
abbrev pub nobody : ℕ
nobody = 255

unfoldable pub owner_seen : Option (List ℕ) → ℕ
owner_seen none = nobody
owner_seen (some m) = owner_of m

unfoldable pub sheet_put : List ℕ → Option (List ℕ) → List ℕ
sheet_put sheet m = put_in sheet_keeper sheet m

-- ---- the message that a step names
unfoldable pub named_texts : Kind → List ℕ → ℕ → List Text
named_texts Deliver pool k = message_line takes_text (seen pool k)
named_texts Drop pool k = message_line takes_text (seen pool k)
named_texts Begin pool k = []
named_texts Batch pool k = []
named_texts OpenRead pool k = []
named_texts OpenWrite pool k = []
named_texts SetValue pool k = []
named_texts Found pool k = []
named_texts Reselect pool k = []
named_texts RequestCommit pool k = []
named_texts Abort pool k = []
named_texts LoadHours pool k = []
named_texts LoadClasses pool k = []
named_texts Send pool k = []
named_texts Switch pool k = []

-- ---- what replay is told of an accepted step, besides the message that it put
unfoldable pub sheet_told : Kind → List ℕ → Order → ℕ → ℕ → List ℕ
sheet_told Begin sheet o answer owner = begun_after sheet o.node
sheet_told Batch sheet o answer owner = begun_after sheet o.node
sheet_told OpenRead sheet o answer owner = opened_after sheet o.node o.object 0
sheet_told OpenWrite sheet o answer owner = opened_after sheet o.node o.object 1
sheet_told SetValue sheet o answer owner = valued_after sheet o.node o.object o.value
sheet_told Deliver sheet o answer owner = cond (eqb answer committed) (committed_after sheet owner) sheet
sheet_told Found sheet o answer owner = sheet
sheet_told Reselect sheet o answer owner = sheet
sheet_told RequestCommit sheet o answer owner = sheet
sheet_told Abort sheet o answer owner = sheet
sheet_told LoadHours sheet o answer owner = sheet
sheet_told LoadClasses sheet o answer owner = sheet
sheet_told Send sheet o answer owner = sheet
sheet_told Drop sheet o answer owner = sheet
sheet_told Switch sheet o answer owner = sheet

-- ---- the message that a step put. How many messages an accepted step takes out of the pool
unfoldable pub taken_out : Kind → Bool → ℕ
taken_out Deliver kept = cond kept 0 1
taken_out Drop kept = 1
taken_out Begin kept = 0
taken_out Batch kept = 0
taken_out OpenRead kept = 0
taken_out OpenWrite kept = 0
taken_out SetValue kept = 0
taken_out Found kept = 0
taken_out Reselect kept = 0
taken_out RequestCommit kept = 0
taken_out Abort kept = 0
taken_out LoadHours kept = 0
taken_out LoadClasses kept = 0
taken_out Send kept = 0
taken_out Switch kept = 0

-- the last place, where one more waits than the step left of those before it
unfoldable pub put_place : ℕ → ℕ → ℕ → ℕ
put_place before out after = cond (eqb after 0) nobody (cond (eqb (after + out) (before + 1)) (after - 1) nobody)

-- the message there, in the pool that the step left; a refused step put none
unfoldable pub put_by : Order → Answer → ℕ → List ℕ → Option (List ℕ)
put_by o a before pool = cond (eqb a.number 0) (seen pool (put_place before (taken_out o.kind o.flag) (count pool))) none

-- ---- what replay is told: the message that was put, then the step itself; a refused step tells nothing
unfoldable pub sheet_by : Order → Answer → ℕ → Option (List ℕ) → List ℕ → List ℕ
sheet_by o a owner m sheet = cond (eqb a.number 0) (sheet_told o.kind (sheet_put sheet m) o a.answer owner) sheet
