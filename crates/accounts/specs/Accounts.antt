-- Lists of the service's steps from an origin, newest first, and the account that crate history's claims are said of: demand 3 and the numbers of
-- deliveries of the service's own steps, loads and batches among them.
use Rattle.std.specs.Prelude.{◌≡◌, refl, cond, List, [], ◌∷◌, ◌++◌, ℕ, ◌+◌, ◌*◌, ◌<◌, eqb, get_or}
use Rattle.image.specs.Layout.{Shape, shape}
use Rattle.classes.specs.Classes.{tally_count}
use Rattle.settings.specs.Settings.{classes_in, tenths, blank_settings, settings_number}
use Rattle.frontend.specs.Plan.{begin, batch, edit, request, load_classes}
use Rattle.frontend.specs.Plan.{Call as Front}
use Rattle.increments.specs.Sums.{sum64}
use Rattle.increments.specs.Deeds.{reads, writes, values}
use Rattle.steps.specs.Step.{found, delivery}
use Rattle.steps.specs.Step.{Call as Step, begin as beginStep, set_value as setStep}
use Rattle.service.specs.Service.{Service, Call, front, load_hours, plain, made, number_of, answer_of, put_of, step}
use Rattle.protocol.specs.Table.{put}
use Rattle.protocol.specs.State.{Tx, Tx-discrete}
use Rattle.protocol.specs.Replay.{after as afterMode, replay, given}
use Rattle.history.specs.Ledger.{Ledger, current, fed}
use Rattle.history.specs.Ballots.{Ballots}
use Rattle.history.specs.Origin.{Origin as Machine, RestedAs as MachineRestedAs, blank_origin as blankMachine}
use Rattle.history.specs.Claims.{Account}
use Rattle.history.specs.Claims.{Typed as StepTyped, told as machineTold, votes as machineVotes}

-- ---- where lists of steps begin: a machine's origin with settings; by node and class the grams booked and the tenths weighed since its table was loaded
pub record Origin : Type 0 where
  pub machine : Machine
  pub settings : ℕ → List ℕ
  pub booked : ℕ → ℕ → ℕ
  pub weighed : ℕ → ℕ → ℕ

-- with images of a shape it is at rest, the settings are sound, and "ten times the grams booked plus the tenths waiting is the sum of all weights, class by
-- class"
pub record RestedAs (s : Shape) (o : Origin) : Type 0 where
  pub machine : MachineRestedAs s o.machine
  pub settings : (n : ℕ) → settings_number (o.settings n) ≡ 0
  pub weighs : (n i : ℕ) → i < tally_count (classes_in (o.settings n))
      → 10 * o.booked n i + get_or (tenths (o.machine.station.records n) (o.settings n)) i 0 ≡ o.weighed n i

-- with images of today's shape
abbrev pub Rested : Origin → Type 0
Rested o = RestedAs shape o

abbrev pub blank_origin : ℕ → Origin
blank_origin on = record { machine = blankMachine on; settings = λ n. blank_settings; booked = λ n i. 0; weighed = λ n i. 0 }

-- ---- a step's arguments are of their C types; a day, a minute and a list may be any
abbrev pub FrontTyped : ℕ → Front → Type 0
FrontTyped n (begin w day minute) = StepTyped (beginStep n w)
FrontTyped n (batch w day minute list) = StepTyped (beginStep n w)
FrontTyped n (edit (reads t)) = Unit {0}
FrontTyped n (edit (writes t)) = Unit {0}
FrontTyped n (edit (values t v)) = StepTyped (setStep n t v)
FrontTyped n request = Unit {0}
FrontTyped n (load_classes list) = Unit {0}

abbrev pub Typed : Call → Type 0
Typed (front n a) = FrontTyped n a
Typed (load_hours n list) = Unit {0}
Typed (plain c p) = StepTyped c

abbrev pub AllTyped : List Call → Type 0
AllTyped [] = Unit {0}
AllTyped (c ∷ cs) = Typed c × AllTyped cs

-- ---- what a transaction does to the value held: it sets its new value, or adds an amount
pub data Effect : Type 0 where
  sets : Effect
  adds : (ℕ → ℕ) → Effect

abbrev pub effect_on : Effect → ℕ → ℕ → ℕ → ℕ
effect_on sets new t a = new
effect_on (adds g) new t a = sum64 a (g t)

-- ---- replay (document 01: the one-by-one running), which "adds to the value held"
abbrev pub turn : Ledger → (Tx → Effect) → Tx → ℕ → ℕ → ℕ
turn L f x t a = afterMode (L.mode x t) (effect_on (f x) (L.new x t) t a) a

unfoldable pub given_to : Ledger → (Tx → Effect) → Tx → ℕ → ℕ
given_to L f x t = given Tx-discrete 0 (turn L f) x (fed L) t

unfoldable pub last_value : Ledger → (Tx → Effect) → ℕ → ℕ
last_value L f t = replay 0 (turn L f) (fed L) t

-- the new value that it gives an object there
unfoldable pub gave_to : Ledger → (Tx → Effect) → Tx → ℕ → ℕ
gave_to L f x t = effect_on (f x) (L.new x t) t (given_to L f x t)

-- ---- after the steps of a list
abbrev pub after : Service → List Call → Service
after v [] = v
after v (c ∷ cs) = (step (after v cs) c).service

module _ (o : Origin) where
  abbrev pub origin : Service
  origin = record { machine = o.machine.station; settings = o.settings }

  abbrev pub reached : List Call → Service
  reached cs = after origin cs

  -- the machine's steps that they made, newest first; what those told of transactions and of votes
  abbrev pub expand : List Call → List Step
  expand [] = []
  expand (c ∷ cs) = made (reached cs) c ++ expand cs

  abbrev pub told : List Call → Ledger
  told cs = machineTold o.machine (expand cs)

  abbrev pub votes : List Call → Ballots
  votes cs = machineVotes o.machine (expand cs)

  -- each transaction's effect, as an accepted begin or batch told it: a batch's amounts are the values that it gave when it was made
  abbrev pub begun_effect : Ledger → ℕ → Front → (Tx → Effect) → Tx → Effect
  begun_effect L n (begin w day minute) f = put Tx-discrete f (current L n) sets
  begun_effect L n (batch w day minute list) f = put Tx-discrete f (current L n) (adds (L.new (current L n)))
  begun_effect L n (edit e) f = f
  begun_effect L n request f = f
  begun_effect L n (load_classes list) f = f

  abbrev pub effect_after : List Call → Call → (Tx → Effect) → Tx → Effect
  effect_after cs (front n a) f = cond (eqb (number_of (reached cs) (front n a)) 0) (begun_effect (told (front n a ∷ cs)) n a f) f
  effect_after cs (load_hours n list) f = f
  effect_after cs (plain c p) f = f

  abbrev pub effects : List Call → Tx → Effect
  effects [] = λ x. sets
  effects (c ∷ cs) = effect_after cs c (effects cs)

  abbrev pub account : Account Call
  account =
      record {
        carried = o.machine.carried.txs;
        reached = λ cs. (reached cs).machine;
        told = told;
        votes = votes;
        given = λ cs. given_to (told cs) (effects cs);
        gave = λ cs. gave_to (told cs) (effects cs);
        last = λ cs. last_value (told cs) (effects cs);
        number = λ ds c. number_of (reached ds) c;
        answer = λ ds c. answer_of (reached ds) c;
        put = λ ds c. put_of (reached ds) c;
        deliver = λ k kept. plain (delivery k kept) refl;
        find = λ n t. plain (found n t) refl;
      }
