-- The law of weight classes (document 02, 2.2): "Over the batches committed since a table's loading, ten times the grams booked plus the tenths waiting is
-- the sum of all weights, class by class", for every list of the service's steps. What an origin brings along of a table that stood there counts with it.
use Rattle.std.specs.Prelude.{◌≡◌, cond, List, [], ◌∷◌, ℕ, ◌+◌, ◌*◌, ◌<◌, eqb, get_or}
use Rattle.classes.specs.Classes.{tally_count, bounds, tallies}
use Rattle.classes.specs.Weights.{weights}
use Rattle.classes.specs.Weights.{weighed as weighedIn}
use Rattle.settings.specs.Settings.{classes_in, tenths}
use Rattle.frontend.specs.Plan.{begin, batch, edit, request, load_classes}
use Rattle.frontend.specs.Plan.{Call as Front}
use Rattle.steps.specs.Station.{put_at}
use Rattle.service.specs.Service.{Call, front, load_hours, plain, number_of}
use Rattle.protocol.specs.Table.{pick}
use Rattle.protocol.specs.State.{Tx}
use Rattle.history.specs.Ledger.{Ledger, in?, current}
use Rattle.history.specs.Origin.{origin_of as machine_of}
use Rattle.accounts.specs.Accounts.{Origin, Effect, sets, adds, reached, told, effects}

-- a batch: its transaction, and its weights as they were lent
pub record Batch : Type 0 where
  pub tx : Tx
  pub list : List ℕ

-- of a node, since its table was loaded: the batches that began, newest first; by class the grams booked and the tenths weighed before the first step, if
-- the table stood at the origin
pub record Since : Type 0 where
  pub batches : List Batch
  pub booked : ℕ → ℕ
  pub weighed : ℕ → ℕ

-- a table that was loaded just now; one batch more
abbrev pub loaded_now : Since
loaded_now = record { batches = []; booked = λ i. 0; weighed = λ i. 0 }

abbrev pub with_batch : Since → Tx → List ℕ → Since
with_batch s x list = record { batches = record { tx = x; list = list } ∷ s.batches; booked = s.booked; weighed = s.weighed }

-- what a transaction adds to an object
abbrev pub amount_of : Effect → ℕ → ℕ
amount_of sets t = 0
amount_of (adds g) t = g t

-- a sum over those of a list of batches that are committed
abbrev pub over_committed : List Tx → (Batch → ℕ) → List Batch → ℕ
over_committed l f [] = 0
over_committed l f (b ∷ bs) = pick (in? b.tx l) (f b) 0 + over_committed l f bs

-- by node, after an accepted call at a node: a batch is one more, a table that is loaded begins anew
abbrev pub since_begun : Ledger → ℕ → Front → (ℕ → Since) → ℕ → Since
since_begun L n (begin w day minute) f = f
since_begun L n (batch w day minute list) f = put_at f n (with_batch (f n) (current L n) list)
since_begun L n (edit e) f = f
since_begun L n request f = f
since_begun L n (load_classes list) f = put_at f n loaded_now

module _ (o : Origin) where
  -- ---- by node, after the steps of a list
  abbrev pub since_after : List Call → Call → (ℕ → Since) → ℕ → Since
  since_after cs (front n a) f = cond (eqb (number_of (reached o cs) (front n a)) 0) (since_begun (told o (front n a ∷ cs)) n a f) f
  since_after cs (load_hours n list) f = f
  since_after cs (plain c p) f = f

  abbrev pub since : List Call → ℕ → Since
  since [] = λ n. record { batches = []; booked = o.booked n; weighed = o.weighed n }
  since (c ∷ cs) = since_after cs c (since cs)

  module _ (cs : List Call) (n : ℕ) where
    -- its table of classes, as it is kept
    abbrev pub table : List ℕ
    table = classes_in ((reached o cs).settings n)

    -- ---- class by class: the grams booked, the tenths weighed, the tenths waiting
    -- what the committed batches added to the class's tally
    abbrev pub grams_booked : ℕ → ℕ
    grams_booked i =
        (since cs n).booked i + over_committed (told o cs).committed (λ b. amount_of (effects o cs b.tx) (get_or (tallies table) i 0)) (since cs n).batches

    abbrev pub tenths_weighed : ℕ → ℕ
    tenths_weighed i =
        (since cs n).weighed i + over_committed (told o cs).committed (λ b. weighedIn (bounds table) i (weights b.list)) (since cs n).batches

    abbrev pub tenths_waiting : ℕ → ℕ
    tenths_waiting i = get_or (tenths ((reached o cs).machine.records n) ((reached o cs).settings n)) i 0

  -- THE LAW, for every node and each class of its table; and what waits is "0 to 9 a class"
  pub record Weighs (cs : List Call) : Type 0 where
    pub kept : (n i : ℕ) → i < tally_count (table cs n) → 10 * grams_booked cs n i + tenths_waiting cs n i ≡ tenths_weighed cs n i
    pub below_10 : (n i : ℕ) → i < tally_count (table cs n) → tenths_waiting cs n i < 10

  -- ---- what a list reached with what was told of its steps, where other lists begin; what transactions added has become what they set
  abbrev pub origin_of : List Call → Origin
  origin_of cs =
      record {
        machine = machine_of (reached o cs).machine (told o cs);
        settings = (reached o cs).settings;
        booked = grams_booked cs;
        weighed = tenths_weighed cs;
      }
