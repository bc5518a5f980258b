-- What replay is told of a batch besides its begin, from its record after the step: when it has begun, that each of its objects is opened to write, and its
-- grams for a new value; when its votes are asked for, each new value. An object that is read tells nothing, and so does a transaction of the host's own.
use Rattle.std.specs.Prelude.{ℕ, Bool, true, false, cond, ◌&&◌, List, [], ◌∷◌, eqb, length}
use Rattle.coordinator.specs.declared.Object.{Object}
use Rattle.coordinator.specs.declared.Coordinator.{Coordinator}
use Rattle.replay.specs.Sheet.{opened_after, valued_after}
use Rattle.increments.specs.Deeds.{in_use}
use Rattle.settings.specs.Settings.{adds}
use Rattle.buffers.specs.Buffers.{records_size, record_in}
use Rattle.service_calls.specs.Lent.{all_settings, settings_in}
use Rattle.orders.specs.declared.Kind.{Kind}
use Rattle.orders.specs.declared.Kind.TheVariants.{Begin, Batch, OpenRead, OpenWrite, SetValue, Found, Reselect, RequestCommit, Abort}
use Rattle.orders.specs.declared.Kind.TheVariants.{LoadHours, LoadClasses, Send, Deliver, Drop, Switch}

-- ---- an object, and objects one after another, in a sheet
unfoldable pub object_told : Bool → ℕ → Object → List ℕ → List ℕ
object_told opens n x sheet =
    cond (eqb x.mode 0) sheet (valued_after (cond opens (opened_after sheet n x.object 1) sheet) n x.object x.new)

unfoldable pub objects_told : Bool → ℕ → List Object → List ℕ → List ℕ
objects_told opens n [] sheet = sheet
objects_told opens n (x ∷ l) sheet = objects_told opens n l (object_told opens n x sheet)

-- ---- an accepted step of node n, which leaves a record and settings
unfoldable pub told_of : Kind → Coordinator → List ℕ → ℕ → List ℕ → List ℕ
told_of Batch c s n sheet = objects_told true n (in_use c) sheet
told_of RequestCommit c s n sheet = cond (adds s) (objects_told false n (in_use c) sheet) sheet
told_of Begin c s n sheet = sheet
told_of OpenRead c s n sheet = sheet
told_of OpenWrite c s n sheet = sheet
told_of SetValue c s n sheet = sheet
told_of Found c s n sheet = sheet
told_of Reselect c s n sheet = sheet
told_of Abort c s n sheet = sheet
told_of LoadHours c s n sheet = sheet
told_of LoadClasses c s n sheet = sheet
told_of Send c s n sheet = sheet
told_of Deliver c s n sheet = sheet
told_of Drop c s n sheet = sheet
told_of Switch c s n sheet = sheet

-- a step with a number, over the records and the settings that it leaves; a refused step tells nothing, and buffers of another length
unfoldable pub told : ℕ → Kind → List ℕ → List ℕ → ℕ → List ℕ → List ℕ
told number kind records settings n sheet =
    cond (eqb number 0 && (eqb (length records) records_size && eqb (length settings) all_settings))
    (told_of kind (record_in records n) (settings_in settings n) n sheet) sheet
