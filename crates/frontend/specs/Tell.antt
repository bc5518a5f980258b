-- What a node's record and settings tell their host: the tenths that wait.
use Rattle.std.specs.Prelude.{cond, List, ℕ, eqb, ltb, get_or}
use Rattle.numbers.specs.Numbers.{no_such_object}
use Rattle.classes.specs.Classes.{tally_count}
use Rattle.record.specs.declared.Called.{Called}
use Rattle.record.specs.Record.{record_of}
use Rattle.record.specs.Call.{called}
use Rattle.settings.specs.Settings.{classes_in, tenths}
use Rattle.frontend.specs.Plan.{lent_number}

-- 1 and 2 of record and settings, 6 a class that the table does not have
unfoldable pub waiting_of : List ℕ → List ℕ → ℕ → Called
waiting_of bytes settings class =
    cond (eqb (lent_number bytes settings) 0)
    (cond (ltb class (tally_count (classes_in settings))) (called 0 (get_or (tenths (record_of bytes) settings) class 0)) (called no_such_object 0))
    (called (lent_number bytes settings) 0)
