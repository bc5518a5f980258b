-- A call of the host as the code has it: what is asked, with every argument that some call has, and the list that is lent beside it.
use Rattle.std.specs.Prelude.{List, ℕ}
use Rattle.increments.specs.Deeds.{reads, writes, values}
use Rattle.frontend.specs.declared.Act.{Act}
use Rattle.frontend.specs.declared.Act.TheVariants.{Begin, Batch, OpenRead, OpenWrite, SetValue, RequestCommit, LoadClasses}
use Rattle.frontend.specs.declared.Ask.{Ask}
use Rattle.frontend.specs.Plan.{Call, begin, batch, edit, request, load_classes}

unfoldable pub call_by : Act → Ask → List ℕ → Call
call_by Begin a list = begin a.with a.day a.minute
call_by Batch a list = batch a.with a.day a.minute list
call_by OpenRead a list = edit (reads a.object)
call_by OpenWrite a list = edit (writes a.object)
call_by SetValue a list = edit (values a.object a.value)
call_by RequestCommit a list = request
call_by LoadClasses a list = load_classes list

abbrev pub call_of : Ask → List ℕ → Call
call_of a list = call_by a.act a list
