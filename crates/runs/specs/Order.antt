-- An order, with the list that is lent beside it, as a step of the service.
use Rattle.std.specs.Prelude.{refl, Bool, true, false, List, ℕ}
use Rattle.steps.specs.Step.{found, reselect, abort, send, delivery, drop, switch}
use Rattle.increments.specs.Deeds.{reads, writes, values}
use Rattle.frontend.specs.Plan.{begin, batch, edit, request, load_classes}
use Rattle.service.specs.Service.{Call, front, load_hours, plain}
use Rattle.frontend.specs.declared.Act.{Act}
use Rattle.frontend.specs.declared.Act.TheVariants as acts
use Rattle.frontend.specs.declared.Ask.{Ask}
use Rattle.orders.specs.declared.Kind.{Kind}
use Rattle.orders.specs.declared.Kind.TheVariants.{Begin, Batch, OpenRead, OpenWrite, SetValue, Found, Reselect, RequestCommit, Abort}
use Rattle.orders.specs.declared.Kind.TheVariants.{LoadHours, LoadClasses, Send, Deliver, Drop, Switch}
use Rattle.orders.specs.declared.Order.{Order}

-- whether it is a host's call at a node
abbrev pub is_host : Kind → Bool
is_host Begin = true
is_host Batch = true
is_host OpenRead = true
is_host OpenWrite = true
is_host SetValue = true
is_host Found = true
is_host Reselect = true
is_host RequestCommit = true
is_host Abort = true
is_host LoadHours = true
is_host LoadClasses = true
is_host Send = false
is_host Deliver = false
is_host Drop = false
is_host Switch = false

-- the step that an order names
unfoldable pub call_by : Kind → Order → List ℕ → Call
call_by Begin o list = front o.node (begin o.with o.day o.minute)
call_by Batch o list = front o.node (batch o.with o.day o.minute list)
call_by OpenRead o list = front o.node (edit (reads o.object))
call_by OpenWrite o list = front o.node (edit (writes o.object))
call_by SetValue o list = front o.node (edit (values o.object o.value))
call_by Found o list = plain (found o.node o.object) refl
call_by Reselect o list = plain (reselect o.node o.with.live o.with.distances) refl
call_by RequestCommit o list = front o.node request
call_by Abort o list = plain (abort o.node) refl
call_by LoadHours o list = load_hours o.node list
call_by LoadClasses o list = front o.node (load_classes list)
call_by Send o list = plain (send o.node o.to o.object) refl
call_by Deliver o list = plain (delivery o.place o.flag) refl
call_by Drop o list = plain (drop o.place) refl
call_by Switch o list = plain (switch o.node o.flag) refl

abbrev pub call_of : Order → List ℕ → Call
call_of o list = call_by o.kind o list

-- ---- as a front end is asked: whether one plans the step; what none plans has the last act
abbrev pub is_planned : Kind → Bool
is_planned Begin = true
is_planned Batch = true
is_planned OpenRead = true
is_planned OpenWrite = true
is_planned SetValue = true
is_planned Found = false
is_planned Reselect = false
is_planned RequestCommit = true
is_planned Abort = false
is_planned LoadHours = false
is_planned LoadClasses = true
is_planned Send = false
is_planned Deliver = false
is_planned Drop = false
is_planned Switch = false

abbrev pub act_of : Kind → Act
act_of Begin = acts.Begin
act_of Batch = acts.Batch
act_of OpenRead = acts.OpenRead
act_of OpenWrite = acts.OpenWrite
act_of SetValue = acts.SetValue
act_of Found = acts.LoadClasses
act_of Reselect = acts.LoadClasses
act_of RequestCommit = acts.RequestCommit
act_of Abort = acts.LoadClasses
act_of LoadHours = acts.LoadClasses
act_of LoadClasses = acts.LoadClasses
act_of Send = acts.LoadClasses
act_of Deliver = acts.LoadClasses
act_of Drop = acts.LoadClasses
act_of Switch = acts.LoadClasses

abbrev pub ask_of : Order → Ask
ask_of o =
    record { act = act_of o.kind; with = o.with; object = o.object; value = o.value; day = o.day; minute = o.minute }
