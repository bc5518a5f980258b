-- The end of a scenario in texts: a line for each object with a version above 0 or a value in replay, one for each node with a table of classes, and whether
-- the station is at rest and settled.
use Rattle.std.specs.Prelude.{Bool, cond, ◌&&◌, List, [], ◌∷◌, ◌++◌, ℕ, eqb, length}
use Rattle.numbers.specs.Sizes.{nodes, objects, nobody, unknown}
use Rattle.classes.specs.Classes.{most_classes}
use Rattle.record.specs.declared.Called.{Called}
use Rattle.buffers.specs.Buffers.{records_size, record_at}
use Rattle.frontend.specs.Tell.{waiting_of}
use Rattle.service_calls.specs.Lent.{all_settings, settings_at}
use Rattle.replay.specs.Sheet.{value_of}
use Rattle.report.specs.Page.{Page, inks}
use Rattle.report.specs.Each.{each_from}
use Rattle.report.specs.Texts.{Text, space_text, number_texts, value_texts, version_text, value_text}
use Rattle.closing.specs.declared.Best.{Best}
use Rattle.closing.specs.Copies.{newest}
use Rattle.closing.specs.State.{at_rest, settled}

-- `end\n`
abbrev pub end_text : Text
end_text = 101 ∷ 110 ∷ 100 ∷ 10 ∷ []

-- `  object `
abbrev pub object_text : Text
object_text = 32 ∷ 32 ∷ 111 ∷ 98 ∷ 106 ∷ 101 ∷ 99 ∷ 116 ∷ 32 ∷ []

-- ` nodes `
abbrev pub nodes_text : Text
nodes_text = 32 ∷ 110 ∷ 111 ∷ 100 ∷ 101 ∷ 115 ∷ 32 ∷ []

-- ` by `, ` by -`, ` by ?`, `/`
abbrev pub by_text : Text
by_text = 32 ∷ 98 ∷ 121 ∷ 32 ∷ []

abbrev pub by_nobody_text : Text
by_nobody_text = 32 ∷ 98 ∷ 121 ∷ 32 ∷ 45 ∷ []

abbrev pub by_unknown_text : Text
by_unknown_text = 32 ∷ 98 ∷ 121 ∷ 32 ∷ 63 ∷ []

abbrev pub slash_text : Text
slash_text = 47 ∷ []

-- ` replay `
abbrev pub replay_text : Text
replay_text = 32 ∷ 114 ∷ 101 ∷ 112 ∷ 108 ∷ 97 ∷ 121 ∷ 32 ∷ []

-- `  waiting `
abbrev pub waiting_text : Text
waiting_text = 32 ∷ 32 ∷ 119 ∷ 97 ∷ 105 ∷ 116 ∷ 105 ∷ 110 ∷ 103 ∷ 32 ∷ []

-- `\n`
abbrev pub line_end : Text
line_end = 10 ∷ []

-- `  at rest`
abbrev pub rest_text : Text
rest_text = 32 ∷ 32 ∷ 97 ∷ 116 ∷ 32 ∷ 114 ∷ 101 ∷ 115 ∷ 116 ∷ []

-- `  settled`
abbrev pub settled_text : Text
settled_text = 32 ∷ 32 ∷ 115 ∷ 101 ∷ 116 ∷ 116 ∷ 108 ∷ 101 ∷ 100 ∷ []

-- ` yes\n`
abbrev pub yes_text : Text
yes_text = 32 ∷ 121 ∷ 101 ∷ 115 ∷ 10 ∷ []

-- ` no\n`
abbrev pub no_text : Text
no_text = 32 ∷ 110 ∷ 111 ∷ 10 ∷ []

-- ---- `  object 7 version 1 value 5 nodes 8191 by 4/1 replay 5`; none where no node has a version above 0 and replay's value is 0
unfoldable pub copy_texts : ℕ → Best → List Text
copy_texts t b =
    number_texts object_text t ++ number_texts version_text b.version ++ value_texts value_text b.value ++ number_texts nodes_text b.nodes

-- who wrote it last: ` by 4/1`, transaction 1 of owner 4; ` by -`, nobody; ` by ?`, unknown
unfoldable pub author_texts : ℕ → ℕ → List Text
author_texts owner serial =
    cond (eqb owner nobody) (by_nobody_text ∷ [])
    (cond (eqb owner unknown) (by_unknown_text ∷ []) (number_texts by_text owner ++ number_texts slash_text serial))

unfoldable pub object_texts : ℕ → Best → ℕ → List Text
object_texts t b replayed =
    cond (eqb b.version 0 && eqb replayed 0) []
    (copy_texts t b ++ author_texts b.author b.serial ++ value_texts replay_text replayed ++ (line_end ∷ []))

-- all objects
abbrev pub nth_object_texts : List ℕ → List ℕ → ℕ → List Text
nth_object_texts images sheet t = object_texts t (newest images t) (value_of sheet t)

unfoldable pub objects_texts : List ℕ → List ℕ → List Text
objects_texts images sheet = each_from (nth_object_texts images sheet) objects 0

-- ---- `  waiting 4 3 0 7`: the tenths that wait at a node, class by class, as its host is told; none for a node without a table
unfoldable pub class_texts : Called → List Text
class_texts w = cond (eqb w.number 0) (number_texts space_text w.answer) []

abbrev pub nth_class_texts : List ℕ → List ℕ → ℕ → List Text
nth_class_texts bytes settings i = class_texts (waiting_of bytes settings i)

unfoldable pub node_texts : List ℕ → List ℕ → ℕ → List Text
node_texts bytes settings n =
    cond (eqb (waiting_of bytes settings 0).number 0)
    (number_texts waiting_text n ++ each_from (nth_class_texts bytes settings) most_classes 0 ++ (line_end ∷ [])) []

-- all nodes; none for buffers of another length
abbrev pub nth_node_texts : List ℕ → List ℕ → ℕ → List Text
nth_node_texts records settings n = node_texts (record_at records n) (settings_at settings n) n

unfoldable pub waiting_texts : List ℕ → List ℕ → List Text
waiting_texts records settings =
    cond (eqb (length records) records_size && eqb (length settings) all_settings) (each_from (nth_node_texts records settings) nodes 0) []

-- ---- `  at rest yes`
unfoldable pub answer_texts : Text → Bool → List Text
answer_texts label said = label ∷ cond said yes_text no_text ∷ []

-- ---- all of it
unfoldable pub closing_texts : List ℕ → List ℕ → List ℕ → List ℕ → List Text
closing_texts images records settings sheet =
    (end_text ∷ []) ++ objects_texts images sheet ++ waiting_texts records settings ++ answer_texts rest_text (at_rest records)
    ++ answer_texts settled_text (settled images records)

-- put on a page
abbrev pub closed : Page → List ℕ → List ℕ → List ℕ → List ℕ → Page
closed p images records settings sheet = inks p (closing_texts images records settings sheet)
