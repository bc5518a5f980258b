-- What a step answered, as texts.
use Rattle.std.specs.Prelude.{ℕ, cond, List, [], ◌∷◌, ◌++◌, eqb}
use Rattle.report.specs.Texts.{Text, space_text, value_text, number_texts, value_texts, word_of_number}
use Rattle.buffers.specs.declared.Answer.{Answer}
use Rattle.orders.specs.declared.Kind.{Kind}
use Rattle.orders.specs.declared.Kind.TheVariants.{Begin, Batch, OpenRead, OpenWrite, SetValue, Found, Reselect, RequestCommit, Abort}
use Rattle.orders.specs.declared.Kind.TheVariants.{LoadHours, LoadClasses, Send, Deliver, Drop, Switch}

-- the newline, and two spaces
abbrev pub newline : Text
newline = 10 ∷ []

abbrev pub indent : Text
indent = 32 ∷ 32 ∷ []

-- `  ok`
abbrev pub ok_text : Text
ok_text = 32 ∷ 32 ∷ 111 ∷ 107 ∷ []

-- ` quorum `
abbrev pub quorum_text : Text
quorum_text = 32 ∷ 113 ∷ 117 ∷ 111 ∷ 114 ∷ 117 ∷ 109 ∷ 32 ∷ []

-- ` participants `
abbrev pub participants_text : Text
participants_text = 32 ∷ 112 ∷ 97 ∷ 114 ∷ 116 ∷ 105 ∷ 99 ∷ 105 ∷ 112 ∷ 97 ∷ 110 ∷ 116 ∷ 115 ∷ 32 ∷ []

-- ` committed`
abbrev pub committed_text : Text
committed_text = 32 ∷ 99 ∷ 111 ∷ 109 ∷ 109 ∷ 105 ∷ 116 ∷ 116 ∷ 101 ∷ 100 ∷ []

-- ` aborted`
abbrev pub aborted_text : Text
aborted_text = 32 ∷ 97 ∷ 98 ∷ 111 ∷ 114 ∷ 116 ∷ 101 ∷ 100 ∷ []

-- ` ready`
abbrev pub ready_text : Text
ready_text = 32 ∷ 114 ∷ 101 ∷ 97 ∷ 100 ∷ 121 ∷ []

-- ` finished`
abbrev pub finished_text : Text
finished_text = 32 ∷ 102 ∷ 105 ∷ 110 ∷ 105 ∷ 115 ∷ 104 ∷ 101 ∷ 100 ∷ []

-- ---- what a delivery brought about
unfoldable pub brought_texts : ℕ → List Text
brought_texts v =
    cond (eqb v 1) (committed_text ∷ [])
    (cond (eqb v 2) (aborted_text ∷ []) (cond (eqb v 3) (ready_text ∷ []) (cond (eqb v 4) (finished_text ∷ []) [])))

-- ---- what an accepted step answered, by its kind
unfoldable pub answer_texts : Kind → ℕ → List Text
answer_texts Begin v = number_texts quorum_text v
answer_texts Batch v = number_texts quorum_text v
answer_texts OpenRead v = []
answer_texts OpenWrite v = []
answer_texts SetValue v = []
answer_texts Found v = value_texts value_text v
answer_texts Reselect v = number_texts quorum_text v
answer_texts RequestCommit v = number_texts participants_text v
answer_texts Abort v = brought_texts v
answer_texts LoadHours v = []
answer_texts LoadClasses v = []
answer_texts Send v = []
answer_texts Deliver v = brought_texts v
answer_texts Drop v = []
answer_texts Switch v = []

-- ---- the line of a number: it and its word
unfoldable pub refusal_texts : ℕ → List Text
refusal_texts n = number_texts indent n ++ (space_text ∷ word_of_number n ∷ newline ∷ [])

-- ---- the line of a result: `ok` with what was answered, or the number
unfoldable pub result_texts : Kind → Answer → List Text
result_texts kind a = cond (eqb a.number 0) (ok_text ∷ (answer_texts kind a.answer ++ (newline ∷ []))) (refusal_texts a.number)
