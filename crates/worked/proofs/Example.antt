-- One running on a blank image, computed on its bytes: owner 4 fetches object 5 to write it, asks, commits 300. Each whole image, and each answer.
use mathlib.Core.Path.{◌≡◌, refl, sym, subst, ◌∙◌}
use mathlib.Core.List.{List, [], ◌∷◌}
use Prim.Native.Nat.{ℕ}
use Rattle.octets.specs.Octets.{get, put}
use Rattle.wire.specs.declared.Entry.{Entry}
use Rattle.wire.specs.Message.{Message}
use Rattle.letters.specs.Write.{fetch_of, ask_of, outcome_of, copy_of, vote_of, done_of, rivals_by}
use Rattle.image.specs.Field.{field_of, with_field}
use Rattle.image.specs.Layout.{shape}
use Rattle.image.specs.Blank.{blank_as, counted}
use Rattle.image.specs.Change.{with_value, with_version, with_holder, with_writers, with_author, with_owner}
use Rattle.judge.specs.Standing.{standing, above_of, active, entered}
use Rattle.judge.specs.Judge.{some, some_below, held_by_another, newer_here, gathered, rivals_of, older_among, votes_no, no_serials, named_below, serials_of}
use Rattle.replica.specs.Steps.{Answer, says, copy_here, fetch_image, fetch_answer, holding, ask_answer, judged_answer, applied, decided}
use Rattle.replica.specs.Receive.{gives, step}
use Rattle.worked.proofs.Swift.{behind, walk, swept}
use Rattle.worked.proofs.Quick.{quick_blank, blank_quick, quick_step, step_quick}

-- node 7, owner 4, serial 2, stamp 9
abbrev written : Entry
written = record { object = 5; mode = 1; version = 0; value = 300 }

-- the images: the blank one, and what each step makes of it
abbrev first : List ℕ → List ℕ
first l = l

abbrev second : List ℕ → List ℕ
second l = with_writers (with_owner l 4 2 1 9) 5 16

abbrev third : List ℕ → List ℕ
third l = with_holder (with_owner l 4 2 2 9) 5 4

abbrev fourth : List ℕ → List ℕ
fourth l = with_author (with_version (with_value (with_owner l 4 2 0 9) 5 300) 5 1) 5 4 2

-- the messages, and the answers
abbrev fetching : Message
fetching = fetch_of 7 4 2 9 5 1

abbrev asking : Message
asking = ask_of 7 4 2 9 (written ∷ []) 1

abbrev committing : Message
committing = outcome_of 7 4 2 9 (written ∷ []) 1 1

abbrev copied : Answer
copied = says (copy_of 7 4 2 9 (record { object = 5; mode = 1; version = 0; value = 0 }))

abbrev yes : Answer
yes = says (vote_of 7 4 2 9 no_serials 1)

abbrev done : Answer
done = says (done_of 7 4 2 9)

-- ---- computed
quick_fetched : quick_step (first quick_blank) 7 fetching ≡ gives (second quick_blank) copied
unfolding behind walk swept quick_blank quick_step standing above_of active entered field_of with_field get put counted fetch_image fetch_answer copy_here
quick_fetched = refl

quick_voted : quick_step (second quick_blank) 7 asking ≡ gives (third quick_blank) yes
unfolding behind walk swept quick_blank quick_step standing above_of active entered field_of with_field get put counted some some_below held_by_another
    newer_here
    gathered rivals_of older_among votes_no named_below serials_of holding judged_answer ask_answer rivals_by
quick_voted = refl

quick_committed : quick_step (third quick_blank) 7 committing ≡ gives (fourth quick_blank) done
unfolding behind walk swept quick_blank quick_step standing above_of field_of with_field get put counted applied decided
quick_committed = refl

-- ---- so it is
on_blank : (before after : List ℕ → List ℕ) (m : Message) (a : Answer) → quick_step (before quick_blank) 7 m ≡ gives (after quick_blank) a
    → step (before (blank_as shape)) 7 m ≡ gives (after (blank_as shape)) a
on_blank before after m a e =
    subst (λ (l : List ℕ). step (before l) 7 m ≡ gives (after l) a) (sym blank_quick) (step_quick (before quick_blank) 7 m ∙ e)

pub fetched : step (first (blank_as shape)) 7 fetching ≡ gives (second (blank_as shape)) copied
fetched = on_blank first second fetching copied quick_fetched

pub voted : step (second (blank_as shape)) 7 asking ≡ gives (third (blank_as shape)) yes
voted = on_blank second third asking yes quick_voted

pub committed : step (third (blank_as shape)) 7 committing ≡ gives (fourth (blank_as shape)) done
committed = on_blank third fourth committing done quick_committed
