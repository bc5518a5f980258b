-- What a fetch, an ask and an outcome change here, and what each answers. Refusals come before (Receive).
use Rattle.std.specs.Prelude.{cond, List, [], ◌∷◌, ℕ, ◌+◌, eqb, get_or}
use Rattle.wire.specs.declared.Entry.{Entry}
use Rattle.wire.specs.Message.{Message}
use Rattle.wire.specs.Formed.{word_of}
use Rattle.wire.specs.Items.{no_entry}
use Rattle.letters.specs.Write.{copy_of, vote_of, done_of}
use Rattle.image.specs.Layout.{value, version}
use Rattle.image.specs.Valid.{over, held, refused}
use Rattle.image.specs.Change.{with_value, with_version, with_holder, with_author, with_state, with_owner, add_reader, add_writer, free, unlist}
use Rattle.judge.specs.Standing.{fresh, standing, active, entered}
use Rattle.judge.specs.Judge.{rivals_of, votes_no, no_serials, serials_of}

-- an answer: none, or one message
pub data Answer : Type 0 where
  silent : Answer
  says : Message → Answer

-- the answers of node `me`, each with the message's owner, serial and stamp
abbrev pub copy_to : ℕ → Message → Entry → Message
copy_to me m e = copy_of me m.owner m.serial m.stamp e

abbrev pub vote_to : ℕ → Message → List ℕ → ℕ → Message
vote_to me m serials word = vote_of me m.owner m.serial m.stamp serials word

abbrev pub done_to : ℕ → Message → Message
done_to me m = done_of me m.owner m.serial m.stamp

-- ---- fetch. Listed: the owner joins the readers (mode 0) or the writers (mode 1) of the object, and the copy is answered. Held or refused: as late.
-- the one entry of a fetch
abbrev pub wanted : Message → Entry
wanted m = get_or m.entries 0 no_entry

abbrev pub joins : List ℕ → ℕ → Entry → List ℕ
joins l o e = cond (eqb e.mode 0) (add_reader l e.object o) (add_writer l e.object o)

unfoldable pub fetch_image : List ℕ → Message → List ℕ
fetch_image l m = cond (active l m) (joins (entered l m) m.owner (wanted m)) l

-- the copy here of an entry's object, with the entry's mode
unfoldable pub copy_here : List ℕ → Entry → Entry
copy_here l e = record { object = e.object; mode = e.mode; version = version l e.object; value = value l e.object }

unfoldable pub fetch_answer : ℕ → List ℕ → Message → Answer
fetch_answer me l m = cond (active l m) (says (copy_to me m (copy_here l (wanted m)))) silent

-- ---- ask. Listed is judged; held answers yes and refused no again, both naming no rivals.
-- the owner o holds the copies that the entries write
abbrev pub holding_one : List ℕ → ℕ → Entry → List ℕ
holding_one l o e = cond (eqb e.mode 0) l (with_holder l e.object o)

unfoldable pub holding : List ℕ → ℕ → List Entry → List ℕ
holding l o [] = l
holding l o (e ∷ es) = holding (holding_one l o e) o es

-- the owner leaves all lists, and its state is the vote's
unfoldable pub leaves : List ℕ → ℕ → ℕ → List ℕ
leaves l o state = with_state (unlist l o) o state

-- a no: refused, and nothing held; a yes: the written copies held
unfoldable pub judged_image : List ℕ → Message → List ℕ
judged_image l m = cond (votes_no l m) (leaves l m.owner refused) (holding (leaves l m.owner held) m.owner m.entries)

-- a no (word 0) names no rivals; a yes (word 1) names them
unfoldable pub judged_answer : ℕ → List ℕ → Message → Answer
judged_answer me l m = cond (votes_no l m) (says (vote_to me m no_serials 0)) (says (vote_to me m (serials_of l (rivals_of l m)) 1))

unfoldable pub ask_image : List ℕ → Message → List ℕ
ask_image l m = cond (active l m) (judged_image (entered l m) m) l

unfoldable pub ask_answer : ℕ → List ℕ → Message → Answer
ask_answer me l m =
    cond (active l m) (judged_answer me (entered l m) m)
    (cond (eqb (standing l m) held) (says (vote_to me m no_serials 1))
    (cond (eqb (standing l m) refused) (says (vote_to me m no_serials 0)) silent))

-- ---- outcome. Late changes nothing. An abort of a fresh serial (document 01: early) makes it last, with its stamp, and over.
-- a commit of owner o's transaction n: each object that the message writes takes the message's value, and the message's version plus 1; its author is the
-- transaction (2.5), held here or not
abbrev pub applied_one : List ℕ → ℕ → ℕ → Entry → List ℕ
applied_one l o n e =
    cond (eqb e.mode 0) l (with_author (with_version (with_value l e.object e.value) e.object (e.version + 1)) e.object o n)

unfoldable pub applied : List ℕ → ℕ → ℕ → List Entry → List ℕ
applied l o n [] = l
applied l o n (e ∷ es) = applied (applied_one l o n e) o n es

-- a commit has word 1, an abort word 0
unfoldable pub decided : List ℕ → Message → List ℕ
decided l m = cond (eqb (word_of m) 1) (applied l m.owner m.serial m.entries) l

-- the owner's copies are free, its list entries are cleared, and it is over
unfoldable pub released : List ℕ → ℕ → List ℕ
released l o = leaves (free l o) o over

unfoldable pub outcome_image : List ℕ → Message → List ℕ
outcome_image l m =
    cond (eqb (standing l m) over) l
    (cond (eqb (standing l m) fresh) (with_owner l m.owner m.serial over m.stamp) (released (decided l m) m.owner))

-- every outcome that is not refused is answered: done
abbrev pub outcome_answer : ℕ → Message → Answer
outcome_answer me m = says (done_to me m)
