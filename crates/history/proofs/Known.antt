-- No step makes an author unknown: only a commit writes authors, and it writes its message's owner.
use mathlib.Core.Path.{◌≡◌, refl, sym, ◌∙◌, ap, subst}
use mathlib.Core.Bool.{Bool, true, false, cond, not, ◌&&◌}
use mathlib.Core.List.{List, []}
use Prim.Native.Nat.{ℕ}
use native.Mathlib.Omega.{arith}
use lib.Dec.{eqb, ltb}
use lib.ListN.{length, get_or}
use borrow.Author.Tests.{ltb-true}
use Rattle.numbers.specs.Sizes.{objects, unknown, longest_message}
use Rattle.mask.specs.Mask.{contains}
use Rattle.octets.proofs.Laws.{Bytes}
use Rattle.wire.specs.Message.{Message}
use Rattle.wire.specs.Formed.{word_of}
use Rattle.wire.specs.Encode.{encode}
use Rattle.wire.specs.Decode.{kind_of, to_of, check_of, decode}
use Rattle.image.specs.declared.Copy.{Copy}
use Rattle.image.specs.Layout.{shape, author_field, author, copy_of}
use Rattle.image.proofs.Each.{lt_or_le, same_or_not}
use Rattle.image.proofs.Lens.{of_out}
use Rattle.judge.specs.Standing.{standing}
use Rattle.replica.specs.Steps.{Answer, silent, says, applied, decided, outcome_image}
use Rattle.replica.specs.Receive.{refusal, Delivered, deliver}
use Rattle.replica.specs.Receive.{step as replicaStep}
use Rattle.replica.proofs.Delivered.{either_way, refused_is, delivered_is, commit_raises}
use Rattle.replica.proofs.Fields.{mark_in, owner_apart, released_apart, applied_copy_lem}
use Rattle.replica.proofs.Holders.{writes_in}
use Rattle.replica.proofs.Late.{same_fetch, same_ask}
use Rattle.replica.proofs.Taken.{Taken, taken as is-taken, by_kind}
use Rattle.arrivals.specs.Receive.{for_replica, receive_of}
use Rattle.coordinator.specs.Step.{Step}
use Rattle.coordinator.specs.Calls.{no_node}
use Rattle.due.specs.Kind.{due_kind}
use Rattle.due.specs.Due.{message_due}
use Rattle.steps.specs.Station.{Station, system}
use Rattle.steps.specs.Step.{Call, begin, open_read, open_write, set_value, found, reselect, request_commit, abort, send, delivery, drop, switch, step}
use Rattle.steps.specs.Step.{Outcome, refused_with, taken, putting, full, send_number, hosted, answered, at_replica, at_coordinator, arriving, delivery_of}
use Rattle.steps.specs.Step.{drop_of, switch_of, send_of}
use Rattle.protocol.proofs.Tables.{on}
use Rattle.history.specs.Claims.{Known}
use Rattle.history.proofs.Carry.{put_all}
use Rattle.history.proofs.Books.{Valid}
use Rattle.history.proofs.Arrive.{in_place}
use Rattle.history.proofs.Images.{mark_taken, mark_left}

abbrev KnownIn : List ℕ → Type 0
KnownIn l = (t : ℕ) → author l t ≡ unknown → ⊥

-- ---- one message at a replica
module _ (l : List ℕ) (m : Message) (k : Taken l m) (known : KnownIn l) where
  abbrev o : ℕ
  o = m.owner

  -- what is written has the owner for its author
  marked : (t : ℕ) (b : Bool) → writes_in m.entries t ≡ b → mark_in o m.entries t (author l t) ≡ unknown → ⊥
  marked t true w e = let f = sym (mark_taken o t m.entries (author l t) w) ∙ e in let z : ⊥ = omega (arith, f, k.owner) in z
  marked t false w e = known t (sym (mark_left o t m.entries (author l t) w) ∙ e)

  commit_known : m.kind ≡ 5 → KnownIn (applied l o m.serial m.entries)
  unfolding copy_of
  commit_known kind t e = on (lt_or_le t objects)
      (λ h. marked t (writes_in m.entries t) refl (sym (ap (λ (c : Copy). c.author) (applied_copy_lem t h o m.serial (omega (arith, k.owner))
      (omega (arith, k.fits.serial)) l m.entries (omega (arith, k.sound.size)) k.fits.entries (commit_raises m k.formed kind))) ∙ e))
      (λ h. let f = of_out (author_field shape) (applied l o m.serial m.entries) t h in let z : ⊥ = omega (arith, e, f) in z)

  decided_known : m.kind ≡ 5 → KnownIn (decided l m)
  unfolding decided
  decided_known kind = either_way KnownIn (eqb (word_of m) 1) _ _ (commit_known kind) known

  outcome_known : m.kind ≡ 5 → KnownIn (outcome_image l m)
  unfolding outcome_image
  outcome_known kind = either_way KnownIn (eqb (standing l m) 0) _ _ known (either_way KnownIn (eqb (standing l m) 4) _ _
      (λ t e. known t (sym (owner_apart (author_field shape) t tt tt tt l o m.serial 0 m.stamp) ∙ e))
      (λ t e. decided_known kind t (sym (released_apart (author_field shape) t tt tt tt tt (decided l m) o) ∙ e)))

  step_known : (me : ℕ) → KnownIn (replicaStep l me m).image
  step_known me = by_kind KnownIn l me m k
      (λ e t f. known t (sym (same_fetch (author_field shape) (tt, tt, tt, tt, tt, tt) t l m) ∙ f))
      (λ e t f. known t (sym (same_ask (author_field shape) (tt, tt, tt, tt, tt, tt) t l m) ∙ f)) outcome_known

delivered_known : (l : List ℕ) (n : ℕ) (b : List ℕ) → Bytes b → KnownIn l → KnownIn (deliver longest_message l n b).image
delivered_known l n b y known = on (same_or_not (refusal longest_message l n b) 0)
    (λ e. subst (λ (d : Delivered). KnownIn d.image) (sym (delivered_is longest_message l n b e))
    (step_known l (decode b) (is-taken longest_message l n b y e) known n))
    (λ e. subst (λ (d : Delivered). KnownIn d.image) (sym (refused_is longest_message l n b e)) known)

-- ---- one step of the station
module _ (st : Station) (v : Valid st) (known : Known st) where
  abbrev Stays : Outcome → Type 0
  Stays r = Known r.station

  hosted_known : (n : ℕ) (s : Step) → Stays (hosted st n s)
  unfolding hosted
  hosted_known n s = either_way Stays (contains st.own.on n) _ _ (either_way Stays (eqb s.number 0) _ _ known known) known

  answered_known : (k : ℕ) (kept : Bool) (n : ℕ) (l : List ℕ) (a : Answer) → KnownIn l → Stays (answered st k kept n l a)
  unfolding answered
  answered_known k kept n l silent h = put_all (λ (i : ℕ) (l : List ℕ). KnownIn l) st.images n l h (λ i e. known i)
  answered_known k kept n l (says m) h = either_way Stays (kept && full st) _ _ known
      (put_all (λ (i : ℕ) (l : List ℕ). KnownIn l) st.images n l h (λ i e. known i))

  arriving_known : (k : ℕ) (kept : Bool) (b : List ℕ) → Bytes b → Stays (arriving st k kept b)
  unfolding arriving at_replica at_coordinator
  arriving_known k kept b y =
      let n = to_of b in
      let d = deliver longest_message (st.images n) n b in
      let s = receive_of (system st) (st.records n) n b in
      either_way Stays (contains st.own.on n) _ _
      (either_way Stays (for_replica (kind_of b)) _ _
      (either_way Stays (eqb d.number 0) _ _
      (answered_known k kept n d.image d.answer (delivered_known (st.images n) n b y (known n))) known)
      (either_way Stays (eqb s.number 0) _ _ known known))
      known

  delivery_known : (k : ℕ) (kept : Bool) → Stays (delivery_of st k kept)
  unfolding delivery_of
  delivery_known k kept = by (ltb k (length st.pool)) refl
    where
      b : List ℕ
      b = get_or st.pool k []

      by : (x : Bool) → ltb k (length st.pool) ≡ x
          → Stays (cond x (cond (eqb (check_of b) 0) (arriving st k kept b) (refused_with (check_of b) st)) (refused_with 5 st))
      by true e = either_way Stays (eqb (check_of b) 0) _ _
          (arriving_known k kept b (v.messages b (in_place st.pool k [] (ltb-true k (length st.pool) e)))) known
      by false e = known

  pub known_next : (c : Call) → Known (step st c).station
  unfolding step drop_of switch_of send_of
  known_next (begin n a) = hosted_known n _
  known_next (open_read n t) = hosted_known n _
  known_next (open_write n t) = hosted_known n _
  known_next (set_value n t x) = hosted_known n _
  known_next (found n t) = hosted_known n _
  known_next (reselect n live d) = hosted_known n _
  known_next (request_commit n) = hosted_known n _
  known_next (abort n) = hosted_known n _
  known_next (send n to t) =
      let kind = due_kind (system st) (st.records n) to t in
      let m = message_due (st.records n) n to t kind in
      let due = not (eqb kind 0) in
      let number = send_number st n to t m due in
      either_way Stays (eqb number 0) (cond due (putting (encode m) st) (taken 0 st)) (refused_with number st)
      (either_way Stays due (putting (encode m) st) (taken 0 st) known known) known
  known_next (delivery k kept) = delivery_known k kept
  known_next (drop k) = either_way Stays (ltb k (length st.pool)) _ _ known known
  known_next (switch n up) = either_way Stays (no_node n) _ _ known known
