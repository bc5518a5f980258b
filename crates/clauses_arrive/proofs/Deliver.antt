-- Every delivery keeps the clauses, refused or not: by the cases of a delivery.
use mathlib.Core.Path.{◌≡◌, refl, ◌∙◌}
use mathlib.Core.List.{List}
use Prim.Native.Nat.{ℕ, zero, suc, ◌+◌}
use native.Mathlib.Omega.{arith}
use lib.Dec.{T, eqb}
use lib.ListN.{length, length-set}
use borrow.Author.Tests.{eqb-true}
use Rattle.numbers.specs.Sizes.{nodes}
use Rattle.mask.specs.Mask.{contains, only, within}
use Rattle.wire.specs.declared.Entry.{Entry}
use Rattle.wire.specs.Decode.{from_of, rival_count}
use Rattle.wire.specs.Items.{entry_of, rival_of}
use Rattle.coordinator.specs.declared.Object.{Object}
use Rattle.coordinator.specs.declared.Coordinator.{Coordinator}
use Rattle.coordinator.specs.Step.{Step}
use Rattle.coordinator.specs.System.{System}
use Rattle.coordinator.specs.State.{idle_phase, voting_phase, finishing_phase, committed, place_of, object_at, awaited}
use Rattle.coordinator.specs.Calls.{with_phase}
use Rattle.arrivals.specs.Receive.{with_copy, raise, raise_from, receive_of}
use Rattle.clauses.proofs.Parts.{on_cond}
use Rattle.clauses.proofs.Sets.{only_within, joined_some, joined_within}
use Rattle.clauses.proofs.Places.{place_open}
use Rattle.clauses.proofs.Facts.{Opened, Meets}
use Rattle.clauses_arrive.proofs.Deliveries.{DoneFitting, CopyFitting, YesFitting, after_copy, said_yes, named, said_done, receive_cases}
use Rattle.clauses.proofs.Keep.{object_keeps, phase_meets, ended_meets, last_party, first_dones, awaited_known, endings_meet}

-- the rivals named in a vote: as many places as before
pub raised_length : (m : List ℕ) (n i : ℕ) (rivals : List ℕ) → length (raise_from m n i rivals) ≡ length rivals
unfolding raise_from
raised_length m zero i rivals = refl
raised_length m (suc n) i rivals = raised_length m n (i + 1) (raise rivals (rival_of m i)) ∙ simp length-set

module _ (s : System) (c : Coordinator) (me : ℕ) (m : List ℕ) (h : Meets s c) where
  -- a copy joins those that came, from a contacted node
  copied_opened : (x : Object) (e : Entry) → Opened c.contacted x → T (contains c.contacted (from_of m)) → Opened c.contacted (with_copy x (from_of m) e)
  unfolding with_copy
  copied_opened x e o t =
      record {
        object_known = o.object_known;
        mode_known = o.mode_known;
        from_contacted = joined_within x.came (only (from_of m)) c.contacted o.from_contacted
            (only_within c.contacted (from_of m) h.nodes.contacted_known t);
        unseen = λ d. absurd (joined_some c.contacted (from_of m) h.nodes.contacted_known t x.came d);
        written = o.written;
        not_given = o.not_given;
      }

  copy_meets : CopyFitting s c me m → Meets s (after_copy c m)
  unfolding with_copy
  copy_meets f =
      let t = (entry_of m 0).object in
      let p = place_open c.objects c.count t f.is_open in
      object_keeps s c h f.answer.in_phase (place_of c t) (with_copy (object_at c t) (from_of m) (entry_of m 0)) p.0 refl
      (copied_opened (object_at c t) (entry_of m 0) (h.objects.opened (place_of c t) p.0) f.answer.from_node)

  -- a yes of a participant
  module _ (f : YesFitting c me m) where
    abbrev voting : c.phase ≡ voting_phase
    voting = f.answer.in_phase

    busy : c.phase ≡ idle_phase → ⊥
    busy d = let e = voting in omega arith

    early : c.phase ≡ finishing_phase → ⊥
    early d = let e = voting in omega arith

    there : c.participants ≡ 0 → ⊥
    there = h.party.asked_for voting

    long : length (named c m) ≡ nodes
    long = raised_length m (rival_count m) 0 c.rivals ∙ h.sizes.rivals_13

    of_party : T (within (said_yes c m) c.participants)
    of_party =
        joined_within c.yes (only (from_of m)) c.participants h.votes.of_participants
        (only_within c.participants (from_of m) h.party.participants_known f.answer.from_node)

    last_yes_meets : T (within c.participants (said_yes c m))
        → Meets s (with_phase c finishing_phase committed c.participants (said_yes c m) c.done (named c m))
    last_yes_meets t =
        phase_meets s c h busy finishing_phase committed c.participants (said_yes c m) c.done (named c m) (λ d. omega arith)
        (omega arith) (omega arith) long (last_party s c h busy (named c m) (λ z. absurd (there z)))
        (record {
          of_participants = of_party;
          vote_missing = λ d. absurd (omega arith);
          agreed_commits = λ d a. refl;
          else_aborted = λ d n. absurd (n (there, t));
        })
        (first_dones s c h busy early
        (on_cond (λ (w : ℕ). w ≡ 0 → ⊥) (eqb c.participants 0) c.contacted c.participants (λ z. absurd (there (eqb-true c.participants 0 z)))
        (λ z. there)))

    one_yes_meets : (T (within c.participants (said_yes c m)) → ⊥)
        → Meets s (with_phase c voting_phase c.outcome c.participants (said_yes c m) c.done (named c m))
    one_yes_meets n =
        phase_meets s c h busy voting_phase c.outcome c.participants (said_yes c m) c.done (named c m) (λ d. omega arith)
        (omega arith) h.numbers.outcome_known long
        (record {
          participants_known = h.party.participants_known;
          no_rivals_lem = λ z. absurd (there z);
          full = h.party.full;
          not_asked = λ d. absurd (omega arith);
          asked_for = λ d. there;
        })
        (record {
          of_participants = of_party;
          vote_missing = λ d a. n a.1;
          agreed_commits = λ d. absurd (omega arith);
          else_aborted = λ d. absurd (omega arith);
        })
        (record {
          of_awaited = λ d. absurd (omega arith);
          done_missing = λ d. absurd (omega arith);
          no_done = λ d. h.dones.no_done early;
        })

  -- a done of an awaited node
  module _ (f : DoneFitting c me m) where
    not_idle : c.phase ≡ idle_phase → ⊥
    not_idle d = let e = f.in_phase in omega arith

    one_done_meets : (T (within (awaited c) (said_done c m)) → ⊥)
        → Meets s (with_phase c c.phase c.outcome c.participants c.yes (said_done c m) c.rivals)
    one_done_meets n =
        phase_meets s c h not_idle c.phase c.outcome c.participants c.yes (said_done c m) c.rivals not_idle h.numbers.phase_known
        h.numbers.outcome_known h.sizes.rivals_13 h.party h.votes
        (record {
          of_awaited = λ d. joined_within c.done (only (from_of m)) (awaited c) (h.dones.of_awaited d)
              (only_within (awaited c) (from_of m) (awaited_known s c h) f.from_node);
          done_missing = λ d. n;
          no_done = λ g. absurd (g f.in_phase);
        })

  pub receive_keeps : Meets s (receive_of s c me m).coordinator
  receive_keeps =
      receive_cases (λ (x : Step). Meets s x.coordinator) s c me m
      (record {
        as_before = λ n. h;
        copied = copy_meets;
        endings = λ r. endings_meet s c h;
        last_yes = last_yes_meets;
        one_yes = one_yes_meets;
        last_done = λ f t. ended_meets s c h (not_idle f) c.outcome h.numbers.outcome_known;
        one_done = one_done_meets;
      })
