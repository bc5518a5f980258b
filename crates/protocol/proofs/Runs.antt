-- Every reachable state has the invariant: the blank state has it, and each transition keeps it.
use Rattle.std.specs.Prelude.{refl}
use mathlib.Core.List.{cons≢nil}
use Rattle.std.proofs.Common.{arith, inl}
use Rattle.protocol.specs.Rules.{Rules}
use Rattle.protocol.specs.State.{State, blank_state}
use Rattle.protocol.specs.Transitions.{Step, ask, commit, abort, list, copy, vote_yes, vote_no, apply, drop, Run, start, next}
use Rattle.protocol.specs.Invariant.{Inv}
use Rattle.protocol.specs.Proof.Tables.{clash}
use Rattle.protocol.proofs.AskAbort.{ask_ok, abort_ok}
use Rattle.protocol.proofs.ListNoDropCopy.{list_ok, no_ok, drop_ok, copy_ok}
use Rattle.protocol.proofs.Yes.{yes_ok}
use Rattle.protocol.proofs.Commit.{commit_ok}
use Rattle.protocol.proofs.Apply.{apply_ok}

pub blank_ok : {A : Type 0} (R : Rules A) → Inv R (blank_state R)
blank_ok R = record {
  votes = record {
    v_asked = λ n x v e. clash (cc);
    v_all = λ n x p q. absurd (clash (cc));
    v_good = λ x a. absurd (a refl);
    v_then = λ n x v. absurd (clash (cc));
    v_late = λ n x v. absurd (clash (cc));
    v_held = λ n x q. absurd (clash (cc));
    v_applied = λ n x a. absurd (clash (cc));
  };
  holds = record { h_one = λ n x y o p q w c. absurd (clash (cc)); h_version = λ n x o q c. omega arith; h_applied = λ n x o a w. absurd (clash (cc)) };
  chain = record {
    c_copy = λ n o. (omega arith, refl);
    c_sent = λ m i. absurd i;
    c_found = λ x o t. absurd (t refl);
    c_blank = λ o. refl;
    c_source = λ o i q. inl refl;
    c_new = λ x o p w. absurd (clash (cc));
  };
  order = record {
    o_committed = λ x i. absurd i;
    o_decided = λ x p. absurd (clash (cc));
    o_once = λ x m s i. cons≢nil s;
    o_found = λ x m o s c. absurd (cons≢nil s);
    o_value = λ m o s. rw s;
    o_length = λ o. refl;
  };
}

pub step_ok : {A : Type 0} {R : Rules A} {σ σ' : State A} → Step R σ σ' → Inv R σ → Inv R σ'
step_ok {R = R} {σ = σ} (ask x c g) iv = ask_ok R σ x c g iv
step_ok {R = R} {σ = σ} (commit x g) iv = commit_ok R σ x g iv
step_ok {R = R} {σ = σ} (abort x g) iv = abort_ok R σ x g iv
step_ok {R = R} {σ = σ} (list n x g) iv = list_ok R σ n x iv g
step_ok {R = R} {σ = σ} (copy n o) iv = copy_ok R σ n o iv
step_ok {R = R} {σ = σ} (vote_yes n x g) iv = yes_ok R σ n x g iv
step_ok {R = R} {σ = σ} (vote_no n x g) iv = no_ok R σ n x iv g
step_ok {R = R} {σ = σ} (apply n x g) iv = apply_ok R σ n x g iv
step_ok {R = R} {σ = σ} (drop n x g) iv = drop_ok R σ n x iv g

pub run_ok : {A : Type 0} {R : Rules A} {σ : State A} → Run R σ → Inv R σ
run_ok {R = R} start = blank_ok R
run_ok (next r s) = step_ok s (run_ok r)
