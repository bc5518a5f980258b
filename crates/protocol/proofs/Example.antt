-- A run, so that the claims are not about nothing, and one that shows why the base's order is not that of the decisions: "A booking that only
-- read may get its yes earlier and decide later." One node, one object: a reader and a writer both get their yes, the reader first (a read is
-- not held), and the writer is decided first. Replay in the order of the decisions would give the reader 7; it found 0.
use Rattle.std.specs.Prelude.{◌≡◌, refl, true, false, ℕ}
use Rattle.std.proofs.Common.{subst, inl, arith}
use Rattle.std.proofs.Math.Decide.{ℕ_discrete}
use Rattle.protocol.specs.Table.{pick, both, put, put2}
use Rattle.protocol.specs.Rules.{Node, Object, root, Mode, unused, read, write, Rules}
use Rattle.protocol.specs.State.{Tx, Tx-discrete, committed, Contents, State, blank_state, Writes, Touches, Held}
use Rattle.protocol.specs.Replay.{given_to}
use Rattle.protocol.specs.Transitions.{do_ask, do_commit, do_list, do_yes, Run, start, next, ask, commit, list, vote_yes}
use Rattle.protocol.specs.Log.{log, fed}
use Rattle.protocol.specs.Proof.Tables.{clash}
use Rattle.protocol.proofs.Tables.{on, pick_cases, put2_cases}
use Rattle.protocol.proofs.Runs.{run_ok}
use Rattle.protocol.specs.Tree.{TreeQuorums, tree_rules}
use Rattle.protocol.proofs.Tree.{tree_free, tree_base}

-- A tree of one node.
abbrev one : TreeQuorums
one = record { Read = λ q. q root ≡ true; Write = λ p. p root ≡ true; root_in = λ p a. a; meet = λ q p a b. (root, (a, b)) }

abbrev R : Rules ℕ
R = tree_rules 0 one

abbrev reader : Tx
reader = record { owner = 1; serial = 1 }

abbrev writer : Tx
writer = record { owner = 2; serial = 1 }

-- Object 0, in a mode; found blank at version 0; a new value.
abbrev contents : Mode → ℕ → Contents ℕ
contents m a = record {
  mode = λ o. pick (ℕ_discrete o 0) m unused;
  version = λ o. 0;
  found = λ o. 0;
  new = λ o. a;
  participants = λ n. pick (ℕ_discrete n 0) true false;
}

-- The states of the run.
abbrev σ0 : State ℕ
σ0 = do_list (do_list (blank_state R) 0 reader) 0 writer

abbrev σ1 : State ℕ
σ1 = do_ask (do_ask σ0 reader (contents read 0)) writer (contents write 7)

abbrev σ2 : State ℕ
σ2 = do_yes σ1 0 reader

abbrev σ3 : State ℕ
σ3 = do_yes σ2 0 writer

abbrev σ4 : State ℕ
σ4 = do_commit (do_commit σ3 writer) reader

in_root : (n : Node) → pick (ℕ_discrete n 0) true false ≡ true → n ≡ 0
in_root n e = on (pick_cases (ℕ_discrete n 0) true false) (λ z. z.0) (λ z. absurd (clash (cc)))

run0 : Run R σ0
unfolding pick both put2 ℕ_discrete
run0 = next (next start (list 0 reader (record { over = refl; above = omega arith }))) (list 0 writer (record { over = refl; above = omega arith }))

run1 : Run R σ1
unfolding pick put Tx-discrete ℕ_discrete
run1 = next (next run0 (ask reader (contents read 0) (record { phase = refl; good = refl; found = λ o t. inl (refl, refl) })))
    (ask writer (contents write 7) (record { phase = refl; good = refl; found = λ o t. inl (refl, refl) }))

-- Nobody is held yet.
nobody_held : (o : Object) (y : Tx) → Held σ1.ends 0 y → Writes σ1.history.contents y o → Touches σ1.history.contents reader o → ⊥
nobody_held o y q w t = let v : false ≡ true = (run_ok run1).votes.v_held 0 y q in clash (cc)

run2 : Run R σ2
unfolding pick both put put2 Tx-discrete ℕ_discrete
run2 = next run1 (vote_yes 0 reader (record {
  asked = λ e. clash (cc);
  listed = refl;
  last = refl;
  free = tree_free 0 one σ1.ends σ1.history.contents 0 reader nobody_held;
  current = λ o t. omega arith;
}))

-- The reader is held, and writes nothing.
reader_held : (y : Tx) → Held σ2.ends 0 y → y ≡ reader
reader_held y q = let v = (run_ok run2).votes.v_held 0 y q in
    on (put2_cases ℕ_discrete Tx-discrete (λ n x. false) 0 reader true 0 y) (λ z. z.0.1) (λ z. let u = z.1 in absurd (clash (cc)))

reader_reads : (o : Object) → Writes σ2.history.contents reader o → ⊥
unfolding put pick Tx-discrete ℕ_discrete
reader_reads o w = on (pick_cases (ℕ_discrete o 0) read unused) (λ z. let u = z.1 in clash (cc)) (λ z. let u = z.1 in clash (cc))

nobody_writes : (o : Object) (y : Tx) → Held σ2.ends 0 y → Writes σ2.history.contents y o → Touches σ2.history.contents writer o → ⊥
nobody_writes o y q w t = reader_reads o (subst (λ x. Writes σ2.history.contents x o) (reader_held y q) w)

run3 : Run R σ3
unfolding pick both put put2 Tx-discrete ℕ_discrete
run3 = next run2 (vote_yes 0 writer (record {
  asked = λ e. clash (cc);
  listed = refl;
  last = refl;
  free = tree_free 0 one σ2.ends σ2.history.contents 0 writer nobody_writes;
  current = λ o t. omega arith;
}))

-- The writer is decided first.
pub run4 : Run R σ4
unfolding pick both put put2 Tx-discrete ℕ_discrete
run4 = next (next run3 (commit writer (record { phase = refl; all_yes = λ n p. rw (in_root n p) refl })))
    (commit reader (record { phase = refl; all_yes = λ n p. rw (in_root n p) refl }))

-- Both are committed.
pub both_committed : (σ4.history.phase reader ≡ committed) × (σ4.history.phase writer ≡ committed)
unfolding pick put Tx-discrete ℕ_discrete
both_committed = (refl, refl)

-- Replay in the order of the decisions gives the reader another value than the one it found.
pub decisions_differ : ((σ4.history.contents reader).found 0 ≡ 0) × (given_to R σ4.history.contents reader σ4.history.decisions 0 ≡ 7)
unfolding pick put Tx-discrete ℕ_discrete
decisions_differ = (refl, refl)

-- Replay in the order of the root's first yes gives it what it found.
reader_touches : Touches σ4.history.contents reader 0
unfolding pick put Tx-discrete ℕ_discrete
reader_touches e = clash (cc)

pub log_agrees : (σ4.history.contents reader).found 0 ≡ given_to R σ4.history.contents reader (fed σ4 (log run4)) 0
log_agrees = (tree_base 0 one run4).serial reader 0 both_committed.0 reader_touches
