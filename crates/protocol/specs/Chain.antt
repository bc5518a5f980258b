-- The chain of an object, in the order of the decisions: how a commit lengthens it, and what an entry of it is.
use Rattle.std.specs.Prelude.{◌≡◌, ℕ, suc, ◌≤◌}
use Rattle.std.proofs.Math.Decide.{ℕ_discrete}
use Rattle.protocol.specs.Table.{pick, both}
use Rattle.protocol.specs.Rules.{Object}
use Rattle.protocol.specs.State.{Contents, Chain, writes?}

-- The chains after the commit of c: one entry longer for each object that it writes, and that entry is its new value.
abbrev pub extended : {A : Type 0} → Contents A → Chain A → Chain A
extended c l = record {
  length = λ o. pick (writes? c o) (suc (l.length o)) (l.length o);
  entry = λ o v. pick (both (writes? c o) (ℕ_discrete v (suc (l.length o)))) (c.new o) (l.entry o v);
}

-- The version v with the value a is an entry of the object's chain.
abbrev pub Entry : {A : Type 0} → Chain A → Object → ℕ → A → Type 0
Entry l o v a = (v ≤ l.length o) × (a ≡ l.entry o v)
