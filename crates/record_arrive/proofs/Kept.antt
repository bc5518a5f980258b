-- A delivery leaves a record where it found one.
use mathlib.Core.List.{List}
use Prim.Native.Nat.{ℕ}
use Rattle.octets.proofs.Laws.{Bytes}
use Rattle.coordinator.specs.declared.Coordinator.{Coordinator}
use Rattle.coordinator.specs.System.{tree}
use Rattle.arrivals.specs.Receive.{receive_of}
use Rattle.clauses.proofs.Quorums.{tree_quorums}
use Rattle.clauses_arrive.proofs.Deliver.{receive_keeps}
use Rattle.clauses_arrive.proofs.Fits.{receive_fits}
use Rattle.record.proofs.Kept.{Keeps}

module _ (me : ℕ) where
  pub receive_kept : (b : List ℕ) → Bytes b → Keeps (λ (c : Coordinator). receive_of tree c me b)
  receive_kept b h c m f = (receive_keeps tree c me b m, receive_fits tree tree_quorums c me m f b h)
