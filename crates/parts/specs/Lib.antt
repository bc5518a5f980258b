-- A part of a list, a list with a part replaced, and a list with zeros behind it. The laws are in proofs/Laws.antt.
pub mod Parts
