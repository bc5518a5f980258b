-- The leaves of the three halls, counted, as the private functions carry them: three bits a hall. What is proved of them is in proofs/Threes.antt.
use Rattle.std.specs.Prelude.{ℕ, ◌+◌, ◌*◌}
use Rattle.mask.specs.Mask.{bit}

-- how many of the three nodes that follow node i are in m
abbrev pub count_after : ℕ → ℕ → ℕ
count_after m i = bit m (i + 1) + bit m (i + 2) + bit m (i + 3)

abbrev pub leaf_counts : ℕ → ℕ
leaf_counts m = count_after m 3 + 8 * count_after m 6 + 64 * count_after m 9
