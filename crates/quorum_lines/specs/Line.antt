-- What a line means: fourteen or fifteen decimal numbers, one space apart and nothing else, are a live mask, thirteen distances and the asker, which is
-- node 0 where no fifteenth is given; any other line is bad. A line is read byte by byte; Text has the theorems that say which lines are good.
-- Assumes nothing.
use Rattle.std.specs.Prelude.{ℕ, ◌+◌, ◌*◌, ◌-◌, Bool, true, false, cond, not, ◌&&◌, ◌||◌, List, [], ◌∷◌, ltb, leb, eqb, set, replicate}
use Rattle.numbers.specs.Sizes.{nodes, every_node}
use Rattle.quorum_lines.specs.declared.Line.{Line}

-- a line of which nothing is read
unfoldable pub fresh : Line
fresh = record { count = 0; digits = false; value = 0; spoilt = false; live = 0; distances = replicate nodes 0 }

-- the largest that a number may be, after k others: the mask is the first, then come the distances; `may_end` has the asker's own limit
unfoldable pub most : ℕ → ℕ
most k = cond (eqb k 0) every_node 65535

-- a line that is bad, whatever comes
unfoldable pub spoil : Line → Line
spoil s =
    record { count = s.count; digits = s.digits; value = s.value; spoilt = true; live = s.live; distances = s.distances }

-- the number that was read is complete: the first is the mask, and each later one the next distance
unfoldable pub keep : Line → Line
keep s =
    record {
      count = s.count + 1;
      digits = false;
      value = 0;
      spoilt = s.spoilt;
      live = cond (eqb s.count 0) s.value s.live;
      distances = cond (eqb s.count 0) s.distances (set s.distances (s.count - 1) s.value);
    }

-- a space: it stands behind the digits of the mask or of a distance, and another number follows
unfoldable pub space : Line → Line
space s = cond (s.digits && leb s.count nodes) (keep s) (spoil s)

-- whether a digit d may follow: the number is not too large with it, and does not begin with the digit 0
unfoldable pub may_follow : Line → ℕ → Bool
may_follow s d = leb (s.value * 10 + d) (most s.count) && not (s.digits && eqb s.value 0)

-- the number with a digit d more
unfoldable pub more : Line → ℕ → Line
more s d =
    record {
      count = s.count;
      digits = true;
      value = s.value * 10 + d;
      spoilt = s.spoilt;
      live = s.live;
      distances = s.distances;
    }

-- a digit d
unfoldable pub digit : Line → ℕ → Line
digit s d = cond (may_follow s d) (more s d) (spoil s)

-- the byte of a line that is not bad yet: 32 is the space, 48 to 57 are the digits, and there is no other in a good line
unfoldable pub step_on : Line → ℕ → Line
step_on s b = cond (eqb b 32) (space s) (cond (leb 48 b && leb b 57) (digit s (b - 48)) (spoil s))

-- one byte of a line
unfoldable pub step : Line → ℕ → Line
step s b = cond s.spoilt s (step_on s b)

-- the bytes of a line, one after another
unfoldable pub read_from : Line → List ℕ → Line
read_from s [] = s
read_from s (b ∷ bs) = read_from (step s b) bs

-- what a whole line says: the live mask, the distances and the asker
pub data Reading : Type 0 where
  Good : ℕ → List ℕ → ℕ → Reading
  Bad : Reading

-- the number that is being read may be the line's last: it is the fourteenth, or the fifteenth and names a node
unfoldable pub may_end : Line → Bool
may_end s = eqb s.count nodes || (eqb s.count (nodes + 1) && ltb s.value nodes)

-- good: nothing spoilt it, and it ends behind the digits of a number that may be its last
unfoldable pub is_good : Line → Bool
is_good s = not s.spoilt && (s.digits && may_end s)

-- a good line as it stands at the asker: where it ends with the last distance, this is complete, and the asker, of which nothing is read, is 0
unfoldable pub at_asker : Line → Line
at_asker s = cond (eqb s.count nodes) (keep s) s

-- what a good line says, as it stands at the asker
unfoldable pub says : Line → Reading
says s = Good s.live s.distances s.value

unfoldable pub ended : Line → Reading
ended s = cond (is_good s) (says (at_asker s)) Bad

unfoldable pub reading : List ℕ → Reading
reading line = ended (read_from fresh line)

-- whether a line is begun: something of it is read
unfoldable pub begun : Line → Bool
begun s = s.spoilt || (s.digits || ltb 0 s.count)
