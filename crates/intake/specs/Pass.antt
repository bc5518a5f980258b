-- What the private functions say: an older shape as the code carries it (the struct Older).
use Rattle.std.specs.Prelude.{cond, ◌<◌, ◌≤◌, eqb}
use Rattle.std.proofs.Math.Option.{Option, none, some}
use Rattle.image.specs.Layout.{Shape, shape}
use Rattle.intake.specs.declared.Older.{Older}

abbrev pub shape_of : Older → Shape
shape_of s = record { objects = s.objects; copy_size = s.width }

-- no objects stand for no older shape
abbrev pub found : Older → Option Shape
found s = cond (eqb s.objects 0) none (some (shape_of s))

-- today's image has room for its objects, and its places are small numbers
abbrev pub Fits : Older → Type 0
Fits s = (s.objects ≤ shape.objects) × (s.width < 256)
