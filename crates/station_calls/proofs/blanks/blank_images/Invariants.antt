-- `station_calls::blanks::blank_images`: the images passed are blank.
use mathlib.Core.Path.{◌≡◌}
use Rattle.station_calls.specs.Calls.{images_blank}
use Rattle.station_calls.proofs.blanks.blank_images.Given as goal

abbrev pub invariant-loop-n : goal.invariant-loop-n
invariant-loop-n l = l.images ≡ images_blank l.n l.initial.images
