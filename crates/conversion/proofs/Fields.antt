-- A converted image at every place: of an object that the older shape has, its fields are those that were; of any other its version and value read 0 in both,
-- and nobody wrote it; and owners are as they were.
use mathlib.Core.Path.{◌≡◌, sym, ◌∙◌, ap}
use mathlib.Core.Bool.{Bool, true, cond}
use mathlib.Core.List.{List}
use mathlib.Core.Logic.{◌≢◌}
use Prim.Native.Nat.{ℕ, ◌<◌, ◌≤◌}
use native.Mathlib.Omega.{arith}
use Rattle.numbers.specs.Sizes.{nobody, unknown}
use Rattle.octets.proofs.Laws.{Bytes}
use Rattle.image.specs.Field.{field_of}
use Rattle.image.specs.Layout.{Shape, shape, has_author, value_field, version_field, author_field, author_serial_field}
use Rattle.image.specs.Layout.{value, version, author, author_serial}
use Rattle.image.proofs.Each.{lt_or_le}
use Rattle.image.proofs.Lens.{of_out}
use Rattle.image.proofs.Blanks.{blank_zero, blank_author}
use Rattle.intake.specs.Take.{author_at, taken_in}
use Rattle.intake.proofs.Taken.{taken_beyond, taken_value, taken_version, taken_author, taken_author_serial}
use Rattle.protocol.proofs.Tables.{on}

module _ (s : Shape) (room : s.objects ≤ shape.objects) (l : List ℕ) (bytes : Bytes l) where
  abbrev new : List ℕ
  new = taken_in s l

  -- ---- of an object that the older shape does not have
  module _ (t : ℕ) (h : s.objects ≤ t) where
    pub beyond_version : version new t ≡ 0
    beyond_version = taken_beyond s l (version_field shape) t tt tt h ∙ blank_zero (version_field shape) t tt tt tt tt

    beyond_value : value new t ≡ 0
    beyond_value = taken_beyond s l (value_field shape) t tt tt h ∙ blank_zero (value_field shape) t tt tt tt tt

    pub beyond_author : t < shape.objects → author new t ≡ nobody
    beyond_author k = taken_beyond s l (author_field shape) t tt tt h ∙ blank_author t k

    pub beyond_serial : author_serial new t ≡ 0
    beyond_serial = taken_beyond s l (author_serial_field shape) t tt tt h ∙ blank_zero (author_serial_field shape) t tt tt tt tt

  -- ---- at every place
  pub version_as : (t : ℕ) → version new t ≡ field_of (version_field s) l t
  version_as t = on (lt_or_le t s.objects) (taken_version s l room bytes t) (λ h. beyond_version t h ∙ sym (of_out (version_field s) l t h))

  pub value_as : (t : ℕ) → value new t ≡ field_of (value_field s) l t
  value_as t = on (lt_or_le t s.objects) (taken_value s l room bytes t) (λ h. beyond_value t h ∙ sym (of_out (value_field s) l t h))

  -- ---- where copies have an author, it is the one that was
  module _ (has : has_author s ≡ true) where
    pub author_as : (t : ℕ) → t < s.objects → author new t ≡ field_of (author_field s) l t
    author_as t h = taken_author s l room bytes t h
        ∙ ap (λ (b : Bool). cond b (field_of (author_field s) l t) (author_at (field_of (version_field s) l t))) has

    pub author_serial_as : (t : ℕ) → t < s.objects → author_serial new t ≡ field_of (author_serial_field s) l t
    author_serial_as t h = taken_author_serial s l room bytes t h ∙ ap (λ (b : Bool). cond b (field_of (author_serial_field s) l t) 0) has

    -- and stays known
    pub author_known : (t : ℕ) → field_of (author_field s) l t ≢ unknown → author new t ≢ unknown
    author_known t k e = on (lt_or_le t s.objects) (λ h. k (sym (author_as t h) ∙ e))
        (λ h. on (lt_or_le t shape.objects)
        (λ q. let f = beyond_author t h q in let z : ⊥ = omega (arith, e, f) in z)
        (λ q. let f = of_out (author_field shape) new t q in let z : ⊥ = omega (arith, e, f) in z))
