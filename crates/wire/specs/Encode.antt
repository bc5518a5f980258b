-- The bytes of a message: a header of 12 bytes, then three sections, each after a one-byte count. Little-endian.
use Rattle.std.specs.Prelude.{List, [], ◌∷◌, ◌++◌, ℕ, ◌+◌, ◌*◌, ◌^◌, ◌<◌, length}
use Rattle.octets.specs.Octets.{le}
use Rattle.wire.specs.declared.Entry.{Entry}
use Rattle.wire.specs.declared.Rival.{Rival}
use Rattle.wire.specs.Message.{Message}

-- sizes in bytes: a header, an entry, a rival
abbrev pub header_size : ℕ
header_size = 12

abbrev pub entry_size : ℕ
entry_size = 14

abbrev pub rival_size : ℕ
rival_size = 5

-- object 1, mode 1, version 4, value 8
unfoldable pub encode_entry : Entry → List ℕ
encode_entry e = e.object ∷ e.mode ∷ le 4 e.version ++ le 8 e.value

-- owner 1, serial 4
unfoldable pub encode_rival : Rival → List ℕ
encode_rival r = r.owner ∷ le 4 r.serial

abbrev pub encode_word : ℕ → List ℕ
encode_word w = w ∷ []

-- the items one after the other
unfoldable pub together : {A : Type 0} → (A → List ℕ) → List A → List ℕ
together f [] = []
together f (x ∷ xs) = f x ++ together f xs

abbrev pub section : {A : Type 0} → (A → List ℕ) → List A → List ℕ
section f xs = length xs ∷ together f xs

abbrev pub encode_header : Message → List ℕ
encode_header m = m.kind ∷ m.from ∷ m.to ∷ m.owner ∷ le 4 m.serial ++ le 4 m.stamp

unfoldable pub encode : Message → List ℕ
encode m = encode_header m ++ (section encode_entry m.entries ++ (section encode_rival m.rivals ++ section encode_word m.words))

-- how long that is
abbrev pub size_with : ℕ → ℕ → ℕ → ℕ
size_with entries rivals words = header_size + 3 + entry_size * entries + rival_size * rivals + words

abbrev pub size_of : Message → ℕ
size_of m = size_with (length m.entries) (length m.rivals) (length m.words)

-- ---- every number fits the bytes that it has
abbrev pub All : {A : Type 0} → (A → Type 0) → List A → Type 0
All P [] = Unit {0}
All P (x ∷ xs) = P x × All P xs

pub record EntryFits (e : Entry) : Type 0 where
  pub object : e.object < 256
  pub mode : e.mode < 256
  pub version : e.version < 256 ^ 4
  pub value : e.value < 256 ^ 8

pub record RivalFits (r : Rival) : Type 0 where
  pub owner : r.owner < 256
  pub serial : r.serial < 256 ^ 4

pub record Fits (m : Message) : Type 0 where
  pub serial : m.serial < 256 ^ 4
  pub stamp : m.stamp < 256 ^ 4
  pub entries : All EntryFits m.entries
  pub rivals : All RivalFits m.rivals
