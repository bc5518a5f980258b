-- Two copies or owners with equal fields are equal.
use mathlib.Core.Path.{◌≡◌}
use Rattle.image.specs.declared.Copy.{Copy}
use Rattle.image.specs.declared.Owner.{Owner}

pub made_copy : {a b : Copy} → a.value ≡ b.value → a.version ≡ b.version → a.holder ≡ b.holder → a.readers ≡ b.readers
    → a.writers ≡ b.writers → a.author ≡ b.author → a.serial ≡ b.serial → a ≡ b
made_copy p q r s t u v i =
    record { value = p i; version = q i; holder = r i; readers = s i; writers = t i; author = u i; serial = v i }

pub made_owner : {a b : Owner} → a.serial ≡ b.serial → a.state ≡ b.state → a.stamp ≡ b.stamp → a ≡ b
made_owner p q r i = record { serial = p i; state = q i; stamp = r i }
