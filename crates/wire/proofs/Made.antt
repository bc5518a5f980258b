-- Two entries, rivals or messages with equal fields are equal.
use mathlib.Core.Path.{◌≡◌}
use Rattle.wire.specs.declared.Entry.{Entry}
use Rattle.wire.specs.declared.Rival.{Rival}
use Rattle.wire.specs.Message.{Message}

pub made_entry : {a b : Entry} → a.object ≡ b.object → a.mode ≡ b.mode → a.version ≡ b.version → a.value ≡ b.value → a ≡ b
made_entry p q r s i = record { object = p i; mode = q i; version = r i; value = s i }

pub made_rival : {a b : Rival} → a.owner ≡ b.owner → a.serial ≡ b.serial → a ≡ b
made_rival p q i = record { owner = p i; serial = q i }

pub made_message : {a b : Message} → a.kind ≡ b.kind → a.from ≡ b.from → a.to ≡ b.to → a.owner ≡ b.owner → a.serial ≡ b.serial
    → a.stamp ≡ b.stamp → a.entries ≡ b.entries → a.rivals ≡ b.rivals → a.words ≡ b.words → a ≡ b
made_message k f t o s u e r w i =
    record { kind = k i; from = f i; to = t i; owner = o i; serial = s i; stamp = u i; entries = e i; rivals = r i; words = w i }
