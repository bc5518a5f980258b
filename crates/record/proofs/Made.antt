-- Two objects or records with equal fields are equal.
use mathlib.Core.Path.{◌≡◌}
use Rattle.coordinator.specs.declared.Object.{Object}
use Rattle.coordinator.specs.declared.Coordinator.{Coordinator}

pub made_object : {x y : Object} → x.object ≡ y.object → x.mode ≡ y.mode → x.came ≡ y.came → x.version ≡ y.version → x.value ≡ y.value
    → x.given ≡ y.given → x.new ≡ y.new → x ≡ y
made_object a b c d e f g i = record { object = a i; mode = b i; came = c i; version = d i; value = e i; given = f i; new = g i }

pub made_record : {x y : Coordinator} → x.serial ≡ y.serial → x.timestamp ≡ y.timestamp → x.outcome ≡ y.outcome → x.phase ≡ y.phase → x.live ≡ y.live
    → x.distances ≡ y.distances → x.quorum ≡ y.quorum → x.contacted ≡ y.contacted → x.count ≡ y.count
    → x.objects ≡ y.objects → x.participants ≡ y.participants → x.yes ≡ y.yes → x.done ≡ y.done → x.rivals ≡ y.rivals → x ≡ y
made_record a b c d e f g h j k l m n o i =
    record {
      serial = a i;
      timestamp = b i;
      outcome = c i;
      phase = d i;
      live = e i;
      distances = f i;
      quorum = g i;
      contacted = h i;
      count = j i;
      objects = k i;
      participants = l i;
      yes = m i;
      done = n i;
      rivals = o i;
    }
