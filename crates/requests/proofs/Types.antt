-- Arguments of their C types make a step whose arguments are: 26 bytes are thirteen distances of 16 bits, a signed value has 64 bits.
use mathlib.Core.Path.{refl}
use mathlib.Core.List.{List}
use Prim.Native.Nat.{ℕ, zero, suc, ◌+◌, ◌^◌, ◌<◌}
use native.Mathlib.Omega.{arith}
use lib.ListN.{get_or}
use mir.Syntax.{w64}
use mir.ValLaws.{of_z_fits}
use Rattle.octets.proofs.Laws.{Bytes, get_small}
use Rattle.history.specs.Claims.{Distances}
use Rattle.host.specs.Distances.{pairs_of, distances_of}
use Rattle.accounts.specs.Accounts.{FrontTyped, Typed}
use Rattle.requests.specs.Requests.{Asked, station_begin, station_batch, station_open_read, station_open_write, station_set_value, station_request_commit}
use Rattle.requests.specs.Requests.{station_load_classes, Request, station_front, station_found, station_reselect, station_abort, station_load_hours}
use Rattle.requests.specs.Requests.{station_send, station_deliver, station_drop, station_switch, AskedOfTypes, OfTypes, front_of, call_of}

pairs_small : (n : ℕ) (l : List ℕ) (i : ℕ) → Bytes l → (j : ℕ) → get_or (pairs_of n l i) j 0 < 2 ^ 16
unfolding pairs_of
pairs_small zero l i h j = omega arith
pairs_small (suc n) l i h zero = get_small 2 l i h
pairs_small (suc n) l i h (suc j) = pairs_small n l (i + 2) h j

distances_typed : (l : List ℕ) → Bytes l → Distances (distances_of l)
unfolding distances_of pairs_of
distances_typed l h = (refl, pairs_small 13 l 0 h)

asked_typed : (n : ℕ) (a : Asked) → AskedOfTypes a → FrontTyped n (front_of a)
unfolding front_of
asked_typed n (station_begin live d timestamp day minute) h = (h.0, distances_typed d h.1)
asked_typed n (station_batch live d timestamp day minute list) h = (h.0, distances_typed d h.1)
asked_typed n (station_open_read t) h = tt
asked_typed n (station_open_write t) h = tt
asked_typed n (station_set_value t v) h = (of_z_fits w64 v h).fits
asked_typed n station_request_commit h = tt
asked_typed n (station_load_classes list) h = tt

pub typed : (q : Request) → OfTypes q → Typed (call_of q)
unfolding call_of
typed (station_front n a) h = asked_typed n a h
typed (station_found n t) h = tt
typed (station_reselect n live d) h = distances_typed d h
typed (station_abort n) h = tt
typed (station_load_hours n list) h = tt
typed (station_send n to t) h = tt
typed (station_deliver k kept) h = tt
typed (station_drop k) h = tt
typed (station_switch n up) h = tt
