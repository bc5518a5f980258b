-- Bytes stored one after the other are the bytes of an object, and of a record.
use mathlib.Core.Path.{◌≡◌, refl, sym, ap, ◌∙◌}
use mathlib.Core.Bool.{cond}
use mathlib.Core.List.{List, [], ◌∷◌, ◌++◌, append-nil}
use Prim.Native.Nat.{ℕ, ◌+◌, ◌%◌, ◌≤◌}
use native.Mathlib.Numerals.{add-one}
use native.Mathlib.Omega.{arith}
use lib.ListN.{length, set, drop, length-append, drop_of_length-le}
use lib.Seq.{sets, sets-eq}
use Rattle.record.specs.Layout.{record_size}
use Rattle.numbers.specs.Sizes.{nodes, most_open}
use Rattle.octets.specs.Octets.{put, le}
use Rattle.octets.proofs.Laws.{put_le, length_le}
use Rattle.wire.specs.Encode.{together}
use Rattle.wire.proofs.Stores.{sets_then, put_then}
use Rattle.wire.proofs.RoundTrip.{length_together}
use Rattle.coordinator.specs.declared.Object.{Object}
use Rattle.coordinator.specs.declared.Coordinator.{Coordinator}
use Rattle.record.specs.Record.{front_of, quorum_of, votes_of, object_bytes, front_bytes, quorum_bytes, vote_bytes, bytes_of}

-- ---- one byte or one number, then the rest
byte_to : (v : ℕ) (b l : List ℕ) (i j : ℕ) → i + 1 ≡ j → sets l i (v ∷ b) ≡ sets (set l i v) j b
byte_to v b l i j e = ap (λ (k : ℕ). sets (set l i v) k b) (sym (add-one i) ∙ e)

put_to : (k v : ℕ) (b l : List ℕ) (i j : ℕ) → i + k ≡ j → sets l i (le k v ++ b) ≡ sets (put k l i v) j b
put_to k v b l i j e = put_then k v b l i ∙ ap (λ (n : ℕ). sets (put k l i v) n b) e

piece_to : (a b l : List ℕ) (i n j : ℕ) → length a ≡ n → i + n ≡ j → sets l i (a ++ b) ≡ sets (sets l i a) j b
piece_to a b l i n j e f = sets_then a b l i n e ∙ ap (λ (k : ℕ). sets (sets l i a) k b) f

pub object_stores : (x : Object) (l : List ℕ) (i : ℕ)
    → put 8
    (set (put 8 (put 4 (put 2 (set (set l i x.object) (i + 1) x.mode) (i + 2) x.came) (i + 4) x.version) (i + 8) x.value) (i + 16)
    (cond x.given 1 0))
    (i + 17) x.new ≡ sets l i (object_bytes x)
unfolding object_bytes
object_stores x l i =
    let t6 : List ℕ = le 8 x.new in
    let t5 : List ℕ = cond x.given 1 0 ∷ t6 in
    let t4 : List ℕ = le 8 x.value ++ t5 in
    let t3 : List ℕ = le 4 x.version ++ t4 in
    let t2 : List ℕ = le 2 x.came ++ t3 in
    let t1 : List ℕ = x.mode ∷ t2 in
    let l1 : List ℕ = set l i x.object in
    let l2 : List ℕ = set l1 (i + 1) x.mode in
    let l3 : List ℕ = put 2 l2 (i + 2) x.came in
    let l4 : List ℕ = put 4 l3 (i + 4) x.version in
    let l5 : List ℕ = put 8 l4 (i + 8) x.value in
    let l6 : List ℕ = set l5 (i + 16) (cond x.given 1 0) in
    sym
    (byte_to x.object t1 l i (i + 1) refl
    ∙ byte_to x.mode t2 l1 (i + 1) (i + 2) (omega arith)
    ∙ put_to 2 x.came t3 l2 (i + 2) (i + 4) (omega arith)
    ∙ put_to 4 x.version t4 l3 (i + 4) (i + 8) (omega arith)
    ∙ put_to 8 x.value t5 l4 (i + 8) (i + 16) (omega arith)
    ∙ byte_to (cond x.given 1 0) t6 l5 (i + 16) (i + 17) (omega arith)
    ∙ sym (put_le 8 l6 (i + 17) x.new))

pub front_stores : (serial timestamp outcome phase live : ℕ) (l : List ℕ)
    → put 2 (set (set (put 4 (put 4 l 0 serial) 4 timestamp) 8 outcome) 9 phase) 10 live ≡ sets l 0 (front_of serial timestamp outcome phase live)
unfolding front_of
front_stores serial timestamp outcome phase live l =
    let t4 : List ℕ = le 2 live in
    let t3 : List ℕ = phase ∷ t4 in
    let t2 : List ℕ = outcome ∷ t3 in
    let t1 : List ℕ = le 4 timestamp ++ t2 in
    let l1 : List ℕ = put 4 l 0 serial in
    let l2 : List ℕ = put 4 l1 4 timestamp in
    let l3 : List ℕ = set l2 8 outcome in
    let l4 : List ℕ = set l3 9 phase in
    sym
    (put_to 4 serial t1 l 0 4 refl
    ∙ put_to 4 timestamp t2 l1 4 8 refl
    ∙ byte_to outcome t3 l2 8 9 refl
    ∙ byte_to phase t4 l3 9 10 refl
    ∙ sym (put_le 2 l4 10 live))

pub quorum_stores : (quorum contacted count : ℕ) (l : List ℕ)
    → set (put 2 (put 2 l 38 quorum) 40 contacted) 42 (count % 256) ≡ sets l 38 (quorum_of quorum contacted count)
unfolding quorum_of
quorum_stores quorum contacted count l =
    let t2 : List ℕ = count % 256 ∷ [] in
    let t1 : List ℕ = le 2 contacted ++ t2 in
    let l1 : List ℕ = put 2 l 38 quorum in
    sym
    (put_to 2 quorum t1 l 38 40 refl
    ∙ put_to 2 contacted t2 l1 40 42 refl)

pub vote_stores : (participants agreed done : ℕ) (l : List ℕ)
    → put 2 (put 2 (put 2 l 243 participants) 245 agreed) 247 done ≡ sets l 243 (votes_of participants agreed done)
unfolding votes_of
vote_stores participants agreed done l =
    let t2 : List ℕ = le 2 done in
    let t1 : List ℕ = le 2 agreed ++ t2 in
    let l1 : List ℕ = put 2 l 243 participants in
    let l2 : List ℕ = put 2 l1 245 agreed in
    sym
    (put_to 2 participants t1 l 243 245 refl
    ∙ put_to 2 agreed t2 l1 245 247 refl
    ∙ sym (put_le 2 l2 247 done))

-- ---- lengths
pub length_object : (x : Object) → length (object_bytes x) ≡ 25
unfolding object_bytes
length_object x =
    simp length-append (omega (arith, length_le 2 x.came, length_le 4 x.version, length_le 8 x.value, length_le 8 x.new))

pub length_front : (c : Coordinator) → length (front_bytes c) ≡ 12
unfolding front_of
length_front c = simp length-append (omega (arith, length_le 4 c.serial, length_le 4 c.timestamp, length_le 2 c.live))

pub length_quorum : (c : Coordinator) → length (quorum_bytes c) ≡ 5
unfolding quorum_of
length_quorum c = simp length-append (omega (arith, length_le 2 c.quorum, length_le 2 c.contacted))

pub length_votes : (c : Coordinator) → length (vote_bytes c) ≡ 6
unfolding votes_of
length_votes c = simp length-append (omega (arith, length_le 2 c.participants, length_le 2 c.yes, length_le 2 c.done))

module _ (c : Coordinator) (d13 : length c.distances ≡ nodes) (o8 : length c.objects ≡ most_open) (r13 : length c.rivals ≡ nodes) where
  length_distances : length (together (le 2) c.distances) ≡ 26
  length_distances = omega (arith, length_together (le 2) 2 (length_le 2) c.distances)

  length_objects : length (together object_bytes c.objects) ≡ 200
  length_objects = omega (arith, length_together object_bytes 25 length_object c.objects)

  length_rivals : length (together (le 4) c.rivals) ≡ 52
  length_rivals = omega (arith, length_together (le 4) 4 (length_le 4) c.rivals)

  -- a record has 301 bytes
  pub length_bytes : length (bytes_of c) ≡ record_size
  unfolding bytes_of
  length_bytes =
      simp length-append
      (omega (arith, length_front c, length_distances, length_quorum c, length_objects, length_votes c, length_rivals))

  pub record_stores : (l : List ℕ)
      → sets
      (sets (sets (sets (sets (sets l 0 (front_bytes c)) 12 (together (le 2) c.distances)) 38 (quorum_bytes c)) 43 (together object_bytes c.objects)) 243
      (vote_bytes c)) 249 (together (le 4) c.rivals) ≡ sets l 0 (bytes_of c)
  unfolding bytes_of
  record_stores l =
      let d : List ℕ = together (le 2) c.distances in
      let o : List ℕ = together object_bytes c.objects in
      let t5 : List ℕ = together (le 4) c.rivals in
      let t4 : List ℕ = vote_bytes c ++ t5 in
      let t3 : List ℕ = o ++ t4 in
      let t2 : List ℕ = quorum_bytes c ++ t3 in
      let l1 : List ℕ = sets l 0 (front_bytes c) in
      let l2 : List ℕ = sets l1 12 d in
      let l3 : List ℕ = sets l2 38 (quorum_bytes c) in
      let l4 : List ℕ = sets l3 43 o in
      sym
      (piece_to (front_bytes c) (d ++ t2) l 0 12 12 (length_front c) refl
      ∙ piece_to d t2 l1 12 26 38 length_distances refl
      ∙ piece_to (quorum_bytes c) t3 l2 38 5 43 (length_quorum c) refl
      ∙ piece_to o t4 l3 43 200 243 length_objects refl
      ∙ piece_to (vote_bytes c) t5 l4 243 6 249 (length_votes c) refl)

-- bytes stored over all of as many
pub stored_over : (vs l : List ℕ) → length vs ≡ record_size → length l ≡ record_size → sets l 0 vs ≡ vs
stored_over vs l e f =
    let gone : drop (0 + length vs) l ≡ [] = drop_of_length-le l (let z : length l ≤ 0 + length vs = omega arith in z) in
    sets-eq vs l 0 (omega arith) ∙ ap (λ (x : List ℕ). vs ++ x) gone ∙ append-nil vs
