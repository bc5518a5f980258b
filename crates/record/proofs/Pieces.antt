-- A record changed in place: other bytes stored over one piece of a record's bytes give the bytes of the record with that piece changed.
use mathlib.Core.Path.{◌≡◌, refl, sym, ap, ◌∙◌}
use mathlib.Core.List.{List, [], ◌∷◌, ◌++◌, append-nil}
use Prim.Native.Nat.{ℕ, zero, suc, ◌+◌, ◌*◌, ◌≤◌, ◌<◌}
use native.Mathlib.Nat.{mul-suc}
use native.Mathlib.Omega.{arith}
use lib.ListN.{length, set, drop, length-append, length-set}
use lib.Seq.{sets, sets-eq, drop-append_seam}
use Rattle.numbers.specs.Sizes.{nodes, most_open}
use Rattle.octets.specs.Octets.{put, le}
use Rattle.octets.proofs.Laws.{put_le, length_le}
use Rattle.wire.specs.Encode.{together}
use Rattle.wire.proofs.RoundTrip.{length_together}
use Rattle.coordinator.specs.declared.Object.{Object}
use Rattle.coordinator.specs.declared.Coordinator.{Coordinator}
use Rattle.coordinator.specs.Calls.{with_objects, with_phase}
use Rattle.record.specs.Record.{front_of, quorum_of, votes_of, object_bytes, front_bytes, quorum_bytes, vote_bytes, bytes_of}
use Rattle.record.proofs.Stores.{length_object, length_front, length_quorum, length_votes}

-- ---- bytes stored over a list of two parts: over the first, within it, behind it
over : (x y v : List ℕ) (n : ℕ) → length x ≡ n → length v ≡ n → sets (x ++ y) 0 v ≡ v ++ y
over x y v n e f =
    let h : 0 + length v ≤ length (x ++ y) = omega (arith, length-append x y) in
    let z : 0 + length v ≡ length x = omega arith in
    sets-eq v (x ++ y) 0 h ∙ ap (λ (k : ℕ). v ++ drop k (x ++ y)) z ∙ ap (◌++◌ v) (drop-append_seam x y)

all_over : (x v : List ℕ) (n : ℕ) → length x ≡ n → length v ≡ n → sets x 0 v ≡ v
all_over x v n e f = ap (λ (l : List ℕ). sets l 0 v) (sym (append-nil x)) ∙ over x [] v n e f ∙ append-nil v

set_first : (x y : List ℕ) (i a : ℕ) → i < length x → set (x ++ y) i a ≡ set x i a ++ y
set_first [] y i a h = absurd (let z : ⊥ = omega arith in z)
set_first (b ∷ x) y zero a h = refl
set_first (b ∷ x) y (suc i) a h = ap (◌∷◌ b) (set_first x y i a (omega arith))

within_first : (v x y : List ℕ) (i : ℕ) → i + length v ≤ length x → sets (x ++ y) i v ≡ sets x i v ++ y
within_first [] x y i h = refl
within_first (a ∷ v) x y i h =
    ap (λ (m : List ℕ). sets m (suc i) v) (set_first x y i a (omega arith))
    ∙ within_first v (set x i a) y (suc i) (omega (arith, length-set x i a))

sets_cons : (b : ℕ) (v l : List ℕ) (i : ℕ) → sets (b ∷ l) (suc i) v ≡ b ∷ sets l i v
sets_cons b [] l i = refl
sets_cons b (a ∷ v) l i = sets_cons b v (set l i a) (suc i)

past : (x y v : List ℕ) (i n j : ℕ) → length x ≡ n → n + i ≡ j → sets (x ++ y) j v ≡ x ++ sets y i v
past [] y v i n j e f = let z : j ≡ i = omega arith in ap (λ (k : ℕ). sets y k v) z
past (b ∷ x) y v i n zero e f = absurd (let z : ⊥ = omega arith in z)
past (b ∷ x) y v i n (suc j) e f =
    sets_cons b v (x ++ y) j ∙ ap (◌∷◌ b) (past x y v i (length x) j refl (omega arith))

-- one item of many
item_over : {A : Type 0} (enc : A → List ℕ) (size : ℕ) → ((x : A) → length (enc x) ≡ size) → (xs : List A) (p : ℕ) (x : A) → p < length xs
    → sets (together enc xs) (size * p) (enc x) ≡ together enc (set xs p x)
unfolding together
item_over enc size len [] p x h = absurd (let z : ⊥ = omega arith in z)
item_over enc size len (y ∷ xs) zero x h =
    let z : size * 0 ≡ 0 = omega arith in
    ap (λ (k : ℕ). sets (enc y ++ together enc xs) k (enc x)) z ∙ over (enc y) (together enc xs) (enc x) size (len y) (len x)
item_over enc size len (y ∷ xs) (suc p) x h =
    let z : size + size * p ≡ size * suc p = omega (arith, mul-suc size p) in
    past (enc y) (together enc xs) (enc x) (size * p) size (size * suc p) (len y) z ∙ ap (◌++◌ (enc y)) (item_over enc size len xs p x (omega arith))

-- ---- the pieces of a record
-- the same transaction with another front
abbrev pub with_front : Coordinator → ℕ → ℕ → ℕ → ℕ → ℕ → Coordinator
with_front c serial timestamp outcome phase live =
    record {
      serial = serial;
      timestamp = timestamp;
      outcome = outcome;
      phase = phase;
      live = live;
      distances = c.distances;
      quorum = c.quorum;
      contacted = c.contacted;
      count = c.count;
      objects = c.objects;
      participants = c.participants;
      yes = c.yes;
      done = c.done;
      rivals = c.rivals;
    }

-- the bytes from the objects on
abbrev pub tail_bytes : Coordinator → List ℕ
tail_bytes c = together object_bytes c.objects ++ (vote_bytes c ++ together (le 4) c.rivals)

module _ (c : Coordinator) (d13 : length c.distances ≡ nodes) (o8 : length c.objects ≡ most_open) (r13 : length c.rivals ≡ nodes) where
  abbrev F : List ℕ
  F = front_of c.serial c.timestamp c.outcome c.phase c.live

  abbrev D : List ℕ
  D = together (le 2) c.distances

  abbrev Q : List ℕ
  Q = quorum_of c.quorum c.contacted c.count

  abbrev O : List ℕ
  O = together object_bytes c.objects

  abbrev W : List ℕ
  W = votes_of c.participants c.yes c.done

  abbrev R : List ℕ
  R = together (le 4) c.rivals

  D26 : length D ≡ 26
  D26 = omega (arith, length_together (le 2) 2 (length_le 2) c.distances)

  O200 : length O ≡ 200
  O200 = omega (arith, length_together object_bytes 25 length_object c.objects)

  R52 : length R ≡ 52
  R52 = omega (arith, length_together (le 4) 4 (length_le 4) c.rivals)

  -- behind the front, behind the distances, and so on
  past_front : (v : List ℕ) (i j : ℕ) → 12 + i ≡ j → sets (bytes_of c) j v ≡ F ++ sets (D ++ (Q ++ (O ++ (W ++ R)))) i v
  unfolding bytes_of
  past_front v i j e = past F (D ++ (Q ++ (O ++ (W ++ R)))) v i 12 j (length_front c) e

  past_distances : (v : List ℕ) (i j : ℕ) → 38 + i ≡ j → sets (bytes_of c) j v ≡ F ++ (D ++ sets (Q ++ (O ++ (W ++ R))) i v)
  past_distances v i j e =
      past_front v (26 + i) j (omega arith) ∙ ap (◌++◌ F) (past D (Q ++ (O ++ (W ++ R))) v i 26 (26 + i) D26 refl)

  past_quorum : (v : List ℕ) (i j : ℕ) → 43 + i ≡ j → sets (bytes_of c) j v ≡ F ++ (D ++ (Q ++ sets (O ++ (W ++ R)) i v))
  past_quorum v i j e =
      past_distances v (5 + i) j (omega arith)
      ∙ ap (λ (l : List ℕ). F ++ (D ++ l)) (past Q (O ++ (W ++ R)) v i 5 (5 + i) (length_quorum c) refl)

  past_objects : (v : List ℕ) (i j : ℕ) → 243 + i ≡ j → sets (bytes_of c) j v ≡ F ++ (D ++ (Q ++ (O ++ sets (W ++ R) i v)))
  past_objects v i j e =
      past_quorum v (200 + i) j (omega arith)
      ∙ ap (λ (l : List ℕ). F ++ (D ++ (Q ++ l))) (past O (W ++ R) v i 200 (200 + i) O200 refl)

  -- ---- each piece changed
  -- outcome and phase
  pub turned : (outcome phase : ℕ)
      → set (set (bytes_of c) 8 outcome) 9 phase ≡ bytes_of (with_phase c phase outcome c.participants c.yes c.done c.rivals)
  unfolding bytes_of front_of
  turned outcome phase =
      let rest : List ℕ = D ++ (Q ++ (O ++ (W ++ R))) in
      let t8 : List ℕ = c.outcome ∷ c.phase ∷ le 2 c.live in
      let v : List ℕ = outcome ∷ phase ∷ [] in
      within_first v F rest 8 (omega (arith, length_front c))
      ∙ ap (λ (l : List ℕ). l ++ rest)
      (past (le 4 c.serial) (le 4 c.timestamp ++ t8) v 4 4 8 (length_le 4 c.serial) refl
      ∙ ap (◌++◌ (le 4 c.serial)) (past (le 4 c.timestamp) t8 v 0 4 4 (length_le 4 c.timestamp) refl))

  -- the front
  pub front_changed : (serial timestamp outcome phase live : ℕ)
      → sets (bytes_of c) 0 (front_of serial timestamp outcome phase live) ≡ bytes_of (with_front c serial timestamp outcome phase live)
  unfolding bytes_of
  front_changed serial timestamp outcome phase live =
      let v : List ℕ = front_of serial timestamp outcome phase live in
      over F (D ++ (Q ++ (O ++ (W ++ R)))) v 12 (length_front c) (length_front (with_front c serial timestamp outcome phase live))

  -- the live nodes alone
  pub live_put : (v : ℕ) → put 2 (bytes_of c) 10 v ≡ bytes_of (with_front c c.serial c.timestamp c.outcome c.phase v)
  unfolding bytes_of front_of
  live_put v =
      let rest : List ℕ = D ++ (Q ++ (O ++ (W ++ R))) in
      let t10 : List ℕ = c.outcome ∷ c.phase ∷ [] in
      let t8 : List ℕ = t10 ++ le 2 c.live in
      put_le 2 (bytes_of c) 10 v
      ∙ within_first (le 2 v) F rest 10 (omega (arith, length_front c, length_le 2 v))
      ∙ ap (λ (l : List ℕ). l ++ rest)
      (past (le 4 c.serial) (le 4 c.timestamp ++ t8) (le 2 v) 6 4 10 (length_le 4 c.serial) refl
      ∙ ap (◌++◌ (le 4 c.serial))
      (past (le 4 c.timestamp) t8 (le 2 v) 2 4 6 (length_le 4 c.timestamp) refl
      ∙ ap (◌++◌ (le 4 c.timestamp))
      (past t10 (le 2 c.live) (le 2 v) 0 2 2 refl refl
      ∙ ap (◌++◌ t10) (all_over (le 2 c.live) (le 2 v) 2 (length_le 2 c.live) (length_le 2 v)))))

  -- the distances and the quorum, to those of a record with the same front and the same bytes behind
  pub nodes_changed : (d : Coordinator) → length d.distances ≡ nodes → front_bytes c ≡ front_bytes d → tail_bytes c ≡ tail_bytes d
      → sets (sets (bytes_of c) 12 (together (le 2) d.distances)) 38 (quorum_bytes d) ≡ bytes_of d
  unfolding bytes_of
  nodes_changed d n e f =
      let v : List ℕ = together (le 2) d.distances in
      let m : length v ≡ 26 = omega (arith, length_together (le 2) 2 (length_le 2) d.distances) in
      let rest : List ℕ = Q ++ (O ++ (W ++ R)) in
      ap (λ (l : List ℕ). sets l 38 (quorum_bytes d)) (past_front v 0 12 refl ∙ ap (◌++◌ F) (over D rest v 26 D26 m))
      ∙ past F (v ++ rest) (quorum_bytes d) 26 12 38 (length_front c) refl
      ∙ ap (◌++◌ F)
      (past v rest (quorum_bytes d) 0 26 26 m refl
      ∙ ap (◌++◌ v) (over Q (O ++ (W ++ R)) (quorum_bytes d) 5 (length_quorum c) (length_quorum d)))
      ∙ ap (λ (l : List ℕ). l ++ (v ++ (quorum_bytes d ++ (O ++ (W ++ R))))) e
      ∙ ap (λ (l : List ℕ). front_bytes d ++ (v ++ (quorum_bytes d ++ l))) f

  pub quorum_changed : (contacted count : ℕ)
      → sets (bytes_of c) 38 (quorum_of c.quorum contacted count) ≡ bytes_of (with_objects c contacted count c.objects)
  unfolding bytes_of
  quorum_changed contacted count =
      let d : Coordinator = with_objects c contacted count c.objects in
      past_distances (quorum_of c.quorum contacted count) 0 38 refl
      ∙ ap (λ (l : List ℕ). F ++ (D ++ l)) (over Q (O ++ (W ++ R)) (quorum_of c.quorum contacted count) 5 (length_quorum c) (length_quorum d))

  pub object_changed : (p : ℕ) (x : Object) → p < most_open
      → sets (bytes_of c) (43 + 25 * p) (object_bytes x) ≡ bytes_of (with_objects c c.contacted c.count (set c.objects p x))
  unfolding bytes_of
  object_changed p x h =
      past_quorum (object_bytes x) (25 * p) (43 + 25 * p) refl
      ∙ ap (λ (l : List ℕ). F ++ (D ++ (Q ++ l)))
      (within_first (object_bytes x) O (W ++ R) (25 * p) (omega (arith, length_object x, O200))
      ∙ ap (λ (l : List ℕ). l ++ (W ++ R)) (item_over object_bytes 25 length_object c.objects p x (omega arith)))

  -- participants, yes, done
  votes_put : (i n v : ℕ) (w : List ℕ) → 243 + i ≡ n → put 2 W i v ≡ w → i + 2 ≤ 6 → put 2 (bytes_of c) n v ≡ F ++ (D ++ (Q ++ (O ++ (w ++ R))))
  votes_put i n v w e f h =
      put_le 2 (bytes_of c) n v
      ∙ past_objects (le 2 v) i n e
      ∙ ap (λ (l : List ℕ). F ++ (D ++ (Q ++ (O ++ l))))
      (within_first (le 2 v) W R i (omega (arith, length_le 2 v, length_votes c)) ∙ ap (λ (l : List ℕ). l ++ R) (sym (put_le 2 W i v) ∙ f))

  -- the three numbers of the votes, each put anew
  first_put : (v : ℕ) → put 2 W 0 v ≡ votes_of v c.yes c.done
  unfolding votes_of
  first_put v =
      put_le 2 W 0 v ∙ over (le 2 c.participants) (le 2 c.yes ++ le 2 c.done) (le 2 v) 2 (length_le 2 c.participants) (length_le 2 v)

  second_put : (v : ℕ) → put 2 W 2 v ≡ votes_of c.participants v c.done
  unfolding votes_of
  second_put v =
      put_le 2 W 2 v
      ∙ past (le 2 c.participants) (le 2 c.yes ++ le 2 c.done) (le 2 v) 0 2 2 (length_le 2 c.participants) refl
      ∙ ap (◌++◌ (le 2 c.participants)) (over (le 2 c.yes) (le 2 c.done) (le 2 v) 2 (length_le 2 c.yes) (length_le 2 v))

  third_put : (v : ℕ) → put 2 W 4 v ≡ votes_of c.participants c.yes v
  unfolding votes_of
  third_put v =
      put_le 2 W 4 v
      ∙ past (le 2 c.participants) (le 2 c.yes ++ le 2 c.done) (le 2 v) 2 2 4 (length_le 2 c.participants) refl
      ∙ ap (◌++◌ (le 2 c.participants))
      (past (le 2 c.yes) (le 2 c.done) (le 2 v) 0 2 2 (length_le 2 c.yes) refl
      ∙ ap (◌++◌ (le 2 c.yes)) (all_over (le 2 c.done) (le 2 v) 2 (length_le 2 c.done) (length_le 2 v)))

  pub participants_put : (v : ℕ) → put 2 (bytes_of c) 243 v ≡ bytes_of (with_phase c c.phase c.outcome v c.yes c.done c.rivals)
  unfolding bytes_of
  participants_put v = votes_put 0 243 v (votes_of v c.yes c.done) refl (first_put v) (omega arith)

  pub yes_put : (v : ℕ) → put 2 (bytes_of c) 245 v ≡ bytes_of (with_phase c c.phase c.outcome c.participants v c.done c.rivals)
  unfolding bytes_of
  yes_put v = votes_put 2 245 v (votes_of c.participants v c.done) refl (second_put v) (omega arith)

  pub done_put : (v : ℕ) → put 2 (bytes_of c) 247 v ≡ bytes_of (with_phase c c.phase c.outcome c.participants c.yes v c.rivals)
  unfolding bytes_of
  done_put v = votes_put 4 247 v (votes_of c.participants c.yes v) refl (third_put v) (omega arith)

  -- the rivals' serials
  pub rivals_changed : (rivals : List ℕ) → length rivals ≡ nodes
      → sets (bytes_of c) 249 (together (le 4) rivals) ≡ bytes_of (with_phase c c.phase c.outcome c.participants c.yes c.done rivals)
  unfolding bytes_of
  rivals_changed rivals n =
      let v : List ℕ = together (le 4) rivals in
      let m : length v ≡ 52 = omega (arith, length_together (le 4) 4 (length_le 4) rivals) in
      past_objects v 6 249 refl
      ∙ ap (λ (l : List ℕ). F ++ (D ++ (Q ++ (O ++ l)))) (past W R v 0 6 6 (length_votes c) refl ∙ ap (◌++◌ W) (all_over R v 52 R52 m))
