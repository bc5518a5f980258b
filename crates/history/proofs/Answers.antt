-- A replica's answers fit their bytes, and its image stays bytes: so an answer in the pool decodes to itself.
use mathlib.Core.Path.{◌≡◌, refl, sym, ◌∙◌, ap, subst}
use mathlib.Core.Logic.{by_cases}
use mathlib.Core.Bool.{Bool, true, false, cond}
use mathlib.Core.List.{List, [], ◌∷◌, ◌++◌}
use Prim.Native.Nat.{ℕ, zero, suc, ◌+◌, ◌^◌, ◌<◌, ◌≤◌}
use native.Mathlib.Decide.{ℕ_discrete}
use native.Mathlib.Omega.{arith}
use lib.Dec.{eqb, lit<}
use lib.ListN.{length, get_or, set, replicate}
use lib.Seq.{get_or-set_same, get_or-set_other, set_out}
use Rattle.numbers.specs.Sizes.{nodes}
use Rattle.mask.specs.Mask.{contains}
use Rattle.octets.proofs.Laws.{Bytes}
use Rattle.wire.specs.declared.Entry.{Entry}
use Rattle.wire.specs.declared.Rival.{Rival}
use Rattle.wire.specs.Message.{Message}
use Rattle.wire.specs.Encode.{All, EntryFits, RivalFits, Fits}
use Rattle.wire.specs.Formed.{word_of}
use Rattle.letters.specs.Write.{rivals_by}
use Rattle.image.specs.Layout.{shape, value_field, version_field, holder_field, readers_field, writers_field, serial_field, state_field, stamp_field, value}
use Rattle.image.specs.Layout.{version, author_field, author_serial_field, serial}
use Rattle.image.specs.Change.{with_owner, with_serial, with_state, free, unlist}
use Rattle.image.proofs.Each.{lt_or_le}
use Rattle.image.proofs.Lens.{bytes_with_lem, of_small}
use Rattle.image.proofs.Whole.{bytes_free, bytes_unlist}
use Rattle.judge.specs.Standing.{standing, active, entered}
use Rattle.judge.specs.Judge.{votes_no, named, no_serials, named_below, serials_of, rivals_of}
use Rattle.replica.specs.Steps.{copy_to, vote_to, done_to, wanted, fetch_image, copy_here, holding_one, holding, leaves, judged_image, ask_image, applied_one}
use Rattle.replica.specs.Steps.{applied}
use Rattle.replica.specs.Steps.{decided, released, outcome_image}
use Rattle.replica.specs.Receive.{step, Delivered}
use Rattle.replica.proofs.Delivered.{either_way}
use Rattle.replica.proofs.Spoken.{length_named}
use Rattle.protocol.proofs.Tables.{on}

-- ---- the image stays bytes
bytes_leaves : (l : List ℕ) (o st : ℕ) → Bytes l → Bytes (leaves l o st)
unfolding leaves
bytes_leaves l o st b = bytes_with_lem (state_field shape) (unlist l o) o st (bytes_unlist l o b)

bytes_owner : (l : List ℕ) (o n st sp : ℕ) → Bytes l → Bytes (with_owner l o n st sp)
bytes_owner l o n st sp b =
    bytes_with_lem (stamp_field shape) (with_state (with_serial l o n) o st) o sp
    (bytes_with_lem (state_field shape) (with_serial l o n) o st (bytes_with_lem (serial_field shape) l o n b))

pub bytes_entered : (l : List ℕ) (m : Message) → Bytes l → Bytes (entered l m)
unfolding entered
bytes_entered l m b = either_way Bytes (eqb (standing l m) 4) _ _ (bytes_owner l m.owner m.serial 1 m.stamp b) b

bytes_holding : (l : List ℕ) (o : ℕ) (es : List Entry) → Bytes l → Bytes (holding l o es)
unfolding holding
bytes_holding l o [] b = b
bytes_holding l o (e ∷ es) b =
    bytes_holding (holding_one l o e) o es (either_way Bytes (eqb e.mode 0) _ _ b (bytes_with_lem (holder_field shape) l e.object o b))

bytes_applied : (l : List ℕ) (o n : ℕ) (es : List Entry) → Bytes l → Bytes (applied l o n es)
unfolding applied
bytes_applied l o n [] b = b
bytes_applied l o n (e ∷ es) b =
    let x = e.object in
    bytes_applied (applied_one l o n e) o n es
    (either_way Bytes (eqb e.mode 0) _ _ b
    (bytes_with_lem (author_serial_field shape) _ x n (bytes_with_lem (author_field shape) _ x o
    (bytes_with_lem (version_field shape) _ x (e.version + 1) (bytes_with_lem (value_field shape) l x e.value b)))))

module _ (l : List ℕ) (m : Message) (b : Bytes l) where
  bytes_fetch : Bytes (fetch_image l m)
  unfolding fetch_image
  bytes_fetch =
      let n = entered l m in let e = wanted m in let r = bytes_entered l m b in
      either_way Bytes (active l m) _ _
      (either_way Bytes (eqb e.mode 0) _ _ (bytes_with_lem (readers_field shape) n e.object _ r) (bytes_with_lem (writers_field shape) n e.object _ r)) b

  bytes_ask : Bytes (ask_image l m)
  unfolding ask_image judged_image
  bytes_ask =
      let n = entered l m in let o = m.owner in let r = bytes_entered l m b in
      either_way Bytes (active l m) _ _
      (either_way Bytes (votes_no n m) _ _ (bytes_leaves n o 3 r) (bytes_holding (leaves n o 2) o m.entries (bytes_leaves n o 2 r))) b

  bytes_outcome : Bytes (outcome_image l m)
  unfolding outcome_image decided released
  bytes_outcome =
      let o = m.owner in
      either_way Bytes (eqb (standing l m) 0) _ _ b
      (either_way Bytes (eqb (standing l m) 4) _ _ (bytes_owner l o m.serial 0 m.stamp b)
      (bytes_leaves (free (decided l m) o) o 0
      (bytes_free (decided l m) o (either_way Bytes (eqb (word_of m) 1) _ _ (bytes_applied l o m.serial m.entries b) b))))

  pub bytes_step : (me : ℕ) → Bytes (step l me m).image
  unfolding step
  bytes_step me =
      let P : Delivered → Type 0 = λ d. Bytes d.image in
      either_way P (eqb m.kind 1) _ _ bytes_fetch (either_way P (eqb m.kind 3) _ _ bytes_ask (either_way P (eqb m.kind 5) _ _ bytes_outcome b))

-- ---- the answers fit
module _ (me : ℕ) (m : Message) (f : Fits m) where
  pub done_fits : Fits (done_to me m)
  done_fits = record { serial = f.serial; stamp = f.stamp; entries = tt; rivals = tt }

  pub copy_fits_lem : (e : Entry) → EntryFits e → Fits (copy_to me m e)
  copy_fits_lem e g = record { serial = f.serial; stamp = f.stamp; entries = (g, tt); rivals = tt }

  -- rivals by owner, from owner o on
  one_fits : (o s : ℕ) (b : Bool) (rs : List Rival) → o < 256 → s < 256 ^ 4 → All RivalFits rs
      → All RivalFits (cond b [] (record { owner = o; serial = s } ∷ []) ++ rs)
  one_fits o s true rs h g a = a
  one_fits o s false rs h g a = (record { owner = h; serial = g }, a)

  by_fits : (o : ℕ) (ss : List ℕ) → o + length ss ≤ 256 → ((i : ℕ) → get_or ss i 0 < 256 ^ 4) → All RivalFits (rivals_by o ss)
  unfolding rivals_by
  by_fits o [] h g = tt
  by_fits o (s ∷ ss) h g = one_fits o s (eqb s 0) (rivals_by (o + 1) ss) (omega arith) (g 0) (by_fits (o + 1) ss (omega arith) (λ i. g (suc i)))

  pub vote_fits : (ss : List ℕ) (word : ℕ) → length ss ≡ nodes → ((i : ℕ) → get_or ss i 0 < 256 ^ 4) → Fits (vote_to me m ss word)
  vote_fits ss word h g = record { serial = f.serial; stamp = f.stamp; entries = tt; rivals = by_fits 0 ss (omega (arith, h)) g }

zero_place : (n i : ℕ) → ◌≡◌ {A = ℕ} (get_or (replicate n 0) i 0) 0
zero_place zero i = refl
zero_place (suc n) zero = refl
zero_place (suc n) (suc i) = zero_place n i

pub none_small : (i : ℕ) → get_or no_serials i 0 < 256 ^ 4
none_small i = subst (λ (s : ℕ). s < 256 ^ 4) (sym (zero_place nodes i)) (lit< tt)

named_small : (l : List ℕ) → Bytes l → (rivals n i : ℕ) → get_or (named_below l rivals n) i 0 < 256 ^ 4
unfolding named_below
named_small l b rivals zero i = none_small i
named_small l b rivals (suc n) i = by_cases (ℕ_discrete i n)
    (λ e. on (lt_or_le n (length (named_below l rivals n)))
    (λ h. subst (λ (s : ℕ). s < 256 ^ 4)
    (sym (ap (λ (j : ℕ). get_or (set (named_below l rivals n) n (named l rivals n)) j 0) e
    ∙ get_or-set_same (named_below l rivals n) n (named l rivals n) 0 h))
    (either_way (λ (s : ℕ). s < 256 ^ 4) (contains rivals n) _ _ (of_small (serial_field shape) l n b) (lit< tt)))
    (λ h. subst (λ (ss : List ℕ). get_or ss i 0 < 256 ^ 4) (sym (set_out (named_below l rivals n) n (named l rivals n) h)) (named_small l b rivals n i)))
    (λ e. subst (λ (s : ℕ). s < 256 ^ 4) (sym (get_or-set_other (named_below l rivals n) n i (named l rivals n) 0 e)) (named_small l b rivals n i))

pub yes_fits : (me : ℕ) (m : Message) → Fits m → (l : List ℕ) → Bytes l → Fits (vote_to me m (serials_of l (rivals_of l m)) 1)
unfolding serials_of
yes_fits me m f l b = vote_fits me m f (serials_of l (rivals_of l m)) 1 (length_named l (rivals_of l m) nodes) (named_small l b (rivals_of l m) nodes)

pub here_fits : (l : List ℕ) → Bytes l → (e : Entry) → e.object < 256 → e.mode < 256 → EntryFits (copy_here l e)
unfolding copy_here
here_fits l b e h g = record {
  object = h;
  mode = g;
  version = of_small (version_field shape) l e.object b;
  value = of_small (value_field shape) l
      e.object b;
}
