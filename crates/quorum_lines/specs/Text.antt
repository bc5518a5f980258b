-- Which lines are good: exactly the texts of a mask, thirteen distances and, if wanted, an asker in range, with one space before each number but the first.
-- The idea: one way by reading the digits of each text; the other by what is known of the bytes behind a line that is not spoilt. Assumes nothing.
use Rattle.std.specs.Prelude.{ℕ, zero, suc, ◌+◌, ◌*◌, ◌-◌, ◌/◌, ◌%◌, ◌^◌, ◌≤◌, ◌<◌, ◌≡◌, refl, Bool, true, false, cond, not, ◌&&◌, ◌||◌, ◌⊎◌, List, [], ◌∷◌}
use Rattle.std.specs.Prelude.{◌++◌, eqb, ltb, leb, length, take, set, replicate}
use Rattle.std.proofs.Common.{add-one, arith, sym, ap, subst, ◌∙◌, inl, inr, ⊎_elim, append_assoc, append-nil, length-append, length-set, take-suc-set}
use Rattle.std.proofs.Common.{take_all, eq-eqb, ne_eqb, lt-ltb, le-leb, eqb-true, leb-true}
use Rattle.std.proofs.lemmas.List.{set_at}
use Rattle.std.proofs.Math.Seq.{append_snoc}
use Rattle.std.proofs.lemmas.Bool.{eqb-false, not-true}
use Rattle.numbers.specs.Sizes.{nodes, every_node}
use Rattle.decimal.specs.Decimal.{digits, decimal}
use Rattle.decimal.specs.Laws.{digits_one, digits_more, tenth, one_more, less_or_not, decimal_digit, decimal_more}
use Rattle.quorum_lines.specs.declared.Line.{Line}
use Rattle.quorum_lines.specs.Line.{Reading, Good, Bad, fresh, most, spoil, keep, space, may_follow, more, digit, step_on, step, read_from}
use Rattle.quorum_lines.specs.Line.{may_end, is_good, at_asker, says, ended, reading}
use Rattle.quorum_lines.specs.Laws.{true_false, and_left, and_right, good_ends, at_distance, at_asker_lem}
use Rattle.quorum_lines.specs.Pieces.{read_append}

-- numbers, each behind one space
unfoldable pub spaced : List ℕ → List ℕ
spaced [] = []
spaced (d ∷ ds) = (32 ∷ []) ++ decimal d ++ spaced ds

-- the text of a mask and distances
unfoldable pub line_text : ℕ → List ℕ → List ℕ
line_text live ds = decimal live ++ spaced ds

-- the text of a mask, distances and an asker
unfoldable pub asked_text : ℕ → List ℕ → ℕ → List ℕ
asked_text live ds asker = line_text live ds ++ (32 ∷ []) ++ decimal asker

-- a line is a text of these: without the asker, which is node 0 then, or with it
abbrev pub IsText : List ℕ → ℕ → List ℕ → ℕ → Type 0
IsText line live ds asker = ((line ≡ line_text live ds) × (asker ≡ 0)) ⊎ (line ≡ asked_text live ds asker)

-- every distance is at most 65,535
abbrev pub Small : List ℕ → Type 0
Small [] = Unit {0}
Small (d ∷ ds) = (d ≤ 65535) × Small ds

-- a mask, distances and an asker in range
pub record InRange (live : ℕ) (ds : List ℕ) (asker : ℕ) : Type 0 where
  pub mask : live ≤ every_node
  pub thirteen : length ds ≡ nodes
  pub small : Small ds
  pub node : asker < nodes

-- a line after k numbers: before the next, and within it at v
abbrev blank : ℕ → ℕ → List ℕ → Line
blank k live ds = record { count = k; digits = false; value = 0; spoilt = false; live = live; distances = ds }

abbrev number : ℕ → ℕ → ℕ → List ℕ → Line
number k v live ds = record { count = k; digits = true; value = v; spoilt = false; live = live; distances = ds }

-- a digit of a line that is not bad
step_digit : (s : Line) (d : ℕ) → s.spoilt ≡ false → d < 10 → may_follow s d ≡ true → step s (48 + d) ≡ more s d
unfolding step step_on digit
step_digit s d p h e =
    let z : 48 + d - 48 ≡ d = omega arith in
    ap (λ (t : Bool). cond t s (step_on s (48 + d))) p
    ∙ ap (λ (t : Bool). cond t (space s) (cond (leb 48 (48 + d) && leb (48 + d) 57) (digit s (48 + d - 48)) (spoil s)))
    (ne_eqb (48 + d) 32 (λ q. omega arith))
    ∙ (λ j. cond (le-leb 48 (48 + d) (omega arith) j && le-leb (48 + d) 57 (omega arith) j) (digit s (z j)) (spoil s))
    ∙ ap (λ (t : Bool). cond t (more s d) (spoil s)) e

-- the digits of a number that is small enough
read_digits : (k n c live : ℕ) (ds : List ℕ) → 0 < k → n < 10 ^ k → n ≤ most c → read_from (blank c live ds) (digits k n) ≡ number c n live ds
unfolding read_from more may_follow
read_digits zero n c live ds p h m = absurd (omega arith)
read_digits (suc k) n c live ds p h m =
    ⊎_elim
    (λ i.
    let e : 0 * 10 + n ≡ n = omega arith in
    ap (read_from (blank c live ds)) (digits_one k n i)
    ∙ step_digit (blank c live ds) n refl i (ap (λ (t : Bool). t && true) (le-leb (0 * 10 + n) (most c) (omega arith)))
    ∙ ap (λ (v : ℕ). number c v live ds) e)
    (λ i.
    let e : n / 10 * 10 + n % 10 ≡ n = omega arith in
    let q : n / 10 ≤ most c = omega arith in
    ap (read_from (blank c live ds)) (digits_more k n i)
    ∙ read_append (blank c live ds) (digits k (n / 10)) ((48 + n % 10) ∷ [])
    ∙ ap (λ (s : Line). step s (48 + n % 10)) (read_digits k (n / 10) c live ds (one_more k n h i) (tenth k n h) q)
    ∙ step_digit (number c (n / 10) live ds) (n % 10) refl (omega arith)
    (λ j. le-leb (n / 10 * 10 + n % 10) (most c) (omega arith) j && not (ne_eqb (n / 10) 0 (λ z. omega arith) j))
    ∙ ap (λ (v : ℕ). number c v live ds) e)
    (less_or_not n 10)

-- no number is larger than 65,535
most_small : (c : ℕ) → most c ≤ 65535
unfolding most
most_small c = from (eqb c 0)
  where
    from : (t : Bool) → cond t every_node 65535 ≤ 65535
    from true = omega arith
    from false = omega arith

most_first : most 0 ≡ every_node
unfolding most
most_first = refl

most_later : (j : ℕ) → most (j + 1) ≡ 65535
unfolding most
most_later j = ap (λ (t : Bool). cond t every_node 65535) (ne_eqb (j + 1) 0 (λ z. omega arith))

read_decimal : (n c live : ℕ) (ds : List ℕ) → n ≤ most c → read_from (blank c live ds) (decimal n) ≡ number c n live ds
unfolding decimal
read_decimal n c live ds m = read_digits 20 n c live ds (omega arith) (omega (arith, most_small c)) m

-- a space behind the mask or a distance
step_space : (s : Line) → s.spoilt ≡ false → s.digits ≡ true → s.count ≤ nodes → step s 32 ≡ keep s
unfolding step step_on space
step_space s p q h =
    ap (λ (t : Bool). cond t s (step_on s 32)) p ∙ (λ j. cond (q j && le-leb s.count nodes h j) (keep s) (spoil s))

keep_first : (v live : ℕ) (ds : List ℕ) → keep (number 0 v live ds) ≡ blank 1 v ds
unfolding keep
keep_first v live ds = refl

keep_later : (k j v live : ℕ) (ds : List ℕ) → j + 1 ≡ k → keep (number k v live ds) ≡ blank (k + 1) live (set ds j v)
unfolding keep
keep_later k j v live ds h =
    let e : k - 1 ≡ j = omega arith in
    let f : eqb k 0 ≡ false = ne_eqb k 0 (λ z. omega arith) in
    (λ i. blank (k + 1) (cond (f i) v live) (cond (f i) ds (set ds (e i) v)))

-- a space and the next number, behind a number
read_next : (s : Line) (k live d : ℕ) (ds rest : List ℕ) → step s 32 ≡ blank k live ds → d ≤ most k
    → read_from s ((32 ∷ []) ++ decimal d ++ rest) ≡ read_from (number k d live ds) rest
unfolding read_from
read_next s k live d ds rest e m =
    read_append (step s 32) (decimal d) rest
    ∙ ap (λ (u : Line). read_from (read_from u (decimal d)) rest) e
    ∙ ap (λ (u : Line). read_from u rest) (read_decimal d k live ds m)

-- the line ends behind the last distance, and with this number complete the mask and the distances are these
record Last (live : ℕ) (ds : List ℕ) (s : Line) : Type 0 where
  count : s.count ≡ nodes
  digits : s.digits ≡ true
  good : s.spoilt ≡ false
  complete : keep s ≡ blank (nodes + 1) live ds

-- the distances ds that are left, where p are complete and v is read
read_rest : (ds p q : List ℕ) (v live : ℕ) → length p + length ds ≡ 12 → length q ≡ length ds + 1 → Small ds
    → Last live (p ++ (v ∷ ds)) (read_from (number (length p + 1) v live (p ++ q)) (spaced ds))
unfolding spaced read_from
read_rest ds p [] v live h i m = absurd (omega arith)
read_rest [] p (y ∷ y₂ ∷ q) v live h i m = absurd (omega arith)
read_rest [] p (y ∷ []) v live h i m =
    let e : length p + 1 ≡ nodes = omega arith in
    record {
      count = e;
      digits = refl;
      good = refl;
      complete =
          keep_later (length p + 1) (length p) v live (p ++ (y ∷ [])) refl
          ∙ (λ j. blank (e j + 1) live (set_at p y [] v (length p) refl j));
    }
read_rest (d ∷ ds) p (y ∷ q) v live h i m =
    let l = length-append p (v ∷ []) in
    let s = number (length p + 1) v live (p ++ (y ∷ q)) in
    let after = read_rest ds (p ++ (v ∷ [])) q d live (omega arith) (omega arith) m.1 in
    subst (λ (all : List ℕ). Last live all (read_from s (spaced (d ∷ ds)))) (append_snoc p v (d ∷ ds))
    (subst (Last live (p ++ (v ∷ []) ++ (d ∷ ds)))
    (sym
    (read_next s (length p + 1 + 1) live d (set (p ++ (y ∷ q)) (length p) v) (spaced ds)
    (step_space s refl refl (omega arith) ∙ keep_later (length p + 1) (length p) v live (p ++ (y ∷ q)) refl)
    (omega (arith, most_later (length p + 1), m.0))
    ∙ (λ j. read_from (number (sym l j + 1) d live ((set_at p y q v (length p) refl ∙ sym (append_snoc p v q)) j)) (spaced ds))))
    after)

-- the text of a mask and distances in range
read_line : (live : ℕ) (ds : List ℕ) (asker : ℕ) → InRange live ds asker → Last live ds (read_from fresh (line_text live ds))
unfolding line_text spaced fresh
read_line live [] asker r = absurd (omega (arith, r.thirteen))
read_line live (d ∷ ds) asker r =
    let s = number 0 live 0 (replicate nodes 0) in
    subst (Last live (d ∷ ds))
    (sym
    (read_append fresh (decimal live) (spaced (d ∷ ds))
    ∙ ap (λ (u : Line). read_from u (spaced (d ∷ ds))) (read_decimal live 0 0 (replicate nodes 0) (omega (arith, most_first, r.mask)))
    ∙ read_next s 1 live d (replicate nodes 0) (spaced ds)
    (step_space s refl refl (omega arith) ∙ keep_first live 0 (replicate nodes 0))
    (omega (arith, most_later 0, r.small.0))))
    (read_rest ds [] (replicate nodes 0) d live (omega (arith, r.thirteen)) (omega (arith, r.thirteen)) r.small.1)

-- the line ends there: the asker is 0
ended_plain : (live : ℕ) (ds : List ℕ) (s : Line) → Last live ds s → ended s ≡ Good live ds 0
unfolding may_end is_good says ended
ended_plain live ds s l =
    let asked = eqb s.count (nodes + 1) && ltb s.value nodes in
    let good : is_good s ≡ true = (λ j. not (l.good j) && (l.digits j && (eq-eqb s.count nodes l.count j || asked))) in
    ap (λ (t : Bool). cond t (says (at_asker s)) Bad) good ∙ ap says (at_distance s l.count ∙ l.complete)

-- or an asker follows
ended_asked : (live : ℕ) (ds : List ℕ) (asker : ℕ) (s : Line) → Last live ds s → asker < nodes
    → ended (read_from s ((32 ∷ []) ++ decimal asker)) ≡ Good live ds asker
unfolding read_from may_end is_good at_asker says ended
ended_asked live ds asker s l h =
    let t = number (nodes + 1) asker live ds in
    ap (λ (u : Line). ended (read_from u (decimal asker))) (step_space s l.good l.digits (omega (arith, l.count)) ∙ l.complete)
    ∙ ap ended (read_decimal asker (nodes + 1) live ds (omega (arith, most_later nodes)))
    ∙ ap (λ (b : Bool). cond b (says (at_asker t)) Bad) (lt-ltb asker nodes h)

-- THEOREM. A text of a mask, distances and an asker in range is read back as them.
pub read_text_lem : (line : List ℕ) (live : ℕ) (ds : List ℕ) (asker : ℕ) → IsText line live ds asker → InRange live ds asker
    → reading line ≡ Good live ds asker
unfolding reading asked_text
read_text_lem line live ds asker w r =
    let plain = line_text live ds in
    let s = read_from fresh plain in
    let l = read_line live ds asker r in
    ⊎_elim
    (λ p. ap reading p.0 ∙ ended_plain live ds s l ∙ ap (Good live ds) (sym p.1))
    (λ e.
    ap reading (e ∙ append_assoc plain (32 ∷ []) (decimal asker))
    ∙ ap ended (read_append fresh plain ((32 ∷ []) ++ decimal asker))
    ∙ ended_asked live ds asker s l r.node)
    w

-- What is known of the bytes l behind a line that is not spoilt: k complete numbers, each with a space behind it, and the digits so far of the next.
abbrev front : ℕ → ℕ → List ℕ → List ℕ
front zero live ds = []
front (suc j) live ds = line_text live (take j ds) ++ (32 ∷ [])

abbrev Kept : ℕ → ℕ → List ℕ → Type 0
Kept zero live ds = Unit {0}
Kept (suc j) live ds = (live ≤ every_node) × Small (take j ds)

record Seen (l : List ℕ) (k : ℕ) (t : Bool) (v live : ℕ) (ds : List ℕ) : Type 0 where
  text : l ≡ front k live ds ++ cond t (decimal v) []
  size : length ds ≡ nodes
  small : v ≤ most k
  none : t ≡ false → v ≡ 0
  kept : Kept k live ds

abbrev SeenLine : List ℕ → Line → Type 0
SeenLine l s = Seen l s.count s.digits s.value s.live s.distances

-- a distance more
small_more : (ds : List ℕ) (v : ℕ) → Small ds → v ≤ 65535 → Small (ds ++ (v ∷ []))
small_more [] v m h = (h, tt)
small_more (d ∷ ds) v m h = (m.0, small_more ds v m.1 h)

spaced_more : (ds : List ℕ) (v : ℕ) → spaced (ds ++ (v ∷ [])) ≡ spaced ds ++ ((32 ∷ []) ++ decimal v)
unfolding spaced
spaced_more [] v = append-nil ((32 ∷ []) ++ decimal v)
spaced_more (d ∷ ds) v =
    ap (λ (l : List ℕ). (32 ∷ []) ++ decimal d ++ l) (spaced_more ds v)
    ∙ sym (append_assoc ((32 ∷ []) ++ decimal d) (spaced ds) ((32 ∷ []) ++ decimal v))

text_more : (j v live : ℕ) (ds : List ℕ) → j < length ds → front (suc j) live ds ++ decimal v ≡ line_text live (take (suc j) (set ds j v))
unfolding line_text
text_more j v live ds h =
    append_assoc (decimal live ++ spaced (take j ds)) (32 ∷ []) (decimal v)
    ∙ append_assoc (decimal live) (spaced (take j ds)) ((32 ∷ []) ++ decimal v)
    ∙ ap (λ (l : List ℕ). decimal live ++ l) (sym (spaced_more (take j ds) v) ∙ ap spaced (sym (take-suc-set ds j v h)))

-- a number that becomes complete
seen_first : (l : List ℕ) (v live : ℕ) (ds : List ℕ) → Seen l 0 true v live ds → Seen (l ++ (32 ∷ [])) 1 false 0 v ds
unfolding line_text spaced
seen_first l v live ds g =
    record {
      text = ap (λ (m : List ℕ). m ++ (32 ∷ [])) (g.text ∙ sym (append-nil (decimal v))) ∙ sym (append-nil (decimal v ++ [] ++ (32 ∷ [])));
      size = g.size;
      small = omega arith;
      none = λ e. refl;
      kept = (omega (arith, most_first, g.small), tt);
    }

seen_later : (j : ℕ) (l : List ℕ) (v live : ℕ) (ds : List ℕ) → j < nodes
    → Seen l (suc j) true v live ds
    → Seen (l ++ (32 ∷ [])) (suc (suc j)) false 0 live (set ds j v)
seen_later j l v live ds h g =
    let i : j < length ds = omega (arith, g.size) in
    record {
      text =
          ap (λ (m : List ℕ). m ++ (32 ∷ [])) (g.text ∙ text_more j v live ds i)
          ∙ sym (append-nil (line_text live (take (suc j) (set ds j v)) ++ (32 ∷ [])));
      size = length-set ds j v ∙ g.size;
      small = omega arith;
      none = λ e. refl;
      kept = (g.kept.0, rw (take-suc-set ds j v i) (small_more (take j ds) v g.kept.1 (omega (arith, g.small, most_small (suc j)))));
    }

seen_keep : (s : Line) (l : List ℕ) → s.digits ≡ true → s.count ≤ nodes → SeenLine l s → SeenLine (l ++ (32 ∷ [])) (keep s)
unfolding keep
seen_keep s l e h g = from s.count h (subst (λ (t : Bool). Seen l s.count t s.value s.live s.distances) e g)
  where
    from : (k : ℕ) → k ≤ nodes → Seen l k true s.value s.live s.distances
        → Seen (l ++ (32 ∷ [])) (k + 1) false 0 (cond (eqb k 0) s.value s.live) (cond (eqb k 0) s.distances (set s.distances (k - 1) s.value))
    from zero h g = seen_first l s.value s.live s.distances g
    from (suc j) h g =
        subst (SeenLine (l ++ (32 ∷ [])))
        (sym
        (keep_later (suc j) j s.value s.live s.distances (add-one j)
        ∙ (λ i. blank (add-one (suc j) i) s.live (set s.distances j s.value))))
        (seen_later j l s.value s.live s.distances (omega arith) g)

-- a digit more
digit_behind : (t : Bool) (v d : ℕ) → d < 10 → v < 10 ^ 19 → (t ≡ false → v ≡ 0) → not (t && eqb v 0) ≡ true
    → cond t (decimal v) [] ++ ((48 + d) ∷ []) ≡ decimal (v * 10 + d)
digit_behind false v d h m n f = let z : v ≡ 0 = n refl in sym (decimal_digit d h) ∙ ap decimal (omega arith)
digit_behind true v d h m n f =
    let q : v ≡ 0 → ⊥ = eqb-false v 0 (not-true (eqb v 0) f) in
    sym (decimal_more v d (omega arith) m h)

seen_more : (s : Line) (l : List ℕ) (d : ℕ) → d < 10 → may_follow s d ≡ true → SeenLine l s → SeenLine (l ++ ((48 + d) ∷ [])) (more s d)
unfolding may_follow more
seen_more s l d h e g =
    let fits = leb (s.value * 10 + d) (most s.count) in
    let starts = not (s.digits && eqb s.value 0) in
    let f = front s.count s.live s.distances in
    record {
      text =
          ap (λ (m : List ℕ). m ++ ((48 + d) ∷ [])) g.text
          ∙ append_assoc f (cond s.digits (decimal s.value) []) ((48 + d) ∷ [])
          ∙ ap (λ (m : List ℕ). f ++ m)
          (digit_behind s.digits s.value d h (omega (arith, g.small, most_small s.count)) g.none (and_right fits starts e));
      size = g.size;
      small = leb-true (s.value * 10 + d) (most s.count) (and_left fits starts e);
      none = λ f. absurd (true_false f);
      kept = g.kept;
    }

-- a space, and a digit, that do not spoil the line
seen_space : (s : Line) (l : List ℕ) → (space s).spoilt ≡ false → SeenLine l s → SeenLine (l ++ (32 ∷ [])) (space s)
unfolding space spoil
seen_space s l f g = from (s.digits && leb s.count nodes) refl f
  where
    from : (t : Bool) → (s.digits && leb s.count nodes) ≡ t → (cond t (keep s) (spoil s)).spoilt ≡ false
        → SeenLine (l ++ (32 ∷ [])) (cond t (keep s) (spoil s))
    from true e f =
        seen_keep s l (and_left s.digits (leb s.count nodes) e) (leb-true s.count nodes (and_right s.digits (leb s.count nodes) e)) g
    from false e f = absurd (true_false f)

seen_digit : (s : Line) (l : List ℕ) (d : ℕ) → d < 10 → (digit s d).spoilt ≡ false → SeenLine l s → SeenLine (l ++ ((48 + d) ∷ [])) (digit s d)
unfolding digit spoil
seen_digit s l d h f g = from (may_follow s d) refl f
  where
    from : (t : Bool) → may_follow s d ≡ t → (cond t (more s d) (spoil s)).spoilt ≡ false → SeenLine (l ++ ((48 + d) ∷ [])) (cond t (more s d) (spoil s))
    from true e f = seen_more s l d h e g
    from false e f = absurd (true_false f)

-- a byte that does not
seen_on : (s : Line) (l : List ℕ) (b : ℕ) → (step_on s b).spoilt ≡ false → SeenLine l s → SeenLine (l ++ (b ∷ [])) (step_on s b)
unfolding step_on spoil
seen_on s l b f g = first (eqb b 32) refl f
  where
    is_digit : Bool
    is_digit = leb 48 b && leb b 57

    second : (t : Bool) → is_digit ≡ t → (cond t (digit s (b - 48)) (spoil s)).spoilt ≡ false → SeenLine (l ++ (b ∷ [])) (cond t (digit s (b - 48)) (spoil s))
    second true e f =
        let p : 48 ≤ b = leb-true 48 b (and_left (leb 48 b) (leb b 57) e) in
        let q : b ≤ 57 = leb-true b 57 (and_right (leb 48 b) (leb b 57) e) in
        let z : 48 + (b - 48) ≡ b = omega arith in
        subst (λ (x : ℕ). SeenLine (l ++ (x ∷ [])) (digit s (b - 48))) z (seen_digit s l (b - 48) (omega arith) f g)
    second false e f = absurd (true_false f)

    first : (t : Bool) → eqb b 32 ≡ t → (cond t (space s) (cond is_digit (digit s (b - 48)) (spoil s))).spoilt ≡ false
        → SeenLine (l ++ (b ∷ [])) (cond t (space s) (cond is_digit (digit s (b - 48)) (spoil s)))
    first true e f = subst (λ (x : ℕ). SeenLine (l ++ (x ∷ [])) (space s)) (sym (eqb-true b 32 e)) (seen_space s l f g)
    first false e f = second is_digit refl f

seen_step : (s : Line) (l : List ℕ) (b : ℕ) → s.spoilt ≡ false → (step s b).spoilt ≡ false → SeenLine l s → SeenLine (l ++ (b ∷ [])) (step s b)
unfolding step
seen_step s l b e f g =
    let p : step s b ≡ step_on s b = ap (λ (t : Bool). cond t s (step_on s b)) e in
    subst (SeenLine (l ++ (b ∷ []))) (sym p) (seen_on s l b (ap (λ (u : Line). u.spoilt) (sym p) ∙ f) g)

-- a line that is not spoilt was not spoilt before
not_spoilt : (s : Line) (l : List ℕ) → (read_from s l).spoilt ≡ false → s.spoilt ≡ false
unfolding read_from step
not_spoilt s [] f = f
not_spoilt s (b ∷ l) f = from s.spoilt refl (not_spoilt (step s b) l f)
  where
    from : (t : Bool) → s.spoilt ≡ t → (cond t s (step_on s b)).spoilt ≡ false → s.spoilt ≡ false
    from true e f = f
    from false e f = e

seen_read : (l p : List ℕ) (s : Line) → (read_from s l).spoilt ≡ false → SeenLine p s → SeenLine (p ++ l) (read_from s l)
unfolding read_from
seen_read [] p s f g = subst (λ (m : List ℕ). SeenLine m s) (sym (append-nil p)) g
seen_read (b ∷ l) p s f g =
    let e : (step s b).spoilt ≡ false = not_spoilt (step s b) l f in
    subst (λ (m : List ℕ). SeenLine m (read_from (step s b) l)) (append_snoc p b l)
    (seen_read l (p ++ (b ∷ [])) (step s b) f (seen_step s p b (not_spoilt s (b ∷ l) f) e g))

seen_start : SeenLine [] fresh
unfolding fresh
seen_start = record { text = refl; size = refl; small = omega arith; none = λ e. refl; kept = tt }

-- the whole of a good line that ends with the last distance, and of one that ends with an asker
seen_last : (l : List ℕ) (v live : ℕ) (ds : List ℕ) → Seen l nodes true v live ds → (l ≡ line_text live (set ds 12 v)) × InRange live (set ds 12 v) 0
seen_last l v live ds g =
    let i : 12 < length ds = omega (arith, g.size) in
    let n : length (set ds 12 v) ≡ nodes = length-set ds 12 v ∙ g.size in
    let e : take nodes (set ds 12 v) ≡ set ds 12 v = take_all nodes (set ds 12 v) (omega arith) in (
      g.text ∙ text_more 12 v live ds i ∙ ap (line_text live) e,
      record {
        mask = g.kept.0;
        thirteen = n;
        small = subst Small (sym (take-suc-set ds 12 v i) ∙ e) (small_more (take 12 ds) v g.kept.1 (omega (arith, g.small, most_small nodes)));
        node = omega arith;
      },
    )

seen_asked : (l : List ℕ) (v live : ℕ) (ds : List ℕ) → v < nodes → Seen l (nodes + 1) true v live ds → (l ≡ asked_text live ds v) × InRange live ds v
unfolding asked_text
seen_asked l v live ds h g =
    let e : take nodes ds ≡ ds = take_all nodes ds (omega (arith, g.size)) in (
      g.text ∙ ap (λ (m : List ℕ). line_text live m ++ (32 ∷ []) ++ decimal v) e,
      record { mask = g.kept.0; thirteen = g.size; small = subst Small e g.kept.1; node = h },
    )

-- what a reading tells of its line
abbrev Tells : List ℕ → Reading → Type 0
Tells line (Good live ds asker) = IsText line live ds asker × InRange live ds asker
Tells line Bad = Unit {0}

-- a line that ends with the last distance says it with the others
says_last : (s : Line) → s.count ≡ nodes → says (at_asker s) ≡ Good s.live (set s.distances 12 s.value) 0
unfolding keep says
says_last s e =
    ap says (at_distance s e)
    ∙ (λ j. Good (cond (eqb (e j) 0) s.value s.live) (cond (eqb (e j) 0) s.distances (set s.distances (e j - 1) s.value)) 0)

tells : (line : List ℕ) → Tells line (reading line)
unfolding reading is_good says ended
tells line = from (is_good s) refl
  where
    s : Line
    s = read_from fresh line

    seen : is_good s ≡ true → Seen line s.count true s.value s.live s.distances
    seen e =
        let rest = s.digits && may_end s in
        let spoilt : s.spoilt ≡ false = not-true s.spoilt (and_left (not s.spoilt) rest e) in
        subst (λ (t : Bool). Seen line s.count t s.value s.live s.distances) (and_left s.digits (may_end s) (and_right (not s.spoilt) rest e))
        (seen_read line [] fresh spoilt seen_start)

    from : (t : Bool) → is_good s ≡ t → Tells line (cond t (says (at_asker s)) Bad)
    from false e = tt
    from true e =
        let at : ℕ → Type 0 = λ k. Seen line k true s.value s.live s.distances in
        ⊎_elim
        (λ p.
        let r = seen_last line s.value s.live s.distances (subst at p (seen e)) in
        subst (Tells line) (sym (says_last s p)) (inl (r.0, refl), r.1))
        (λ p.
        let r = seen_asked line s.value s.live s.distances p.1 (subst at p.0 (seen e)) in
        subst (Tells line) (sym (ap says (at_asker_lem s (λ z. omega (arith, p.0))))) (inr r.0, r.1))
        (good_ends s e)

-- THEOREM. A line that is read as good is a text of the mask, the distances and the asker that it is read as, and these are in range.
pub text_read : (line : List ℕ) (live : ℕ) (ds : List ℕ) (asker : ℕ) → reading line ≡ Good live ds asker
    → IsText line live ds asker × InRange live ds asker
text_read line live ds asker e = subst (Tells line) e (tells line)
