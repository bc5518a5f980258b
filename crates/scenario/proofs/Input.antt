-- Whatever the input is, the buffers hold what the steps of the running scenario left, and the sheet is replay's.
use mathlib.Core.Path.{◌≡◌, refl, sym, ap, subst, ◌∙◌}
use mathlib.Core.Bool.{Bool, true, false, cond}
use mathlib.Core.List.{List, [], ◌∷◌}
use Prim.Native.Nat.{ℕ, ◌+◌, ◌≤◌}
use lib.Dec.{eqb, ltb}
use lib.ListN.{length, set}
use borrow.Author.Tests.{eq-eqb, le-ltb, ltb-false}
use Rattle.numbers.specs.Sizes.{every_node}
use Rattle.pool.proofs.Numbers.{fine}
use Rattle.replay.specs.Layout.{size as sheetSize}
use Rattle.replay.specs.Sheet.{blank_after as sheetBlank}
use Rattle.buffers.specs.Buffers.{all}
use Rattle.station_calls.specs.Calls.{blank_number as stationNumber}
use Rattle.service.specs.Service.{Call}
use Rattle.service_calls.specs.Lent.{Lent, Whole, blank_number, blank_after}
use Rattle.numbers.specs.Refusal.{lower}
use Rattle.history.specs.Running.{kept_from}
use Rattle.history.proofs.Running.{blank_starts, always_reads}
use Rattle.accounts.specs.Accounts.{blank_origin, expand}
use Rattle.accounts.proofs.Typed.{expand_typed}
use Rattle.holding.proofs.Kept.{own_is}
use Rattle.runs.specs.Order.{call_of}
use Rattle.runs.specs.Left.{left_of}
use Rattle.runs.proofs.Demand.{claimed, begun}
use Rattle.script.specs.declared.Parsed.{Parsed}
use Rattle.script.specs.Said.{step, bad}
use Rattle.script.specs.Parse.{parsed}
use Rattle.reading.specs.declared.Reader.{Reader}
use Rattle.reading.specs.Reading.{fresh, noted, next, kept, clocked, relisted, timed}
use Rattle.performing.specs.Steps.{step_sheet}
use Rattle.reading.specs.Notes.{list_reader, listed_after}
use Rattle.scenario.specs.Lines.{Ways, pick, mask_of, anew_reader, anew_buffers, anew_sheet, shape_of, is_laid, laid_of, laid_reader}
use Rattle.scenario.specs.Lines.{laid_buffers, laid_sheet, reader_ways, buffers_ways, list_ways, sheet_ways, line_reader, line_buffers, line_list, line_sheet}
use Rattle.scenario.specs.Lines.{reader_after, buffers_after, list_after, sheet_after}
use Rattle.scenario.specs.Desk.{Desk, onto, after, Story, longer, story_ways, line_story, story_after, Faithful, Start, no_steps}
use Rattle.lists.specs.declared.Shape.{Shape}
use Rattle.lists.specs.Lists.{has_room, appended}
use Rattle.performing.proofs.Meaning.{sheet_is}
use Rattle.scenario.proofs.Typed.{Fit, fit_fresh, fit_bad, fit_step, typed}

abbrev desk : Reader → Lent → List ℕ → List ℕ → Desk
desk r b list l = record { reader = r; buffers = b; list = list; sheet = l }

pub record Inv (d : Desk) (s : Story) : Type 0 where
  pub fit : Fit d.reader.said
  pub faithful : Faithful d s

-- ---- a `blank` finds buffers of their lengths
station_goes : (b : Lent) (mask : ℕ) → Whole b → mask ≤ every_node → stationNumber b.station mask ≡ 0
unfolding stationNumber
station_goes b mask w h =
    let z = b.station in
    simp (
      eq-eqb _ _ w.station.images_long,
      eq-eqb _ _ w.station.records_long,
      eq-eqb _ _ (fine z.pool w.station.pool_fine).long,
      eq-eqb _ _ (own_is z.images z.records z.pool z.own w.station).size,
      le-ltb every_node mask h,
    )

blank_goes : (b : Lent) (mask : ℕ) → Whole b → mask ≤ every_node → blank_number b mask ≡ 0
unfolding blank_number lower
blank_goes b mask w h = simp (station_goes b mask w h, eq-eqb _ _ w.settings_long)

-- the sheet has its length all along
sheet_long : (d : Desk) (s : Story) → Faithful d s → length d.sheet ≡ sheetSize
sheet_long d s f =
    let o = blank_origin s.up in
    ap length f.told
    ∙ (always_reads o.machine f.holds.rested.machine 0 _ (blank_starts s.up f.blank f.size) (expand o s.steps)
    (expand_typed o f.holds.rested s.steps f.holds.typed)).long

begins : (r : Reader) (list : List ℕ) (d : Desk) (s : Story) (mask : ℕ) → Fit r.said → Inv d s → mask ≤ every_node
    → Inv (desk r (blank_after d.buffers mask) list (sheetBlank d.sheet)) (record { up = mask; steps = [] })
unfolding kept_from
begins r list d s mask f i h =
    record {
      fit = f;
      faithful = record {
        holds = begun d.buffers mask (blank_goes d.buffers mask i.faithful.holds.whole h);
        blank = d.sheet;
        size = sheet_long d s i.faithful;
        told = refl;
      };
    }

-- ---- a step makes the scenario longer
goes_on : (r : Reader) (list : List ℕ) (d : Desk) (s : Story) (table : List ℕ) → Fit r.said → Inv d s
    → Inv (desk r (left_of d.buffers (call_of (timed d.reader (parsed d.reader.said).order) table)) list
    (step_sheet d.buffers (timed d.reader (parsed d.reader.said).order) table d.sheet))
    (longer s (call_of (timed d.reader (parsed d.reader.said).order) table))
goes_on r list d s table f i =
    let b = d.buffers in
    let o = timed d.reader (parsed d.reader.said).order in
    let t = typed d.reader d.reader.said table i.fit in
    let h = i.faithful.holds in
    record {
      fit = f;
      faithful = record {
        holds = (claimed b (call_of o table) t (blank_origin s.up) s.steps h).holds;
        blank = i.faithful.blank;
        size = i.faithful.size;
        told = ap (step_sheet b o table) i.faithful.told
            ∙ sheet_is (blank_origin s.up) h.rested s.steps o table b t h (sheetBlank i.faithful.blank);
      };
    }

-- another reader, and another list, of the same
read_on : (r : Reader) (list : List ℕ) (d : Desk) (s : Story) → Fit r.said → Inv d s → Inv (desk r d.buffers list d.sheet) s
read_on r list d s f i = record {
  fit = f;
  faithful = record {
    holds = i.faithful.holds;
    blank = i.faithful.blank;
    size = i.faithful.size;
    told = i.faithful.told;
  };
}

fit_next : (r : Reader) (going : Bool) → Fit (next r going).said
unfolding next
fit_next r going = fit_fresh

-- ---- a line
line_inv : (d : Desk) (s : Story) → Inv d s
    → Inv (desk (line_reader d.reader d.list) (line_buffers d.reader d.list d.buffers) (line_list d.reader d.list)
    (line_sheet d.reader d.list d.buffers d.sheet)) (line_story d.reader d.list s)
unfolding line_reader line_buffers line_list line_sheet line_story pick anew_reader anew_buffers anew_sheet list_reader laid_reader laid_buffers laid_sheet
    timed
line_inv d s i = by (eqb p.what 2) (eqb p.what 3) (eqb p.what 4) (eqb p.what 5) (eqb p.what 6)
  where
    r : Reader
    r = d.reader

    b : Lent
    b = d.buffers

    l : List ℕ
    l = d.list

    p : Parsed
    p = parsed r.said

    z : Shape
    z = shape_of p.order.kind

    c : Call
    c = call_of (timed r p.order) (laid_of r z l)

    anew : (t : Bool) → ltb every_node (mask_of p) ≡ t
        → Inv (desk (cond t (next r r.going) (next (kept r 0 0 0) true)) (cond t b (blank_after b (mask_of p))) l (cond t d.sheet (sheetBlank d.sheet)))
        (cond t s (record { up = mask_of p; steps = [] }))
    anew true t = read_on (next r r.going) l d s (fit_next r r.going) i
    anew false t = begins (next (kept r 0 0 0) true) l d s (mask_of p) (fit_next (kept r 0 0 0) true) i (ltb-false every_node (mask_of p) t)

    listing : (t : Bool)
        → Inv (desk (cond t (next (relisted r (listed_after r.listed p.count)) r.going) (next r r.going)) b
        (appended l r.listed p.numbers p.count) d.sheet) s
    listing true = read_on _ (appended l r.listed p.numbers p.count) d s (fit_next _ r.going) i
    listing false = read_on _ (appended l r.listed p.numbers p.count) d s (fit_next r r.going) i

    loading : (t : Bool)
        → Inv (desk (cond t (next (relisted r 0) true) (next r r.going)) (cond t (left_of b c) b) l
        (cond t (step_sheet b (timed r p.order) (laid_of r z l) d.sheet) d.sheet)) (cond t (longer s c) s)
    loading true = goes_on (next (relisted r 0) true) l d s (laid_of r z l) (fit_next (relisted r 0) true) i
    loading false = read_on (next r r.going) l d s (fit_next r r.going) i

    choose : {A : Type 0} → Bool → Bool → Bool → Bool → Bool → Ways A → A
    choose x y k u v w = cond x (w.blank p) (cond y (w.step p) (cond k (w.clock p) (cond u (w.list p) (cond v (w.laid p) w.other))))

    by : (x y k u v : Bool)
        → Inv (desk (choose x y k u v (reader_ways r l)) (choose x y k u v (buffers_ways r l b)) (choose x y k u v (list_ways r l))
        (choose x y k u v (sheet_ways r l b d.sheet))) (choose x y k u v (story_ways r l s))
    by true y k u v = anew (ltb every_node (mask_of p)) refl
    by false true k u v = goes_on (next r true) l d s [] (fit_next r true) i
    by false false true u v = read_on _ l d s (fit_next (clocked r p.order.day p.order.minute) r.going) i
    by false false false true v = listing (has_room l r.listed p.count)
    by false false false false true = loading (is_laid r z l)
    by false false false false false = read_on (next r r.going) l d s (fit_next r r.going) i

fit_noted : (r : Reader) (byte : ℕ) → Fit r.said → Fit (noted r byte).said
unfolding noted
fit_noted r byte f = by (ltb r.long 160)
  where
    read : Reader
    read = record {
      said = step r.said byte;
      text = set r.text r.long byte;
      long = r.long + 1;
      line = r.line;
      going = r.going;
      day = r.day;
      minute = r.minute;
      listed = r.listed;
    }

    too_long : Reader
    too_long = record {
      said = bad r.said;
      text = r.text;
      long = r.long;
      line = r.line;
      going = r.going;
      day = r.day;
      minute = r.minute;
      listed = r.listed;
    }

    by : (t : Bool) → Fit (cond t read too_long).said
    by true = fit_step r.said byte f
    by false = fit_bad r.said f

-- ---- a byte, and all bytes
byte_inv : (d : Desk) (s : Story) (byte : ℕ) → Inv d s → Inv (onto d byte) (cond (eqb byte 10) (line_story d.reader d.list s) s)
unfolding onto reader_after buffers_after list_after sheet_after
byte_inv d s byte i = by (eqb byte 10)
  where
    r : Reader
    r = d.reader

    l : List ℕ
    l = d.list

    by : (t : Bool)
        → Inv (desk (cond t (line_reader r l) (noted r byte)) (cond t (line_buffers r l d.buffers) d.buffers) (cond t (line_list r l) l)
        (cond t (line_sheet r l d.buffers d.sheet) d.sheet)) (cond t (line_story r l s) s)
    by true = line_inv d s i
    by false = read_on (noted r byte) l d s (fit_noted r byte i.fit) i

bytes_inv : (bytes : List ℕ) (d : Desk) (s : Story) → Inv d s → Inv (after d bytes) (story_after d.reader d.list s bytes)
unfolding after story_after onto
bytes_inv [] d s i = i
bytes_inv (byte ∷ bytes) d s i = bytes_inv bytes (onto d byte) (cond (eqb byte 10) (line_story d.reader d.list s) s) (byte_inv d s byte i)

start_fit : Fit fresh.said
unfolding fresh
start_fit = fit_fresh

-- THE THEOREM: from the start, after any bytes
pub input_faithful : (bytes : List ℕ) (d : Desk) → Start d → Faithful (after d bytes) (story_after fresh d.list no_steps bytes)
unfolding kept_from
input_faithful bytes d z =
    let e = z.reader in
    let i : Inv d no_steps = record {
      fit = subst (λ (r : Reader). Fit r.said) (sym e) start_fit;
      faithful = record { holds = z.buffers; blank = z.blank; size = z.size; told = z.sheet_blank };
    } in
    subst (λ (r : Reader). Faithful (after d bytes) (story_after r d.list no_steps bytes)) e (bytes_inv bytes d no_steps i).faithful
