-- The `pins` and `edges` lines of a net, one after the other.
-- Assumes nothing.
use mathlib.Core.List.{List, []}
use mathlib.Core.Option.{Option}
use mathlib.Core.Path.{◌≡◌, refl, sym, ap, ap₂, ◌∙◌, subst}
use Prim.Native.Nat.{ℕ, zero, suc, ◌+◌, ◌*◌, ◌≤◌}
use native.Mathlib.Omega.{arith}
use lib.ListN.{length, drop, get_or}
use Rattle.std.specs.Prelude.{Ok, Err}
use Rattle.cut.specs.Dropped.{CutDone}
use Rattle.edges.specs.Line.{EdgesRead, LineFound, LineRead}
use Rattle.edges.specs.Pins.{PinsFound, pins-found, pins-reading, pins-tiles, pins-begun}
use Rattle.edges.specs.Reading.{edges_on, Reading, Few, Begun}
use Rattle.edges.specs.declared.Edges.{Edges}
use Rattle.layout.specs.Areas.{demand_at, tiles_at, chosen_at, tiles_of, links_of}
use Rattle.layout.specs.Dirs.{dirs_of}
use Rattle.layout.specs.Parts.{Outside}
use Rattle.layout.specs.Shapes.{sizes_of, Shaped}
use Rattle.layout.specs.Table.{vias_column, table_size}
use Rattle.layout.specs.declared.shape.Shape.{Shape}
use Rattle.lines.specs.Told.{After, mapped, refused_by}
use Rattle.marks.specs.Marks.{Older, fits-older}
use Rattle.marks.specs.Words.{most_stamp}
use Rattle.model.specs.Job.{Pin, Net}
use Rattle.model.specs.Lists.{In}
use Rattle.model.specs.Read.{Place, Result, refused, found, pins_line, edges_line, net_with}
use Rattle.model.specs.Score.{different_tiles}
use Rattle.net.specs.Left.{entries-few}
use Rattle.net.specs.Table.{PinsAt, counts_of, mark_of}
use Rattle.pins.specs.Pins.{PinsRead, pins_in, pins_told, pins_marked}
use Rattle.pins.specs.declared.Pins.{Pins}
use Rattle.text.specs.Refusals.{place_of, number_of, line_of}
use Rattle.text.specs.declared.Cursor.{Cursor}
use Rattle.text.specs.declared.Refusal.{Refusal}
use Rattle.theory.specs.links.Cut.{cut-part, cut-once, cut-no-ring, cut-joined}
use Rattle.theory.specs.links.Nets.{NetOk}
use Rattle.theory.specs.links.Reading.{PinsOk, EntriesOk, Served, gives_found, pins-give, edges-give}
use Rattle.theory.specs.links.Scores.{pins-few}
use Rattle.theory.specs.links.Stacked.{pin-tiles-few}
use Rattle.union.specs.Links.{links-older}
use Rattle.nets.specs.Rows.{row_put}
use Rattle.nets.specs.Rings.{LinesAt, LinesCounted}
use Rattle.nets.specs.Nets.{low_at, body_in, NetReady, NetCounted, NetFound}
use Rattle.nets.proofs.Stand.{pins-stand, row-long, row-others, row-stands}

-- a net whose two lines the definitions found
net-ok : (g : Shape) (low : Option ℕ) (ps : List Pin) (es : List ℕ) (p q r t : Place) → pins_line (sizes_of g) p ≡ found ps q → edges_line (sizes_of g) ps r ≡ found es t
    → NetOk g.w g.h g.k (net_with (sizes_of g) low ps es)
net-ok g low ps es p q r t a b =
    go (gives_found (PinsOk W H K ds) (pins_line (sizes_of g) p) ps q a (pins-give W H K ds p))
    (gives_found (λ xs. EntriesOk W H K ds ps xs × Served W H K ds xs) (edges_line (sizes_of g) ps r) es t b (edges-give W H K ds ps r)).0
  where
    W : ℕ
    W = g.w

    H : ℕ
    H = g.h

    K : ℕ
    K = g.k

    ds : Option (List ℕ)
    ds = dirs_of g.k g.dirs

    go : PinsOk W H K ds ps → EntriesOk W H K ds ps es → NetOk W H K (net_with (sizes_of g) low ps es)
    go x y = record {
      some_pin = x.0;
      pins_inside = x.1;
      pins_layers = x.2;
      pins_once = x.3;
      entries_known = y.0;
      entries_once = y.1;
      entries_reached = y.2;
      cut_is = refl;
      known = λ e i. y.0 e (omega (arith, i, cut-part W H ps es e));
      once = cut-once W H ps es;
      no_ring = cut-no-ring W H ps es;
      reached = cut-joined W H ps es y.2;
    }

-- the number of a lowest wanted layer
mark-is : (m : ℕ) → m ≡ mark_of (low_at m)
mark-is zero = refl
mark-is (suc m) = refl

-- it has no more entries than there are edges
pub few-entries : (g : Shape) → Shaped g → (net : Net) → NetOk g.w g.h g.k net → length net.entries ≤ 8_064
few-entries g shaped net ok = omega (arith, entries-few g shaped net ok, shaped.e_most)

-- a refusal is not changed by what else is told of a fine line
module _ {A B : Type 0} where
  mapped-refused : (f : A → B) (r : Result A) (n l : ℕ) → refused n l ≡ mapped f r → r ≡ refused n l
  mapped-refused f (refused a b) n l e = sym (ap₂ {C = Result A} (λ x y. refused x y) (let y : n ≡ a = cc in y) (let y : l ≡ b = cc in y))
  mapped-refused f (found a p) n l e = absurd (let y : ◌≡◌ {A = ℕ} 0 1 = cc in omega arith)

-- where a fine `pins` line stands
pub line-in : (size from line : ℕ) (r : PinsRead) (p : Pins) (d : Cursor) → r ≡ Ok (p, d) → pins_in size from line r → (p.from ≡ from) × After size line d
line-in size from line r p d k h = rw k at h

module _ (s : List ℕ) (c : Cursor) (g : Shape) (shaped : Shaped g) (i : ℕ) (w₀ : List ℕ) (ready : NetReady g i w₀) (m : ℕ) where
  abbrev W : ℕ
  W = g.w

  abbrev H : ℕ
  H = g.h

  abbrev K : ℕ
  K = g.k

  -- the `pins` line is refused
  pub pins-bad : (a : List ℕ) (r : PinsRead) → pins_told s a r ≡ mapped (pins_marked (2 * i + 1) (tiles_of g w₀)) (pins_line (sizes_of g) (place_of s c))
      → (f : Refusal) → r ≡ Err f → body_in (sizes_of g) (low_at m) (place_of s c) ≡ refused_by f
  unfolding body_in
  pins-bad a r told f e =
      rw (mapped-refused (pins_marked (2 * i + 1) (tiles_of g w₀)) (pins_line (sizes_of g) (place_of s c)) (number_of f) (line_of f) (ap (pins_told s a) (sym e) ∙ told))

  -- it is fine
  module _ (w₁ : List ℕ) (p : Pins) (d : Cursor) (told : pins_told s (tiles_of g w₁) (Ok (p, d)) ≡ mapped (pins_marked (2 * i + 1) (tiles_of g w₀)) (pins_line (sizes_of g) (place_of s c)))
      (out : Outside (tiles_at g) g.t w₀ w₁) (at : (p.from ≡ c.at + 5) × After (length s) (c.line + 1) d) where
    pub fine : PinsFound g (2 * i + 1) s c (tiles_of g w₀) (tiles_of g w₁) p d
    fine = pins-found g shaped (2 * i + 1) s c (tiles_of g w₀) (tiles_of g w₁) p d told

    pub still-few : Few g (2 * i + 1) w₁
    still-few e h = omega (arith, out.low (demand_at g + e) (omega arith), ready.few e h)

    pub begun : Begun g (2 * i + 1) p.tiles w₁
    begun =
        subst (λ (k : ℕ). Begun g (2 * i + 1) k w₁) (sym fine.parts)
        (pins-begun g (2 * i + 1) fine.pins fine.fit w₀ w₁ ready.room ready.marks ready.links out fine.marks)

    pub reading : Reading g (2 * i + 1) fine.pins [] p.tiles w₀ w₁
    reading =
        subst (λ (k : ℕ). Reading g (2 * i + 1) fine.pins [] k w₀ w₁) (sym fine.parts)
        (pins-reading g (2 * i + 1) fine.pins fine.fit w₀ w₁ ready.room ready.marks ready.links out fine.marks)

    -- the `edges` line is refused
    pub edges-bad : (w₂ : List ℕ) (r : EdgesRead) → LineRead g (2 * i + 1) s d fine.pins w₀ w₂ r → (f : Refusal) → r ≡ Err f → body_in (sizes_of g) (low_at m) (place_of s c) ≡ refused_by f
    unfolding body_in
    edges-bad w₂ r line f e = rw (fine.is, subst (λ (z : EdgesRead). LineRead g (2 * i + 1) s d fine.pins w₀ w₂ z) e line)

    -- it is fine
    module _ (w₂ : List ℕ) (e : Edges) (f : Cursor) (line : LineFound g (2 * i + 1) s d fine.pins w₀ w₂ e f) where
      abbrev net : Net
      net = net_with (sizes_of g) (low_at m) fine.pins (edges_on g line.line.entries)

      pub ok : NetOk g.w g.h g.k (net_with (sizes_of g) (low_at m) fine.pins (edges_on g line.line.entries))
      ok = net-ok g (low_at m) fine.pins (edges_on g line.line.entries) (place_of s c) _ _ _ fine.is line.is

      tiles-are : p.tiles ≡ different_tiles fine.pins
      tiles-are =
          fine.parts
          ∙ pins-tiles g (2 * i + 1) fine.pins fine.fit w₀ w₁ ready.room ready.marks ready.links out fine.marks

      pub pins-number : p.tiles ≤ 16777216
      pins-number = omega (arith, tiles-are, pin-tiles-few fine.pins, pins-few W H K net shaped.k_most ok, shaped.t_is, shaped.t_most)

      -- where its lines stand
      pub lines-stand : LinesAt s g p.from e.from e.ring (net_with (sizes_of g) (low_at m) fine.pins (edges_on g line.line.entries))
      lines-stand = record {
        pins = subst (λ (a : ℕ). PinsAt s W H K a net) (sym at.0) (pins-stand s W H K c.at net c.line _ (dirs_of g.k g.dirs) fine.is);
        edges = record {
          entries = line.line.entries;
          rest = drop f.at s;
          there = line.line.text;
          inside = line.line.inside;
          are = refl;
        };
        ok = ok;
        ring_told = line.line.ring_told;
      }

      pub entries-number : e.entries ≤ 8_064
      entries-number = omega (arith, line.line.count_is, few-entries g shaped net ok)

      -- every entry is counted
      entry-counted : (x : ℕ) → In x (edges_on g line.line.entries) → 1 ≤ get_or w₂ (demand_at g + x) 0
      entry-counted x h = omega (arith, line.line.reading.demand x (omega (arith, ok.entries_known x h, shaped.e_is)), h)

      -- what the cut asks: the marks and the links have the first of the two stamps
      pub cut-asks : ((chosen_at g ≤ length w₂) × (2 * i + 1 + 1 ≤ most_stamp) × Older (2 * i + 1 + 1) (tiles_of g w₂) × Older (2 * i + 1 + 1) (links_of g w₂))
          × LinesCounted s g p.from e.from e.ring w₂
      cut-asks =
          let r = line.line.reading in (
            (omega (arith, ready.room, r.long), omega (arith, ready.turn), fits-older (2 * i + 1) (tiles_of g w₂) r.fits, links-older (2 * i + 1) (links_of g w₂) r.links),
            record { net = net; lines = lines-stand; counted = entry-counted },
          )

      -- its rings are cut
      module _ (w₃ : List ℕ) (dropped : ℕ)
          (cutting : (n : Net) → LinesAt s g p.from e.from e.ring n → CutDone g (2 * i + 1 + 1) n w₂ w₃ dropped) where
        done : CutDone g (2 * i + 1 + 1) (net_with (sizes_of g) (low_at m) fine.pins (edges_on g line.line.entries)) w₂ w₃ dropped
        done = cutting net lines-stand

        pub dropped-number : dropped ≤ 8_064
        dropped-number = omega (arith, done.count, few-entries g shaped net ok)

        counts-are : e.entries + 65536 * dropped ≡ counts_of (net_with (sizes_of g) (low_at m) fine.pins (edges_on g line.line.entries))
        counts-are = omega (arith, done.count, line.line.count_is)

        counted : NetCounted g i (net_with (sizes_of g) (low_at m) fine.pins (edges_on g line.line.entries)) w₀ w₃
        counted =
            let r = line.line.reading in
            record {
              long = done.long ∙ r.long;
              low = λ k h. done.low k h ∙ r.low k h;
              demand = λ x h. omega (arith, done.demand x h, r.demand x h);
              marks = λ t. omega (arith, done.marks t);
              links = λ t. omega (arith, done.links t);
            }

        pub body-found : (table : List ℕ) (first : ℕ) → table_size ≤ length table → get_or table (vias_column i) 0 ≡ m
            → NetFound s g i first (λ _. c.line + 2) w₀ w₃ table (row_put table i p.from e.from p.tiles first (e.entries + 65536 * dropped)) (body_in (sizes_of g) (low_at m) (place_of s c)) f e.entries
        unfolding body_in
        body-found table first room low = record {
          net = net;
          is = rw (fine.is, line.is);
          after = record { place = line.line.after.place; lines = omega (arith, line.line.after.lines, at.1.lines) };
          count_is = line.line.count_is;
          counted = counted;
          row = row-stands table i p.from e.from p.tiles first (e.entries + 65536 * dropped) ready.turn room s W H K net lines-stand.pins lines-stand.edges tiles-are counts-are (low ∙ mark-is m);
          table_long = row-long table i p.from e.from p.tiles first (e.entries + 65536 * dropped) ready.turn room;
          rows_before = row-others table i p.from e.from p.tiles first (e.entries + 65536 * dropped) ready.turn room;
        }
