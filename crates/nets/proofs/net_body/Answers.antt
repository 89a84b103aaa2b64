-- `net_body` meets its contract: the `pins` line is read, and behind it the `edges` line; where both are fine the net is found, its rings are cut, and its row says
-- where the lines stand and how many entries it has and drops (`Body.antt`).
-- Assumes nothing.
use mathlib.Core.List.{List, []}
use mathlib.Core.Path.{◌≡◌, refl, sym, ap, ◌∙◌, subst}
use Prim.Native.Nat.{ℕ, ◌+◌, ◌*◌}
use native.Mathlib.Omega.{arith}
use lib.ListN.{length, get_or}
use Rattle.std.specs.Prelude.{Ok}
use Rattle.std.proofs.lemmas.Result.{err_from_is_err_and}
use Rattle.layout.specs.Areas.{tiles_of}
use Rattle.edges.specs.Line.{EdgesRead, LineRead, LineFound}
use Rattle.edges.specs.Pins.{PinsFound}
use Rattle.edges.specs.Reading.{Reading}
use Rattle.edges.specs.declared.Edges.{Edges}
use Rattle.layout.specs.Shapes.{sizes_of}
use Rattle.layout.specs.Table.{vias_column}
use Rattle.layout.specs.declared.shape.Shape.{Shape}
use Rattle.lines.specs.Told.{After, mapped}
use Rattle.model.specs.Read.{pins_line}
use Rattle.pins.specs.Pins.{pins_told, pins_marked}
use Rattle.pins.specs.declared.Pins.{Pins}
use Rattle.text.specs.Refusals.{place_of}
use Rattle.text.specs.declared.Cursor.{Cursor}
use Rattle.nets.proofs.Body.{line-in, pins-bad, fine, still-few, begun, reading, edges-bad, pins-number, entries-number, cut-asks, dropped-number, body-found}
use Rattle.nets.proofs.net_body.Goals as goal
use Rattle.nets.proofs.net_body.Goals.{After-cut_rings-dropped, After-edges_line, In_ok-p, In_ok-e}

module _ (c : In_ok-p) where
  abbrev s : List ℕ
  s = c.args.s.now

  abbrev at : Cursor
  at = c.args.c

  abbrev g : Shape
  g = c.args.g

  abbrev i : ℕ
  i = c.args.row.i

  abbrev m : ℕ
  m = get_or c.args.table.now (vias_column c.args.row.i) 0

  abbrev w₀ : List ℕ
  w₀ = c.args.w.now

  abbrev w₁ : List ℕ
  w₁ = c.net_pins.new.w

  abbrev p : Pins
  p = c.in_ok-p.p

  abbrev d : Cursor
  d = c.in_ok-p.d

  told : pins_told s (tiles_of g w₁) (Ok (p, d)) ≡ mapped (pins_marked (2 * i + 1) (tiles_of g w₀)) (pins_line (sizes_of g) (place_of s at))
  told = ap (pins_told s (tiles_of g w₁)) (sym c.in_ok-p.was) ∙ c.net_pins.ensures.result_after

  stands : (p.from ≡ at.at + 5) × After (length s) (at.line + 1) d
  stands = line-in (length s) (at.at + 5) (at.line + 1) c.net_pins.result p d c.in_ok-p.was c.net_pins.ensures.pins_in

  abbrev found_pins : PinsFound g (2 * i + 1) s at (tiles_of g w₀) (tiles_of g w₁) p d
  found_pins = fine s at g c.args.g.shaped i w₀ c.requires.net_ready m w₁ p d told c.net_pins.ensures.outside stands

  started : Reading g (2 * i + 1) found_pins.pins [] p.tiles w₀ w₁
  started = reading s at g c.args.g.shaped i w₀ c.requires.net_ready m w₁ p d told c.net_pins.ensures.outside stands

-- the answer to the `edges` line
module _ (c : After-edges_line) where
  read-edges : LineRead (g (goal.at.After-edges_line c).In_ok-p) (2 * i (goal.at.After-edges_line c).In_ok-p + 1) (s (goal.at.After-edges_line c).In_ok-p) (d (goal.at.After-edges_line c).In_ok-p) (found_pins (goal.at.After-edges_line c).In_ok-p).pins (w₀ (goal.at.After-edges_line c).In_ok-p) c.edges_line.new.w c.edges_line.result
  read-edges = c.edges_line.ensures.line_read (found_pins (goal.at.After-edges_line c).In_ok-p).pins (w₀ (goal.at.After-edges_line c).In_ok-p) (found_pins (goal.at.After-edges_line c).In_ok-p).fit.some_pin (started (goal.at.After-edges_line c).In_ok-p)

module _ (c : In_ok-e) where
  abbrev w₂ : List ℕ
  w₂ = c.edges_line.new.w

  abbrev e : Edges
  e = c.in_ok-e.e

  abbrev f : Cursor
  f = c.in_ok-e.f

  found-edges : LineFound (g (goal.at.In_ok-e c).In_ok-p) (2 * i (goal.at.In_ok-e c).In_ok-p + 1) (s (goal.at.In_ok-e c).In_ok-p) (d (goal.at.In_ok-e c).In_ok-p) (found_pins (goal.at.In_ok-e c).In_ok-p).pins (w₀ (goal.at.In_ok-e c).In_ok-p) w₂ e f
  found-edges = subst (λ (v : EdgesRead). LineRead (g (goal.at.In_ok-e c).In_ok-p) (2 * i (goal.at.In_ok-e c).In_ok-p + 1) (s (goal.at.In_ok-e c).In_ok-p) (d (goal.at.In_ok-e c).In_ok-p) (found_pins (goal.at.In_ok-e c).In_ok-p).pins (w₀ (goal.at.In_ok-e c).In_ok-p) w₂ v) c.in_ok-e.was (read-edges (goal.at.In_ok-e c).After-edges_line)

module _ (c : After-cut_rings-dropped) where
  abbrev w₃ : List ℕ
  w₃ = c.cut_rings-dropped.new.w

pub edges_line-requires-clause-few : goal.edges_line-requires-clause-few
edges_line-requires-clause-few c = (
  still-few (s (goal.at.edges_line-requires-clause-few c).In_ok-p) (at (goal.at.edges_line-requires-clause-few c).In_ok-p) (g (goal.at.edges_line-requires-clause-few c).In_ok-p) c.args.g.shaped (i (goal.at.edges_line-requires-clause-few c).In_ok-p) (w₀ (goal.at.edges_line-requires-clause-few c).In_ok-p) c.requires.net_ready (m (goal.at.edges_line-requires-clause-few c).In_ok-p) (w₁ (goal.at.edges_line-requires-clause-few c).In_ok-p) (p (goal.at.edges_line-requires-clause-few c).In_ok-p) (d (goal.at.edges_line-requires-clause-few c).In_ok-p) (told (goal.at.edges_line-requires-clause-few c).In_ok-p) c.net_pins.ensures.outside (stands (goal.at.edges_line-requires-clause-few c).In_ok-p),
  begun (s (goal.at.edges_line-requires-clause-few c).In_ok-p) (at (goal.at.edges_line-requires-clause-few c).In_ok-p) (g (goal.at.edges_line-requires-clause-few c).In_ok-p) c.args.g.shaped (i (goal.at.edges_line-requires-clause-few c).In_ok-p) (w₀ (goal.at.edges_line-requires-clause-few c).In_ok-p) c.requires.net_ready (m (goal.at.edges_line-requires-clause-few c).In_ok-p) (w₁ (goal.at.edges_line-requires-clause-few c).In_ok-p) (p (goal.at.edges_line-requires-clause-few c).In_ok-p) (d (goal.at.edges_line-requires-clause-few c).In_ok-p) (told (goal.at.edges_line-requires-clause-few c).In_ok-p) c.net_pins.ensures.outside (stands (goal.at.edges_line-requires-clause-few c).In_ok-p),
)

pub cut_rings-dropped-requires : goal.cut_rings-dropped-requires
cut_rings-dropped-requires c =
    let r = cut-asks (s (goal.at.cut_rings-dropped-requires c).In_ok-p) (at (goal.at.cut_rings-dropped-requires c).In_ok-p) (g (goal.at.cut_rings-dropped-requires c).In_ok-p) c.args.g.shaped (i (goal.at.cut_rings-dropped-requires c).In_ok-p) (w₀ (goal.at.cut_rings-dropped-requires c).In_ok-p) c.requires.net_ready (m (goal.at.cut_rings-dropped-requires c).In_ok-p) (w₁ (goal.at.cut_rings-dropped-requires c).In_ok-p) (p (goal.at.cut_rings-dropped-requires c).In_ok-p) (d (goal.at.cut_rings-dropped-requires c).In_ok-p) (told (goal.at.cut_rings-dropped-requires c).In_ok-p) c.net_pins.ensures.outside (stands (goal.at.cut_rings-dropped-requires c).In_ok-p) (w₂ (goal.at.cut_rings-dropped-requires c).In_ok-e) (e (goal.at.cut_rings-dropped-requires c).In_ok-e) (f (goal.at.cut_rings-dropped-requires c).In_ok-e) (found-edges (goal.at.cut_rings-dropped-requires c).In_ok-e) in record { g_in_bounds = r.0; lines_counted = r.1 }

pub put_row-requires : goal.put_row-requires
put_row-requires c =
    record {
      i_lt_most_nets = (c.requires.net_ready.turn, c.requires.table_size_in_bounds.0);
      from_bound = (
        omega (arith, (stands (goal.at.put_row-requires c).In_ok-p).0, c.requires.at_in_bounds),
        omega (arith, (found-edges (goal.at.put_row-requires c).In_ok-e).from_in, c.requires.at_in_bounds.2),
        pins-number (s (goal.at.put_row-requires c).In_ok-p) (at (goal.at.put_row-requires c).In_ok-p) (g (goal.at.put_row-requires c).In_ok-p) c.args.g.shaped (i (goal.at.put_row-requires c).In_ok-p) (w₀ (goal.at.put_row-requires c).In_ok-p) c.requires.net_ready (m (goal.at.put_row-requires c).In_ok-p) (w₁ (goal.at.put_row-requires c).In_ok-p) (p (goal.at.put_row-requires c).In_ok-p) (d (goal.at.put_row-requires c).In_ok-p) (told (goal.at.put_row-requires c).In_ok-p) c.net_pins.ensures.outside (stands (goal.at.put_row-requires c).In_ok-p) (w₂ (goal.at.put_row-requires c).In_ok-e) (e (goal.at.put_row-requires c).In_ok-e) (f (goal.at.put_row-requires c).In_ok-e) (found-edges (goal.at.put_row-requires c).In_ok-e),
        c.requires.table_size_in_bounds.1,
      );
      entries_bound = (
        omega (arith, entries-number (s (goal.at.put_row-requires c).In_ok-p) (at (goal.at.put_row-requires c).In_ok-p) (g (goal.at.put_row-requires c).In_ok-p) c.args.g.shaped (i (goal.at.put_row-requires c).In_ok-p) (w₀ (goal.at.put_row-requires c).In_ok-p) c.requires.net_ready (m (goal.at.put_row-requires c).In_ok-p) (w₁ (goal.at.put_row-requires c).In_ok-p) (p (goal.at.put_row-requires c).In_ok-p) (d (goal.at.put_row-requires c).In_ok-p) (told (goal.at.put_row-requires c).In_ok-p) c.net_pins.ensures.outside (stands (goal.at.put_row-requires c).In_ok-p) (w₂ (goal.at.put_row-requires c).In_ok-e) (e (goal.at.put_row-requires c).In_ok-e) (f (goal.at.put_row-requires c).In_ok-e) (found-edges (goal.at.put_row-requires c).In_ok-e)),
        omega (arith, dropped-number (s (goal.at.put_row-requires c).In_ok-p) (at (goal.at.put_row-requires c).In_ok-p) (g (goal.at.put_row-requires c).In_ok-p) c.args.g.shaped (i (goal.at.put_row-requires c).In_ok-p) (w₀ (goal.at.put_row-requires c).In_ok-p) c.requires.net_ready (m (goal.at.put_row-requires c).In_ok-p) (w₁ (goal.at.put_row-requires c).In_ok-p) (p (goal.at.put_row-requires c).In_ok-p) (d (goal.at.put_row-requires c).In_ok-p) (told (goal.at.put_row-requires c).In_ok-p) c.net_pins.ensures.outside (stands (goal.at.put_row-requires c).In_ok-p) (w₂ (goal.at.put_row-requires c).In_ok-e) (e (goal.at.put_row-requires c).In_ok-e) (f (goal.at.put_row-requires c).In_ok-e) (found-edges (goal.at.put_row-requires c).In_ok-e) (w₃ (goal.at.put_row-requires c).After-cut_rings-dropped) c.cut_rings-dropped.result c.cut_rings-dropped.ensures.cut_done),
      );
    }

pub returns-in_err-p : goal.returns-in_err-p
returns-in_err-p c =
    let x = c.args in
    let p = err_from_is_err_and c.from_residual.result c.from_residual.ensures.1 in
    rw (p.1, p.2) (record { net_told = pins-bad x.s.now x.c x.g c.args.g.shaped x.row.i x.w.now c.requires.net_ready (get_or x.table.now (vias_column x.row.i) 0) (tiles_of x.g c.net_pins.new.w) c.net_pins.result c.net_pins.ensures.result_after _ c.in_err-p.was; w_len_unchanged = (c.net_pins.ensures.outside.long, refl) })

pub returns-in_err-e : goal.returns-in_err-e
returns-in_err-e c =
    let q = err_from_is_err_and c.from_residual-in_err-e.result c.from_residual-in_err-e.ensures.1 in
    rw (q.1, q.2) (record { net_told = edges-bad (s (goal.at.returns-in_err-e c).In_ok-p) (at (goal.at.returns-in_err-e c).In_ok-p) (g (goal.at.returns-in_err-e c).In_ok-p) c.args.g.shaped (i (goal.at.returns-in_err-e c).In_ok-p) (w₀ (goal.at.returns-in_err-e c).In_ok-p) c.requires.net_ready (m (goal.at.returns-in_err-e c).In_ok-p) (w₁ (goal.at.returns-in_err-e c).In_ok-p) (p (goal.at.returns-in_err-e c).In_ok-p) (d (goal.at.returns-in_err-e c).In_ok-p) (told (goal.at.returns-in_err-e c).In_ok-p) c.net_pins.ensures.outside (stands (goal.at.returns-in_err-e c).In_ok-p) c.edges_line.new.w c.edges_line.result (read-edges (goal.at.returns-in_err-e c).After-edges_line) _ c.in_err-e.was; w_len_unchanged = (c.edges_line.ensures.w_len_unchanged ∙ c.net_pins.ensures.outside.long, refl) })

pub returns : goal.returns
returns c =
    let done = body-found (s (goal.at.returns c).In_ok-p) (at (goal.at.returns c).In_ok-p) (g (goal.at.returns c).In_ok-p) c.args.g.shaped (i (goal.at.returns c).In_ok-p) (w₀ (goal.at.returns c).In_ok-p) c.requires.net_ready (m (goal.at.returns c).In_ok-p) (w₁ (goal.at.returns c).In_ok-p) (p (goal.at.returns c).In_ok-p) (d (goal.at.returns c).In_ok-p) (told (goal.at.returns c).In_ok-p) c.net_pins.ensures.outside (stands (goal.at.returns c).In_ok-p) (w₂ (goal.at.returns c).In_ok-e) (e (goal.at.returns c).In_ok-e) (f (goal.at.returns c).In_ok-e) (found-edges (goal.at.returns c).In_ok-e) (w₃ (goal.at.returns c).After-cut_rings-dropped) c.cut_rings-dropped.result c.cut_rings-dropped.ensures.cut_done c.args.table.now c.args.row.first c.requires.table_size_in_bounds.0 refl in record { net_told = rw c.put_row.ensures done; w_len_unchanged = (c.cut_rings-dropped.ensures.w_len_unchanged ∙ c.edges_line.ensures.w_len_unchanged ∙ c.net_pins.ensures.outside.long, rw c.put_row.ensures done.table_long) }
