-- `add_edge` meets its contract. The edge is counted, marked and joined in this order; each step leaves what the others hold, so the
-- laws of one more edge apply.
-- Assumes nothing.
use mathlib.Core.Bool.{true}
use mathlib.Core.List.{List}
use mathlib.Core.Path.{◌≡◌, refl, sym, ap, ◌∙◌}
use Prim.Native.Nat.{ℕ, ◌+◌, ◌-◌, ◌≤◌, ◌<◌}
use native.Mathlib.Omega.{arith}
use lib.ListN.{length, length-set}
use Rattle.std.specs.Prelude.{Some}
use Rattle.layout.specs.Areas.{demand_at, tiles_at, tiles_of}
use Rattle.layout.specs.Parts.{Outside}
use Rattle.layout.specs.Shapes.{way_of}
use Rattle.layout.specs.declared.Way.{Way}
use Rattle.model.specs.Read.{Triple, edge_inside}
use Rattle.scan.specs.Pins.{triple}
use Rattle.ways.specs.Ends.{ends_of, ends_after}
use Rattle.ways.specs.Entry.{start_of}
use Rattle.edges.specs.Steps.{kept-tiles, kept-links}
use Rattle.edges.proofs.Turns.{here-inside, there-inside, edge-inside, add_twice, new-few, add-joined, add-closed, steps-long}
use Rattle.edges.proofs.add_edge.Goals as goal
use Rattle.edges.proofs.add_edge.Goals.{After-put_demand, After-put_marks, After-way_on-out, In-Some}

module _ (k : After-way_on-out) where
  abbrev entry : Triple
  entry = triple k.args.e.x k.args.e.y k.args.e.third

  abbrev here : ℕ
  here = k.tile_at-here.result

  abbrev there : ℕ
  there = k.way_on-out.result.tile

  abbrev edge : ℕ
  edge = k.way_on-out.result.edge

  is-way : k.args.e.third ≤ 1
  is-way = k.requires.g_in_bounds.3

  is-inside : edge_inside k.args.g.w k.args.g.h (triple k.args.e.x k.args.e.y k.args.e.third) ≡ true
  is-inside = k.requires.g_in_bounds.4

  here-is : here ≡ start_of k.args.g entry
  here-is = k.tile_at-here.ensures.0

  there-is : there ≡ (way_of k.args.g here k.args.e.third).tile
  there-is = ap (λ (z : Way). z.tile) k.way_on-out.ensures

  edge-is : edge ≡ (way_of k.args.g here k.args.e.third).edge
  edge-is = ap (λ (z : Way). z.edge) k.way_on-out.ensures

  known : edge < k.args.g.e
  known = edge-inside k.args.g k.args.g.shaped k.args.stamp entry is-inside is-way here there edge here-is there-is edge-is

module _ (d : After-put_demand) where
  -- the working numbers then
  abbrev counted : List ℕ
  counted = d.put_demand.new.w

  same-tiles : tiles_of d.args.g counted ≡ tiles_of d.args.g d.args.w.now
  same-tiles = kept-tiles d.args.g d.args.w.now counted (edge (goal.at.After-put_demand d).After-way_on-out) _ (known (goal.at.After-put_demand d).After-way_on-out) d.put_demand.ensures

  counted-long : length counted ≡ length d.args.w.now
  counted-long = ap length d.put_demand.ensures ∙ length-set d.args.w.now (demand_at d.args.g + edge (goal.at.After-put_demand d).After-way_on-out) _

module _ (m : After-put_marks) where
  -- what the marks said, of the working numbers before the edge
  said : m.put_marks.result ≡ ends_of m.args.stamp (tiles_of m.args.g m.args.w.now) (here (goal.at.After-put_marks m).After-way_on-out) (there (goal.at.After-put_marks m).After-way_on-out) m.args.e.third
  said = m.put_marks.ensures.value ∙ ap (λ (l : List ℕ). ends_of m.args.stamp l (here (goal.at.After-put_marks m).After-way_on-out) (there (goal.at.After-put_marks m).After-way_on-out) m.args.e.third) (same-tiles (goal.at.After-put_marks m).After-put_demand)

module _ (q : In-Some) where
  -- how many of its tiles are new
  abbrev new : ℕ
  new = q.in-Some.k

  -- the working numbers after its marks
  abbrev second : List ℕ
  second = q.put_marks.new.w

  found-new : Some new ≡ ends_of q.args.stamp (tiles_of q.args.g q.args.w.now) (here (goal.at.In-Some q).After-way_on-out) (there (goal.at.In-Some q).After-way_on-out) q.args.e.third
  found-new = sym q.in-Some.is ∙ said (goal.at.In-Some q).After-put_marks

  few : new ≤ 2
  few = new-few q.args.g q.args.g.shaped q.args.stamp (entry (goal.at.In-Some q).After-way_on-out) (is-inside (goal.at.In-Some q).After-way_on-out) (is-way (goal.at.In-Some q).After-way_on-out) (here (goal.at.In-Some q).After-way_on-out) (there (goal.at.In-Some q).After-way_on-out) (edge (goal.at.In-Some q).After-way_on-out) (here-is (goal.at.In-Some q).After-way_on-out) (there-is (goal.at.In-Some q).After-way_on-out) (edge-is (goal.at.In-Some q).After-way_on-out) q.args.w.now q.requires.g_in_bounds.0 new found-new

  marks-out : Outside (tiles_at q.args.g) q.args.g.t (counted (goal.at.In-Some q).After-put_demand) second
  marks-out = q.put_marks.ensures.outside

  marks-are : tiles_of q.args.g second ≡ ends_after q.args.stamp (tiles_of q.args.g q.args.w.now) (here (goal.at.In-Some q).After-way_on-out) (there (goal.at.In-Some q).After-way_on-out) q.args.e.third
  marks-are = q.put_marks.ensures.w_after ∙ ap (λ (l : List ℕ). ends_after q.args.stamp l (here (goal.at.In-Some q).After-way_on-out) (there (goal.at.In-Some q).After-way_on-out) q.args.e.third) (same-tiles (goal.at.In-Some q).After-put_demand)

pub put_demand-requires : goal.put_demand-requires
put_demand-requires c =
    record { g_in_bounds = (c.requires.g_in_bounds.0, known (goal.at.put_demand-requires c).After-way_on-out, c.requires.ready.0.demand (edge (goal.at.put_demand-requires c).After-way_on-out) (known (goal.at.put_demand-requires c).After-way_on-out)) }

pub put_marks-requires : goal.put_marks-requires
put_marks-requires c =
    record { g_in_bounds = (omega (arith, c.requires.g_in_bounds.0, counted-long (goal.at.put_marks-requires c).After-put_demand), here-inside c.args.g c.args.g.shaped c.args.stamp (entry (goal.at.put_marks-requires c).After-way_on-out) (is-inside (goal.at.put_marks-requires c).After-way_on-out) (is-way (goal.at.put_marks-requires c).After-way_on-out) (here (goal.at.put_marks-requires c).After-way_on-out) (there (goal.at.put_marks-requires c).After-way_on-out) (edge (goal.at.put_marks-requires c).After-way_on-out) (here-is (goal.at.put_marks-requires c).After-way_on-out) (there-is (goal.at.put_marks-requires c).After-way_on-out) (edge-is (goal.at.put_marks-requires c).After-way_on-out), there-inside c.args.g c.args.g.shaped c.args.stamp (entry (goal.at.put_marks-requires c).After-way_on-out) (is-inside (goal.at.put_marks-requires c).After-way_on-out) (is-way (goal.at.put_marks-requires c).After-way_on-out) (here (goal.at.put_marks-requires c).After-way_on-out) (there (goal.at.put_marks-requires c).After-way_on-out) (edge (goal.at.put_marks-requires c).After-way_on-out) (here-is (goal.at.put_marks-requires c).After-way_on-out) (there-is (goal.at.put_marks-requires c).After-way_on-out) (edge-is (goal.at.put_marks-requires c).After-way_on-out), c.requires.g_in_bounds.3, c.requires.g_in_bounds.1) }

pub overflow_add-parts : goal.overflow_add-parts
overflow_add-parts c =
    omega (arith, few (goal.at.overflow_add-parts c).In-Some, c.requires.ready.0.few_parts)

pub put_join-requires : goal.put_join-requires
put_join-requires c =
    let x = c.args in record {
      g_in_bounds = (
        omega (arith, c.requires.g_in_bounds.0, (marks-out (goal.at.put_join-requires c).In-Some).long, counted-long (goal.at.put_join-requires c).After-put_demand),
        here-inside x.g c.args.g.shaped x.stamp (entry (goal.at.put_join-requires c).After-way_on-out) (is-inside (goal.at.put_join-requires c).After-way_on-out) (is-way (goal.at.put_join-requires c).After-way_on-out) (here (goal.at.put_join-requires c).After-way_on-out) (there (goal.at.put_join-requires c).After-way_on-out) (edge (goal.at.put_join-requires c).After-way_on-out) (here-is (goal.at.put_join-requires c).After-way_on-out) (there-is (goal.at.put_join-requires c).After-way_on-out) (edge-is (goal.at.put_join-requires c).After-way_on-out),
        there-inside x.g c.args.g.shaped x.stamp (entry (goal.at.put_join-requires c).After-way_on-out) (is-inside (goal.at.put_join-requires c).After-way_on-out) (is-way (goal.at.put_join-requires c).After-way_on-out) (here (goal.at.put_join-requires c).After-way_on-out) (there (goal.at.put_join-requires c).After-way_on-out) (edge (goal.at.put_join-requires c).After-way_on-out) (here-is (goal.at.put_join-requires c).After-way_on-out) (there-is (goal.at.put_join-requires c).After-way_on-out) (edge-is (goal.at.put_join-requires c).After-way_on-out),
        c.requires.g_in_bounds.1,
        rw (kept-links x.g x.w.now (counted (goal.at.put_join-requires c).After-put_demand) (second (goal.at.put_join-requires c).In-Some) (edge (goal.at.put_join-requires c).After-way_on-out) _ (known (goal.at.put_join-requires c).After-way_on-out) c.put_demand.ensures (marks-out (goal.at.put_join-requires c).In-Some)) c.requires.ready.0.links,
      );
    }

pub returns-then-put_join : goal.returns-then-put_join
returns-then-put_join c =
    let x = c.args in record {
      shown = λ ps w₀ ts s.
          add-joined x.g c.args.g.shaped x.stamp (entry (goal.at.returns-then-put_join c).After-way_on-out) (is-inside (goal.at.returns-then-put_join c).After-way_on-out) (is-way (goal.at.returns-then-put_join c).After-way_on-out) (here (goal.at.returns-then-put_join c).After-way_on-out) (there (goal.at.returns-then-put_join c).After-way_on-out) (edge (goal.at.returns-then-put_join c).After-way_on-out) (here-is (goal.at.returns-then-put_join c).After-way_on-out) (there-is (goal.at.returns-then-put_join c).After-way_on-out) (edge-is (goal.at.returns-then-put_join c).After-way_on-out) x.w.now c.requires.g_in_bounds.0 (new (goal.at.returns-then-put_join c).In-Some) (found-new (goal.at.returns-then-put_join c).In-Some) (counted (goal.at.returns-then-put_join c).After-put_demand) (second (goal.at.returns-then-put_join c).In-Some) c.put_join.new.w c.put_demand.ensures (marks-out (goal.at.returns-then-put_join c).In-Some) (marks-are (goal.at.returns-then-put_join c).In-Some) c.put_join.ensures.outside
          c.put_join.result c.put_join.ensures.merged x.v.judged c.requires.ready.1 ps w₀ ts x.v.parts (x.v.parts + new (goal.at.returns-then-put_join c).In-Some - 1) s c.if-put_join.true (omega (arith, c.requires.ready.0.some_part));
      entries_value = refl;
      w_len_unchanged = steps-long _ _ _ _ _ _ x.w.now (counted (goal.at.returns-then-put_join c).After-put_demand) (second (goal.at.returns-then-put_join c).In-Some) c.put_join.new.w c.put_demand.ensures (marks-out (goal.at.returns-then-put_join c).In-Some) c.put_join.ensures.outside;
    }

pub returns-in_default : goal.returns-in_default
returns-in_default c =
    record {
      shown = λ ps w₀ ts s.
          add_twice c.args.g c.args.g.shaped c.args.stamp (entry (goal.at.returns-in_default c).After-way_on-out) (is-inside (goal.at.returns-in_default c).After-way_on-out) (is-way (goal.at.returns-in_default c).After-way_on-out) (here (goal.at.returns-in_default c).After-way_on-out) (there (goal.at.returns-in_default c).After-way_on-out) (edge (goal.at.returns-in_default c).After-way_on-out) (here-is (goal.at.returns-in_default c).After-way_on-out) (there-is (goal.at.returns-in_default c).After-way_on-out) (edge-is (goal.at.returns-in_default c).After-way_on-out) c.args.w.now c.requires.g_in_bounds.0
          (sym c.in_default.is ∙ said (goal.at.returns-in_default c).After-put_marks) c.args.v.judged c.requires.ready.1 ps w₀ ts c.args.v.parts c.args.v.parts c.put_marks.new.w s;
      entries_value = refl;
      w_len_unchanged = c.put_marks.ensures.outside.long ∙ counted-long (goal.at.returns-in_default c).After-put_demand;
    }

pub returns : goal.returns
returns c =
    let x = c.args in record {
      shown = λ ps w₀ ts s.
          add-closed x.g c.args.g.shaped x.stamp (entry (goal.at.returns c).After-way_on-out) (is-inside (goal.at.returns c).After-way_on-out) (is-way (goal.at.returns c).After-way_on-out) (here (goal.at.returns c).After-way_on-out) (there (goal.at.returns c).After-way_on-out) (edge (goal.at.returns c).After-way_on-out) (here-is (goal.at.returns c).After-way_on-out) (there-is (goal.at.returns c).After-way_on-out) (edge-is (goal.at.returns c).After-way_on-out) x.w.now c.requires.g_in_bounds.0 (new (goal.at.returns c).In-Some) (found-new (goal.at.returns c).In-Some) (counted (goal.at.returns c).After-put_demand) (second (goal.at.returns c).In-Some) c.put_join.new.w c.put_demand.ensures (marks-out (goal.at.returns c).In-Some) (marks-are (goal.at.returns c).In-Some) c.put_join.ensures.outside
          c.put_join.result c.put_join.ensures.merged x.v.judged c.requires.ready.1 ps w₀ ts x.v.parts (x.v.parts + new (goal.at.returns c).In-Some) s c.if-put_join.false refl;
      entries_value = refl;
      w_len_unchanged = steps-long _ _ _ _ _ _ x.w.now (counted (goal.at.returns c).After-put_demand) (second (goal.at.returns c).In-Some) c.put_join.new.w c.put_demand.ensures (marks-out (goal.at.returns c).In-Some) c.put_join.ensures.outside;
    }
