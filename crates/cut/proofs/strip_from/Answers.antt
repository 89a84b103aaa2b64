-- `strip_from` meets its contract. The loop's invariant: the strip has come to the tile at hand, and goes on from there by at most `left` edges.
-- Assumes nothing.
use mathlib.Core.Bool.{true}
use mathlib.Core.List.{List}
use mathlib.Core.Path.{◌≡◌, sym, ap, subst, ◌∙◌}
use Prim.Native.Nat.{ℕ, suc, ◌+◌, ◌-◌, ◌≤◌, ◌<◌}
use native.Mathlib.Omega.{arith}
use Rattle.layout.specs.Shapes.{WayRoom, way_of}
use Rattle.layout.specs.declared.Way.{Way}
use Rattle.marks.specs.Marks.{bits_at, marked, unmark}
use Rattle.cut.specs.Bare.{way_in, only-some, only-none}
use Rattle.cut.specs.Stripping.{back_of, cleared}
use Rattle.cut.proofs.Turns.{Going, going_start, going-out, going-ends, takes, clears, going_on}
use Rattle.cut.proofs.strip_from.Goals as goal
use Rattle.cut.proofs.strip_from.Goals.{In-Some, After-way_out-out}

-- the tile at hand has an only way
module _ (e : In-Some) where
  told : (e.in-Some.d ≡ way_in (bits_at e.args.stamp e.loop-left.a e.loop-left.here)) × (way_in (bits_at e.args.stamp e.loop-left.a e.loop-left.here) < 4)
  told = subst (λ (m : ℕ). (e.in-Some.d ≡ way_in m) × (way_in m < 4)) e.bits.ensures.value (only-some e.bits.result e.in-Some.d e.in-Some.ensures)

  -- and steps are left
  going : Going e.args.g e.args.stamp e.args.t e.args.a.now e.loop-left.a e.loop-left.here (suc (e.loop-left.left - 1))
  going =
      let p : e.loop-left.left ≡ suc (e.loop-left.left - 1) = omega (arith, e.loop-left-test.true) in
      subst (Going e.args.g e.args.stamp e.args.t e.args.a.now e.loop-left.a e.loop-left.here) p e.loop-left.invariant

-- the tile that it leads to
module _ (w : After-way_out-out) where
  tile-is : (way_of w.args.g w.loop-left.here w.in-Some.d).tile ≡ w.way_out-out.result.tile
  tile-is = ap (λ (y : Way). y.tile) (sym w.way_out-out.ensures)

  asked : (w.way_out-out.result.tile < w.args.g.t) × (marked w.args.stamp w.loop-left.a w.loop-left.here (8 + w.in-Some.d) ≡ true)
      × (marked w.args.stamp (unmark w.args.stamp w.loop-left.a w.loop-left.here (8 + w.in-Some.d)) w.way_out-out.result.tile (8 + back_of w.in-Some.d) ≡ true)
  asked =
      subst (λ (y : ℕ). (y < w.args.g.t) × (marked w.args.stamp w.loop-left.a w.loop-left.here (8 + w.in-Some.d) ≡ true)
      × (marked w.args.stamp (unmark w.args.stamp w.loop-left.a w.loop-left.here (8 + w.in-Some.d)) y (8 + back_of w.in-Some.d) ≡ true)) tile-is
      (subst (λ (x : ℕ). ((way_of w.args.g w.loop-left.here x).tile < w.args.g.t) × (marked w.args.stamp w.loop-left.a w.loop-left.here (8 + x) ≡ true)
      × (marked w.args.stamp (unmark w.args.stamp w.loop-left.a w.loop-left.here (8 + x)) (way_of w.args.g w.loop-left.here x).tile (8 + back_of x) ≡ true)) (sym (told (goal.at.After-way_out-out w).In-Some).0)
      (clears w.args.g w.args.g.shaped w.args.stamp w.args.t w.args.a.now w.loop-left.a w.loop-left.here w.requires.a_len.0 (w.loop-left.left - 1) (going (goal.at.After-way_out-out w).In-Some) (told (goal.at.After-way_out-out w).In-Some).1))

  on : Going w.args.g w.args.stamp w.args.t w.args.a.now (cleared w.args.stamp w.loop-left.a w.loop-left.here w.way_out-out.result.tile w.in-Some.d) w.way_out-out.result.tile (w.loop-left.left - 1)
  on =
      subst (λ (y : ℕ). Going w.args.g w.args.stamp w.args.t w.args.a.now (cleared w.args.stamp w.loop-left.a w.loop-left.here y w.in-Some.d) y (w.loop-left.left - 1)) tile-is
      (subst (λ (x : ℕ). Going w.args.g w.args.stamp w.args.t w.args.a.now (cleared w.args.stamp w.loop-left.a w.loop-left.here (way_of w.args.g w.loop-left.here x).tile x) (way_of w.args.g w.loop-left.here x).tile (w.loop-left.left - 1))
      (sym (told (goal.at.After-way_out-out w).In-Some).0)
      (going_on w.args.g w.args.g.shaped w.args.stamp w.args.t w.args.a.now w.loop-left.a w.loop-left.here w.requires.a_len.0 (w.loop-left.left - 1) (going (goal.at.After-way_out-out w).In-Some) (told (goal.at.After-way_out-out w).In-Some).1))

pub loop-left-init : goal.loop-left-init
loop-left-init c =
    going_start c.args.g c.args.stamp c.args.t c.args.a.now c.requires.a_len.1 c.requires.strippable

pub offset_bounds-a-here : goal.offset_bounds-a-here
offset_bounds-a-here c =
    omega (arith, c.loop-left.invariant.inside, c.args.g.shaped.t_most)

pub bounds-a-here : goal.bounds-a-here
bounds-a-here c =
    omega (arith, c.loop-left.invariant.inside, c.loop-left.invariant.long, c.requires.a_len.0)

pub shape_of-a-in_default : goal.shape_of-a-in_default
shape_of-a-in_default c =
    c.loop-left.invariant.long

pub returns-in_default : goal.returns-in_default
returns-in_default c =
    going-ends c.args.g c.args.g.shaped c.args.stamp c.args.t c.args.a.now c.loop-left.a c.loop-left.here c.requires.a_len.0 c.loop-left.left c.loop-left.invariant
    (subst (λ (m : ℕ). 4 ≤ way_in m) c.bits.ensures.value (only-none c.bits.result (sym c.in_default.is ∙ c.only_way.ensures)))

pub way_out-out-requires : goal.way_out-out-requires
way_out-out-requires c =
    record {
      way_room = subst (WayRoom c.args.g c.loop-left.here) (sym (told (goal.at.way_out-out-requires c).In-Some).0)
          (takes c.args.g c.args.g.shaped c.args.stamp c.args.t c.args.a.now c.loop-left.a c.loop-left.here c.requires.a_len.0 (c.loop-left.left - 1) (going (goal.at.way_out-out-requires c).In-Some) (told (goal.at.way_out-out-requires c).In-Some).1);
    }

pub clear_way-requires : goal.clear_way-requires
clear_way-requires c =
    let k = asked (goal.at.clear_way-requires c).After-way_out-out in
    let i = c.loop-left.invariant in record { here_in_bounds = (omega (arith, i.inside, i.long, c.requires.a_len.0), omega (arith, k.0, i.long, c.requires.a_len.0), omega (arith, (told (goal.at.clear_way-requires c).In-Some).0, (told (goal.at.clear_way-requires c).In-Some).1)); d_value = (k.1, k.2) }

pub loop-left-preserved : goal.loop-left-preserved
loop-left-preserved c =
    subst (λ (x : List ℕ). Going c.args.g c.args.stamp c.args.t c.args.a.now x c.way_out-out.result.tile (c.loop-left.left - 1)) (sym c.clear_way.ensures) (on (goal.at.loop-left-preserved c).After-way_out-out)

pub shape_of-a : goal.shape_of-a
shape_of-a c =
    c.loop-left.invariant.long

pub returns : goal.returns
returns c =
    let none : c.loop-left.left ≡ 0 = omega (arith, c.loop-left-test.false) in
    going-out c.args.g c.args.g.shaped c.args.stamp c.args.t c.args.a.now c.loop-left.a c.loop-left.here c.requires.a_len.0
    (subst (Going c.args.g c.args.stamp c.args.t c.args.a.now c.loop-left.a c.loop-left.here) none c.loop-left.invariant)
