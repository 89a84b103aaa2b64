-- `put_legal` meets its contract. The loop's invariant: the masks of the places before i stand, and the rest is as it was.
-- Assumes nothing.
use mathlib.Core.Path.{◌≡◌, ap, ◌∙◌}
use Prim.Native.Nat.{ℕ, ◌+◌, ◌*◌, ◌≤◌}
use native.Mathlib.Omega.{arith}
use lib.ListN.{length, get_or}
use Rattle.layout.specs.Areas.{above_at}
use Rattle.tracks.specs.Legal.{legal_mask}
use Rattle.turn.specs.Steps.{masks_at}
use Rattle.turn.proofs.Masks.{masking-start, edge-known, still-small, masking-next, masking-done}
use Rattle.flat.specs.Limited.{limit_at}
use Rattle.turn.proofs.put_legal.Goals as goal
use Rattle.turn.proofs.put_legal.Goals.{After-struct_known-1}

-- where the edges stand, and where their masks go
module _ (c : After-struct_known-1) where
  abbrev a : ℕ
  a = c.above_at-above.result

  abbrev b : ℕ
  b = c.engine_at.result + 2 * c.args.g.m

  a-is : a ≡ above_at c.args.g
  a-is = c.above_at-above.ensures.value

  b-is : b ≡ masks_at c.args.g
  b-is = omega (arith, c.engine_at.ensures.value, c.engine_at.ensures.upper_bound)

  a-room : a + c.args.n ≤ length c.args.w.now
  a-room = omega (arith, a-is, c.requires.g_in_bounds)

  b-room : b + c.args.n ≤ length c.args.w.now
  b-room = omega (arith, b-is, c.requires.g_in_bounds)

pub loop-i-init : goal.loop-i-init
loop-i-init c =
    (omega arith, c.requires.g_in_bounds.1, masking-start c.args.g (a (goal.at.loop-i-init c).After-struct_known-1) (b (goal.at.loop-i-init c).After-struct_known-1) (limit_at c.args.limits) c.args.w.now)

pub overflow_add-edge : goal.overflow_add-edge
overflow_add-edge c =
    omega (arith, a-room (goal.at.overflow_add-edge c).After-struct_known-1)

pub bounds-w-above : goal.bounds-w-above
bounds-w-above c =
    omega (arith, a-room (goal.at.bounds-w-above c).After-struct_known-1, c.loop-i.invariant.2.outside.long)

pub overflow_cast-edge : goal.overflow_cast-edge
overflow_cast-edge c =
    omega (arith, c.slice_known-in-loop-i-1.given (a (goal.at.overflow_cast-edge c).After-struct_known-1 + c.loop-i.i))

pub legal-mask-requires : goal.legal-mask-requires
legal-mask-requires c =
    let x = c.args in
    let h = c.loop-i.invariant in record {
      edge_lt_e = (
        omega (
          arith,
          edge-known x.g (a (goal.at.legal-mask-requires c).After-struct_known-1) (b (goal.at.legal-mask-requires c).After-struct_known-1) (limit_at x.limits) x.n x.w.now (a-is (goal.at.legal-mask-requires c).After-struct_known-1) (b-is (goal.at.legal-mask-requires c).After-struct_known-1) c.requires.g_in_bounds.2 c.requires.small_capacities.1 c.loop-i.w c.loop-i.i h.2 h.0 (omega arith),
        ),
        omega (arith, h.2.outside.long, c.requires.g_in_bounds.0),
        omega (arith, c.limit_at-limit.ensures, c.requires.g_in_bounds.3 (get_or c.loop-i.w (a (goal.at.legal-mask-requires c).After-struct_known-1 + c.loop-i.i) 0)),
      );
      small_capacities = still-small x.g (a (goal.at.legal-mask-requires c).After-struct_known-1) (b (goal.at.legal-mask-requires c).After-struct_known-1) (limit_at x.limits) x.n x.w.now (a-is (goal.at.legal-mask-requires c).After-struct_known-1) (b-is (goal.at.legal-mask-requires c).After-struct_known-1) c.requires.g_in_bounds.2 c.requires.small_capacities.1 c.loop-i.w c.loop-i.i h.2 c.requires.small_capacities.0;
    }

pub bounds-w-masks : goal.bounds-w-masks
bounds-w-masks c =
    omega (arith, b-room (goal.at.bounds-w-masks c).After-struct_known-1, c.loop-i.invariant.2.outside.long)

pub loop-i-preserved : goal.loop-i-preserved
loop-i-preserved c =
    let x = c.args in
    let h = c.loop-i.invariant in (
      omega arith,
      omega arith,
      masking-next x.g (a (goal.at.loop-i-preserved c).After-struct_known-1) (b (goal.at.loop-i-preserved c).After-struct_known-1) (limit_at x.limits) x.n x.w.now (a-is (goal.at.loop-i-preserved c).After-struct_known-1) (b-is (goal.at.loop-i-preserved c).After-struct_known-1) c.requires.g_in_bounds.2 c.requires.small_capacities.1 c.loop-i.w c.loop-i.i h.2
          c.legal-mask.result h.0 (omega arith) (b-room (goal.at.loop-i-preserved c).After-struct_known-1)
          (c.legal-mask.ensures.value ∙ ap (legal_mask x.g c.loop-i.w (get_or c.loop-i.w (a (goal.at.loop-i-preserved c).After-struct_known-1 + c.loop-i.i) 0)) c.limit_at-limit.ensures),
    )

pub shape_of-w : goal.shape_of-w
shape_of-w c =
    c.loop-i.invariant.2.outside.long

pub returns : goal.returns
returns c =
    let x = c.args in
    let h = c.loop-i.invariant in
    masking-done x.g (a (goal.at.returns c).After-struct_known-1) (b (goal.at.returns c).After-struct_known-1) (limit_at x.limits) x.n x.w.now (a-is (goal.at.returns c).After-struct_known-1) (b-is (goal.at.returns c).After-struct_known-1) c.requires.g_in_bounds.2 c.requires.small_capacities.1 c.loop-i.w c.loop-i.i h.2 (omega arith) h.1
