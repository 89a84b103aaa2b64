-- `choose_layers` meets its contract.
-- Assumes nothing.
use mathlib.Core.Path.{◌≡◌}
use Prim.Native.Nat.{ℕ}
use native.Mathlib.Omega.{arith}
use lib.ListN.{length}
use Rattle.engine.specs.Net.{Placed}
use Rattle.model.specs.Plan.{legal}
use Rattle.turn.specs.Turn.{Turn, turn_net, turn_limit, NetWalked}
use Rattle.turn.proofs.Choosing.{tiles-fit, limit-fits, small, known, holds, holds-net, net-chosen, chosen-long}
use Rattle.turn.specs.Steps.{engine_of}
use Rattle.flat.specs.Limited.{limit_at}
use Rattle.turn.proofs.choose_layers.Goals as goal
use Rattle.turn.proofs.choose_layers.Goals.{After-place}

-- the choice of any net that is walked, and of the one that is
module _ (c : After-place) where
  placed : (u : Turn) (stamp : ℕ) → NetWalked c.args.g stamp c.args.n c.args.w.now u → ((e : ℕ) → limit_at c.args.limits e ≡ turn_limit u e)
      → Placed (λ l. l) u.job (turn_net u) (legal u.job u.plan) (engine_of c.args.g c.put_legal.new.w) (engine_of c.args.g c.place.new.w) c.args.g.m c.place.result
  placed u stamp h e =
      c.place.ensures.placed u.job (turn_net u) (legal u.job u.plan)
      (holds c.args.g c.args.g.shaped c.args.n c.args.w.now c.requires.g_in_bounds stamp u h (limit_at c.args.limits) e c.put_legal.new.w c.put_legal.ensures)

  long : length c.place.new.w ≡ length c.args.w.now
  long =
      let s = c.requires.walked_some in
      chosen-long c.args.g c.args.g.shaped c.args.n c.args.w.now c.requires.g_in_bounds s.stamp s.turn s.walked (limit_at c.args.limits) s.limit_is c.put_legal.new.w
      c.put_legal.ensures c.place.new.w c.place.result c.place.ensures.outside (placed s.turn s.stamp s.walked s.limit_is)

pub put_legal-requires : goal.put_legal-requires
put_legal-requires c =
    let x = c.args in
    let s = c.requires.walked_some in
    let f = tiles-fit x.g c.args.g.shaped x.n x.w.now c.requires.g_in_bounds s.stamp s.turn s.walked in record {
      g_in_bounds = (c.requires.g_in_bounds, f.0, f.1, limit-fits x.g c.args.g.shaped x.n x.w.now c.requires.g_in_bounds s.stamp s.turn s.walked (limit_at x.limits) s.limit_is);
      small_capacities = (
        small x.g c.args.g.shaped x.n x.w.now c.requires.g_in_bounds s.stamp s.turn s.walked,
        known x.g c.args.g.shaped x.n x.w.now c.requires.g_in_bounds s.stamp s.turn s.walked,
      );
    }

pub place-requires : goal.place-requires
place-requires c =
    let x = c.args in
    let s = c.requires.walked_some in record { g_in_bounds = omega (arith, c.requires.g_in_bounds, c.put_legal.ensures.outside.long); holds_net = holds-net x.g c.args.g.shaped x.n x.w.now c.requires.g_in_bounds s.stamp s.turn s.walked (limit_at x.limits) s.limit_is c.put_legal.new.w c.put_legal.ensures }

pub shape_of-w : goal.shape_of-w
shape_of-w c =
    long (goal.at.shape_of-w c).After-place

pub returns : goal.returns
returns c =
    let x = c.args in record {
      net_chosen = λ u stamp h l.
          net-chosen x.g c.args.g.shaped x.n x.w.now c.requires.g_in_bounds stamp u h (limit_at x.limits) l c.put_legal.new.w c.put_legal.ensures c.place.new.w c.place.result
          c.place.ensures.outside (placed (goal.at.returns c).After-place u stamp h l);
      w_len_unchanged = long (goal.at.returns c).After-place;
    }
