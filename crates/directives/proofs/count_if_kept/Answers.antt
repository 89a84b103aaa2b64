-- `count_if_kept` meets its contract: the edge is counted, or passed by.
-- Assumes nothing.
use mathlib.Core.Path.{◌≡◌, refl, ap, ◌∙◌}
use Prim.Native.Nat.{◌≤◌}
use native.Mathlib.Omega.{arith}
use lib.ListN.{length}
use Rattle.layout.specs.Areas.{demand_at}
use Rattle.model.specs.Read.{Triple}
use Rattle.scan.specs.Pins.{triple}
use Rattle.ways.specs.Entry.{edge_of, placed}
use Rattle.directives.specs.Counting.{kept-counted, kept-passed}
use Rattle.directives.specs.Marked.{one-long}
use Rattle.directives.proofs.count_if_kept.Goals as goal
use Rattle.directives.proofs.count_if_kept.Goals.{After-count_entry, After-keeps}

-- whether the edge is kept is known
module _ (k : After-keeps) where
  abbrev entry : Triple
  entry = triple k.args.e.x k.args.e.y k.args.e.third

  room : demand_at k.args.g ≤ length k.args.w.now
  room = omega (arith, k.requires.le_low.2)

-- it is counted
module _ (d : After-count_entry) where
  long : length d.count_entry.new.w ≡ length d.args.w.now
  long =
      let x = d.args in
      let r = d.requires.le_low in
      ap length d.count_entry.ensures ∙ one-long x.g x.low r.0 r.1 (edge_of x.g (entry (goal.at.After-count_entry d).After-keeps)) x.w.now

pub keeps-requires : goal.keeps-requires
keeps-requires c =
    record { g_in_bounds = (c.requires.le_low.2, c.requires.le_low.3, c.requires.le_low.4) }

pub count_entry-requires : goal.count_entry-requires
count_entry-requires c =
    record { le_low = (c.requires.le_low.0, c.requires.le_low.1, room (goal.at.count_entry-requires c).After-keeps, c.requires.le_low.3, c.requires.le_low.4); low_bound = c.requires.low_bound }

pub shape_of-w-then-keeps : goal.shape_of-w-then-keeps
shape_of-w-then-keeps c =
    long (goal.at.shape_of-w-then-keeps c).After-count_entry

pub returns-then-keeps : goal.returns-then-keeps
returns-then-keeps c =
    let x = c.args in record {
      by_index = (λ w₀ xs so_far.
          kept-counted x.g x.low c.requires.le_low.0 c.requires.le_low.1 w₀ x.stamp xs x.w.now so_far (edge_of x.g (entry (goal.at.returns-then-keeps c).After-keeps)) c.keeps.result c.keeps.ensures c.if-keeps.true
          (placed x.g c.args.g.shaped (entry (goal.at.returns-then-keeps c).After-keeps) c.requires.le_low.4 c.requires.le_low.3).known (room (goal.at.returns-then-keeps c).After-keeps) c.count_entry.new.w c.count_entry.ensures);
      w_len_unchanged = long (goal.at.returns-then-keeps c).After-count_entry;
    }

pub returns-else-keeps : goal.returns-else-keeps
returns-else-keeps c =
    let x = c.args in record {
      by_index = (λ w₀ xs so_far.
          kept-passed x.g x.low c.requires.le_low.0 c.requires.le_low.1 w₀ x.stamp xs x.w.now so_far (edge_of x.g (entry (goal.at.returns-else-keeps c).After-keeps)) c.keeps.result c.keeps.ensures c.if-keeps.false);
      w_len_unchanged = refl;
    }
