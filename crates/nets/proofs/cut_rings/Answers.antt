-- `cut_rings` meets its contract: where the entries have no ring the net keeps all of them and nothing changes, where they have one `cut_net` cuts it (`Rings.antt` of
-- the specs).
-- Assumes nothing.
use mathlib.Core.Path.{refl}
use borrow.Author.Tests.{not-true, not-false}
use Rattle.nets.specs.Rings.{ring-there, no-ring-cut}
use Rattle.nets.proofs.cut_rings.Goals as goal
use Rattle.nets.proofs.cut_rings.Goals.{Else-not-e}

pub returns-then-not-e : goal.returns-then-not-e
returns-then-not-e c =
    let x = c.args in
    let r = c.requires.g_in_bounds in record { cut_done = λ n at. no-ring-cut x.s.now x.g x.p.from x.e.from x.e.ring n at (not-true _ c.if-not-e.true) x.stamp x.w.now r.2 r.3; w_len_unchanged = refl }

pub returns : goal.returns
returns c =
    let x = c.args in record { cut_done = λ n at. c.cut_net.ensures.cut_done n (ring-there x.s.now x.g x.p.from x.e.from x.e.ring n at (not-false _ c.if-not-e.false)); w_len_unchanged = c.cut_net.ensures.w_len_unchanged }
