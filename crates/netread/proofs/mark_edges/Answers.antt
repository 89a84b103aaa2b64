-- `mark_edges` meets its contract.
-- Assumes nothing.
use Rattle.net.specs.Left.{edges-place, edges_none}
use Rattle.netread.specs.Hand.{edges-start}
use Rattle.netread.proofs.mark_edges.Goals as goal

pub bounds-s-at : goal.bounds-s-at
bounds-s-at c =
    let x = c.args in
    let h = c.requires.edges_there in
    edges-place x.s.now x.g.w x.g.h x.at h.net h.edges

pub returns-then-s-at-eq10 : goal.returns-then-s-at-eq10
returns-then-s-at-eq10 c =
    let x = c.args in
    λ net k. rw (edges_none x.s.now x.g.w x.g.h x.at net k c.if-s-at-eq10.true) (edges-start x.g x.stamp x.low x.w.now)

pub mark_entries-requires : goal.mark_entries-requires
mark_entries-requires c =
    record { g_in_bounds = c.requires.g_in_bounds; edges_there = (c.requires.edges_there, c.if-s-at-eq10.false) }

pub returns : goal.returns
returns c =
    c.mark_entries.ensures
