-- `count_line` meets its contract: an empty line has no edges to count.
-- Assumes nothing.
use mathlib.Core.List.{List}
use mathlib.Core.Path.{refl, sym, ap}
use Prim.Native.Nat.{ℕ}
use Rattle.net.specs.Left.{edges-place, edges_none}
use Rattle.directives.specs.Counts.{marked}
use Rattle.directives.proofs.count_line.Goals as goal

pub bounds-s-at : goal.bounds-s-at
bounds-s-at c =
    let x = c.args in
    let h = c.requires.edges_there in
    edges-place x.s.now x.g.w x.g.h x.at h.net h.edges

pub count_entries-requires : goal.count_entries-requires
count_entries-requires c =
    record { le_low = c.requires.le_low; edges_there = (c.requires.edges_there, c.if-s-at-ne10.true) }

pub returns-then-s-at-ne10 : goal.returns-then-s-at-ne10
returns-then-s-at-ne10 c =
    record { w_after = c.count_entries.ensures.w_after; w_len_unchanged = c.count_entries.ensures.w_len_unchanged }

pub returns-else-s-at-ne10 : goal.returns-else-s-at-ne10
returns-else-s-at-ne10 c =
    let x = c.args in record { w_after = λ n at. ap (λ (es : List ℕ). marked x.g x.low es x.w.now) (sym (edges_none x.s.now x.g.w x.g.h x.at n at c.if-s-at-ne10.false)); w_len_unchanged = refl }
