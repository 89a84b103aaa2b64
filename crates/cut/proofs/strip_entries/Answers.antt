-- `strip_entries` meets its contract. The loop's invariant: the tiles of the entries that came were stripped from.
-- Assumes nothing.
use mathlib.Core.List.{List, [], ◌∷◌}
use mathlib.Core.Path.{sym, subst, ◌∙◌}
use Prim.Native.Nat.{ℕ}
use Rattle.known.specs.Taken.{taken_start, taken_all, taken-inside, taken_more}
use Rattle.scan.specs.Pins.{triple}
use Rattle.ways.specs.Entry.{edge_of}
use Rattle.cut.specs.Strips.{both_tiles, tiles_more, Stripped, stripped-none, stripped-then, still-strippable}
use Rattle.cut.proofs.strip_entries.Goals as goal

pub loop-e-init : goal.loop-e-init
loop-e-init c =
    taken_start c.args.g.shaped c.requires.edges_there.0 c.requires.edges_there.1 (rw c.into_iter-e-iterator.ensures.into_iter_gives c.edges_from-e-items.ensures)
    (stripped-none c.args.g c.args.stamp c.args.a.now)

pub strip_edge-requires : goal.strip_edge-requires
strip_edge-requires c =
    let l = c.loop-e.invariant.2 in
    let k = taken-inside l c.in-Some.e c.next.new.self c.in-Some.ensures.steps in
    record { a_len = (l.holds.long ∙ c.requires.a_len.0, k.0, k.1); strippable = still-strippable c.args.g c.args.stamp (both_tiles c.args.g l.so_far) c.args.a.now c.loop-e.a l.holds c.requires.a_len.1 }

pub loop-e-preserved : goal.loop-e-preserved
loop-e-preserved c =
    let l = c.loop-e.invariant.2 in
    let k = c.in-Some.e in
    let e = edge_of c.args.g (triple k.x k.y k.third) in
    taken_more l k c.next.new.self c.in-Some.ensures.steps c.args.g.shaped
    (subst (λ (ts : List ℕ). Stripped c.args.g c.args.stamp ts c.args.a.now c.strip_edge.new.a) (sym (tiles_more c.args.g l.so_far e))
    (stripped-then c.args.g c.args.stamp (both_tiles c.args.g l.so_far) (both_tiles c.args.g (e ∷ [])) c.args.a.now c.loop-e.a c.strip_edge.new.a l.holds c.strip_edge.ensures))

pub returns-clause-stripped : goal.returns-clause-stripped
returns-clause-stripped c = taken_all c.loop-e.invariant.2 c.in-None.ensures.steps
