-- `next` meets its contract.
-- Assumes nothing.
use Rattle.known.specs.Left.{edge-short}
use Rattle.known.proofs.Going.{still, fewer}
use Rattle.known.proofs.EdgesIterator.next.Goals as goal
use Rattle.known.proofs.EdgesIterator.next.Goals.{After-edge_at-e}

pub edge_at-e-requires : goal.edge_at-e-requires
edge_at-e-requires c =
    let k = c.requires c.if-not-self.false in
    edge-short c.args.self.now.text.now k.grid k.shaped k.line c.args.self.now.at k.so_far k.left

pub returns-clause-goes : goal.returns-clause-goes
returns-clause-goes c =
    let t = c.args.self.now in
    let more = c.if-not-self.false in
    let k = c.requires more in
    let e = c.edge_at-e.result in
    let next = still t e k c.edge_at-e.ensures in
    record {
      on = λ f. (next, tt, rw more (fewer t e k c.edge_at-e.ensures));
      keeps = next;
      rests = λ f. tt;
    }
