-- `next` meets its contract.
-- Assumes nothing.
use Rattle.known.specs.Pins.{pin-short}
use Rattle.known.proofs.GoingPins.{still, fewer}
use Rattle.known.proofs.PinsIterator.next.Goals as goal

pub pin_at-e-requires : goal.pin_at-e-requires
pin_at-e-requires c =
    let k = c.requires c.if-not-self.false in
    pin-short k.left k.shaped

pub returns-clause-goes : goal.returns-clause-goes
returns-clause-goes c =
    let t = c.args.self.now in
    let more = c.if-not-self.false in
    let k = c.requires more in
    let e = c.pin_at-e.result in
    let next = still t e k c.pin_at-e.ensures in
    record {
      on = λ f. (next, tt, rw more (fewer t e k c.pin_at-e.ensures));
      keeps = next;
      rests = λ f. tt;
    }
