-- `with_layer` meets its contract.
-- Assumes nothing.
use Prim.Native.Nat.{◌*◌, ◌^◌, ◌-◌, ◌%◌}
use Rattle.sets.specs.Mask.{with-is, power-is}
use Rattle.sets.proofs.with_layer.Goals as goal

pub returns : goal.returns
returns c =
    let r = with-is c.args.mask c.args.l c.requires.mask_bound c.requires.le_l.0 c.requires.le_l.1 (1 * 2 ^ (c.args.l - 1) % 4294967296) (power-is c.args.l c.requires.le_l.0 c.requires.le_l.1) in record { value = r.0; upper_bound = r.1 }
