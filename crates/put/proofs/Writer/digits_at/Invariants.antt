-- `digits_at` meets its contract. The loop's invariant: the digits of what is left, written from the start, give the whole.
-- Assumes nothing.
use mathlib.Core.Path.{◌≡◌}
use Prim.Native.Nat.{◌+◌, ◌≤◌}
use lib.ListN.{length}
use lib.Seq.{sets}
use Rattle.model.specs.Text.{decimal}
use Rattle.put.proofs.Writer.digits_at.Given as goal

abbrev pub invariant-loop-left : goal.invariant-loop-left
invariant-loop-left l = (length l.self.buf.now ≡ length l.initial.self.buf.now) × (l.i ≡ l.start + length (decimal l.left)) × (l.i ≤ l.end) × (sets l.initial.self.buf.now l.start (decimal l.n) ≡ sets l.self.buf.now l.start (decimal l.left)) × (l.self.buf.ghost_name ≡ l.initial.self.buf.ghost_name)

abbrev pub decreases-loop-left : goal.decreases-loop-left
decreases-loop-left l = l.left
