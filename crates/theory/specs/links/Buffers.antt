-- The lent buffers after a call: what it is that each has the length that it had. That it is so stands in proofs/links/Buffers.antt.
-- Assumes nothing.
use Rattle.std.specs.Prelude.{◌≡◌, length}
use Rattle.model.specs.Calls.{Buffers}

-- each of the buffers has the length that it had
pub record SameLengths (b c : Buffers) : Type 0 where
  pub working : length c.working ≡ length b.working
  pub order : length c.order ≡ length b.order
  pub answer : length c.answer ≡ length b.answer
