-- `put_ldof` meets its contract: nothing is written, or one line.
-- Assumes nothing.
use mathlib.Core.Path.{subst}
use Rattle.std.specs.Prelude.{Option}
use Prim.Native.Nat.{ℕ}
use Rattle.print.specs.Texts.{ldof_text}
use Rattle.put.specs.Wrote.{Room}
use Rattle.print.proofs.put_ldof.Goals as goal

pub line-requires : goal.line-requires
line-requires c =
    subst (λ (l : Option ℕ). Room c.args.w.now (ldof_text l)) c.in-Some.is c.requires
