-- `clear_counts` meets its contract.
-- Assumes nothing.
use mathlib.Core.List.{List}
use mathlib.Core.Path.{◌≡◌, ◌∙◌}
use Prim.Native.Nat.{ℕ}
use native.Mathlib.Omega.{arith}
use Rattle.layout.specs.Areas.{loads_at, flat_at, tiles_at, chosen_at}
use Rattle.layout.specs.Fill.{PartCleared}
use Rattle.layout.specs.declared.shape.Shape.{Shape}
use Rattle.nets.specs.Nets.{CountsCleared}
use Rattle.reader.proofs.clear_counts.Goals as goal

-- both parts are cleared, one after the other
both-cleared : (g : Shape) (w w₁ w₂ : List ℕ) (a b c d : ℕ) → a ≡ loads_at g → b ≡ flat_at g → c ≡ tiles_at g → d ≡ chosen_at g
    → PartCleared a b w w₁ → PartCleared c d w₁ w₂ → CountsCleared g w w₂
both-cleared g w w₁ w₂ a b c d ea eb ec ed p q = record {
  long = q.outside.long ∙ p.outside.long;
  low = λ k h. q.outside.low k (omega arith) ∙ p.outside.low k (omega arith);
  counts = λ k h l. q.outside.low k (omega arith) ∙ p.zeros k (omega arith) (omega arith);
  kept = λ k h l. q.zeros k (omega arith) (omega arith);
}

pub clear_part-requires : goal.clear_part-requires
clear_part-requires c =
    (omega (arith, c.loads_at.ensures.value, c.flat_at.ensures.value), omega (arith, c.flat_at.ensures.value, c.requires.g_in_bounds))

pub clear_part-requires-2 : goal.clear_part-requires-2
clear_part-requires-2 c =
    (omega (arith, c.tiles_at.ensures.value, c.chosen_at.ensures.value), omega (arith, c.chosen_at.ensures.value, c.requires.g_in_bounds, c.clear_part.ensures.outside.long))

pub shape_of-w : goal.shape_of-w
shape_of-w c =
    c.clear_part-2.ensures.outside.long ∙ c.clear_part.ensures.outside.long

pub returns : goal.returns
returns c =
    let x = c.args in
    both-cleared x.g x.w.now c.clear_part.new.w c.clear_part-2.new.w
    c.loads_at.result c.flat_at.result c.tiles_at.result c.chosen_at.result
    c.loads_at.ensures.value c.flat_at.ensures.value c.tiles_at.ensures.value c.chosen_at.ensures.value
    c.clear_part.ensures c.clear_part-2.ensures
