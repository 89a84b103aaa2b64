-- Counting the parts of a net while its edges' ends are joined: `Counted` of the links theory, for the words of the net at hand.
-- Assumes nothing.
use Rattle.std.specs.Prelude.{◌≡◌, List, [], ◌∷◌, ◌++◌, Bool, ℕ, ◌+◌, ◌<◌}
use Rattle.model.specs.Job.{Pin}
use Rattle.model.specs.Lists.{bit}
use Rattle.theory.specs.walk.NetVias.{net_tiles}
use Rattle.theory.specs.walk.Parts.{Touches}
use Rattle.theory.specs.links.Counted.{Counted, counted_start, counted-edge}
use Rattle.marks.specs.Marks.{Older}
use Rattle.union.specs.Links.{parent_in, Merged, older-holds}

module _ (lo hi : ℕ → ℕ) (size n : ℕ) (a : List ℕ) where
  -- before the first entry of a net
  pub older-counted : (touched : ℕ → ℕ) → ((t : ℕ) → touched t ≡ 0) → Older n a → Counted lo hi size touched (parent_in n a) 0 [] []
  older-counted touched none h = counted_start lo hi size touched (parent_in n a) none (older-holds lo hi n a h)

  -- an entry of the `edges` line: its ends are touched and joined
  pub merged-edge : (a' : List ℕ) (e : ℕ) (r : Bool) → Merged n a (lo e) (hi e) a' r
      → (touched touched₁ touched₂ : ℕ → ℕ) (k k' : ℕ) (ps : List Pin) (es : List ℕ) → Counted lo hi size touched (parent_in n a) k (net_tiles lo hi ps es) es
      → lo e < size → hi e < size → Touches touched (lo e) touched₁ → Touches touched₁ (hi e) touched₂
      → k' + bit r + touched (lo e) + touched₁ (hi e) ≡ k + 2
      → Counted lo hi size touched₂ (parent_in n a') k' (net_tiles lo hi ps (es ++ (e ∷ []))) (es ++ (e ∷ []))
  merged-edge a' e r m touched touched₁ touched₂ k k' ps es c l u one two sum_is_lem =
      counted-edge lo hi size touched touched₁ touched₂ (parent_in n a) (parent_in n a') k k' ps es e r c l u one two m.links.falling m.roots m.apart sum_is_lem
