-- Joining the ends of an edge: the parents hold one more edge, and the answer says whether the edge closes a ring.
-- Assumes nothing.
use Rattle.std.specs.Prelude.{◌≡◌, List, [], ◌∷◌, ◌++◌, Bool, true, false, not, cond, ℕ}
use Rattle.std.proofs.Common.{sym, ap, ◌∙◌}
use Rattle.model.specs.Tree.{ring}
use Rattle.theory.specs.walk.Joined.{onto}
use Rattle.theory.specs.walk.Union.{Holds}
use Rattle.theory.specs.links.Reach.{lo_of, hi_of}
use Rattle.theory.specs.links.Roots.{ring-next}
use Rattle.union.specs.Links.{parent_in, Merged}

turned : (r q : Bool) → r ≡ not q → q ≡ not r
turned r true e = sym (ap not e)
turned r false e = sym (ap not e)

module _ (W H n : ℕ) (a a' : List ℕ) (e : ℕ) (r : Bool) (merged : Merged n a (lo_of W H e) (hi_of W H e) a' r) where
  abbrev lo : ℕ → ℕ
  lo = lo_of W H

  abbrev hi : ℕ → ℕ
  hi = hi_of W H

  pub merged-ring : (es : List ℕ) → Holds lo hi (parent_in n a) (onto lo hi [] es) → ring W H (es ++ (e ∷ [])) ≡ cond (ring W H es) true (not r)
  merged-ring es h = ring-next W H (parent_in n a) es e h ∙ ap (λ (q : Bool). cond (ring W H es) true q) (turned r _ merged.apart)
