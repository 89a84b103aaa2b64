-- Rings cut instead of refused. Document 02, S-6: which entries of its `edges` line a net keeps as its edges.
-- Assumes nothing.
use Rattle.std.specs.Prelude.{Bool, ◌&&◌, ◌||◌, not, cond, List, [], ◌∷◌, ℕ, zero, suc, eqb, length}
use Rattle.model.specs.Grid.{edge_ends}
use Rattle.model.specs.Job.{Pin}
use Rattle.model.specs.Lists.{sum, bit, any, keep}
use Rattle.model.specs.Tree.{closes, ring}
use Rattle.model.specs.Vias.{meets}

-- "Going along an `edges` line, an edge that closes a ring with kept earlier ones is dropped." `before` are the kept earlier ones.
abbrev pub open_from : ℕ → ℕ → List ℕ → List ℕ → List ℕ
open_from W H before [] = []
open_from W H before (e ∷ es) =
    let dropped = open_from W H before es in
    let kept = e ∷ open_from W H (e ∷ before) es in
    cond (closes W H before e) dropped kept

-- some pin lies in tile t
abbrev pub pinned : List Pin → ℕ → Bool
pinned ps t = any (λ p. eqb p.tile t) ps

-- how many of the edges meet in tile t
abbrev pub degree : ℕ → ℕ → List ℕ → ℕ → ℕ
degree W H es t = sum (λ e. bit (meets (edge_ends W H e) t)) es

-- "a tile with one kept edge and no pin"
abbrev pub bare : ℕ → ℕ → List Pin → List ℕ → ℕ → Bool
bare W H ps es t = not (pinned ps t) && eqb (degree W H es t) 1

-- edge e ends in such a tile
abbrev pub loose : ℕ → ℕ → List Pin → List ℕ → ℕ → Bool
loose W H ps es e = bare W H ps es (edge_ends W H e).one || bare W H ps es (edge_ends W H e).other

-- such a tile "then loses that edge, until none is left to lose": n rounds, each of which drops all edges that are loose among those left
abbrev pub pruned_in : (List ℕ → ℕ → Bool) → ℕ → List ℕ → List ℕ
pruned_in loose zero es = es
pruned_in loose (suc n) es = pruned_in loose n (keep (λ e. not (loose es e)) es)

-- as many rounds as there are edges leave none to lose
abbrev pub pruned : ℕ → ℕ → List Pin → List ℕ → List ℕ
pruned W H ps es = pruned_in (loose W H ps) (length es) es

-- "In a net that lost an edge so", where its entries have a ring, the rest is pruned.
unfoldable pub cut : ℕ → ℕ → List Pin → List ℕ → List ℕ
cut W H ps es = let k = open_from W H [] es in let r = pruned W H ps k in cond (ring W H es) r k
