-- Layer directives. Document 02, S-5, with the terms of source document 001: virtual capacity, virtual demand, and the excess of the one over the other.
-- Assumes nothing.
use Rattle.std.specs.Prelude.{Bool, true, false, ◌&&◌, List, [], ◌∷◌, map, ◌⊎◌, ◌≡◌, ℕ, zero, suc, ◌+◌, ◌-◌, ◌≤◌, min, ltb, eqb}
use Rattle.std.proofs.Math.Option.{Option, none, some}
use Rattle.model.specs.Job.{low_of, Job, all_edges, capacity}
use Rattle.model.specs.Lists.{up_from, sum, occurs, any, keep, count, has}
use Rattle.model.specs.Overflow.{over}

-- ---- one edge: `c` is its capacity by layer, K the number of layers, and `need t` the number of "nets using that edge with `low` equal to t"

-- "virtual capacity as the capacities of layers t and up"
abbrev pub virtual_capacity : (ℕ → ℕ) → ℕ → ℕ → ℕ
virtual_capacity c K t = sum c (up_from t (suc K - t))

-- the virtual demand at t, where n layers are left from t up
abbrev pub demand_from : (ℕ → ℕ) → (ℕ → ℕ) → ℕ → ℕ → ℕ
demand_from c need t zero = 0
demand_from c need t (suc n) = need t + min (demand_from c need (suc t) n) (sum c (up_from (suc t) n))

-- "virtual demand as the nets using that edge with `low` equal to t plus the smaller of virtual demand and virtual capacity at t + 1 (both 0 above K)"
abbrev pub virtual_demand : (ℕ → ℕ) → ℕ → (ℕ → ℕ) → ℕ → ℕ
virtual_demand c K need t = demand_from c need t (suc K - t)

-- "The excess of demand over capacity, or 0"
abbrev pub excess : (ℕ → ℕ) → ℕ → (ℕ → ℕ) → ℕ → ℕ
excess c K need t = over (virtual_capacity c K t) (virtual_demand c K need t)

-- "is summed over t", "each t above 1"
unfoldable pub summed_excess : (ℕ → ℕ) → ℕ → (ℕ → ℕ) → ℕ
summed_excess c K need = sum (excess c K need) (up_from 2 (K - 1))

-- ---- a job

-- "the nets using that edge with `low` equal to t"
abbrev pub wanting : Job → ℕ → ℕ → ℕ
wanting j e t = count (λ n. has n.edges e && eqb (low_of n) t) j.nets

abbrev pub ldof_at : Job → ℕ → ℕ
ldof_at j e = summed_excess (capacity j e) j.layers (wanting j e)

-- "summed over t and edges"
unfoldable pub ldof : Job → ℕ
ldof j = sum (ldof_at j) (all_edges j)

-- "in jobs that have a `low` line"
abbrev pub given : Option ℕ → Bool
given none = false
given (some l) = true

abbrev pub has_low : Job → Bool
has_low j = any (λ n. given n.low) j.nets

-- ---- "the sum is the fewest nets with `low` above 1 that must go without a track on a wanted layer, over all ways to hand out tracks"

-- the wanted layers of the "nets with `low` above 1" that use an edge
abbrev pub wants : Job → ℕ → List ℕ
wants j e = map low_of (keep (λ n. has n.edges e && ltb 1 (low_of n)) j.nets)

-- `ws` are the wanted layers, and `hs` the layers handed out, one for each: 0 where a net goes without, and else a wanted layer, its own or a higher one
abbrev pub Fits : ℕ → List ℕ → List ℕ → Type 0
Fits K [] [] = Unit {0}
Fits K [] (h ∷ hs) = ⊥
Fits K (w ∷ ws) [] = ⊥
Fits K (w ∷ ws) (h ∷ hs) = ((h ≡ 0) ⊎ ((w ≤ h) × (h ≤ K))) × Fits K ws hs

-- a way to hand out tracks: no layer gives more than its capacity
pub record HandOut (c : ℕ → ℕ) (K : ℕ) (ws hs : List ℕ) : Type 0 where
  pub fits : Fits K ws hs
  pub room : (l : ℕ) → 1 ≤ l → occurs l hs ≤ c l

-- m is the fewest that go without: some hand-out leaves just m without, and none leaves fewer
pub record Fewest (c : ℕ → ℕ) (K : ℕ) (ws : List ℕ) (m : ℕ) : Type 0 where
  pub some : (hs : List ℕ) × HandOut c K ws hs × (occurs 0 hs ≡ m)
  pub least : (hs : List ℕ) → HandOut c K ws hs → m ≤ occurs 0 hs
