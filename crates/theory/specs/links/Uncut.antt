-- The cut against the entries as they stand: "neither TO nor MO of the flat plan rises". Document 02, S-6.
-- Assumes nothing.
use Rattle.std.specs.Prelude.{◌≡◌, refl, List, [], ◌∷◌, map, false, ℕ, zero, suc, ◌≤◌, length}
use Rattle.std.proofs.Common.{ap, ap₂, ◌∙◌, arith}
use Rattle.model.specs.Job.{Net, Job, all_edges, edges_in, layers_in}
use Rattle.model.specs.Overflow.{demand, flat_demand, flat_overflow, TO, MO, ceil_div, group_most, limit}
use Rattle.model.specs.Read.{Lent}
use Rattle.model.specs.Tree.{ring}
use Rattle.theory.specs.congestion.Edge.{ceil-le, le-ceil, ceil-zero}
use Rattle.theory.specs.congestion.Sums.{most, most-le, most-part, sum_mono}
use Rattle.theory.specs.links.Cut.{cut_all}
use Rattle.theory.specs.links.Dropped.{edges-part}
use Rattle.theory.specs.links.Nets.{EachNet, NetOk}
use Rattle.theory.specs.links.Reading.{Accepted}

-- the job with every entry kept
abbrev pub uncut_net : Net → Net
uncut_net n = record { low = n.low; pins = n.pins; entries = n.entries; edges = n.entries }

abbrev pub uncut : Job → Job
uncut j = record {
  width = j.width;
  height = j.height;
  layers = j.layers;
  dirs = j.dirs;
  alpha = j.alpha;
  beta = j.beta;
  gamma = j.gamma;
  capacities = j.capacities;
  nets = map uncut_net j.nets;
}

-- a larger number divided alike, rounded up, is no smaller
ceil-mono : (a b k : ℕ) → a ≤ b → ceil_div a k ≤ ceil_div b k
ceil-mono a b zero h = omega (arith, ceil-zero a, ceil-zero b)
ceil-mono a b (suc k) h = ceil-le a (suc k) (ceil_div b (suc k)) (omega (arith, le-ceil b (suc k) (omega arith)))

most-mono : (f g : ℕ → ℕ) (xs : List ℕ) → ((x : ℕ) → f x ≤ g x) → most f xs ≤ most g xs
most-mono f g xs h = most-le f (most g xs) xs (λ x i. omega (arith, h x, most-part g x xs i))

-- net by net fewer edges
demand-falls : (W H K e : ℕ) (ns : List Net) → EachNet (NetOk W H K) ns → demand e (map (λ n. n.edges) ns) ≤ demand e (map (λ n. n.edges) (map uncut_net ns))
demand-falls W H K e [] h = omega arith
demand-falls W H K e (n ∷ ns) h = omega (arith, edges-part W H K n h.0 e, demand-falls W H K e ns h.1)

module _ (lent : Lent) (j : Job) (acc : Accepted lent j) where
  pub cut-demand : (e : ℕ) → flat_demand j e ≤ flat_demand (uncut j) e
  cut-demand e = demand-falls j.width j.height j.layers e j.nets acc.nets

  pub cut-overflow : (e : ℕ) → flat_overflow j e ≤ flat_overflow (uncut j) e
  cut-overflow e = omega (arith, cut-demand e)

  pub cut-TO : TO j ≤ TO (uncut j)
  cut-TO = sum_mono (flat_overflow j) (flat_overflow (uncut j)) (all_edges j) (λ e i. cut-overflow e)

  pub cut-MO : MO j ≤ MO (uncut j)
  cut-MO = most-mono (flat_overflow j) (flat_overflow (uncut j)) (all_edges j) cut-overflow

  -- and so no limit on one layer's overflow rises
  pub cut-limit : (g : ℕ) → limit j g ≤ limit (uncut j) g
  cut-limit g =
      ceil-mono (group_most j g) (group_most (uncut j) g) (length (layers_in j g)) (most-mono (flat_overflow j) (flat_overflow (uncut j)) (edges_in j g) cut-overflow)

-- a job without a ring is what it was: every net keeps all its entries
ringless : (W H K : ℕ) (n : Net) → NetOk W H K n → ring W H n.entries ≡ false → n ≡ uncut_net n
ringless W H K n ok r = ap (λ (es : List ℕ). record { low = n.low; pins = n.pins; entries = n.entries; edges = es }) (ok.cut_is ∙ cut_all W H n.pins n.entries r)

pub cut-same : (lent : Lent) (j : Job) → Accepted lent j → EachNet (λ n. ring j.width j.height n.entries ≡ false) j.nets → j ≡ uncut j
cut-same lent j acc h = ap nets-of (go j.nets acc.nets h)
  where
    nets-of : List Net → Job
    nets-of ns = record {
      width = j.width;
      height = j.height;
      layers = j.layers;
      dirs = j.dirs;
      alpha = j.alpha;
      beta = j.beta;
      gamma = j.gamma;
      capacities = j.capacities;
      nets = ns;
    }

    go : (ns : List Net) → EachNet (NetOk j.width j.height j.layers) ns → EachNet (λ n. ring j.width j.height n.entries ≡ false) ns → ns ≡ map uncut_net ns
    go [] k r = refl
    go (n ∷ ns) k r = ap₂ {C = List Net} (λ a b. a ∷ b) (ringless j.width j.height j.layers n k.0 r.0) (go ns k.1 r.1)
