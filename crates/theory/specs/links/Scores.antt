-- How large a score can be: no net of an accepted job has more pins than the grid has tiles on all layers, or as many edges as tiles.
-- Assumes nothing.
use Rattle.std.specs.Prelude.{◌≡◌, refl, List, [], ◌∷◌, map, Bool, true, cond, ◌⊎◌, ◌≢◌, ℕ, suc, ◌+◌, ◌-◌, ◌*◌, ◌^◌, ◌≤◌, ◌<◌, eqb, length}
use Rattle.std.proofs.Common.{ap₂, ◌∙◌, inl, inr, ⊎_elim, arith, mul-le-mul, mul-le-mul_right}
use Rattle.std.proofs.lemmas.List.{length-map}
use Rattle.model.specs.Lists.{any, twice, up_from, sum}
use Rattle.model.specs.Job.{Pin, Net, Job, net_count, tile_count, net_of}
use Rattle.model.specs.Limits.{most_side, most_layers, most_capacity}
use Rattle.model.specs.Overflow.{flat_demand, flat_capacity}
use Rattle.model.specs.Read.{same_pin, Lent}
use Rattle.model.specs.Score.{score}
use Rattle.theory.specs.congestion.Sums.{same, occurs, In, sum_bound, same_cases, eqb-true, eqb-false, lt-or-ge, in_head, in_tail}
use Rattle.theory.specs.congestion.Base.{length-up_from, in-up_from}
use Rattle.theory.specs.walk.Stops.{less-length}
use Rattle.theory.specs.walk.NetVias.{pin_tiles}
use Rattle.theory.specs.congestion.Tests.{twice-once}
use Rattle.theory.specs.links.Nets.{NetOk, EachPin}
use Rattle.theory.specs.links.Reading.{Accepted}
use Rattle.theory.specs.links.Planned.{net-ok}
use Rattle.theory.specs.links.Engine.{edges_few}
use Rattle.theory.specs.links.Limits.{demands-small, flat-capacity-small, score-small}

-- ---- numbers below a size, none of them twice

pub few-numbers : (size : ℕ) (xs : List ℕ) → ((a : ℕ) → In a xs → a < size) → ((a : ℕ) → occurs a xs ≤ 1) → length xs ≤ size
few-numbers size xs below once = omega (arith, less-length xs (up_from 0 size) each, length-up_from 0 size)
  where
    each : (a : ℕ) → occurs a xs ≤ occurs a (up_from 0 size)
    each a =
        ⊎_elim
        (λ i. omega (arith, once a, (in-up_from a 0 size).1 (omega arith, omega (arith, below a i))))
        (λ i. omega arith)
        (lt-or-ge 0 (occurs a xs))

-- ---- pins

-- a pin as one number
pin_number : Pin → ℕ
pin_number p = p.tile * most_layers + (p.layer - 1)

abbrev Layered : Pin → Type 0
Layered p = (1 ≤ p.layer) × (p.layer ≤ most_layers)

pin-same : (p q : Pin) → Layered p → Layered q → eqb (pin_number p) (pin_number q) ≡ same_pin p q
unfolding pin_number
pin-same p q hp hq = go (same_cases p.tile q.tile) (same_cases p.layer q.layer)
  where
    go : ((p.tile ≡ q.tile) × (same p.tile q.tile ≡ 1)) ⊎ ((p.tile ≢ q.tile) × (same p.tile q.tile ≡ 0))
        → ((p.layer ≡ q.layer) × (same p.layer q.layer ≡ 1)) ⊎ ((p.layer ≢ q.layer) × (same p.layer q.layer ≡ 0))
        → eqb (pin_number p) (pin_number q) ≡ same_pin p q
    go (inl s) (inl r) =
        rw (eqb-true (pin_number p) (pin_number q) (omega (arith, s.0, r.0)), eqb-true p.tile q.tile s.0, eqb-true p.layer q.layer r.0) refl
    go (inl s) (inr r) =
        rw (
          eqb-false (pin_number p) (pin_number q) (λ e. r.0 (omega (arith, s.0))),
          eqb-true p.tile q.tile s.0,
          eqb-false p.layer q.layer r.0,
        ) refl
    go (inr s) r = rw (eqb-false (pin_number p) (pin_number q) (λ e. s.0 (omega arith)), eqb-false p.tile q.tile s.0) refl

any_same : (p : Pin) (ps : List Pin) → Layered p → EachPin Layered ps → any (eqb (pin_number p)) (map pin_number ps) ≡ any (same_pin p) ps
any_same p [] h hs = refl
any_same p (q ∷ ps) h hs = ap₂ (λ (b r : Bool). cond b true r) (pin-same p q h hs.0) (any_same p ps h hs.1)

twice_same : (ps : List Pin) → EachPin Layered ps → twice eqb (map pin_number ps) ≡ twice same_pin ps
twice_same [] h = refl
twice_same (p ∷ ps) h = ap₂ (λ (b r : Bool). cond b true r) (any_same p ps h.0 h.1) (twice_same ps h.1)

pin-below : (size : ℕ) (ps : List Pin) → ((t : ℕ) → In t (pin_tiles ps) → t < size) → EachPin Layered ps → (a : ℕ) → In a (map pin_number ps) → a < size * most_layers
unfolding pin_number
pin-below size [] inside h a i = absurd (omega arith)
pin-below size (p ∷ ps) inside h a i =
    ⊎_elim
    (λ s. omega (arith, s.0, inside p.tile (in_head p.tile (pin_tiles ps)), h.0))
    (λ s. pin-below size ps (λ t k. inside t (in_tail t p.tile (pin_tiles ps) k)) h.1 a (omega (arith, s.1)))
    (same_cases a (pin_number p))

each-layered : (K : ℕ) → K ≤ most_layers → (ps : List Pin) → EachPin (λ p. (1 ≤ p.layer) × (p.layer ≤ K)) ps → EachPin Layered ps
each-layered K few [] h = tt
each-layered K few (p ∷ ps) h = ((h.0.0, omega (arith, h.0.1)), each-layered K few ps h.1)

-- a net has each tile on each layer at most once among its pins
pub pins-few : (W H K : ℕ) (n : Net) → K ≤ most_layers → NetOk W H K n → length n.pins ≤ W * H * most_layers
pins-few W H K n few ok =
    omega (
      arith,
      few-numbers (W * H * most_layers) (map pin_number n.pins) (pin-below (W * H) n.pins ok.pins_inside layered)
          (twice-once (map pin_number n.pins) (twice_same n.pins layered ∙ ok.pins_once)),
      length-map n.pins pin_number,
    )
  where
    layered : EachPin Layered n.pins
    layered = each-layered K few n.pins ok.pins_layers

-- ---- scores

module _ (lent : Lent) (j : Job) (acc : Accepted lent j) where
  pub tiles-few : tile_count j ≤ most_side * most_side
  tiles-few = mul-le-mul acc.width.1 acc.height.1

  -- the longest net has 4,095 edges
  pub longest : (n : Net) → NetOk j.width j.height j.layers n → length n.edges ≤ 4_095
  longest n ok = omega (arith, edges_few j acc.width.0 acc.height.0 n ok, tiles-few)

  -- D of a net is at most 4,095 × 4,096
  pub net-demand : (n : Net) → NetOk j.width j.height j.layers n → sum (flat_demand j) n.edges ≤ 16_773_120
  net-demand n ok = omega (arith, demands-small lent j acc n.edges, mul-le-mul (longest n ok) acc.count_of_nets)

  -- c(e) is at most 8 × 65,535, and C of a net 4,095 × 8 × 65,535
  pub edge-capacity : (e : ℕ) → flat_capacity j e ≤ 524_280
  edge-capacity e = omega (arith, flat-capacity-small lent j acc e, mul-le-mul_right most_capacity acc.layers.1)

  pub net-capacity : (n : Net) → NetOk j.width j.height j.layers n → sum (flat_capacity j) n.edges ≤ 2_146_926_600
  net-capacity n ok =
      omega (arith, sum_bound (flat_capacity j) 524_280 n.edges (λ e i. edge-capacity e), mul-le-mul_right 524_280 (longest n ok))

  -- every part of the score at its largest: 255,000 × (1 + 32,768 + 4,095 × 4,096)
  pub score-below : (n : Net) → NetOk j.width j.height j.layers n → score j n < 2 ^ 42
  score-below n ok =
      omega (
        arith,
        score-small lent j acc n,
        pins-few j.width j.height j.layers n acc.layers.1 ok,
        tiles-few,
        net-demand n ok,
      )

  -- the score of the net in place k, from 0
  pub score-at-below : (k : ℕ) → k < net_count j → score j (net_of j (suc k)) < 2 ^ 42
  score-at-below k h = score-below (net_of j (suc k)) (net-ok lent j acc k h)
