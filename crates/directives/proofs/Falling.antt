-- The excess of one edge, from the top layer down.
-- Assumes nothing.
use mathlib.Core.List.{List}
use mathlib.Core.Path.{◌≡◌, ap, ◌∙◌, subst}
use Prim.Native.Nat.{ℕ, suc, ◌+◌, ◌-◌, ◌*◌, ◌≤◌, ◌<◌, min}
use native.Mathlib.Omega.{arith}
use lib.ListN.{get_or}
use Rattle.layout.specs.Areas.{loads_at}
use Rattle.layout.specs.declared.shape.Shape.{Shape}
use Rattle.model.specs.Directives.{summed_excess}
use Rattle.model.specs.Limits.{most_capacity, most_nets}
use Rattle.model.specs.Overflow.{over}
use Rattle.theory.specs.directives.Demand.{Down, down-start, down_step, down-done, excess-eq}
use Rattle.directives.specs.Counts.{room_in, need_in, excess_in}

-- the number of layer t, where those of an edge stand from a on
abbrev layer : List ℕ → ℕ → ℕ → ℕ
layer w a t = get_or w (a + (t - 1)) 0

-- the layers above t are done
pub record Falling (w : List ℕ) (caps needs K room served excess t : ℕ) : Type 0 where
  pub low : 1 ≤ t
  pub high : t ≤ K
  pub down : Down (layer w caps) K (layer w needs) t room served excess
  pub few_room : room ≤ (K - t) * most_capacity
  pub few_served : served ≤ room
  pub few_excess : excess ≤ (K - t) * most_nets

module _ (w : List ℕ) (caps needs K : ℕ) where
  pub falling-start : 1 ≤ K → Falling w caps needs K 0 0 0 K
  falling-start h = record {
    low = h;
    high = omega arith;
    down = down-start (layer w caps) K (layer w needs);
    few_room = omega arith;
    few_served = omega arith;
    few_excess = omega arith;
  }

  module _ (room served excess t : ℕ) (f : Falling w caps needs K room served excess t) where
    pub falling-next : 1 < t → get_or w (caps + (t - 1)) 0 ≤ most_capacity → get_or w (needs + (t - 1)) 0 ≤ most_nets → (r d e s : ℕ)
        → r ≡ room + get_or w (caps + (t - 1)) 0 → d ≡ get_or w (needs + (t - 1)) 0 + served → e ≡ over r d → s ≡ min d r → Falling w caps needs K r s (excess + e) (t - 1)
    falling-next h c-few n-few r d e s r-is d-is e_is s-is =
        let one : suc (t - 1) ≡ t = omega arith in
        let step = down_step (layer w caps) K (layer w needs) (t - 1) room served excess (omega (arith, f.high))
        (subst (λ (u : ℕ). Down (layer w caps) K (layer w needs) u room served excess) (omega arith) f.down) in
        record {
          low = omega arith;
          high = omega (arith, f.high);
          down = record {
            room_is = omega (arith, r-is, step.room_is, ap (layer w caps) one);
            served_is = omega (arith, s-is, d-is, r-is, step.served_is, ap (layer w caps) one, ap (layer w needs) one);
            all_is = omega (arith, e_is, d-is, r-is, step.all_is, ap (layer w caps) one, ap (layer w needs) one);
          };
          few_room = omega (arith, r-is, f.few_room, f.high);
          few_served = omega (arith, s-is);
          few_excess = omega (arith, e_is, d-is, r-is, f.few_served, f.few_excess, f.high);
        }

    -- layer 2 is done, and the places are those of edge e
    pub falling-done : t ≤ 1 → (g : Shape) (e : ℕ) → K ≡ g.k → caps ≡ e * g.k → needs ≡ loads_at g + caps → (excess ≡ excess_in g w e) × (excess ≤ (K - 1) * most_nets)
    falling-done h g e k-is c-is n-is =
        let t-one : t ≡ 1 = omega (arith, f.low) in (
          down-done (layer w caps) K (layer w needs) room served excess (subst (λ (u : ℕ). Down (layer w caps) K (layer w needs) u room served excess) t-one f.down)
              ∙ excess-eq (layer w caps) (room_in g w e) (layer w needs) (need_in g w e) K
              (λ l a b. let q : caps + (l - 1) ≡ e * g.k + (l - 1) = omega arith in ap (λ (i : ℕ). get_or w i 0) q)
              (λ l a b. let q : needs + (l - 1) ≡ loads_at g + (e * g.k + (l - 1)) = omega (arith, n-is, c-is) in ap (λ (i : ℕ). get_or w i 0) q)
              ∙ ap (λ (m : ℕ). summed_excess (room_in g w e) m (need_in g w e)) k-is,
          omega (arith, f.few_excess, t-one),
        )
