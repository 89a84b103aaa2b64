-- d(e) and c(e) summed over a list of edges, and over those of its entries that a net keeps.
-- Assumes nothing.
use Rattle.std.specs.Prelude.{Bool, true, false, cond, List, [], ◌∷◌, ◌++◌, ◌≡◌, refl, ℕ, ◌+◌, ◌*◌, ◌^◌, ◌≤◌, ◌<◌, length, get_or}
use Rattle.std.proofs.Common.{append-nil, ⊎_elim, sym, ap, subst, ◌∙◌, arith, length-append}
use Rattle.cut.specs.Again.{KeptAt, keep-end}
use Rattle.layout.specs.Areas.{demand_at, flat_at, tiles_of}
use Rattle.layout.specs.declared.shape.Shape.{Shape}
use Rattle.model.specs.Job.{Pin, Net, Job}
use Rattle.model.specs.Lists.{sum, keep, has, In}
use Rattle.model.specs.Overflow.{flat_demand, flat_capacity}
use Rattle.net.specs.AtHand.{Drawn}
use Rattle.order.specs.declared.Density.{Density}
use Rattle.theory.specs.congestion.Sums.{same_cases, sum-eq}
use Rattle.theory.specs.walk.Stops.{occurs-append}
use Rattle.flat.specs.FlatPlan.{FlatDemands, FlatCapacities}
use Rattle.order.specs.Density.{demand_in, capacity_in, Added, DensityOf}

-- v is the sums over the edges es of the grid, and they fit
pub record Sums (g : Shape) (w es : List ℕ) (v : Density) : Type 0 where
  pub known : (e : ℕ) → In e es → e < g.e
  pub demand : v.demand ≡ sum (demand_in g w) es
  pub capacity : v.capacity ≡ sum (capacity_in g w) es
  pub demand_most : v.demand ≤ 4_294_967_296 * length es
  pub capacity_most : v.capacity ≤ 4_294_967_296 * length es

-- one edge more, at the places that the code finds
pub added : (g : Shape) (w : List ℕ) (e : ℕ) (v : Density) (a b : ℕ) → a ≡ demand_at g → b ≡ flat_at g → (d c : ℕ)
    → (d ≡ get_or w (a + e) 0) × (d < 2 ^ 32) → (c ≡ get_or w (b + e) 0) × (c < 2 ^ 32) → Added g w e v (record { demand = v.demand + d; capacity = v.capacity + c })
added g w e v a b a-is b-is d c d-is c-is = record {
  demand = ap (λ (m : ℕ). v.demand + m) demand;
  capacity = ap (λ (m : ℕ). v.capacity + m) capacity;
  demand_most = omega (arith, demand, d-is.1);
  capacity_most = omega (arith, capacity, c-is.1);
}
  where
    demand : d ≡ demand_in g w e
    demand = d-is.0 ∙ ap (λ (m : ℕ). get_or w (m + e) 0) a-is

    capacity : c ≡ capacity_in g w e
    capacity = c-is.0 ∙ ap (λ (m : ℕ). get_or w (m + e) 0) b-is

sum-end : (f : ℕ → ℕ) (xs : List ℕ) (x : ℕ) → sum f (xs ++ (x ∷ [])) ≡ sum f xs + f x
sum-end f [] x = omega arith
sum-end f (y ∷ xs) x = omega (arith, sum-end f xs x)

module _ (g : Shape) (w : List ℕ) where
  pub sums_none : Sums g w [] (record { demand = 0; capacity = 0 })
  sums_none = record {
    known = λ e i. absurd (omega arith);
    demand = refl;
    capacity = refl;
    demand_most = omega arith;
    capacity_most = omega arith;
  }

  module _ (es : List ℕ) (v : Density) (k : Sums g w es v) where
    pub sums-more : (e : ℕ) → e < g.e → (r : Density) → Added g w e v r → Sums g w (es ++ (e ∷ [])) r
    sums-more e h r a = record {
      known = λ x i.
          ⊎_elim
          (λ c. omega (arith, c.0))
          (λ c. k.known x (omega (arith, c.1, occurs-append x es (e ∷ []))))
          (same_cases x e);
      demand = omega (arith, a.demand, k.demand, sum-end (demand_in g w) es e);
      capacity = omega (arith, a.capacity, k.capacity, sum-end (capacity_in g w) es e);
      demand_most = omega (arith, a.demand, a.demand_most, k.demand_most, length-append es (e ∷ []));
      capacity_most = omega (arith, a.capacity, a.capacity_most, k.capacity_most, length-append es (e ∷ []));
    }

    -- in the job's words
    pub sums-job : (j : Job) → FlatDemands g j w → FlatCapacities g j w → DensityOf j es v
    sums-job j d c = record {
      demand = k.demand ∙ sum-eq (demand_in g w) (flat_demand j) es (λ x i. d x (k.known x i));
      capacity = k.capacity ∙ sum-eq (capacity_in g w) (flat_capacity j) es (λ x i. c x (k.known x i));
    }

-- ---- entries of which some are kept

-- v is the sums over those of the entries xs that are among the edges marked under stamp m
pub record KeptSums (g : Shape) (m : ℕ) (w xs : List ℕ) (v : Density) : Type 0 where
  pub sums : (ps : List Pin) (es : List ℕ) → Drawn g m ps es (tiles_of g w) → Sums g w (keep (has es) xs) v
  pub demand_most : v.demand ≤ 4_294_967_296 * length xs
  pub capacity_most : v.capacity ≤ 4_294_967_296 * length xs

module _ (g : Shape) (m : ℕ) (w : List ℕ) where
  pub kept-none : KeptSums g m w [] (record { demand = 0; capacity = 0 })
  kept-none = record { sums = λ ps es drawn. sums_none g w; demand_most = omega arith; capacity_most = omega arith }

  -- one entry more, whose edge is kept where q holds
  module _ (xs : List ℕ) (v : Density) (k : KeptSums g m w xs v) (x : ℕ) (q : Bool) (is : (ps : List Pin) (es : List ℕ) → Drawn g m ps es (tiles_of g w) → q ≡ has es x) where
    now-kept : (ps : List Pin) (es : List ℕ) → Drawn g m ps es (tiles_of g w) → keep (has es) (xs ++ (x ∷ [])) ≡ keep (has es) xs ++ cond q (x ∷ []) []
    now-kept ps es drawn = keep-end (has es) xs x ∙ ap (λ (b : Bool). keep (has es) xs ++ cond b (x ∷ []) []) (sym (is ps es drawn))

    pub kept-added : q ≡ true → x < g.e → (r : Density) → Added g w x v r → KeptSums g m w (xs ++ (x ∷ [])) r
    kept-added e h r a = record {
      sums = λ ps es drawn.
          subst (λ (l : List ℕ). Sums g w l r) (sym (now-kept ps es drawn ∙ ap (λ (b : Bool). keep (has es) xs ++ cond b (x ∷ []) []) e))
          (sums-more g w (keep (has es) xs) v (k.sums ps es drawn) x h r a);
      demand_most = omega (arith, a.demand, a.demand_most, k.demand_most, length-append xs (x ∷ []));
      capacity_most = omega (arith, a.capacity, a.capacity_most, k.capacity_most, length-append xs (x ∷ []));
    }

    pub kept-passed : q ≡ false → KeptSums g m w (xs ++ (x ∷ [])) v
    kept-passed e = record {
      sums = λ ps es drawn.
          subst (λ (l : List ℕ). Sums g w l v)
          (sym (now-kept ps es drawn ∙ ap (λ (b : Bool). keep (has es) xs ++ cond b (x ∷ []) []) e ∙ append-nil (keep (has es) xs)))
          (k.sums ps es drawn);
      demand_most = omega (arith, k.demand_most, length-append xs (x ∷ []));
      capacity_most = omega (arith, k.capacity_most, length-append xs (x ∷ []));
    }

-- all entries of a net, of which those that it keeps are marked
pub kept-job : (s : List ℕ) (g : Shape) (p m : ℕ) (w : List ℕ) (n : Net) → KeptAt s g p m w n → (v : Density) → KeptSums g m w n.entries v
    → (j : Job) → FlatDemands g j w → FlatCapacities g j w → DensityOf j n.edges v
kept-job s g p m w n at v k =
    sums-job g w n.edges v (subst (λ (l : List ℕ). Sums g w l v) at.in_order (k.sums n.pins n.edges at.drawn))
