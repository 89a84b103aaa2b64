-- The loops over the edges and over an edge's layers: what a turn finds, on plain lists.
-- Assumes nothing.
use mathlib.Core.List.{List}
use mathlib.Core.Path.{◌≡◌, ap, ap₂, ◌∙◌}
use Prim.Native.Nat.{ℕ, ◌+◌, ◌-◌, ◌*◌, ◌≤◌, ◌<◌, max}
use native.Mathlib.Numerals.{add-one}
use native.Mathlib.Omega.{arith}
use lib.ListN.{length, get_or, take, drop}
use Rattle.layout.specs.Areas.{loads_at, demand_at, flat_at}
use Rattle.layout.specs.Parts.{Outside, part_at, part-long}
use Rattle.layout.specs.declared.shape.Shape.{Shape}
use Rattle.model.specs.Job.{Job, edge_count}
use Rattle.model.specs.Lists.{up_from, sum, most}
use Rattle.model.specs.Overflow.{over}
use Rattle.net.specs.SoFar.{Capacities}
use Rattle.theory.specs.congestion.Base.{in-up_from}
use Rattle.theory.specs.congestion.Lists.{sum-snoc, most-snoc}
use Rattle.theory.specs.congestion.Sums.{sum-eq}
use Rattle.flat.specs.FlatPlan.{AllCounted, FlatCapacities, FlatDemands, Overflows, sum_at, capacity_sum, over_in, over_at, capacity-sum, overflows-are}
use Rattle.net.specs.Places.{SmallCapacities, edge-room}
use Rattle.flat.specs.declared.Flat.{Flat}
use Rattle.layout.specs.Fill.{Filled}

-- ---- sums and largest values from the front

pub sum-next : (f : ℕ → ℕ) (n : ℕ) → sum f (up_from 0 (n + 1)) ≡ sum f (up_from 0 n) + f n
sum-next f n = let z : 0 + n ≡ n = omega arith in rw add-one (omega (arith, sum-snoc f 0 n, ap f z))

pub most-next : (f : ℕ → ℕ) (n : ℕ) → most f (up_from 0 (n + 1)) ≡ max (most f (up_from 0 n)) (f n)
most-next f n = let z : 0 + n ≡ n = omega arith in rw add-one (omega (arith, most-snoc f 0 n, ap f z))

pub sum_at_next : (a k : ℕ) (w : List ℕ) → sum_at a (k + 1) w ≡ sum_at a k w + get_or w (a + k) 0
sum_at_next a k w = sum-next (λ l. get_or w (a + l) 0) k

-- ---- a stretch of the working numbers

module _ (a k : ℕ) (w : List ℕ) (h : a + k ≤ length w) where
  pub stretch-long : length (take (a + k - a) (drop a w)) ≡ k
  stretch-long = let e : a + k - a ≡ k = omega arith in rw (e, part-long a k w h)

  pub stretch_at : (i : ℕ) → i < k → get_or (take (a + k - a) (drop a w)) i 0 ≡ get_or w (a + i) 0
  stretch_at i l = let e : a + k - a ≡ k = omega arith in rw (e, part_at a k w i l)

-- ---- what is written lies above what is read

module _ (g : Shape) (a n : ℕ) (w w' : List ℕ) (o : Outside a n w w') (above : loads_at g ≤ a) where
  pub small-kept : SmallCapacities g w → SmallCapacities g w'
  small-kept s e l h k = omega (arith, o.low (e * g.k + l) (omega (arith, edge-room g e h)), s e l h k)

  pub sum_kept : (e : ℕ) → e < g.e → capacity_sum g w' e ≡ capacity_sum g w e
  sum_kept e h =
      sum-eq (λ l. get_or w' (e * g.k + l) 0) (λ l. get_or w (e * g.k + l) 0) (up_from 0 g.k)
      (λ l i. o.low (e * g.k + l) (omega (arith, edge-room g e h, (in-up_from l 0 g.k).0 i)))

-- the edges from n on are as they were
pub over-kept : (a b n : ℕ) (w w' : List ℕ) → Outside a n w w' → a ≤ b → over_in a b w' n ≡ over_in a b w n
over-kept a b n w w' o h = ap₂ over (o.high (b + n) (omega arith)) (o.high (a + n) (omega arith))

pub over-small : (a b n m : ℕ) (w : List ℕ) → get_or w (a + n) 0 ≤ m → over_in a b w n ≤ m
over-small a b n m w h = omega arith

-- ---- once the loops over the edges are done

module _ (g : Shape) (w w' : List ℕ) where
  pub summed : (a n : ℕ) → a ≡ flat_at g → n ≡ g.e → Filled a n (capacity_sum g w) w w'
      → ((j : Job) → Capacities g j w → g.k ≡ j.layers → AllCounted j → FlatCapacities g j w') × Outside (flat_at g) g.e w w'
  summed a n a-is n-is d = finish (rw (a-is, n-is) at d)
    where
      finish : Filled (flat_at g) g.e (capacity_sum g w) w w'
          → ((j : Job) → Capacities g j w → g.k ≡ j.layers → AllCounted j → FlatCapacities g j w') × Outside (flat_at g) g.e w w'
      finish f = (λ j c k all e h. f.each e h ∙ capacity-sum g j w c k all e h, f.outside)

  pub overflowed : (a b n : ℕ) (r : Flat) → a ≡ demand_at g → b ≡ flat_at g → n ≡ g.e → Filled a n (over_in a b w) w w'
      → r.total ≡ sum (over_in a b w) (up_from 0 n) → r.most ≡ most (over_in a b w) (up_from 0 n)
      → ((j : Job) → FlatDemands g j w → FlatCapacities g j w → g.e ≡ edge_count j → Overflows g j w' r) × Outside (demand_at g) g.e w w'
  overflowed a b n r a-is b-is n-is d t m = finish (rw (a-is, b-is, n-is) at d) (rw (a-is, b-is, n-is) at t) (rw (a-is, b-is, n-is) at m)
    where
      finish : Filled (demand_at g) g.e (over_at g w) w w' → r.total ≡ sum (over_at g w) (up_from 0 g.e) → r.most ≡ most (over_at g w) (up_from 0 g.e)
          → ((j : Job) → FlatDemands g j w → FlatCapacities g j w → g.e ≡ edge_count j → Overflows g j w' r) × Outside (demand_at g) g.e w w'
      finish f total largest = (λ j demands flat k. overflows-are g j w demands flat w' r k f.each total largest, f.outside)
