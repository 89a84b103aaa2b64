-- The score of a net of an accepted job, from its row of the net table.
-- Assumes nothing.
use mathlib.Core.List.{List}
use mathlib.Core.Path.{◌≡◌, sym, subst, ◌∙◌}
use Prim.Native.Nat.{ℕ, suc, ◌+◌, ◌-◌, ◌≤◌, ◌<◌}
use native.Mathlib.Nat.{mul-le-mul}
use native.Mathlib.Omega.{arith}
use lib.ListN.{length, get_or}
use Rattle.cut.specs.Again.{ring_told}
use Rattle.cut.specs.Net.{RingAt}
use Rattle.layout.specs.Bounds.{most_tiles}
use Rattle.layout.specs.Shapes.{Shaped}
use Rattle.layout.specs.Table.{pins_column, edges_column, tiles_column, count_column, entries_in, dropped_in}
use Rattle.layout.specs.declared.shape.Shape.{Shape}
use Rattle.marks.specs.Words.{most_stamp}
use Rattle.model.specs.Job.{Net, Job, net_count, net_of}
use Rattle.model.specs.Read.{Lent}
use Rattle.model.specs.Score.{length_term, pin_term, density_term, different_tiles, score}
use Rattle.net.specs.Dropped.{told_entries, told-dropped, told_none}
use Rattle.net.specs.Left.{EdgesThere, edges-there}
use Rattle.net.specs.Table.{PinsAt, EdgesAt, Row}
use Rattle.order.specs.declared.Density.{Density}
use Rattle.theory.specs.links.Engine.{edges_few}
use Rattle.theory.specs.links.Limits.{demands-small}
use Rattle.theory.specs.links.Nets.{NetOk}
use Rattle.theory.specs.links.Planned.{net-ok}
use Rattle.theory.specs.links.Scores.{tiles-few, pins-few}
use Rattle.theory.specs.links.Stacked.{pin-tiles-few}
use Rattle.order.specs.Density.{Weighed}
use Rattle.order.specs.Ready.{Ready}
use Rattle.order.specs.declared.Weights.{Weights}

module _ (s : List ℕ) (g : Shape) (a : Weights) (w table : List ℕ) (lent : Lent) (j : Job) (ready : Ready s g a w table lent j) (i : ℕ) (h : i < net_count j) where
  abbrev net : Net
  net = net_of j (suc i)

  row : Row s j table i
  row = ready.rows.rows i h

  ok : NetOk j.width j.height j.layers (net_of j (suc i))
  ok = net-ok lent j ready.accepted i h

  ok-here : NetOk g.w g.h g.k (net_of j (suc i))
  ok-here = rw (ready.width, ready.height, ready.layers) ok

  edges_at : EdgesAt s g.w g.h (get_or table (edges_column i) 0) (net_of j (suc i))
  edges_at = rw (ready.width, ready.height) row.edges

  pub line-there : Shaped g → (p : ℕ) → p ≡ get_or table (edges_column i) 0 → EdgesThere s g p
  line-there shaped p e = rw e (edges-there s g (get_or table (edges_column i) 0) shaped net edges_at ok-here)

  pub line_at : (p : ℕ) → p ≡ get_or table (edges_column i) 0 → EdgesAt s g.w g.h p (net_of j (suc i))
  line_at p e = rw e edges_at

  -- where no entry is dropped all are kept
  pub line-all : Shaped g → dropped_in table i ≡ 0 → (net_of j (suc i)).edges ≡ (net_of j (suc i)).entries
  line-all shaped = told_none g shaped net ok-here (get_or table (count_column i) 0) row.counts

  -- where some entry is dropped there is a ring
  pub line-ring : Shaped g → 0 < dropped_in table i → (p q : ℕ) → p ≡ get_or table (pins_column i) 0 → q ≡ get_or table (edges_column i) 0 → RingAt s g p q (net_of j (suc i))
  line-ring shaped some p q p-is q-is =
      let pins = subst (λ (k : ℕ). PinsAt s j.width j.height j.layers k net) (sym p-is) row.pins in
      ring_told s g p q net shaped (rw (ready.width, ready.height, ready.layers) pins) (line_at q q-is) ok-here (get_or table (count_column i) 0) row.counts some

  pub kept-length : Shaped g → (dropped_in table i ≤ entries_in table i) × (entries_in table i - dropped_in table i ≡ length (net_of j (suc i)).edges)
  kept-length shaped =
      let v = get_or table (count_column i) 0 in
      let few = told_entries g shaped net ok-here v row.counts in
      let gone = told-dropped g shaped net ok-here v row.counts in
      (omega (arith, few, gone), omega (arith, few, gone))

  pub stamp-small : a.stamp + i ≤ most_stamp
  stamp-small = omega (arith, ready.stamp, ready.accepted.count_of_nets)

  pub weights-small : (a.alpha ≤ 255) × (a.beta ≤ 255) × (a.gamma ≤ 255)
  weights-small =
      (omega (arith, ready.alpha, ready.accepted.alpha), omega (arith, ready.beta, ready.accepted.beta), omega (arith, ready.gamma, ready.accepted.gamma))

  pub pins_small : (p : ℕ) → p ≡ get_or table (tiles_column i) 0 → get_or table (tiles_column i) 0 ≡ different_tiles (net_of j (suc i)).pins → p ≤ 1_048_576
  pins_small p e are =
      omega (
        arith,
        are,
        pin-tiles-few (net_of j (suc i)).pins,
        pins-few j.width j.height j.layers net ready.accepted.layers.1 ok,
        tiles-few lent j ready.accepted,
      )

  pub demand-small : (x : Density) → Weighed a.gamma j (net_of j (suc i)) x → x.demand ≤ 4_294_967_296
  demand-small x d =
      let few : length net.edges ≤ most_tiles = omega (arith, edges_few j ready.accepted.width.0 ready.accepted.height.0 net ok, tiles-few lent j ready.accepted) in
      omega (arith, d.most, demands-small lent j ready.accepted net.edges, mul-le-mul few ready.accepted.count_of_nets)

  pub score-is : (e p : ℕ) (x : Density) → e ≡ entries_in table i - dropped_in table i → Shaped g → p ≡ get_or table (tiles_column i) 0 → get_or table (tiles_column i) 0 ≡ different_tiles (net_of j (suc i)).pins → Weighed a.gamma j (net_of j (suc i)) x
      → (r : ℕ) → r ≡ length_term a.alpha e + pin_term a.beta p + density_term a.gamma x.demand x.capacity → r ≡ score j (net_of j (suc i))
  unfolding score
  score-is e p x e_is shaped p-is are d r r-is =
      r-is ∙ rw (d.term, ready.alpha, ready.beta, ready.gamma, e_is ∙ (kept-length shaped).1, p-is ∙ are)
