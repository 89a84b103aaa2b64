-- Layer directives over the nets of a job: the printed sum is, edge by edge, the fewest nets with a wanted layer above 1 that must go without a track on one.
-- Assumes nothing.
use Rattle.std.specs.Prelude.{◌≡◌, refl, List, [], ◌∷◌, ◌++◌, map, Bool, true, false, ◌&&◌, cond, ◌⊎◌, ◌≢◌, ℕ, suc, ◌+◌, ◌-◌, ◌*◌, ◌≤◌, ◌<◌, ltb, eqb}
use Rattle.std.proofs.Common.{sym, inl, inr, ⊎_elim, arith, lt-ltb, le-ltb}
use Rattle.std.proofs.Math.ListN.{length}
use Rattle.model.specs.Directives.{summed_excess, wanting, wants, ldof_at, ldof, has_low, Fewest}
use Rattle.model.specs.Job.{Net, low_of, Job, all_edges, edge_count, net_count, no_net, net_of, capacity}
use Rattle.model.specs.Lists.{bit, sum, occurs, In, keep, count, has}
use Rattle.model.specs.Print.{print_line, plan_lines, printed}
use Rattle.model.specs.Read.{Lent, Place, found, read}
use Rattle.model.specs.Score.{Entry}
use Rattle.theory.specs.congestion.Base.{length-up_from}
use Rattle.theory.specs.congestion.Sums.{same, same_cases, eqb-true, eqb-false, sum_bound, lt-or-ge}
use Rattle.theory.specs.directives.Demand.{excess-eq}
use Rattle.theory.specs.directives.Handout.{Wanted, excess-fewest, excess_small}
use Rattle.theory.specs.links.Nets.{EachNet}
use Rattle.theory.specs.links.Planned.{net-at}
use Rattle.theory.specs.links.Reading.{Accepted, accepted}

-- ---- the nets that pass a test

module _ (on : Net → Bool) where
  -- the wanted layers above 1, and how many of these nets want layer t
  abbrev wanted : List Net → List ℕ
  wanted ns = map low_of (keep (λ n. on n && ltb 1 (low_of n)) ns)

  abbrev wanting_in : ℕ → List Net → ℕ
  wanting_in t ns = count (λ n. on n && eqb (low_of n) t) ns

  wanted-count : (t : ℕ) → 2 ≤ t → (ns : List Net) → occurs t (wanted ns) ≡ wanting_in t ns
  wanted-count t h [] = refl
  wanted-count t h (n ∷ ns) = go (on n) (wanted-count t h ns) (lt-or-ge 1 (low_of n))
    where
      both : occurs t (wanted ns) ≡ wanting_in t ns → occurs t (low_of n ∷ wanted ns) ≡ bit (eqb (low_of n) t) + wanting_in t ns
      both ih =
          ⊎_elim
          (λ (s : (t ≡ low_of n) × (same t (low_of n) ≡ 1)). rw (eqb-true (low_of n) t (sym s.0)) (omega (arith, s.1)))
          (λ (s : (t ≢ low_of n) × (same t (low_of n) ≡ 0)). rw (eqb-false (low_of n) t (λ e. s.0 (sym e))) (omega (arith, s.1)))
          (same_cases t (low_of n))

      go : (b : Bool) → occurs t (wanted ns) ≡ wanting_in t ns → (1 < low_of n) ⊎ (low_of n ≤ 1)
          → occurs t (map low_of (cond (b && ltb 1 (low_of n)) (n ∷ keep (λ m. on m && ltb 1 (low_of m)) ns) (keep (λ m. on m && ltb 1 (low_of m)) ns)))
          ≡ bit (b && eqb (low_of n) t) + wanting_in t ns
      go true ih (inl k) = rw (lt-ltb 1 (low_of n) k) (both ih)
      go true ih (inr k) = rw (le-ltb 1 (low_of n) k, eqb-false (low_of n) t (omega arith)) (omega arith)
      go false ih k = omega arith

  wanted-inside : (K : ℕ) (ns : List Net) → EachNet (λ n. (1 ≤ low_of n) × (low_of n ≤ K)) ns → Wanted K (wanted ns)
  wanted-inside K [] r w i = absurd (omega arith)
  wanted-inside K (n ∷ ns) r w i = go (wanted-inside K ns r.1 w) (on n) (lt-or-ge 1 (low_of n)) i
    where
      others : List Net
      others = keep (λ m. on m && ltb 1 (low_of m)) ns

      go : (In w (wanted ns) → (2 ≤ w) × (w ≤ K)) → (b : Bool) → (1 < low_of n) ⊎ (low_of n ≤ 1) → In w (map low_of (cond (b && ltb 1 (low_of n)) (n ∷ others) others))
          → (2 ≤ w) × (w ≤ K)
      go later true (inl k) =
          rw (lt-ltb 1 (low_of n) k)
          (λ (m : In w (low_of n ∷ wanted ns)). ⊎_elim (λ s. (omega (arith, s.0), omega (arith, s.0, r.0))) (λ s. later (omega (arith, s.1))) (same_cases w (low_of n)))
      go later true (inr k) = rw (le-ltb 1 (low_of n) k) later
      go later false k = later

  wanted-few : (ns : List Net) → length (wanted ns) ≤ length ns
  wanted-few [] = omega arith
  wanted-few (n ∷ ns) = go (on n && ltb 1 (low_of n)) (wanted-few ns)
    where
      go : (b : Bool) → length (wanted ns) ≤ length ns
          → length (map low_of (cond b (n ∷ keep (λ m. on m && ltb 1 (low_of m)) ns) (keep (λ m. on m && ltb 1 (low_of m)) ns))) ≤ suc (length ns)
      go true ih = omega arith
      go false ih = omega arith

-- ---- one edge of a job, and all

module _ (j : Job) where
  abbrev uses : ℕ → Net → Bool
  uses e n = has n.edges e

  ldof-at : (e : ℕ) → ldof_at j e ≡ summed_excess (capacity j e) j.layers (λ t. occurs t (wants j e))
  ldof-at e =
      excess-eq (capacity j e) (capacity j e) (wanting j e) (λ t. occurs t (wants j e)) j.layers (λ l a b. refl)
      (λ t a b. sym (wanted-count (uses e) t a j.nets))

  -- an edge has at most all nets in excess
  ldof-at-few : (e : ℕ) → ldof_at j e ≤ net_count j
  ldof-at-few e = omega (arith, ldof-at e, excess_small (capacity j e) j.layers (wants j e), wanted-few (uses e) j.nets)

  pub ldof-few : ldof j ≤ edge_count j * net_count j
  unfolding ldof
  ldof-few =
      let bound = sum_bound (ldof_at j) (net_count j) (all_edges j) (λ e i. ldof-at-few e) in
      let long : length (all_edges j) ≡ edge_count j = length-up_from 0 (edge_count j) in rw long at bound

  module _ (lent : Lent) (acc : Accepted lent j) where
    -- the lowest wanted layer of a net is a layer
    pub low-inside : (i : ℕ) → i < net_count j → (1 ≤ low_of (net_of j (suc i))) × (low_of (net_of j (suc i)) ≤ j.layers)
    low-inside i b = net-at (λ n. (1 ≤ low_of n) × (low_of n ≤ j.layers)) j.nets no_net (suc i - 1) (omega arith) acc.lows

    -- "per edge: the sum is the fewest nets with `low` above 1 that must go without a track on a wanted layer, over all ways to hand out tracks"
    pub edge-fewest : (e : ℕ) → Fewest (capacity j e) j.layers (wants j e) (ldof_at j e)
    edge-fewest e = rw (ldof-at e) (excess-fewest (capacity j e) j.layers (wants j e) (wanted-inside (uses e) j.layers j.nets acc.lows))

-- For every accepted job that has a line `low`, the last printed line is the sum over all edges of the fewest nets that must go without there.
pub record LastLine (j : Job) (text : List ℕ) : Type 0 where
  pub fewest : ℕ → ℕ
  pub each : (e : ℕ) → Fewest (capacity j e) j.layers (wants j e) (fewest e)
  pub before : List ℕ
  pub printed_is : text ≡ before ++ print_line "ldof" (sum fewest (all_edges j) ∷ [])

pub ldof-printed : (lent : Lent) (text : List ℕ) (j : Job) (p : Place) → read lent text ≡ found j p → has_low j ≡ true → (turns : List Entry) (ys : List (List ℕ))
    → LastLine j (printed j turns ys)
unfolding printed ldof
ldof-printed lent text j p e h turns ys = record {
  fewest = ldof_at j;
  each = edge-fewest j lent (accepted lent text j p e);
  before = plan_lines j turns ys;
  printed_is = rw h refl;
}
