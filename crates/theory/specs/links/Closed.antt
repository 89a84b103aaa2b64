-- A layer that runs the other way has no capacity and, in a layering along the allowed layers, no net: so sums and maxima over the layers that an edge may
-- use are those over all K layers, as document 01 has them. Document 02, S-2, row 12.
-- Assumes nothing.
use Rattle.std.specs.Prelude.{◌≡◌, refl, List, [], ◌∷◌, ◌++◌, Bool, true, false, ◌⊎◌, ℕ, zero, suc, ◌+◌, ◌-◌, ◌≤◌, ◌<◌, T, eqb, ltb, length, get_or}
use Rattle.std.proofs.Common.{sym, ap, ◌∙◌, subst, inl, inr, ⊎_elim, arith, eqb→eq, lt→ltb, ltb→lt, get_or-append-add}
use Rattle.std.proofs.Math.Option.{Option, none, some}
use Rattle.std.proofs.Math.ListN.{get_or-append}
use Rattle.model.specs.Demand3.{Layering}
use Rattle.model.specs.Grid.{east_count, north_count}
use Rattle.model.specs.Job.{Job, all_edges, group_in, runs, group, layers_of, capacity, net_edges}
use Rattle.model.specs.Layering.{IsChoice, IsLayering}
use Rattle.model.specs.Lists.{up_from, all}
use Rattle.model.specs.Overflow.{uses, load, flat_capacity, layer_overflow, total_overflow, max_overflow}
use Rattle.model.specs.Read.{Lent}
use Rattle.theory.specs.congestion.Sums.{sum, most, same, occurs, In, same_cases, lt-or-ge, sum-eq, sum-keep, most-keep}
use Rattle.theory.specs.congestion.Base.{in-up_from}
use Rattle.theory.specs.congestion.Loads.{mark-one, mark-none}
use Rattle.theory.specs.links.Layers.{in-layers}
use Rattle.theory.specs.congestion.Tests.{is_true, is_false, cond_both}
use Rattle.theory.specs.links.Reading.{Closed, EachClosed, Accepted}

-- ---- capacities

zeros-at : (cs : List ℕ) (e : ℕ) → T (all (λ c. eqb c 0) cs) → get_or cs e 0 ≡ 0
zeros-at [] e t = refl
zeros-at (c ∷ cs) zero t = eqb→eq c 0 (cond_both (eqb c 0) (all (λ a. eqb a 0) cs) t).0
zeros-at (c ∷ cs) (suc e) t = zeros-at cs e (cond_both (eqb c 0) (all (λ a. eqb a 0) cs) t).1

shut : (along : Bool) (cs : List ℕ) (e : ℕ) → along ≡ false → Closed along cs → get_or cs e 0 ≡ 0
shut true cs e k t = absurd (subst T k tt)
shut false cs e k t = zeros-at cs e t

-- the lists of the layers from k on, layer k + i, edge e
closed_at : (E F : ℕ) (ds : List ℕ) (cs : List (List ℕ)) (k i e : ℕ) → EachClosed E F (some ds) k cs → runs (some ds) (group_in (some ds) E e) (k + i) ≡ false
    → get_or (get_or cs i []) e 0 ≡ 0
closed_at E F ds [] k i e h r = refl
closed_at E F ds (c ∷ cs) k (suc i) e h r =
    closed_at E F ds cs (suc k) i e h.1 (subst (λ (l : ℕ). runs (some ds) (group_in (some ds) E e) l ≡ false) (omega arith) r)
closed_at E F ds (c ∷ cs) k zero e h r = go (lt-or-ge e E)
  where
    east : List ℕ
    east = h.0.0

    north : List ℕ
    north = h.0.1

    here : (g : ℕ) → group_in (some ds) E e ≡ g → runs (some ds) g k ≡ false
    here g q =
        let z : k + 0 ≡ k = omega arith in
        subst (λ (l : ℕ). runs (some ds) g l ≡ false) z (subst (λ (a : ℕ). runs (some ds) a (k + 0) ≡ false) q r)

    go : (e < E) ⊎ (E ≤ e) → get_or c e 0 ≡ 0
    go (inl b) =
        ap (λ (xs : List ℕ). get_or xs e 0) h.0.2
        ∙ get_or-append east north 0 e (omega (arith, h.0.3))
        ∙ shut (runs (some ds) 0 k) east e (here 0 (rw (is_true (ltb e E) (lt→ltb e E b)) refl)) h.0.5
    go (inr b) =
        let place : e ≡ length east + (e - E) = omega (arith, h.0.3) in
        ap (λ (xs : List ℕ). get_or xs e 0) h.0.2
        ∙ ap (λ (i : ℕ). get_or (east ++ north) i 0) place
        ∙ get_or-append-add east north (e - E) 0
        ∙ shut (runs (some ds) 1 k) north (e - E) (here 1 (rw (is_false (ltb e E) (λ t. omega (arith, ltb→lt e E t))) refl)) h.0.6

closed_in : (E F : ℕ) (ds : Option (List ℕ)) (cs : List (List ℕ)) (i e : ℕ) → EachClosed E F ds 1 cs → runs ds (group_in ds E e) (1 + i) ≡ false
    → get_or (get_or cs i []) e 0 ≡ 0
closed_in E F none cs i e h r = absurd (subst T r tt)
closed_in E F (some ds) cs i e h r = closed_at E F ds cs 1 i e h r

-- ---- nets

-- a net on the allowed layers uses no other
module _ (layers : ℕ → List ℕ) (e l : ℕ) (out : occurs l (layers e) ≡ 0) where
  unused-layer : (n y : List ℕ) → IsChoice layers n y → uses e l n y ≡ 0
  unused-layer [] y h = refl
  unused-layer (a ∷ n) [] h = refl
  unused-layer (a ∷ n) (b ∷ y) h =
      ⊎_elim
      (λ s. omega (arith, unused-layer n y h.1, mark-one e a (same b l) s.1, other s.0))
      (λ s. omega (arith, unused-layer n y h.1, mark-none e a (same b l) s.1))
      (same_cases e a)
    where
      other : e ≡ a → same b l ≡ 0
      other q =
          ⊎_elim
          (λ s. absurd (omega (arith, subst (λ (m : ℕ). In m (layers e)) s.0 (subst (λ (d : ℕ). In b (layers d)) (sym q) h.0))))
          (λ s. s.1)
          (same_cases b l)

  pub empty-layer : (ns ys : List (List ℕ)) → IsLayering layers ns ys → load e l ns ys ≡ 0
  empty-layer [] ys h = refl
  empty-layer (n ∷ ns) [] h = refl
  empty-layer (n ∷ ns) (y ∷ ys) h = omega (arith, unused-layer n y h.0, empty-layer ns ys h.1)

-- ---- an accepted job

module _ (lent : Lent) (j : Job) (acc : Accepted lent j) where
  -- "a nonzero capacity on a layer that runs the other way" is refused
  pub closed-capacity : (e l : ℕ) → 1 ≤ l → runs j.dirs (group j e) l ≡ false → capacity j e l ≡ 0
  closed-capacity e l h r =
      let q : l ≡ 1 + (l - 1) = omega arith in
      closed_in (east_count j.width j.height) (north_count j.width j.height) j.dirs j.capacities (l - 1) e acc.closed
      (subst (λ (m : ℕ). runs j.dirs (group j e) m ≡ false) q r)

  -- "c(e) is the sum of an edge's K capacities"
  pub capacity-all : (e : ℕ) → flat_capacity j e ≡ sum (capacity j e) (up_from 1 j.layers)
  capacity-all e =
      sum-keep (capacity j e) (runs j.dirs (group j e)) (up_from 1 j.layers)
      (λ l i r. closed-capacity e l ((in-up_from l 1 j.layers).0 i).0 r)

  not-allowed : (e l : ℕ) → runs j.dirs (group j e) l ≡ false → occurs l (layers_of j e) ≡ 0
  not-allowed e l r = ⊎_elim (λ i. absurd (subst T r (in-layers j (group j e) l i).2)) (λ z. omega arith) (lt-or-ge 0 (occurs l (layers_of j e)))

  -- "Its total and maximum are the sum and the largest of the overflows of all layers of all edges"
  module _ (ys : List (List ℕ)) (ly : Layering j ys) where
    pub closed-overflow : (e l : ℕ) → runs j.dirs (group j e) l ≡ false → layer_overflow j ys e l ≡ 0
    closed-overflow e l r = omega (arith, empty-layer (layers_of j) e l (not-allowed e l r) (net_edges j) ys ly)

    pub total-all : total_overflow j ys ≡ sum (λ e. sum (layer_overflow j ys e) (up_from 1 j.layers)) (all_edges j)
    total-all =
        sum-eq (λ e. sum (layer_overflow j ys e) (layers_of j e)) (λ e. sum (layer_overflow j ys e) (up_from 1 j.layers)) (all_edges j)
        (λ e i. sum-keep (layer_overflow j ys e) (runs j.dirs (group j e)) (up_from 1 j.layers) (λ l i' r. closed-overflow e l r))

    pub maximum-all : max_overflow j ys ≡ most (λ e. most (layer_overflow j ys e) (up_from 1 j.layers)) (all_edges j)
    maximum-all =
        most-eq (λ e. most (layer_overflow j ys e) (layers_of j e)) (λ e. most (layer_overflow j ys e) (up_from 1 j.layers)) (all_edges j)
        (λ e. most-keep (layer_overflow j ys e) (runs j.dirs (group j e)) (up_from 1 j.layers) (λ l i' r. closed-overflow e l r))
      where
        most-eq : (f g : ℕ → ℕ) (xs : List ℕ) → ((x : ℕ) → f x ≡ g x) → most f xs ≡ most g xs
        most-eq f g [] h = refl
        most-eq f g (x ∷ xs) h = omega (arith, h x, most-eq f g xs h)
