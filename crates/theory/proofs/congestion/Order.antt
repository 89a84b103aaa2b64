-- Demand 3 in job order, from a planner that goes by turns, and a planner that goes by turns from demand 3.
-- Assumes nothing.
use Rattle.std.specs.Prelude.{◌≡◌, refl, List, [], ◌↔◌, ℕ, zero, suc, ◌≤◌, ◌<◌, length, get_or}
use Rattle.std.proofs.Common.{sym, ◌∙◌, subst, arith}
use Rattle.theory.specs.congestion.Problem.{Problem, ProblemOk, flat_total, IsLayering, total_over, Keeps, LegalChoice, before, net_at, Demand3, Greedy}
use Rattle.theory.specs.congestion.Turns.{Room, EarlierLegal}
use Rattle.theory.specs.congestion.Order.{ConsideredAt, Demand3At, IsOrder, in_order, placing, at→layering, from-order, get_d-in-order, length-in-order, in_order_lem, ok', room', TO-same, total-same, keeps_same, considered-there, considered-back}
use Rattle.theory.proofs.congestion.Turns.{considered-iff-legal, greedy-demand3}

module _ (j : Problem) (ok : ProblemOk j) (limit : ℕ → ℕ) (room : Room j limit) (order : List ℕ) (is-order : IsOrder order (length j.nets)) where
  abbrev okp : ProblemOk (placing order j)
  okp = ok' j ok limit room order is-order

  abbrev roomp : Room (placing order j) limit
  roomp = room' j ok limit room order is-order

  -- a plan in job order that takes, turn by turn, a cheapest legal choice meets demand 3
  pub demand3-at : (bounded : List (List ℕ) → Type 0) → ((ys : List (List ℕ)) → bounded ys ↔ Keeps j limit ys)
      → (cost : ℕ → List ℕ → ℕ) (plan : List (List ℕ)) → length plan ≡ length j.nets
      → Greedy (placing order j) limit (λ i. cost (get_or order i 0)) (in_order order plan) → Demand3At j bounded order cost plan
  demand3-at bounded bounded-iff cost plan long g = record {
    is_layering = is_layering;
    least_total = least_total;
    in_bounds = in_bounds;
    considered = λ i h. record {
      layering = plan;
      is_layering = is_layering;
      earlier = λ k b. refl;
      this = refl;
      least_total = least_total;
      in_bounds = in_bounds;
    };
    cheapest = λ i h choice c.
        rw (get_d-in-order order plan i) at
        (d.cheapest i (rw (length-in-order order j.nets) h) choice (considered-there j ok limit room order is-order bounded bounded-iff plan i h choice c));
  }
    where
      Kept : List (List ℕ) → Type 0
      Kept = Keeps (placing order j) limit

      d : Demand3 (placing order j) Kept (λ i. cost (get_or order i 0)) (in_order order plan)
      d = greedy-demand3 (placing order j) okp limit roomp Kept (λ ys. (λ k. k, λ k. k)) (λ i. cost (get_or order i 0)) (in_order order plan) g

      is_layering : IsLayering j.layers j.nets plan
      is_layering = at→layering j.layers j.nets plan long (λ i b. from-order j.layers j.nets plan order d.is_layering i ((in_order_lem j ok limit room order is-order i).1 b))

      least_total : total_over j plan ≡ flat_total j
      least_total = sym (total-same j ok limit room order is-order plan long) ∙ d.least_total ∙ TO-same j ok limit room order is-order

      in_bounds : bounded plan
      in_bounds = (bounded-iff plan).1 ((keeps_same j ok limit room order is-order plan long).0 d.in_bounds)

  -- a choice is to be considered at a net's turn just where it is legal over the nets before it
  pub considered-at-iff : (bounded : List (List ℕ) → Type 0) → ((ys : List (List ℕ)) → bounded ys ↔ Keeps j limit ys)
      → (plan : List (List ℕ)) (i : ℕ) → i < length order → EarlierLegal (placing order j) okp limit roomp (in_order order plan) i
      → (choice : List ℕ) → ConsideredAt j bounded order plan i choice
      ↔ LegalChoice (placing order j) limit (before (placing order j) (in_order order plan) i) (net_at (placing order j) i) choice
  considered-at-iff bounded bounded-iff plan i h g choice =
      let r = considered-iff-legal (placing order j) okp limit roomp (Keeps (placing order j) limit) (λ ys. (λ k. k, λ k. k)) (in_order order plan) i
      (omega (arith, length-in-order order j.nets)) (omega (arith, length-in-order order plan)) g choice in
      (λ c. r.0 (considered-there j ok limit room order is-order bounded bounded-iff plan i h choice c), λ c. considered-back j ok limit room order is-order bounded bounded-iff plan i h choice (r.1 c))

  -- And whatever meets demand 3 takes, turn by turn, a cheapest legal choice: turn by turn, since the earlier nets were placed legally, to be
  -- considered is to be legal.
  pub demand3-greedy : (bounded : List (List ℕ) → Type 0) → ((ys : List (List ℕ)) → bounded ys ↔ Keeps j limit ys)
      → (cost : ℕ → List ℕ → ℕ) (plan : List (List ℕ)) → Demand3At j bounded order cost plan
      → Greedy (placing order j) limit (λ i. cost (get_or order i 0)) (in_order order plan)
  demand3-greedy bounded bounded-iff cost plan d = record {
    one_each = length-in-order order plan ∙ sym (length-in-order order j.nets);
    legal = λ i b. legal-to (suc i) i (omega arith) b;
    least = λ i b choice g.
        subst (λ (y : List ℕ). cost (get_or order i 0) y ≤ cost (get_or order i 0) choice) (sym (get_d-in-order order plan i (turn i b)))
        (d.cheapest i (turn i b) choice ((considered-at-iff bounded bounded-iff plan i (turn i b) (λ k h. legal-to i k h (omega arith)) choice).1 g));
  }
    where
      turn : (i : ℕ) → i < length (in_order order j.nets) → i < length order
      turn i b = omega (arith, length-in-order order j.nets)

      legal-to : (n i : ℕ) → i < n → i < length (in_order order j.nets)
          → LegalChoice (placing order j) limit (before (placing order j) (in_order order plan) i) (net_at (placing order j) i) (get_or (in_order order plan) i [])
      legal-to zero i h b = absurd (omega arith)
      legal-to (suc n) i h b =
          (considered-at-iff bounded bounded-iff plan i (turn i b) (λ k c. legal-to n k (omega arith) (omega arith)) (get_or (in_order order plan) i [])).0
          (subst (λ (y : List ℕ). ConsideredAt j bounded order plan i y) (sym (get_d-in-order order plan i (turn i b))) (d.considered i (turn i b)))
