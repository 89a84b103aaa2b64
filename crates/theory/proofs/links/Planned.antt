-- Each net gets what document 01 says over the loads of the nets before it, so the plan goes by turns and meets demand 3, and there is no other such plan.
-- Assumes nothing.
use Rattle.std.specs.Prelude.{◌≡◌, refl, List, [], ◌∷◌, ◌++◌, ◌↔◌, length, take, get_or, set, replicate}
use Rattle.std.proofs.Common.{sym, ap, ap₂, ◌∙◌, ⊎_elim, arith, length-set, get_or-set_other, ext_get_or, take-suc, take_all}
use Rattle.std.proofs.Math.Path.{subst, fun_ext}
use Prim.Native.Nat.{ℕ, zero, suc, ◌+◌, ◌-◌, ◌≤◌, ◌<◌}
use Rattle.std.proofs.Math.ListN.{length-replicate}
use Rattle.theory.specs.congestion.Problem.{legal_layers, Problem}
use Rattle.model.specs.Overflow.{uses, load}
use Rattle.model.specs.Job.{Net, Job, net_count, net_of, net_edges, all_edges, group, layers_in, capacity}
use Rattle.theory.specs.links.Flat.{problem, limit_at}
use Rattle.model.specs.Overflow.{limit}
use Rattle.model.specs.Score.{Entry, order}
use Rattle.model.specs.Plan.{placed, best, plan_from, plan}
use Rattle.model.specs.Overflow.{peak}
use Rattle.model.specs.Read.{Lent}
use Rattle.model.specs.Demand3.{turns, choice_vias}
use Rattle.theory.specs.congestion.Sums.{In, same_cases, in_tail}
use Rattle.theory.specs.congestion.Problem.{ProblemOk, Keeps, LegalChoice, place, after, net_at, Greedy}
use Rattle.theory.specs.congestion.Base.{in-up_from}
use Rattle.theory.specs.links.Layers.{layers_once}
use Rattle.theory.specs.links.Turn.{order-once}
use Rattle.theory.specs.links.Reading.{Accepted}
use Rattle.theory.specs.congestion.Turns.{Room, State, next-state, before-is, EarlierLegal}
use Rattle.theory.specs.congestion.Directions.{bounded-iff}
use Rattle.theory.specs.congestion.Order.{ConsideredAt, Demand3At, IsOrder, in_order, placing, length-in-order, get_d-in-order}
use Rattle.theory.specs.links.Best.{LegalFor, Gets, gets-legal, takes-once}
use Rattle.theory.specs.links.Planned as planned
use Rattle.theory.specs.links.Planned.{load-empty, stands, InBounds, loads_at, InTurn, job-nets, no_layer, edges-long, turns-long, turn-net, net-ok, legal-to, Midway, midway_start, same-net, turn-edges, turn-ok, turn-legal, none_left, placed-next, turn-keeps, at, in-turn-greedy}
use Rattle.theory.proofs.congestion.Directions.{demand3-groups-at, groups-greedy}
use Rattle.theory.proofs.congestion.Order.{considered-at-iff}
use Rattle.theory.proofs.links.Best.{best-gets}

length-plan_from : (j : Job) (ys : List (List ℕ)) (ts : List Entry) → length (plan_from j ys ts) ≡ length ys
length-plan_from j ys [] = refl
length-plan_from j ys (t ∷ ts) = length-plan_from j (set ys (t.net - 1) (best j ys (net_of j t.net))) ts ∙ length-set ys (t.net - 1) (best j ys (net_of j t.net))

in-order-same : (ks : List ℕ) (ys zs : List (List ℕ)) → in_order ks ys ≡ in_order ks zs → (k : ℕ) → In k ks → get_or ys k [] ≡ get_or zs k []
in-order-same [] ys zs h k i = absurd (omega arith)
in-order-same (m ∷ ks) ys zs h k i =
    let head : get_or ys m [] ≡ get_or zs m [] = cc in
    let rest : in_order ks ys ≡ in_order ks zs = cc in
    ⊎_elim
    (λ s. subst (λ (n : ℕ). get_or ys n [] ≡ get_or zs n []) (sym s.0) head)
    (λ s. in-order-same ks ys zs rest k (omega (arith, s.1)))
    (same_cases k m)

module _ (lent : Lent) (j : Job) (acc : Accepted lent j) where
  abbrev q : Problem
  q = problem j

  abbrev lim : ℕ → ℕ
  lim e = limit_at j e

  abbrev ks : List ℕ
  ks = turns (order j)

  abbrev q' : Problem
  q' = placing (turns (order j)) (problem j)

  abbrev ok : ProblemOk q
  ok = planned.ok lent j acc

  abbrev room : Room q lim
  room = planned.room lent j acc

  abbrev is-order : IsOrder ks (length (net_edges j))
  is-order = planned.is-order lent j acc

  abbrev okp : ProblemOk q'
  okp = planned.okp lent j acc

  abbrev roomp : Room q' lim
  roomp = planned.roomp lent j acc

  abbrev TurnsOk : (ℕ → ℕ → ℕ) → List ℕ → List (List ℕ) → Type 0
  TurnsOk x [] ys = Unit {0}
  TurnsOk x (k ∷ rest) ys = Gets j x (net_of j (suc k)) (get_or ys k []) × TurnsOk (place x (get_or (net_edges j) k []) (get_or ys k [])) rest ys

  module _ (t : Entry) (ts : List Entry) (ys : List (List ℕ)) (m : Midway lent j acc (t ∷ ts) ys) where
    abbrev k : ℕ
    k = t.net - 1

    abbrev n : Net
    n = net_of j t.net

    abbrev y : List ℕ
    y = best j ys (net_of j t.net)

    abbrev ys' : List (List ℕ)
    ys' = set ys (t.net - 1) (best j ys (net_of j t.net))

    pub turn-gets : Gets j (placed j ys) n y
    turn-gets = best-gets j acc.width.0 acc.height.0 n (turn-ok lent j acc t ts ys m) ys (turn-legal lent j acc t ts ys m).0 (turn-legal lent j acc t ts ys m).1

    pub midway-next : Midway lent j acc ts ys'
    midway-next = record {
      long = length-set ys k y ∙ m.long;
      state = subst (λ (x : ℕ → ℕ → ℕ). State q' lim x (in_order (turns ts) (net_edges j)))
          (fun_ext (λ e. fun_ext (λ l. ap (λ (a : List ℕ). placed j ys e l + uses e l a y) (turn-edges lent j acc t ts ys m) ∙ sym (placed-next lent j acc t ts ys m e l))))
          (next-state q' okp lim roomp (placed j ys) (get_or (net_edges j) k []) (in_order (turns ts) (net_edges j)) y m.state
          ((legal-to lent j acc (placed j ys) (get_or (net_edges j) k []) y).0 (subst (λ (a : List ℕ). LegalChoice q lim (placed j ys) a y) (sym (turn-edges lent j acc t ts ys m)) (gets-legal j (placed j ys) n y turn-gets))));
      empty = λ i b.
          get_or-set_other ys k i y [] (λ p. omega (arith, none_left lent j acc t ts ys m, subst (λ (a : ℕ). In a (turns ts)) p b)) ∙ m.empty i (in_tail i k (turns ts) b);
      once = λ i. omega (arith, m.once i);
      inside = λ i b. m.inside i (in_tail i k (turns ts) b);
    }

  run : (ts : List Entry) (ys : List (List ℕ)) → Midway lent j acc ts ys → TurnsOk (placed j ys) (turns ts) (plan_from j ys ts)
  run [] ys m = tt
  run (t ∷ ts) ys m =
      subst (λ (z : List ℕ). Gets j (placed j ys) (net_of j (suc (k t ts ys m))) z × TurnsOk (place (placed j ys) (get_or (net_edges j) (k t ts ys m) []) z) (turns ts) (plan_from j ys (t ∷ ts)))
      (sym (turn-keeps lent j acc t ts ys m)) (
        subst (λ (a : Net). Gets j (placed j ys) a (y t ts ys m)) (sym (same-net lent j acc t ts ys m)) (turn-gets t ts ys m),
        subst (λ (x : ℕ → ℕ → ℕ). TurnsOk x (turns ts) (plan_from j ys (t ∷ ts)))
            (fun_ext (λ e. fun_ext (λ l. placed-next lent j acc t ts ys m e l ∙ ap (λ (a : List ℕ). placed j ys e l + uses e l a (y t ts ys m)) (sym (turn-edges lent j acc t ts ys m)))))
            (run ts (ys' t ts ys m) (midway-next t ts ys m)),
      )

  turn_at : (i : ℕ) (x : ℕ → ℕ → ℕ) (rest : List ℕ) (ys : List (List ℕ)) → TurnsOk x rest ys → i < length rest
      → Gets j (after x (take i (in_order rest (net_edges j))) (take i (in_order rest ys))) (net_of j (suc (get_or rest i 0))) (get_or ys (get_or rest i 0) [])
  turn_at i x [] ys h b = absurd (omega arith)
  turn_at zero x (k ∷ rest) ys h b = h.0
  turn_at (suc i) x (k ∷ rest) ys h b = turn_at i (place x (get_or (net_edges j) k []) (get_or ys k [])) rest ys h.1 (omega arith)

  -- the plan goes by turns
  pub plan-in-turn : InTurn j (plan j)
  unfolding plan
  plan-in-turn = record {
    one_each = length-plan_from j (replicate (net_count j) []) (order j) ∙ length-replicate (net_count j) [];
    gets = λ i b.
        subst (λ (x : ℕ → ℕ → ℕ). Gets j x (net_of j (suc (get_or ks i 0))) (get_or (plan j) (get_or ks i 0) [])) (before-is q' okp lim roomp (in_order ks (plan j)) i)
        (turn_at i (λ e l. 0) ks (plan j) all-turns (omega (arith, turns-long lent j acc)));
  }
    where
      all-turns : TurnsOk (λ e l. 0) (turns (order j)) (plan_from j (replicate (net_count j) []) (order j))
      all-turns =
          subst (λ (x : ℕ → ℕ → ℕ). TurnsOk x (turns (order j)) (plan_from j (replicate (net_count j) []) (order j)))
          (fun_ext (λ e. fun_ext (λ l. load-empty e l (net_edges j) (net_count j))))
          (run (order j) (replicate (net_count j) []) (midway_start lent j acc))

  -- demand 3, and in each group a maximum of just its limit
  pub in-turn-demand3 : (ys : List (List ℕ)) → InTurn j ys
      → Demand3At (problem j) (InBounds j) ks (choice_vias j) ys × ((g : ℕ) → peak j ys g ≡ limit j g)
  in-turn-demand3 ys h =
      demand3-groups-at (all_edges j) (group j) (layers_in j) (capacity j) (net_edges j) (layers_once j) (job-nets lent j acc) (no_layer lent j acc) ks is-order (choice_vias j) ys
      (h.one_each ∙ sym (edges-long lent j acc)) (in-turn-greedy lent j acc ys h)

  -- a choice is to be considered at a net's turn just where each of its layers is legal over the nets before it
  pub considered-legal : (ys : List (List ℕ)) → InTurn j ys → (i : ℕ) → i < net_count j → (y : List ℕ)
      → ConsideredAt (problem j) (InBounds j) ks ys i y ↔ LegalFor j (loads_at j ks ys i) (net_of j (suc (get_or ks i 0))) y
  considered-legal ys t i b y =
      let r = considered-at-iff q ok lim room ks is-order (InBounds j) bounded ys i (omega (arith, turns-long lent j acc)) earlier y in (
        λ c. (legal-to lent j acc (loads_at j ks ys i) (net_of j (suc (get_or ks i 0))).edges y).1 (subst (λ (n : List ℕ). LegalChoice q' lim (loads_at j ks ys i) n y) (at lent j acc i b) (r.0 c)),
        λ g. r.1 (subst (λ (n : List ℕ). LegalChoice q' lim (loads_at j ks ys i) n y) (sym (at lent j acc i b)) ((legal-to lent j acc (loads_at j ks ys i) (net_of j (suc (get_or ks i 0))).edges y).0 g)),
      )
    where
      bounded : (zs : List (List ℕ)) → InBounds j zs ↔ Keeps q lim zs
      bounded = bounded-iff (all_edges j) (group j) (layers_in j) (capacity j) (net_edges j) (layers_once j) (job-nets lent j acc) (no_layer lent j acc)

      earlier : EarlierLegal q' okp lim roomp (in_order ks ys) i
      earlier k h = (in-turn-greedy lent j acc ys t).legal k (omega (arith, length-in-order ks (net_edges j), turns-long lent j acc))

  -- and what meets demand 3 has, at each turn, a legal choice over the nets before it, and no legal choice has fewer vias
  pub demand3-turn : (ys : List (List ℕ)) → Demand3At (problem j) (InBounds j) ks (choice_vias j) ys → (i : ℕ) → i < net_count j
      → LegalFor j (loads_at j ks ys i) (net_of j (suc (get_or ks i 0))) (get_or ys (get_or ks i 0) [])
      × ((z : List ℕ) → LegalFor j (loads_at j ks ys i) (net_of j (suc (get_or ks i 0))) z
      → choice_vias j (get_or ks i 0) (get_or ys (get_or ks i 0) []) ≤ choice_vias j (get_or ks i 0) z)
  demand3-turn ys d i c = (
    (legal-to lent j acc (loads_at j ks ys i) (net_of j (suc (get_or ks i 0))).edges (get_or ys (get_or ks i 0) [])).1
        (subst (λ (n : List ℕ). LegalChoice q' lim (loads_at j ks ys i) n (get_or ys (get_or ks i 0) [])) (at lent j acc i c)
        (subst (λ (y : List ℕ). LegalChoice q' lim (loads_at j ks ys i) (net_at q' i) y) in-turn (greedy.legal i turn))),
    λ z h.
        subst (λ (y : List ℕ). choice_vias j (get_or ks i 0) y ≤ choice_vias j (get_or ks i 0) z) in-turn
        (greedy.least i turn z (subst (λ (n : List ℕ). LegalChoice q' lim (loads_at j ks ys i) n z) (sym (at lent j acc i c))
        ((legal-to lent j acc (loads_at j ks ys i) (net_of j (suc (get_or ks i 0))).edges z).0 h))),
  )
    where
      greedy : Greedy q' lim (λ k. choice_vias j (get_or ks k 0)) (in_order ks ys)
      greedy = groups-greedy (all_edges j) (group j) (layers_in j) (capacity j) (net_edges j) (layers_once j) (job-nets lent j acc) (no_layer lent j acc) ks is-order (choice_vias j) ys d

      turn : i < length (in_order ks (net_edges j))
      turn = omega (arith, length-in-order ks (net_edges j), turns-long lent j acc)

      in-turn : get_or (in_order ks ys) i [] ≡ get_or ys (get_or ks i 0) []
      in-turn = get_d-in-order ks ys i (omega (arith, turns-long lent j acc))

  pub plan-meets : Demand3At (problem j) (InBounds j) ks (choice_vias j) (plan j)
  plan-meets = (in-turn-demand3 (plan j) plan-in-turn).0

  pub plan-maximum : (g : ℕ) → peak j (plan j) g ≡ limit j g
  plan-maximum = (in-turn-demand3 (plan j) plan-in-turn).1

  -- ---- there is just one such plan

  abbrev Same : List (List ℕ) → List (List ℕ) → ℕ → Type 0
  Same ys zs i = take i (in_order ks ys) ≡ take i (in_order ks zs)

  same-to : (ys zs : List (List ℕ)) → InTurn j ys → InTurn j zs → (i : ℕ) → i ≤ net_count j → Same ys zs i
  same-to ys zs a b zero h = refl
  same-to ys zs a b (suc i) h = next-turn (same-to ys zs a b i (omega arith))
    where
      k : ℕ
      k = get_or ks i 0

      next-turn : Same ys zs i → Same ys zs (suc i)
      next-turn s =
          take-suc (in_order ks ys) i [] (omega (arith, length-in-order ks ys, turns-long lent j acc))
          ∙ ap₂ (λ (l : List (List ℕ)) (y : List ℕ). l ++ (y ∷ [])) s
          (get_d-in-order ks ys i (omega (arith, turns-long lent j acc))
          ∙ takes-once j acc.width.0 acc.height.0 (net_of j (suc k)) (net-ok lent j acc k (turn-net lent j acc k (stands ks i (omega (arith, turns-long lent j acc))))) (legal_layers q lim (loads_at j ks ys i)) (λ l. l) (get_or ys k []) (get_or zs k [])
          (a.gets i (omega arith))
          (subst (λ (l : List (List ℕ)). Gets j (λ e m. load e m (take i (in_order ks (net_edges j))) l) (net_of j (suc k)) (get_or zs k [])) (sym s) (b.gets i (omega arith)))
          ∙ sym (get_d-in-order ks zs i (omega (arith, turns-long lent j acc))))
          ∙ sym (take-suc (in_order ks zs) i [] (omega (arith, length-in-order ks zs, turns-long lent j acc)))

  -- "the net gets the one": the plan is settled
  pub in-turn-once : (ys zs : List (List ℕ)) → InTurn j ys → InTurn j zs → ys ≡ zs
  in-turn-once ys zs a b =
      ext_get_or [] ys zs (a.one_each ∙ sym b.one_each)
      (λ k h. in-order-same ks ys zs whole k (omega (arith, order-once j k, (in-up_from k 0 (net_count j)).1 (omega arith, omega (arith, a.one_each)))))
    where
      whole : in_order ks ys ≡ in_order ks zs
      whole =
          sym (take_all (net_count j) (in_order ks ys) (omega (arith, length-in-order ks ys, turns-long lent j acc)))
          ∙ same-to ys zs a b (net_count j) (omega arith)
          ∙ take_all (net_count j) (in_order ks zs) (omega (arith, length-in-order ks zs, turns-long lent j acc))

  pub plan-settled : (ys : List (List ℕ)) → InTurn j ys → ys ≡ plan j
  plan-settled ys h = in-turn-once ys (plan j) h plan-in-turn
