-- "The placing is untouched": scores, order, plan and all printed lines but `ldof` are those of the job without its `low` lines.
-- Assumes nothing.
use Rattle.std.specs.Prelude.{◌≡◌, refl, Bool, true, false, cond, ℕ, zero, suc, ◌+◌, ◌-◌, length, get_or, set, replicate}
use Rattle.std.proofs.Common.{◌∙◌}
use Rattle.std.proofs.Math.Path.{ap, ap₂}
use mathlib.Core.List.{List, [], ◌∷◌, ◌++◌, map, append-nil}
use Rattle.std.proofs.Math.Option.{none}
use Rattle.std.proofs.lemmas.List.{length-map}
use Rattle.model.specs.Choices.{choices, least_of}
use Rattle.model.specs.Directives.{ldof, given}
use Rattle.model.specs.Grid.{Way}
use Rattle.model.specs.Job.{Pin, Net, Job, net_count, tile_count, edge_count, ends, group, layers_in, layers_of, edges_in, all_edges, capacity, no_net, net_of, net_edges}
use Rattle.model.specs.Legal.{is_legal}
use Rattle.model.specs.Lists.{up_from, sum, most, keep, any}
use Rattle.model.specs.Overflow.{over, demand, flat_capacity, ceil_div, load, total_overflow, max_overflow}
use Rattle.model.specs.Plan.{legal, layer_of, best, plan_from, plan, answered, net_vias}
use Rattle.model.specs.Print.{print_line, print_nets, plan_lines, printed}
use Rattle.model.specs.Score.{length_term, pin_term, density_term, different_tiles, score, Entry, goes_first, insert_entry, sorted, scored, order}
use Rattle.model.specs.Vias.{span, pin_layers, meets, edge_layers, vias}
use Rattle.model.specs.Walk.{end_tiles, net_tiles, lowest, branches, walk_from, walk}

-- a net without its line `low`
abbrev pub unmark : Net → Net
unmark n = record { low = none; pins = n.pins; entries = n.entries; edges = n.edges }

abbrev pub unmarked : Job → Job
unmarked j = record {
  width = j.width;
  height = j.height;
  layers = j.layers;
  dirs = j.dirs;
  alpha = j.alpha;
  beta = j.beta;
  gamma = j.gamma;
  capacities = j.capacities;
  nets = map unmark j.nets;
}

-- the entry of such a net
abbrev pub plain_entry : Entry → Entry
plain_entry t = record { net = t.net; low = 1; score = t.score }

-- ---- the terms of the plan

edges-map : (ns : List Net) → map (λ n. n.edges) (map unmark ns) ≡ map (λ n. n.edges) ns
edges-map [] = refl
edges-map (n ∷ ns) = ap {B = List (List ℕ)} (λ r. n.edges ∷ r) (edges-map ns)

net-map : (ns : List Net) (k : ℕ) → get_or (map unmark ns) k no_net ≡ unmark (get_or ns k no_net)
net-map [] k = refl
net-map (n ∷ ns) zero = refl
net-map (n ∷ ns) (suc k) = net-map ns k

-- what goes along edges and tiles does not see the nets of the job
ends-unmarked : (j : Job) (es : List ℕ) → end_tiles (unmarked j) es ≡ end_tiles j es
ends-unmarked j [] = refl
ends-unmarked j (e ∷ es) = ap {B = List ℕ} (λ r. (ends j e).one ∷ (ends j e).other ∷ r) (ends-unmarked j es)

steps-unmarked : (j : Job) (es : List ℕ) (steps : ℕ) (waiting : List Way) → walk_from (unmarked j) es steps waiting ≡ walk_from j es steps waiting
steps-unmarked j es zero waiting = refl
steps-unmarked j es (suc steps) [] = refl
steps-unmarked j es (suc steps) (w ∷ waiting) =
    let bs = branches j es w in ap (λ (r : List ℕ). map (λ b. b.edge) bs ++ r) (steps-unmarked j es steps (waiting ++ bs))

walk-unmarked : (j : Job) (n : Net) → walk (unmarked j) (unmark n) ≡ walk j n
unfolding walk
walk-unmarked j n =
    ap (λ (ts : List ℕ). walk_from (unmarked j) n.edges (suc (length n.edges)) (record { edge = edge_count j; to = lowest (map (λ p. p.tile) n.pins ++ ts) } ∷ []))
    (ends-unmarked j n.edges)
    ∙ steps-unmarked j n.edges (suc (length n.edges)) (record { edge = edge_count j; to = lowest (net_tiles j n) } ∷ [])

layers-unmarked : (j : Job) (t : ℕ) (es ys : List ℕ) → edge_layers (unmarked j) t es ys ≡ edge_layers j t es ys
layers-unmarked j t [] ys = refl
layers-unmarked j t (e ∷ es) [] = refl
layers-unmarked j t (e ∷ es) (y ∷ ys) = ap (λ (r : List ℕ). cond (meets (ends j e) t) (y ∷ r) r) (layers-unmarked j t es ys)

cost-unmarked : (j : Job) (ps : List Pin) (es ys : List ℕ) → vias (unmarked j) ps es ys ≡ vias j ps es ys
unfolding vias
cost-unmarked j ps es ys = λ i. sum (λ t. span (pin_layers t ps ++ layers-unmarked j t es ys i)) (up_from 0 (tile_count j))

module _ (j : Job) where
  pub edges-unmarked : net_edges (unmarked j) ≡ net_edges j
  edges-unmarked = edges-map j.nets

  pub score-unmarked : (n : Net) → score (unmarked j) (unmark n) ≡ score j n
  unfolding score
  score-unmarked n =
      ap (λ (ns : List (List ℕ)).
      length_term j.alpha (length n.edges)
      + pin_term j.beta (different_tiles n.pins)
      + density_term j.gamma (sum (λ e. demand e ns) n.edges) (sum (flat_capacity j) n.edges)) edges-unmarked

  legal-unmarked : (ys : List (List ℕ)) (e : ℕ) → legal (unmarked j) ys e ≡ legal j ys e
  unfolding legal
  legal-unmarked ys e =
      ap (λ (ns : List (List ℕ)).
      keep (is_legal (layers_of j e) (capacity j e) (λ l. load e l ns ys)
      (ceil_div (most (λ x. over (flat_capacity j x) (demand x ns)) (edges_in j (group j e))) (length (layers_in j (group j e))))
      (over (flat_capacity j e) (demand e ns))) (layers_of j e)) edges-unmarked

  best-unmarked : (ys : List (List ℕ)) (n : Net) → best (unmarked j) ys (unmark n) ≡ best j ys n
  unfolding best
  best-unmarked ys n = λ i.
      let w = walk-unmarked j n i in
      map (layer_of w (least_of (λ zs. cost-unmarked j n.pins w zs i) (choices (λ e. legal-unmarked ys e i) w))) n.edges

-- ---- the order

insert-plain : (a : Entry) (bs : List Entry) → insert_entry (plain_entry a) (map plain_entry bs) ≡ map plain_entry (insert_entry a bs)
insert-plain a [] = refl
insert-plain a (b ∷ bs) = go (goes_first a b) (insert-plain a bs)
  where
    go : (q : Bool) → insert_entry (plain_entry a) (map plain_entry bs) ≡ map plain_entry (insert_entry a bs)
        → cond q (plain_entry a ∷ plain_entry b ∷ map plain_entry bs) (plain_entry b ∷ insert_entry (plain_entry a) (map plain_entry bs))
        ≡ map plain_entry (cond q (a ∷ b ∷ bs) (b ∷ insert_entry a bs))
    go true ih = refl
    go false ih = ap {B = List Entry} (λ r. plain_entry b ∷ r) ih

sorted-plain : (es : List Entry) → sorted (map plain_entry es) ≡ map plain_entry (sorted es)
sorted-plain [] = refl
sorted-plain (e ∷ es) = ap (insert_entry (plain_entry e)) (sorted-plain es) ∙ insert-plain e (sorted es)

scored-plain : (j : Job) (i : ℕ) (ns : List Net) → scored (unmarked j) i (map unmark ns) ≡ map plain_entry (scored j i ns)
scored-plain j i [] = refl
scored-plain j i (n ∷ ns) =
    ap₂ {C = List Entry} (λ (s : ℕ) (r : List Entry). record { net = i; low = 1; score = s } ∷ r) (score-unmarked j n) (scored-plain j (suc i) ns)

-- the order list has the same nets and scores in the same order
pub order-unmarked : (j : Job) → order (unmarked j) ≡ map plain_entry (order j)
unfolding order
order-unmarked j = ap sorted (scored-plain j 1 j.nets) ∙ sorted-plain (scored j 1 j.nets)

-- ---- the plan

module _ (j : Job) where
  turn-unmarked : (ys : List (List ℕ)) (n : ℕ) → best (unmarked j) ys (net_of (unmarked j) n) ≡ best j ys (net_of j n)
  turn-unmarked ys n = ap (best (unmarked j) ys) (net-map j.nets (n - 1)) ∙ best-unmarked j ys (net_of j n)

  from-unmarked : (ys : List (List ℕ)) (ts : List Entry) → plan_from (unmarked j) ys (map plain_entry ts) ≡ plan_from j ys ts
  from-unmarked ys [] = refl
  from-unmarked ys (t ∷ ts) =
      ap (λ (zs : List ℕ). plan_from (unmarked j) (set ys (t.net - 1) zs) (map plain_entry ts)) (turn-unmarked ys t.net)
      ∙ from-unmarked (set ys (t.net - 1) (best j ys (net_of j t.net))) ts

  pub plan-unmarked : plan (unmarked j) ≡ plan j
  unfolding plan
  plan-unmarked =
      ap₂ (λ (N : ℕ) (ts : List Entry). plan_from (unmarked j) (replicate N []) ts) (length-map j.nets unmark) (order-unmarked j)
      ∙ from-unmarked (replicate (net_count j) []) (order j)

-- ---- the print

vias-unmarked : (j : Job) (ns : List Net) (ys : List (List ℕ)) → net_vias (unmarked j) (map unmark ns) ys ≡ net_vias j ns ys
vias-unmarked j [] ys = refl
vias-unmarked j (n ∷ ns) [] = refl
vias-unmarked j (n ∷ ns) (y ∷ ys) = ap₂ {C = List ℕ} (λ (v : ℕ) (r : List ℕ). v ∷ r) (cost-unmarked j n.pins n.edges y) (vias-unmarked j ns ys)

turns-unmarked : (es : List Entry) → map (λ t. t.net) (map plain_entry es) ≡ map (λ t. t.net) es
turns-unmarked [] = refl
turns-unmarked (e ∷ es) = ap {B = List ℕ} (λ r. e.net ∷ r) (turns-unmarked es)

none-given : (ns : List Net) → any (λ n. given n.low) (map unmark ns) ≡ false
none-given [] = refl
none-given (n ∷ ns) = none-given ns

module _ (j : Job) (es : List Entry) (ys : List (List ℕ)) where
  total-unmarked : total_overflow (unmarked j) ys ≡ total_overflow j ys
  total-unmarked =
      ap (λ (ns : List (List ℕ)). sum (λ e. sum (λ l. over (capacity j e l) (load e l ns ys)) (layers_of j e)) (all_edges j)) (edges-unmarked j)

  maximum-unmarked : max_overflow (unmarked j) ys ≡ max_overflow j ys
  maximum-unmarked =
      ap (λ (ns : List (List ℕ)). most (λ e. most (λ l. over (capacity j e l) (load e l ns ys)) (layers_of j e)) (all_edges j)) (edges-unmarked j)

  answered-unmarked : (ns : List Net) (zs : List (List ℕ)) → answered (map unmark ns) zs ≡ answered ns zs
  answered-unmarked [] zs = refl
  answered-unmarked (n ∷ ns) [] = refl
  answered-unmarked (n ∷ ns) (z ∷ zs) = ap {B = List (List ℕ)} (λ r. map (layer_of n.edges z) n.entries ∷ r) (answered-unmarked ns zs)

  lines-unmarked : plan_lines (unmarked j) (map plain_entry es) ys ≡ plan_lines j es ys
  lines-unmarked = λ i.
      print_line "order" (turns-unmarked es i)
      ++ print_nets 1 (vias-unmarked j j.nets ys i) (answered-unmarked j.nets ys i)
      ++ print_line "total_vias" (sum (λ v. v) (vias-unmarked j j.nets ys i) ∷ [])
      ++ print_line "total_overflow" (total-unmarked i ∷ [])
      ++ print_line "max_overflow" (maximum-unmarked i ∷ [])

-- what is printed of a job without its `low` lines is what is printed of it, but for the line `ldof`
pub printed-unmarked : (j : Job) → printed (unmarked j) (order (unmarked j)) (plan (unmarked j)) ≡ plan_lines j (order j) (plan j)
unfolding printed
printed-unmarked j =
    (λ i. plan_lines (unmarked j) (order-unmarked j i) (plan-unmarked j i) ++ cond (none-given j.nets i) (print_line "ldof" (ldof (unmarked j) ∷ [])) [])
    ∙ append-nil (plan_lines (unmarked j) (map plain_entry (order j)) (plan j))
    ∙ lines-unmarked j (order j) (plan j)
