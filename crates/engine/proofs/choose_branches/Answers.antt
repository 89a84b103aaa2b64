-- `choose_branches` meets its contract: each of its four ways asks for the same, with the numbers of branches and layers under names of its own.
-- Assumes nothing.
use mathlib.Core.Path.{◌≡◌, refl}
use mathlib.Core.List.{List}
use Prim.Native.Nat.{ℕ, ◌+◌, ◌*◌, ◌≤◌, ◌<◌}
use native.Mathlib.Omega.{arith}
use lib.ListN.{length}
use lib.Seq.{sets}
use Rattle.theory.specs.engine.Loops.{comb}
use Rattle.engine.specs.Layers.{Attained, FirstCombination, FirstWritten}
use Rattle.engine.proofs.Layers.{attained-at, layers-found, written_at}
use Rattle.engine.proofs.choose_branches.Goals as goal
use Rattle.engine.proofs.choose_branches.Goals.{Start}

module _ (s : Start) (k K : ℕ) (k-is : s.args.k ≡ k) (K-is : s.args.layers ≡ K) where
  abbrev w : List ℕ
  w = s.args.w.now

  abbrev m : ℕ
  m = s.args.m

  abbrev first : ℕ
  first = s.args.t.first

  abbrev base : ℕ
  base = s.args.t.base

  abbrev aim : ℕ
  aim = s.args.t.goal

  -- what the search asks
  search-asks : (k ≤ 3) × ((base < 256) × (((1 ≤ K) × (K ≤ 8)) × (((first ≤ 65536) × (4 * m ≤ 16777216)) × ((4 * m + 8 * (first + k) ≤ length w) × Attained w (4 * m) first k K base aim))))
  search-asks =
      let attained = attained-at w (4 * m) first s.args.k k s.args.layers K base aim k-is K-is s.requires.attained in
      (omega arith, (omega arith, ((omega arith, omega arith), ((omega arith, omega arith), (omega arith, attained)))))

  module _ (a b c : ℕ) (found : FirstCombination w (4 * m) first k K base aim a b c) where
    -- what the writing asks of the combination that is found
    put-asks : (k ≤ 3) × (((a ≤ 8) × (b ≤ 8) × (c ≤ 8)) × ((3 * m + first ≤ 16777216) × (3 * m + first + k ≤ length w)))
    put-asks = (omega arith, (layers-found w (4 * m) first k K base aim a b c (omega arith) (omega arith) found, (omega arith, omega arith)))

    -- and what it leaves
    written : (u : List ℕ) → u ≡ sets w (3 * m + first) (comb k a b c) → FirstWritten w u m first s.args.k s.args.layers base aim
    written u e = written_at w u m first s.args.k k s.args.layers K base aim a b c k-is K-is found e

pub first_combination-l-requires : goal.first_combination-l-requires
first_combination-l-requires c =
    let r = search-asks (goal.at.first_combination-l-requires c).Start 1 8 (omega arith) (omega arith) in record { k_bound = r.0; base_bound = r.1.0; le_layers = r.1.1.0; first_bound = r.1.1.1.0; k_in_bounds = r.1.1.1.1.0; attained = r.1.1.1.1.1 }

pub put_layers-requires : goal.put_layers-requires
put_layers-requires c =
    let r = put-asks (goal.at.put_layers-requires c).Start 1 8 (omega arith) (omega arith) c.first_combination-l.result.a c.first_combination-l.result.b c.first_combination-l.result.c c.first_combination-l.ensures in record { k_bound = r.0; a_bound = r.1.0; at_bound = r.1.1.0; k_in_bounds = r.1.1.1 }

pub returns-then-k-eq1 : goal.returns-then-k-eq1
returns-then-k-eq1 c =
    written (goal.at.returns-then-k-eq1 c).Start 1 8 (omega arith) (omega arith) c.first_combination-l.result.a c.first_combination-l.result.b c.first_combination-l.result.c c.first_combination-l.ensures c.put_layers.new.w c.put_layers.ensures

pub first_combination-l-requires-then-k-eq2 : goal.first_combination-l-requires-then-k-eq2
first_combination-l-requires-then-k-eq2 c =
    let r = search-asks (goal.at.first_combination-l-requires-then-k-eq2 c).Start 2 8 (omega arith) (omega arith) in record { k_bound = r.0; base_bound = r.1.0; le_layers = r.1.1.0; first_bound = r.1.1.1.0; k_in_bounds = r.1.1.1.1.0; attained = r.1.1.1.1.1 }

pub put_layers-requires-then-k-eq2 : goal.put_layers-requires-then-k-eq2
put_layers-requires-then-k-eq2 c =
    let r = put-asks (goal.at.put_layers-requires-then-k-eq2 c).Start 2 8 (omega arith) (omega arith) c.first_combination-l-then-k-eq2.result.a c.first_combination-l-then-k-eq2.result.b c.first_combination-l-then-k-eq2.result.c c.first_combination-l-then-k-eq2.ensures in record { k_bound = r.0; a_bound = r.1.0; at_bound = r.1.1.0; k_in_bounds = r.1.1.1 }

pub returns-then-k-eq2 : goal.returns-then-k-eq2
returns-then-k-eq2 c =
    written (goal.at.returns-then-k-eq2 c).Start 2 8 (omega arith) (omega arith) c.first_combination-l-then-k-eq2.result.a c.first_combination-l-then-k-eq2.result.b c.first_combination-l-then-k-eq2.result.c c.first_combination-l-then-k-eq2.ensures c.put_layers-then-k-eq2.new.w c.put_layers-then-k-eq2.ensures

pub first_combination-l-requires-then-k-eq3 : goal.first_combination-l-requires-then-k-eq3
first_combination-l-requires-then-k-eq3 c =
    let r = search-asks (goal.at.first_combination-l-requires-then-k-eq3 c).Start 3 8 (omega arith) (omega arith) in record { k_bound = r.0; base_bound = r.1.0; le_layers = r.1.1.0; first_bound = r.1.1.1.0; k_in_bounds = r.1.1.1.1.0; attained = r.1.1.1.1.1 }

pub put_layers-requires-then-k-eq3 : goal.put_layers-requires-then-k-eq3
put_layers-requires-then-k-eq3 c =
    let r = put-asks (goal.at.put_layers-requires-then-k-eq3 c).Start 3 8 (omega arith) (omega arith) c.first_combination-l-then-k-eq3.result.a c.first_combination-l-then-k-eq3.result.b c.first_combination-l-then-k-eq3.result.c c.first_combination-l-then-k-eq3.ensures in record { k_bound = r.0; a_bound = r.1.0; at_bound = r.1.1.0; k_in_bounds = r.1.1.1 }

pub returns-then-k-eq3 : goal.returns-then-k-eq3
returns-then-k-eq3 c =
    written (goal.at.returns-then-k-eq3 c).Start 3 8 (omega arith) (omega arith) c.first_combination-l-then-k-eq3.result.a c.first_combination-l-then-k-eq3.result.b c.first_combination-l-then-k-eq3.result.c c.first_combination-l-then-k-eq3.ensures c.put_layers-then-k-eq3.new.w c.put_layers-then-k-eq3.ensures

pub first_combination-l-requires-2 : goal.first_combination-l-requires-2
first_combination-l-requires-2 c =
    let r = search-asks (goal.at.first_combination-l-requires-2 c).Start c.args.k c.args.layers refl refl in record { k_bound = r.0; base_bound = r.1.0; le_layers = r.1.1.0; first_bound = r.1.1.1.0; k_in_bounds = r.1.1.1.1.0; attained = r.1.1.1.1.1 }

pub put_layers-requires-2 : goal.put_layers-requires-2
put_layers-requires-2 c =
    let r = put-asks (goal.at.put_layers-requires-2 c).Start c.args.k c.args.layers refl refl c.first_combination-l-2.result.a c.first_combination-l-2.result.b c.first_combination-l-2.result.c c.first_combination-l-2.ensures in record { k_bound = r.0; a_bound = r.1.0; at_bound = r.1.1.0; k_in_bounds = r.1.1.1 }

pub returns : goal.returns
returns c =
    written (goal.at.returns c).Start c.args.k c.args.layers refl refl c.first_combination-l-2.result.a c.first_combination-l-2.result.b c.first_combination-l-2.result.c c.first_combination-l-2.ensures c.put_layers-2.new.w c.put_layers-2.ensures
