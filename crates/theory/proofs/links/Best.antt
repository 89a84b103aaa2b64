-- The definitions' choice is what a net takes: of all choices of least cost the one whose layers, read in walk order, come first in dictionary order.
-- Assumes nothing.
use Rattle.std.specs.Prelude.{ℕ, ◌≤◌, List}
use Rattle.std.proofs.Common.{sym}
use Rattle.std.proofs.Math.Path.{subst}
use Rattle.model.specs.Layering.{IsChoice}
use Rattle.model.specs.Job.{Net, Job}
use Rattle.model.specs.Walk.{walk}
use Rattle.model.specs.Plan.{placed, legal, best}
use Rattle.theory.specs.congestion.Dictionary.{Rising}
use Rattle.theory.specs.links.Best.{cost_by, cheapest_in_walk, cheapest, Takes, walk-takes, cheapest-first, LegalFor, Gets, legal-rising, best-is, legal-choice}
use Rattle.theory.specs.links.Nets.{NetOk}

module _ (j : Job) (wide : 1 ≤ j.width) (high : 1 ≤ j.height) (n : Net) (ok : NetOk j.width j.height j.layers n) where
  module _ (layers : ℕ → List ℕ) (P : ℕ → ℕ) (rising : (e : ℕ) → Rising (layers e)) (zs : List ℕ) (some : IsChoice layers n.edges zs) where
    -- the cheapest is the first of least cost, if there is any choice
    pub cheapest-takes : Takes j layers P n (cheapest layers P j n)
    cheapest-takes =
        walk-takes j wide high n ok layers P (cost_by P j n.pins (walk j n) (cheapest_in_walk layers P j n)) (cheapest_in_walk layers P j n)
        (cheapest-first j wide high n ok layers P rising zs some)

module _ (j : Job) (wide : 1 ≤ j.width) (high : 1 ≤ j.height) (n : Net) (ok : NetOk j.width j.height j.layers n) (plan : List (List ℕ)) (zs : List ℕ)
    (some : LegalFor j (placed j plan) n zs) where
  -- so the definitions' choice is what the net gets
  pub best-gets : Gets j (placed j plan) n (best j plan n)
  unfolding legal
  best-gets =
      subst (Gets j (placed j plan) n) (sym (best-is j plan n))
      (cheapest-takes j wide high n ok (legal j plan) (λ l. l) (legal-rising j plan) zs (legal-choice j plan n zs some))
