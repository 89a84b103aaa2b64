-- The layers of a net's entries where only some are kept: "Dropped edges get layer 0 in list and print." The plan is found in them again.
-- Assumes nothing.
use Rattle.std.specs.Prelude.{◌≡◌, refl, List, [], ◌∷◌, ◌++◌, map, Bool, cond, ℕ, suc, ◌≤◌, length}
use Rattle.std.proofs.Common.{ap, ap₂, ◌∙◌, append_assoc, arith, length-append, take_at, drop_at}
use Rattle.std.proofs.lemmas.List.{length-map}
use Rattle.model.specs.Calls.{stretches}
use Rattle.model.specs.Cut.{cut}
use Rattle.model.specs.Demand3.{cut_by, kept_of}
use Rattle.model.specs.Job.{Net, lengths}
use Rattle.model.specs.Layering.{IsLayering}
use Rattle.model.specs.Plan.{layer_of, answered}
use Rattle.theory.specs.congestion.Sums.{same, occurs, In, same_refl, eqb-false, in_head, in_tail}
use Rattle.theory.specs.cutting.Subsets.{PartOf}
use Rattle.theory.specs.engine.Stages.{choice-length}
use Rattle.theory.specs.links.Best.{map-layer, layer-map}
use Rattle.theory.specs.links.Cut.{cut-part}
use Rattle.theory.specs.links.Nets.{EachNet, NetOk}

-- ---- one net: its entries es, its edges ks, and the layers ys of these

-- an edge that is not kept gets layer 0
pub layer-none : (ks ys : List ℕ) (e : ℕ) → occurs e ks ≡ 0 → layer_of ks ys e ≡ 0
layer-none [] ys e h = refl
layer-none (k ∷ ks) [] e h = refl
layer-none (k ∷ ks) (y ∷ ys) e h =
    ap (λ (q : Bool). cond q y (layer_of ks ys e)) (eqb-false k e (λ p. omega (arith, h, same_refl e, ap (same e) p)))
    ∙ layer-none ks ys e (omega arith)

-- the kept edges have their own layers again
pub kept_again : (es ks ys : List ℕ) → PartOf ks es → ((a : ℕ) → occurs a ks ≤ 1) → length ys ≡ length ks → map (layer_of es (map (layer_of ks ys) es)) ks ≡ ys
kept_again es ks ys part once long = go ks (λ a i. layer-map (layer_of ks ys) es a (omega (arith, i, part a))) ∙ map-layer ks ys once long
  where
    go : (xs : List ℕ) → ((a : ℕ) → In a xs → layer_of es (map (layer_of ks ys) es) a ≡ layer_of ks ys a) → map (layer_of es (map (layer_of ks ys) es)) xs ≡ map (layer_of ks ys) xs
    go [] h = refl
    go (x ∷ xs) h = ap₂ {C = List ℕ} (λ a r. a ∷ r) (h x (in_head x xs)) (go xs (λ a i. h a (in_tail a x xs i)))

-- ---- all nets

-- the edges of a net are a part of its entries
pub edges-part : (W H K : ℕ) (n : Net) → NetOk W H K n → PartOf n.edges n.entries
edges-part W H K n ok a =
    let e : occurs a n.edges ≡ occurs a (cut W H n.pins n.entries) = ap (occurs a) ok.cut_is in
    omega (arith, e, cut-part W H n.pins n.entries a)

-- each net's own stretch
pub cut-answered : (ns : List Net) (ys : List (List ℕ)) (rest : List ℕ) → length ys ≡ length ns
    → cut_by (map (λ n. n.entries) ns) (stretches (answered ns ys) ++ rest) ≡ answered ns ys
cut-answered [] ys rest h = refl
cut-answered (n ∷ ns) [] rest h = absurd (omega arith)
cut-answered (n ∷ ns) (y ∷ ys) rest h =
    ap (cut_by (map (λ m. m.entries) (n ∷ ns))) (append_assoc here (stretches (answered ns ys)) rest)
    ∙ ap₂ {C = List (List ℕ)} (λ a r. a ∷ r)
    (take_at here (stretches (answered ns ys) ++ rest) (length n.entries) long)
    (ap (cut_by (map (λ m. m.entries) ns)) (drop_at here (stretches (answered ns ys) ++ rest) (length n.entries) long) ∙ cut-answered ns ys rest (omega arith))
  where
    here : List ℕ
    here = map (layer_of n.edges y) n.entries

    long : length here ≡ length n.entries
    long = length-map n.entries (layer_of n.edges y)

-- "An answer list of A bytes"
pub answered-long : (ns : List Net) (ys : List (List ℕ)) → length ys ≡ length ns → length (stretches (answered ns ys)) ≡ lengths (map (λ n. n.entries) ns)
answered-long [] ys h = refl
answered-long (n ∷ ns) [] h = absurd (omega arith)
answered-long (n ∷ ns) (y ∷ ys) h =
    omega (
      arith,
      length-append (map (layer_of n.edges y) n.entries) (stretches (answered ns ys)),
      length-map n.entries (layer_of n.edges y),
      answered-long ns ys (omega arith),
    )

-- the layers of the kept edges are the plan
pub kept-plan : (W H K : ℕ) (layers : ℕ → List ℕ) (ns : List Net) (ys : List (List ℕ)) → EachNet (NetOk W H K) ns → IsLayering layers (map (λ n. n.edges) ns) ys
    → kept_of ns (answered ns ys) ≡ ys
kept-plan W H K layers [] [] h g = refl
kept-plan W H K layers [] (y ∷ ys) h g = absurd g
kept-plan W H K layers (n ∷ ns) [] h g = absurd g
kept-plan W H K layers (n ∷ ns) (y ∷ ys) h g =
    ap₂ {C = List (List ℕ)} (λ a r. a ∷ r)
    (kept_again n.entries n.edges y (edges-part W H K n h.0) h.0.once (choice-length layers n.edges y g.0))
    (kept-plan W H K layers ns ys h.1 g.1)

-- a layering has a choice for each net
pub layering-long : (layers : ℕ → List ℕ) (ns : List Net) (ys : List (List ℕ)) → IsLayering layers (map (λ n. n.edges) ns) ys → length ys ≡ length ns
layering-long layers [] [] g = refl
layering-long layers [] (y ∷ ys) g = absurd g
layering-long layers (n ∷ ns) [] g = absurd g
layering-long layers (n ∷ ns) (y ∷ ys) g = ap suc (layering-long layers ns ys g.1)
