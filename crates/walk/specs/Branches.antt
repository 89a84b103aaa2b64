-- The marks of the net at hand and the walk's branches: the ways that go on from a tile are its branches, in the same order.
-- Assumes nothing.
use Rattle.std.specs.Prelude.{Bool, true, false, ◌&&◌, not, cond, List, [], ◌∷◌, ◌↔◌, ◌≡◌, refl, ℕ, zero, suc, ◌+◌, ◌-◌, ◌*◌, ◌<◌, T, eqb, length, get_or}
use Rattle.std.proofs.Common.{sym, ap, ap₂, ◌∙◌, subst, arith, ne_eqb}
use Rattle.std.proofs.lemmas.Bool.{eqb-false}
use Rattle.layout.specs.Shapes.{Shaped, WayRoom, way_of}
use Rattle.layout.specs.declared.shape.Shape.{Shape}
use Rattle.layout.specs.declared.Way.{Way}
use Rattle.marks.specs.Words.{bit_of}
use Rattle.model.specs.Lists.{In, has, keep}
use Rattle.theory.specs.congestion.Sums.{in_head, in_tail}
use Rattle.theory.specs.congestion.Base.{in-up_from}
use Rattle.theory.specs.congestion.Tests.{test-eq, and_both, both-and, not-false, has_in}
use Rattle.theory.specs.walk.Stops.{branch?, branches, branch-test, far}
use Rattle.net.specs.Ways.{way-is, way-room}
use Rattle.theory.specs.walk.Ways.{lo, hi, near, way?, way_edge, ways_by, way-leads}
use Rattle.walk.specs.Steps.{goes, onward, four_ways}

-- edges of a tile, and the tiles that they lead to
abbrev pub leads : (lo hi : ℕ → ℕ) → ℕ → List ℕ → List Way
leads lo hi x [] = []
leads lo hi x (e ∷ es) = record { tile = far lo hi x e; edge = e } ∷ leads lo hi x es

pub leads-long : (lo hi : ℕ → ℕ) (x : ℕ) (es : List ℕ) → length (leads lo hi x es) ≡ length es
leads-long lo hi x [] = refl
leads-long lo hi x (e ∷ es) = ap suc (leads-long lo hi x es)

pub leads-at : (lo hi : ℕ → ℕ) (x : ℕ) (es : List ℕ) (y : Way) (k : ℕ) → k < length es
    → get_or (leads lo hi x es) k y ≡ record { tile = far lo hi x (get_or es k 0); edge = get_or es k 0 }
leads-at lo hi x [] y k h = absurd (omega arith)
leads-at lo hi x (e ∷ es) y zero h = refl
leads-at lo hi x (e ∷ es) y (suc k) h = leads-at lo hi x es y k (omega arith)

module _ (g : Shape) (shaped : Shaped g) where
  abbrev W : ℕ
  W = g.w

  abbrev H : ℕ
  H = g.h

  module _ (x : ℕ) (inside : x < g.t) where
    in-grid : x < W * H
    in-grid = omega (arith, shaped.t_is)

    -- what the marks m of the tile say of the net's edges es
    module _ (m : ℕ) (es : List ℕ) (marks : (d : ℕ) → d < 4 → bit_of m (8 + d) ≡ (way? g.w g.h x d && has es (way_edge g.w g.h x d))) where
      pub used-room : (d : ℕ) → d < 4 → bit_of m (8 + d) ≡ true → WayRoom g x d
      used-room d h e = way-room g shaped x inside d h (and_both (way? W H x d) (has es (way_edge W H x d)) (subst T (sym (sym (marks d h) ∙ e)) tt)).0

      -- a is the edge above the tile, as `up` says it
      module _ (a up : ℕ) (back : (e : ℕ) → In e es → (e ≡ a) ↔ (suc e ≡ up)) where
        goes-is : (d : ℕ) → d < 4 → way? g.w g.h x d ≡ true → goes g x m a d ≡ branch? es up (way_edge g.w g.h x d)
        goes-is d h w = test-eq (goes g x m a d) (branch? es up (way_edge W H x d)) there here
          where
            bit : bit_of m (8 + d) ≡ has es (way_edge W H x d)
            bit = marks d h ∙ ap (λ (q : Bool). q && has es (way_edge W H x d)) w

            edge-is : (way_of g x d).edge ≡ way_edge W H x d
            edge-is = ap (λ (y : Way). y.edge) (way-is g shaped x d)

            there : T (goes g x m a d) → T (branch? es up (way_edge W H x d))
            there t =
                let b = and_both (bit_of m (8 + d)) (not (eqb (way_of g x d).edge a)) t in
                let i = (has_in es (way_edge W H x d)).0 (subst T bit b.0) in
                (branch-test es up (way_edge W H x d)).1 (i, λ p. eqb-false (way_of g x d).edge a (not-false (eqb (way_of g x d).edge a) b.1) (edge-is ∙ (back (way_edge W H x d) i).1 p))

            here : T (branch? es up (way_edge W H x d)) → T (goes g x m a d)
            here t =
                let b = (branch-test es up (way_edge W H x d)).0 t in
                both-and (bit_of m (8 + d)) (not (eqb (way_of g x d).edge a)) (subst T (sym bit) ((has_in es (way_edge W H x d)).1 b.0))
                (rw (ne_eqb (way_of g x d).edge a (λ p. b.1 ((back (way_edge W H x d) b.0).0 (sym edge-is ∙ p)))) tt)

        unused : (d : ℕ) → d < 4 → way? g.w g.h x d ≡ false → goes g x m a d ≡ false
        unused d h w =
            ap (λ (q : Bool). q && not (eqb (way_of g x d).edge a)) (marks d h ∙ ap (λ (q : Bool). q && has es (way_edge W H x d)) w)

        onward-is : (ds : List ℕ) → ((d : ℕ) → In d ds → d < 4)
            → onward g x m a ds ≡ leads (lo g.w g.h) (hi g.w g.h) x (keep (branch? es up) (ways_by (g.w - 1) g.w g.h x ds))
        onward-is [] l = refl
        onward-is (d ∷ ds) l = go (onward-is ds (λ c i. l c (in_tail c d ds i))) (way? W H x d) refl
          where
            h : d < 4
            h = l d (in_head d ds)

            go : onward g x m a ds ≡ leads (lo W H) (hi W H) x (keep (branch? es up) (ways_by (g.w - 1) W H x ds)) → (q : Bool) → way? W H x d ≡ q
                → onward g x m a (d ∷ ds) ≡ leads (lo W H) (hi W H) x (keep (branch? es up) (ways_by (g.w - 1) W H x (d ∷ ds)))
            go ih false w = rw (unused d h w, w) ih
            go ih true w = rw (goes-is d h w, w) (one (branch? es up (way_edge W H x d)))
              where
                way : way_of g x d ≡ record { tile = far (lo W H) (hi W H) x (way_edge W H x d); edge = way_edge W H x d }
                way =
                    way-is g shaped x d
                    ∙ ap {B = Way} (λ (y : ℕ). record { tile = y; edge = way_edge W H x d })
                    (sym (way-leads W H shaped.w_least shaped.h_least x d in-grid (subst T (sym w) tt)).2)

                one : (q : Bool) → cond q (way_of g x d ∷ onward g x m a ds) (onward g x m a ds)
                    ≡ leads (lo W H) (hi W H) x (cond q (way_edge W H x d ∷ keep (branch? es up) (ways_by (g.w - 1) W H x ds)) (keep (branch? es up) (ways_by (g.w - 1) W H x ds)))
                one true = ap₂ {C = List Way} (λ y ys. y ∷ ys) way ih
                one false = ih

        -- the ways that go on from a tile are the branches of its stop
        pub branches-are : onward g x m a four_ways ≡ leads (lo g.w g.h) (hi g.w g.h) x (branches (near g.w g.h) es (record { tile = x; above = up }))
        branches-are = onward-is four_ways (λ d i. ((in-up_from d 0 4).0 i).1)
