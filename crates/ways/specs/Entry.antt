-- An entry of an `edges` line inside the grid: the number of its edge, the tile where it starts and the tile where it ends.
-- Assumes nothing.
use Rattle.std.specs.Prelude.{Bool, true, false, ◌&&◌, ◌≡◌, refl, ℕ, zero, suc, ◌+◌, ◌-◌, ◌*◌, ◌/◌, ◌%◌, ◌≤◌, ◌<◌, eqb, ltb}
use Rattle.std.proofs.Common.{⊎_elim, sym, ap, ap₂, ◌∙◌, mod-lt, div-lt_iff_lt-mul, zero-mul, arith, ltb-true, lt-ltb, eq-eqb, ne_eqb}
use Rattle.std.proofs.Math.Decide.{ℕ_discrete}
use Rattle.std.proofs.Math.Nat.{div-eq_of_lt-le, div-add-mod}
use Rattle.layout.specs.Shapes.{Shaped, tile-below, way_of}
use Rattle.layout.specs.declared.shape.Shape.{Shape}
use Rattle.layout.specs.declared.Way.{Way}
use Rattle.model.specs.Grid.{tile, east_count, east_edge, north_edge}
use Rattle.model.specs.Read.{Triple, edge_inside, edge_at}
use Rattle.scan.specs.Inside.{false-true}
use Rattle.theory.specs.congestion.Sums.{lt-or-ge}
use Rattle.theory.specs.links.Edges.{lo-is, hi-is}
use Rattle.theory.specs.links.Reach.{lo_of, hi_of}
use Rattle.theory.specs.walk.Ways.{east-ends, north-ends}

-- the tile where an entry's edge starts
abbrev pub start_of : Shape → Triple → ℕ
start_of g t = tile g.w t.x t.y

-- its edge
abbrev pub edge_of : Shape → Triple → ℕ
edge_of g t = edge_at g.w g.h t

-- the row of a tile
pub row_of : (w x y : ℕ) → x < w → (y * w + x) / w ≡ y
row_of w x y h = div-eq_of_lt-le w (omega arith) (omega arith)

pub record Placed (g : Shape) (t : Triple) : Type 0 where
  pub column : t.x < g.w
  pub row : t.y < g.h
  pub known : edge_of g t < g.e
  -- the lower of the two tiles is where it starts, and the way out of it leads to the other
  pub starts : lo_of g.w g.h (edge_of g t) ≡ start_of g t
  pub leads : (way_of g (start_of g t) t.third).tile ≡ hi_of g.w g.h (edge_of g t)
  pub number : (way_of g (start_of g t) t.third).edge ≡ edge_of g t
  pub start_in : start_of g t < g.t
  pub end_in : hi_of g.w g.h (edge_of g t) < g.t
  pub east_side : t.third ≡ 0 → edge_of g t < east_count g.w g.h
  pub north_side : t.third ≡ 1 → east_count g.w g.h ≤ edge_of g t

both : (p q : Bool) → (p && q) ≡ true → (p ≡ true) × (q ≡ true)
both true true e = (refl, refl)
both true false e = absurd (false-true e)
both false q e = absurd (false-true e)

module _ (g : Shape) (shaped : Shaped g) where
  abbrev W : ℕ
  W = g.w

  abbrev H : ℕ
  H = g.h

  wide : 1 ≤ g.w
  wide = shaped.w_least

  high : 1 ≤ g.h
  high = shaped.h_least

  -- a row of W is a row of W − 1 and one
  whole_row : (y : ℕ) → y * g.w ≡ y * (g.w - 1) + y
  whole_row y = let k : g.w ≡ suc (g.w - 1) = omega (arith, wide) in ap (λ (m : ℕ). y * m) k ∙ omega arith

  placed-east : (x y : ℕ) → x + 1 < g.w → y < g.h → Placed g (record { x = x; y = y; third = zero })
  placed-east x y i j =
      let r = east-ends W H wide high x y (omega arith) j in
      let q : (y * g.w + x) / g.w ≡ y = row_of g.w x y (omega arith) in
      let l : lo_of W H (east_edge W x y) ≡ tile W x y = ap (λ (f : ℕ → ℕ). f (east_edge W x y)) (lo-is W H wide) ∙ r.1 in
      let u : hi_of W H (east_edge W x y) ≡ tile W (suc x) y = ap (λ (f : ℕ → ℕ). f (east_edge W x y)) (hi-is W H wide) ∙ r.2 in
      record {
        column = omega arith;
        row = j;
        known = omega (arith, r.0, shaped.e_is);
        starts = l;
        leads = omega (arith, u);
        number = omega (arith, q, whole_row y);
        start_in = omega (arith, tile-below W H x y (omega arith) j, shaped.t_is);
        end_in = omega (arith, u, tile-below W H (suc x) y (omega arith) j, shaped.t_is);
        east_side = λ e. r.0;
        north_side = λ e. absurd (omega arith);
      }

  placed-north : (x y : ℕ) → x < g.w → y + 1 < g.h → Placed g (record { x = x; y = y; third = suc zero })
  placed-north x y i j =
      let r = north-ends W H wide high x y i (omega arith) in
      let l : lo_of W H (north_edge W H x y) ≡ tile W x y = ap (λ (f : ℕ → ℕ). f (north_edge W H x y)) (lo-is W H wide) ∙ r.2 in
      let u : hi_of W H (north_edge W H x y) ≡ tile W x (suc y) = ap (λ (f : ℕ → ℕ). f (north_edge W H x y)) (hi-is W H wide) ∙ r.3 in
      record {
        column = i;
        row = omega arith;
        known = omega (arith, r.1, shaped.e_is);
        starts = l;
        leads = omega (arith, u);
        number = omega (arith, shaped.east_is);
        start_in = omega (arith, tile-below W H x y i (omega arith), shaped.t_is);
        end_in = omega (arith, u, tile-below W H x (suc y) i (omega arith), shaped.t_is);
        east_side = λ e. absurd (omega arith);
        north_side = λ e. r.0;
      }

  placed_at : (x y d : ℕ) → edge_inside g.w g.h (record { x = x; y = y; third = d }) ≡ true → d ≤ 1 → Placed g (record { x = x; y = y; third = d })
  placed_at x y zero e h = let b = both (ltb (x + 1) g.w) (ltb y g.h) e in placed-east x y (ltb-true (x + 1) g.w b.0) (ltb-true y g.h b.1)
  placed_at x y (suc zero) e h = let b = both (ltb x g.w) (ltb (y + 1) g.h) e in placed-north x y (ltb-true x g.w b.0) (ltb-true (y + 1) g.h b.1)
  placed_at x y (suc (suc d)) e h = absurd (omega arith)

  pub placed : (t : Triple) → edge_inside g.w g.h t ≡ true → t.third ≤ 1 → Placed g t
  placed t e h = placed_at t.x t.y t.third e h

  -- two entries name one edge just where they start in one tile and go the same way
  module _ (t u : Triple) (p : Placed g t) (q : Placed g u) (t-way : t.third ≤ 1) (u-way : u.third ≤ 1) where
    one-start : edge_of g t ≡ edge_of g u → start_of g t ≡ start_of g u
    one-start e = sym p.starts ∙ ap (lo_of g.w g.h) e ∙ q.starts

    one_way : edge_of g t ≡ edge_of g u → t.third ≡ u.third
    one_way e = go (ℕ_discrete t.third u.third)
      where
        go : Dec (t.third ≡ u.third) → t.third ≡ u.third
        go (yes k) = k
        go (no k) =
            ⊎_elim
            (λ h. absurd (omega (arith, p.east_side (omega arith), q.north_side (omega arith))))
            (λ h. absurd (k (later h)))
            (lt-or-ge t.third u.third)
          where
            later : u.third ≤ t.third → t.third ≡ u.third
            later h =
                ⊎_elim
                (λ m. absurd (omega (arith, q.east_side (omega arith), p.north_side (omega arith))))
                (λ m. omega arith)
                (lt-or-ge u.third t.third)

    one-edge : start_of g t ≡ start_of g u → t.third ≡ u.third → edge_of g t ≡ edge_of g u
    one-edge e k = sym p.number ∙ ap₂ (λ (s d : ℕ). (way_of g s d).edge) e k ∙ q.number

    pub same-edge : (eqb (start_of g t) (start_of g u) && eqb (8 + t.third) (8 + u.third)) ≡ eqb (edge_of g u) (edge_of g t)
    same-edge = go (ℕ_discrete (edge_of g u) (edge_of g t))
      where
        apart : (edge_of g u ≡ edge_of g t → ⊥) → Dec (start_of g t ≡ start_of g u) → Dec (8 + t.third ≡ 8 + u.third)
            → (eqb (start_of g t) (start_of g u) && eqb (8 + t.third) (8 + u.third)) ≡ false
        apart n (yes e) (yes k) = absurd (n (sym (one-edge e (omega arith))))
        apart n (yes e) (no k) = rw (eq-eqb (start_of g t) (start_of g u) e, ne_eqb (8 + t.third) (8 + u.third) k)
        apart n (no e) k = rw (ne_eqb (start_of g t) (start_of g u) e)

        go : Dec (edge_of g u ≡ edge_of g t) → (eqb (start_of g t) (start_of g u) && eqb (8 + t.third) (8 + u.third)) ≡ eqb (edge_of g u) (edge_of g t)
        go (yes e) =
            rw (
              eq-eqb (edge_of g u) (edge_of g t) e,
              eq-eqb (start_of g t) (start_of g u) (one-start (sym e)),
              eq-eqb (8 + t.third) (8 + u.third) (ap (λ (m : ℕ). 8 + m) (one_way (sym e))),
            )
        go (no n) = apart n (ℕ_discrete (start_of g t) (start_of g u)) (ℕ_discrete (8 + t.third) (8 + u.third)) ∙ sym (ne_eqb (edge_of g u) (edge_of g t) n)

-- the way out of the tile where the edge starts, as code finds it
module _ (g : Shape) (shaped : Shaped g) (t : Triple) (inside : edge_inside g.w g.h t ≡ true) (way : t.third ≤ 1)
    (here : ℕ) (here-is : here ≡ start_of g t) (out : Way) (out-is : out ≡ way_of g here t.third) where
  pub ends_there : out.tile ≡ hi_of g.w g.h (edge_of g t)
  ends_there = ap (λ (k : Way). k.tile) out-is ∙ ap (λ (x : ℕ). (way_of g x t.third).tile) here-is ∙ (placed g shaped t inside way).leads

  pub edge-is : out.edge ≡ edge_of g t
  edge-is = ap (λ (k : Way). k.edge) out-is ∙ ap (λ (x : ℕ). (way_of g x t.third).edge) here-is ∙ (placed g shaped t inside way).number

-- every edge of the grid has an entry
pub record Named (g : Shape) (e : ℕ) : Type 0 where
  pub entry : Triple
  pub inside : edge_inside g.w g.h entry ≡ true
  pub way : entry.third ≤ 1
  pub is : edge_of g entry ≡ e

module _ (g : Shape) (shaped : Shaped g) (e : ℕ) (known : e < g.e) where
  pub named : Named g e
  named = ⊎_elim east north (lt-or-ge e (east_count g.w g.h))
    where
      none : (v : ℕ) → v ≡ 0 → e < v * g.h → ⊥
      none zero z h = omega (arith, zero-mul g.h)
      none (suc v) z h = omega arith

      east : e < east_count g.w g.h → Named g e
      east h =
          let some : 0 < g.w - 1 = ⊎_elim (λ k. k) (λ k. absurd (none (g.w - 1) (omega arith) h)) (lt-or-ge 0 (g.w - 1)) in
          let x : e % (g.w - 1) < g.w - 1 = mod-lt e some in
          let y : e / (g.w - 1) < g.h = (div-lt_iff_lt-mul some).1 (omega arith) in
          record {
            entry = record { x = e % (g.w - 1); y = e / (g.w - 1); third = 0 };
            inside = rw (lt-ltb (e % (g.w - 1) + 1) g.w (omega arith), lt-ltb (e / (g.w - 1)) g.h y);
            way = omega arith;
            is = omega (arith, div-add-mod e (g.w - 1));
          }

      north : east_count g.w g.h ≤ e → Named g e
      north h =
          let u : ℕ = e - east_count g.w g.h in
          let x : u % g.w < g.w = mod-lt u shaped.w_least in
          let y : u / g.w < g.h - 1 = (div-lt_iff_lt-mul shaped.w_least).1 (omega (arith, shaped.e_is, known)) in
          record {
            entry = record { x = u % g.w; y = u / g.w; third = 1 };
            inside = rw (lt-ltb (u % g.w) g.w x, lt-ltb (u / g.w + 1) g.h (omega arith));
            way = omega arith;
            is = omega (arith, div-add-mod u g.w);
          }
