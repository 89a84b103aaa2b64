-- The marks of an entry's edge in its two tiles are those of the ways out of them: the way on from the tile where it starts, and the way back from the
-- tile where it ends.
-- Assumes nothing.
use Rattle.std.specs.Prelude.{Bool, true, false, ◌&&◌, cond, ◌⊎◌, ◌≡◌, ℕ, zero, suc, ◌+◌, ◌-◌, ◌*◌, ◌/◌, ◌%◌, ◌≤◌, ◌<◌, T, eqb, ltb}
use Rattle.std.proofs.Common.{inl, inr, ⊎_elim, sym, ap, ◌∙◌, mod-lt, arith, eq-eqb, ne_eqb, eqb-true, ltb→lt, lt→ltb, le→leb}
use Rattle.std.proofs.Math.Nat.{div-add-mod, div-eq_of_lt-le}
use Rattle.layout.specs.Shapes.{Shaped, way_of}
use Rattle.layout.specs.declared.shape.Shape.{Shape}
use Rattle.model.specs.Read.{Triple, edge_inside}
use Rattle.theory.specs.congestion.Sums.{lt-or-ge}
use Rattle.theory.specs.links.Edges.{lo-is, hi-is}
use Rattle.theory.specs.links.Reach.{lo_of, hi_of}
use Rattle.theory.specs.congestion.Tests.{is_true, test-eq, and_both, both-and}
use Rattle.theory.specs.walk.Stops.{At, far}
use Rattle.theory.specs.walk.Ways.{way?, way_tile, way_edge, way-leads}
use Rattle.ways.specs.Entry.{start_of, edge_of, Placed, placed}

-- a test that two numbers are equal
same_test : (a b : ℕ) → a ≡ b → T (eqb a b)
same_test a b e = rw (eq-eqb a b e) tt

test-same : (a b : ℕ) → T (eqb a b) → a ≡ b
test-same a b h = eqb-true a b (is_true (eqb a b) h)

-- ---- the edge of a way out of a tile

-- its lower end is the tile and its higher end the tile that the way leads to, or the other way round
abbrev pub Up : ℕ → ℕ → ℕ → ℕ → Type 0
Up W H u d = (lo_of W H (way_edge W H u d) ≡ u) × (hi_of W H (way_edge W H u d) ≡ way_tile W u d)

abbrev pub Down : ℕ → ℕ → ℕ → ℕ → Type 0
Down W H u d = (hi_of W H (way_edge W H u d) ≡ u) × (lo_of W H (way_edge W H u d) ≡ way_tile W u d)

module _ (W H : ℕ) (wide : 1 ≤ W) (high : 1 ≤ H) where
  pub lo-hi : (e : ℕ) → lo_of W H e < hi_of W H e
  lo-hi e = rw (lo-is W H wide, hi-is W H wide) (go (ltb e ((W - 1) * H)))
    where
      go : (q : Bool) → cond q (e + e / (W - 1)) (e - (W - 1) * H) < cond q (suc (e + e / (W - 1))) (e - (W - 1) * H + W)
      go true = omega arith
      go false = omega arith

  far-of : (u e : ℕ) → At (lo_of W H) (hi_of W H) e u → (v : ℕ) → far (lo_of W H) (hi_of W H) u e ≡ v
      → ((lo_of W H e ≡ u) × (hi_of W H e ≡ v)) ⊎ ((hi_of W H e ≡ u) × (lo_of W H e ≡ v))
  far-of u e (inl p) v f = inl (p, sym (rw (eq-eqb u (lo_of W H e) (sym p))) ∙ f)
  far-of u e (inr p) v f = inr (p, sym (rw (ne_eqb u (lo_of W H e) (λ q. omega (arith, lo-hi e)))) ∙ f)

  pub way-ends : (u d : ℕ) → u < W * H → T (way? W H u d) → Up W H u d ⊎ Down W H u d
  way-ends u d b p =
      far-of u (way_edge W H u d) (rw (lo-is W H wide, hi-is W H wide) (way-leads W H wide high u d b p).1) (way_tile W u d)
      (rw (lo-is W H wide, hi-is W H wide) (way-leads W H wide high u d b p).2)

  way_up : (u d : ℕ) → u ≤ way_tile W u d → Up W H u d ⊎ Down W H u d → Up W H u d
  way_up u d h r = ⊎_elim (λ q. q) (λ q. absurd (omega (arith, lo-hi (way_edge W H u d), q.0, q.1))) r

  pub way_down : (u d : ℕ) → way_tile W u d ≤ u → Up W H u d ⊎ Down W H u d → Down W H u d
  way_down u d h r = ⊎_elim (λ q. absurd (omega (arith, lo-hi (way_edge W H u d), q.0, q.1))) (λ q. q) r

-- ---- an entry's edge

module _ (g : Shape) (shaped : Shaped g) where
  wide : 1 ≤ g.w
  wide = shaped.w_least

  high : 1 ≤ g.h
  high = shaped.h_least

  -- a row of W is a row of W − 1 and one
  whole_row : (y : ℕ) → y * g.w ≡ y * (g.w - 1) + y
  whole_row y = let k : g.w ≡ suc (g.w - 1) = omega (arith, wide) in ap (λ (m : ℕ). y * m) k ∙ omega arith

  column : (x y : ℕ) → x < g.w → ((y * g.w + x) / g.w ≡ y) × ((y * g.w + x) % g.w ≡ x)
  column x y h =
      let q : (y * g.w + x) / g.w ≡ y = div-eq_of_lt-le g.w (omega arith) (omega arith) in
      (q, omega (arith, div-add-mod (y * g.w + x) g.w, ap (λ (m : ℕ). g.w * m) q))

  -- the way on, out of the tile where the edge starts
  pub on-way : (x y d : ℕ) → edge_inside g.w g.h (record { x = x; y = y; third = d }) ≡ true → d ≤ 1
      → T (way? g.w g.h (start_of g (record { x = x; y = y; third = d })) d)
      × (way_edge g.w g.h (start_of g (record { x = x; y = y; third = d })) d ≡ edge_of g (record { x = x; y = y; third = d }))
  on-way x y zero e h =
      let p = placed g shaped (record { x = x; y = y; third = zero }) e h in
      let i = ltb→lt (x + 1) g.w (and_both (ltb (x + 1) g.w) (ltb y g.h) (rw e tt)).0 in
      (lt→ltb (suc ((y * g.w + x) % g.w)) g.w (omega (arith, (column x y (omega arith)).1)), p.number)
  on-way x y (suc zero) e h =
      let p = placed g shaped (record { x = x; y = y; third = suc zero }) e h in
      (lt→ltb (y * g.w + x + g.w) (g.w * g.h) (omega (arith, p.leads, p.end_in, shaped.t_is)), omega (arith, p.number, shaped.east_is))
  on-way x y (suc (suc d)) e h = absurd (omega arith)

  -- the way back, out of the tile where it ends
  pub back-way : (x y d : ℕ) → edge_inside g.w g.h (record { x = x; y = y; third = d }) ≡ true → d ≤ 1
      → T (way? g.w g.h (hi_of g.w g.h (edge_of g (record { x = x; y = y; third = d }))) (2 + d))
      × (way_edge g.w g.h (hi_of g.w g.h (edge_of g (record { x = x; y = y; third = d }))) (2 + d) ≡ edge_of g (record { x = x; y = y; third = d }))
  back-way x y zero e h =
      let p = placed g shaped (record { x = x; y = y; third = zero }) e h in
      let i = ltb→lt (x + 1) g.w (and_both (ltb (x + 1) g.w) (ltb y g.h) (rw e tt)).0 in
      let c = column (x + 1) y i in
      let u : hi_of g.w g.h (edge_of g (record { x = x; y = y; third = zero })) ≡ y * g.w + (x + 1) = omega (arith, p.leads) in
      rw u (lt→ltb 0 ((y * g.w + (x + 1)) % g.w) (omega (arith, c.1)), omega (arith, c.0, whole_row y))
  back-way x y (suc zero) e h =
      let p = placed g shaped (record { x = x; y = y; third = suc zero }) e h in
      let u : hi_of g.w g.h (edge_of g (record { x = x; y = y; third = suc zero })) ≡ y * g.w + x + g.w = omega (arith, p.leads) in
      rw u (le→leb g.w (y * g.w + x + g.w) (omega arith), omega (arith, p.number, shaped.east_is))
  back-way x y (suc (suc d)) e h = absurd (omega arith)

  module _ (t : Triple) (inside : edge_inside g.w g.h t ≡ true) (way : t.third ≤ 1) where
    p : Placed g t
    p = placed g shaped t inside way

    -- where the edge goes north its ends are W apart
    apart : t.third ≡ 1 → start_of g t + g.w ≡ hi_of g.w g.h (edge_of g t)
    apart e = ap (λ (d : ℕ). (way_of g (start_of g t) d).tile) (sym e) ∙ p.leads

    -- a way on that is the entry's edge starts where it starts
    pub on_same : (u k : ℕ) → u < g.t → k ≤ 1 → T (way? g.w g.h u k) → way_edge g.w g.h u k ≡ edge_of g t → (start_of g t ≡ u) × (t.third ≡ k)
    on_same u zero b h q e =
        let r = way_up g.w g.h wide high u 0 (omega arith) (way-ends g.w g.h wide high u 0 (omega (arith, shaped.t_is)) q) in
        let l : start_of g t ≡ u = sym p.starts ∙ ap (lo_of g.w g.h) (sym e) ∙ r.0 in
        let m : hi_of g.w g.h (edge_of g t) ≡ suc u = ap (hi_of g.w g.h) (sym e) ∙ r.1 in
        (l, ⊎_elim (λ z. omega arith) (λ z. absurd (omega (arith, l, m, apart (omega arith), ltb→lt (suc (u % g.w)) g.w q))) (lt-or-ge t.third 1))
    on_same u (suc zero) b h q e =
        let r = way_up g.w g.h wide high u 1 (omega arith) (way-ends g.w g.h wide high u 1 (omega (arith, shaped.t_is)) q) in
        let l : start_of g t ≡ u = sym p.starts ∙ ap (lo_of g.w g.h) (sym e) ∙ r.0 in
        (l, ⊎_elim (λ z. absurd (omega (arith, e, p.east_side (omega arith)))) (λ z. omega arith) (lt-or-ge t.third 1))
    on_same u (suc (suc k)) b h q e = absurd (omega arith)

    -- a way back that is the entry's edge starts where it ends
    pub back-same : (u k : ℕ) → u < g.t → k ≤ 1 → T (way? g.w g.h u (2 + k)) → way_edge g.w g.h u (2 + k) ≡ edge_of g t
        → (hi_of g.w g.h (edge_of g t) ≡ u) × (t.third ≡ k)
    back-same u zero b h q e =
        let r = way_down g.w g.h wide high u 2 (omega arith) (way-ends g.w g.h wide high u 2 (omega (arith, shaped.t_is)) q) in
        let m : hi_of g.w g.h (edge_of g t) ≡ u = ap (hi_of g.w g.h) (sym e) ∙ r.0 in
        let l : start_of g t ≡ u - 1 = sym p.starts ∙ ap (lo_of g.w g.h) (sym e) ∙ r.1 in
        (m, ⊎_elim (λ z. omega arith) (λ z. absurd (omega (arith, l, m, apart (omega arith), p.starts, lo-hi g.w g.h wide high (edge_of g t), ltb→lt 0 (u % g.w) q, mod-lt u wide))) (lt-or-ge t.third 1))
    back-same u (suc zero) b h q e =
        let r = way_down g.w g.h wide high u 3 (omega arith) (way-ends g.w g.h wide high u 3 (omega (arith, shaped.t_is)) q) in
        let m : hi_of g.w g.h (edge_of g t) ≡ u = ap (hi_of g.w g.h) (sym e) ∙ r.0 in
        (m, ⊎_elim (λ z. absurd (omega (arith, e, p.east_side (omega arith)))) (λ z. omega arith) (lt-or-ge t.third 1))
    back-same u (suc (suc k)) b h q e = absurd (omega arith)

    -- the mark of the way on
    pub mark_on : (u k : ℕ) → u < g.t → k ≤ 1
        → (eqb (start_of g t) u && eqb (8 + t.third) (8 + k)) ≡ (way? g.w g.h u k && eqb (way_edge g.w g.h u k) (edge_of g t))
    mark_on u k b h = test-eq (eqb (start_of g t) u && eqb (8 + t.third) (8 + k)) (way? g.w g.h u k && eqb (way_edge g.w g.h u k) (edge_of g t)) to from
      where
        to : T (eqb (start_of g t) u && eqb (8 + t.third) (8 + k)) → T (way? g.w g.h u k && eqb (way_edge g.w g.h u k) (edge_of g t))
        to c =
            let a = and_both (eqb (start_of g t) u) (eqb (8 + t.third) (8 + k)) c in
            let l = test-same (start_of g t) u a.0 in
            let m : t.third ≡ k = omega (arith, test-same (8 + t.third) (8 + k) a.1) in
            let r = on-way t.x t.y t.third inside way in
            rw (← l, ← m) (both-and (way? g.w g.h (start_of g t) t.third) (eqb (way_edge g.w g.h (start_of g t) t.third) (edge_of g t)) r.0 (same_test (way_edge g.w g.h (start_of g t) t.third) (edge_of g t) r.1))

        from : T (way? g.w g.h u k && eqb (way_edge g.w g.h u k) (edge_of g t)) → T (eqb (start_of g t) u && eqb (8 + t.third) (8 + k))
        from c =
            let a = and_both (way? g.w g.h u k) (eqb (way_edge g.w g.h u k) (edge_of g t)) c in
            let r = on_same u k b h a.0 (test-same (way_edge g.w g.h u k) (edge_of g t) a.1) in
            both-and (eqb (start_of g t) u) (eqb (8 + t.third) (8 + k)) (same_test (start_of g t) u r.0) (same_test (8 + t.third) (8 + k) (ap (λ (m : ℕ). 8 + m) r.1))

    -- the mark of the way back
    pub mark-back : (u k : ℕ) → u < g.t → k ≤ 1
        → (eqb (hi_of g.w g.h (edge_of g t)) u && eqb (10 + t.third) (10 + k)) ≡ (way? g.w g.h u (2 + k) && eqb (way_edge g.w g.h u (2 + k)) (edge_of g t))
    mark-back u k b h = test-eq (eqb there u && eqb (10 + t.third) (10 + k)) (way? g.w g.h u (2 + k) && eqb (way_edge g.w g.h u (2 + k)) (edge_of g t)) to from
      where
        there : ℕ
        there = hi_of g.w g.h (edge_of g t)

        to : T (eqb there u && eqb (10 + t.third) (10 + k)) → T (way? g.w g.h u (2 + k) && eqb (way_edge g.w g.h u (2 + k)) (edge_of g t))
        to c =
            let a = and_both (eqb there u) (eqb (10 + t.third) (10 + k)) c in
            let l = test-same there u a.0 in
            let m : t.third ≡ k = omega (arith, test-same (10 + t.third) (10 + k) a.1) in
            let r = back-way t.x t.y t.third inside way in
            rw (← l, ← m) (both-and (way? g.w g.h there (2 + t.third)) (eqb (way_edge g.w g.h there (2 + t.third)) (edge_of g t)) r.0 (same_test (way_edge g.w g.h there (2 + t.third)) (edge_of g t) r.1))

        from : T (way? g.w g.h u (2 + k) && eqb (way_edge g.w g.h u (2 + k)) (edge_of g t)) → T (eqb there u && eqb (10 + t.third) (10 + k))
        from c =
            let a = and_both (way? g.w g.h u (2 + k)) (eqb (way_edge g.w g.h u (2 + k)) (edge_of g t)) c in
            let r = back-same u k b h a.0 (test-same (way_edge g.w g.h u (2 + k)) (edge_of g t) a.1) in
            both-and (eqb there u) (eqb (10 + t.third) (10 + k)) (same_test there u r.0) (same_test (10 + t.third) (10 + k) (ap (λ (m : ℕ). 10 + m) r.1))

    -- the way on from its start is its edge
    pub start-way : way_edge g.w g.h (start_of g t) t.third ≡ edge_of g t
    start-way = (on-way t.x t.y t.third inside way).1
