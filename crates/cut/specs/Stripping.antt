-- A tile with one edge and no pin loses that edge: what the marks then are, and the same on and on along.
-- Assumes nothing.
use Rattle.std.specs.Prelude.{Bool, true, false, ◌&&◌, not, cond, List, ◌⊎◌, ◌≡◌, refl, ℕ, zero, suc, ◌+◌, ◌-◌, ◌%◌, ◌≤◌, ◌<◌, T, eqb, length}
use Rattle.std.proofs.Common.{inl, inr, ⊎_elim, sym, ap, ap₂, subst, ◌∙◌, arith, ne_eqb}
use Rattle.layout.specs.Shapes.{Shaped, WayRoom, way_of}
use Rattle.layout.specs.declared.shape.Shape.{Shape}
use Rattle.layout.specs.declared.Way.{Way}
use Rattle.marks.specs.Marks.{bits_at, marked, unmark, unmark-has, unmark-fits, unmark-long}
use Rattle.marks.specs.Words.{Fits}
use Rattle.model.specs.Cut.{pinned}
use Rattle.model.specs.Job.{Pin}
use Rattle.model.specs.Lists.{has, In}
use Rattle.model.specs.Read.{Triple, edge_inside}
use Rattle.net.specs.AtHand.{Drawn}
use Rattle.net.specs.Ways.{way-is, way-room}
use Rattle.netread.specs.Ways.{mark_on, mark-back, on-way, back-way, on_same, back-same, way-ends, way_down}
use Rattle.theory.specs.congestion.Sums.{in-keep, keep-few}
use Rattle.theory.specs.congestion.Tests.{is_true, test-eq, and_both, both-and, has_in, has-true}
use Rattle.theory.specs.cutting.Prune.{bare?, bare-test}
use Rattle.theory.specs.cutting.Strip.{edge_at, without, strip, edge-only}
use Rattle.theory.specs.links.Edges.{lo-is, hi-is}
use Rattle.theory.specs.links.Reach.{lo_of, hi_of}
use Rattle.theory.specs.walk.Stops.{At, far}
use Rattle.theory.specs.walk.Ways.{way?, way_tile, way_edge, way-leads}
use Rattle.ways.specs.Entry.{start_of, edge_of, Placed, placed, Named, named}
use Rattle.cut.specs.Bare.{Fine, way_in, bare_way, way-bare, way-marked, way-there}

-- the way back
abbrev pub back_of : ℕ → ℕ
back_of d = (d + 2) % 4

-- the marks without those of an edge of a tile, and of its way back
abbrev pub cleared : ℕ → List ℕ → ℕ → ℕ → ℕ → List ℕ
cleared n a t u d = unmark n (unmark n a t (8 + d)) u (8 + back_of d)

-- ---- the two tiles of an edge, seen from one of them

-- tile t is where the edge of an entry starts, or where it ends, and way d leads to the other
abbrev Sides : Shape → Triple → ℕ → ℕ → Type 0
Sides g τ t d =
    ((start_of g τ ≡ t) × (hi_of g.w g.h (edge_of g τ) ≡ (way_of g t d).tile) × (8 + τ.third ≡ 8 + d) × (10 + τ.third ≡ 8 + back_of d))
    ⊎ ((hi_of g.w g.h (edge_of g τ) ≡ t) × (start_of g τ ≡ (way_of g t d).tile) × (10 + τ.third ≡ 8 + d) × (8 + τ.third ≡ 8 + back_of d))

module _ (g : Shape) (shaped : Shaped g) (τ : Triple) (inside : edge_inside g.w g.h τ ≡ true) (way : τ.third ≤ 1) (t : ℕ) (in-grid : t < g.t) where
  at : Placed g τ
  at = placed g shaped τ inside way

  -- ways on
  forth : (d : ℕ) → d ≤ 1 → back_of d ≡ d + 2 → T (way? g.w g.h t d) → way_edge g.w g.h t d ≡ edge_of g τ → Sides g τ t d
  forth d h b p e =
      let s = on_same g shaped τ inside way t d in-grid h p e in
      inl (s.0, sym at.leads ∙ ap₂ (λ (x y : ℕ). (way_of g x y).tile) s.0 s.1, omega (arith, s.1), omega (arith, s.1, b))

  -- ways back
  back : (k : ℕ) → k ≤ 1 → (way_of g t (2 + k)).tile ≤ t → T (way? g.w g.h t (2 + k)) → way_edge g.w g.h t (2 + k) ≡ edge_of g τ
      → lo_of g.w g.h (way_edge g.w g.h t (2 + k)) ≡ (way_of g t (2 + k)).tile → back_of (2 + k) ≡ k → Sides g τ t (2 + k)
  back k h l p e f b =
      let s = back-same g shaped τ inside way t k in-grid h p e in
      inr (s.0, sym at.starts ∙ ap (lo_of g.w g.h) (sym e) ∙ f, omega (arith, s.1), omega (arith, s.1, b))

  lower : (d : ℕ) → way_tile g.w t d ≤ t → T (way? g.w g.h t d) → lo_of g.w g.h (way_edge g.w g.h t d) ≡ way_tile g.w t d
  lower d l p =
      (way_down g.w g.h shaped.w_least shaped.h_least t d l (way-ends g.w g.h shaped.w_least shaped.h_least t d (omega (arith, shaped.t_is)) p)).1

  sides : (d : ℕ) → d < 4 → T (way? g.w g.h t d) → way_edge g.w g.h t d ≡ edge_of g τ → Sides g τ t d
  sides zero h p e = forth 0 (omega arith) refl p e
  sides (suc zero) h p e = forth 1 (omega arith) refl p e
  sides (suc (suc zero)) h p e = back 0 (omega arith) (omega arith) p e (lower 2 (omega arith) p) refl
  sides (suc (suc (suc zero))) h p e = back 1 (omega arith) (omega arith) p e (lower 3 (omega arith) p) refl
  sides (suc (suc (suc (suc d)))) h p e = absurd (omega arith)

-- ---- one edge less

has-without : (x e : ℕ) (es : List ℕ) → has (without e es) x ≡ (not (eqb x e) && has es x)
has-without x e es =
    test-eq (has (without e es) x) (not (eqb x e) && has es x)
    (λ h. let k = (in-keep (λ y. not (eqb y e)) x es).0 ((has_in (without e es) x).0 h) in both-and (not (eqb x e)) (has es x) k.1 ((has_in es x).1 k.0))
    (λ h. let k = and_both (not (eqb x e)) (has es x) h in (has_in (without e es) x).1 ((in-keep (λ y. not (eqb y e)) x es).1 ((has_in es x).0 k.1, k.0)))

-- an edge is marked in its two tiles where it is one of the edges
module _ (g : Shape) (shaped : Shaped g) (n : ℕ) (ps : List Pin) (es : List ℕ) (a : List ℕ) (drawn : Drawn g n ps es a) (τ : Triple) (inside : edge_inside g.w g.h τ ≡ true)
    (way : τ.third ≤ 1) where
  named-so : (w : Bool) (x y : ℕ) → T w → x ≡ y → (w && has es x) ≡ has es y
  named-so true x y h e = ap (has es) e
  named-so false x y h e = absurd h

  pub start-marked : marked n a (start_of g τ) (8 + τ.third) ≡ has es (edge_of g τ)
  start-marked =
      let k = on-way g shaped τ.x τ.y τ.third inside way in
      drawn.ways (start_of g τ) τ.third (placed g shaped τ inside way).start_in (omega arith)
      ∙ named-so (way? g.w g.h (start_of g τ) τ.third) (way_edge g.w g.h (start_of g τ) τ.third) (edge_of g τ) k.0 k.1

  end_marked : marked n a (hi_of g.w g.h (edge_of g τ)) (10 + τ.third) ≡ has es (edge_of g τ)
  end_marked =
      let k = back-way g shaped τ.x τ.y τ.third inside way in
      let z : 10 + τ.third ≡ 8 + (2 + τ.third) = omega arith in
      ap (marked n a (hi_of g.w g.h (edge_of g τ))) z
      ∙ drawn.ways (hi_of g.w g.h (edge_of g τ)) (2 + τ.third) (placed g shaped τ inside way).end_in (omega arith)
      ∙ named-so (way? g.w g.h (hi_of g.w g.h (edge_of g τ)) (2 + τ.third)) (way_edge g.w g.h (hi_of g.w g.h (edge_of g τ)) (2 + τ.third)) (edge_of g τ) k.0 k.1

-- a way that is left is no way of the edge
left-way : (w q h : Bool) → (not (w && q) && (w && h)) ≡ (w && (not q && h))
left-way true q h = refl
left-way false q h = refl

both-orders : (a b c : Bool) → (not b && (not a && c)) ≡ (not a && (not b && c))
both-orders true true c = refl
both-orders true false c = refl
both-orders false true c = refl
both-orders false false c = refl

-- the marks of an edge are taken away in both of its tiles
module _ (g : Shape) (shaped : Shaped g) (n : ℕ) (ps : List Pin) (es : List ℕ) (a : List ℕ) (drawn : Drawn g n ps es a) (τ : Triple) (inside : edge_inside g.w g.h τ ≡ true)
    (way : τ.third ≤ 1) (a' : List ℕ) (fits : Fits n a')
    (marks : (u k : ℕ) → marked n a' u k ≡ (not (eqb (start_of g τ) u && eqb (8 + τ.third) k) && (not (eqb (hi_of g.w g.h (edge_of g τ)) u && eqb (10 + τ.third) k) && marked n a u k))) where
  abbrev here : ℕ
  here = start_of g τ

  abbrev there : ℕ
  there = hi_of g.w g.h (edge_of g τ)

  abbrev e : ℕ
  e = edge_of g τ

  -- a bit of another place
  other : (x u i k : ℕ) → (i ≡ k → ⊥) → (c : Bool) → (not (eqb x u && eqb i k) && c) ≡ c
  other x u i k h c = rw (ne_eqb i k h) (go (eqb x u))
    where
      go : (q : Bool) → (not (q && false) && c) ≡ c
      go true = refl
      go false = refl

  ways_on : (u k : ℕ) → u < g.t → k ≤ 1 → marked n a' u (8 + k) ≡ (way? g.w g.h u k && has (without (edge_of g τ) es) (way_edge g.w g.h u k))
  ways_on u k b h =
      marks u (8 + k)
      ∙ ap (λ (c : Bool). not (eqb here u && eqb (8 + τ.third) (8 + k)) && c) (other there u (10 + τ.third) (8 + k) (λ z. omega (arith, z)) (marked n a u (8 + k)))
      ∙ ap₂ (λ (c m : Bool). not c && m) (mark_on g shaped τ inside way u k b h) (drawn.ways u k b (omega arith))
      ∙ left-way (way? g.w g.h u k) (eqb (way_edge g.w g.h u k) e) (has es (way_edge g.w g.h u k))
      ∙ ap (λ (c : Bool). way? g.w g.h u k && c) (sym (has-without (way_edge g.w g.h u k) e es))

  ways-back : (u k : ℕ) → u < g.t → k ≤ 1 → marked n a' u (10 + k) ≡ (way? g.w g.h u (2 + k) && has (without (edge_of g τ) es) (way_edge g.w g.h u (2 + k)))
  ways-back u k b h =
      let z : 10 + k ≡ 8 + (2 + k) = omega arith in
      marks u (10 + k)
      ∙ other here u (8 + τ.third) (10 + k) (λ z. omega (arith, z)) (not (eqb there u && eqb (10 + τ.third) (10 + k)) && marked n a u (10 + k))
      ∙ ap₂ (λ (c m : Bool). not c && m) (mark-back g shaped τ inside way u k b h) (ap (marked n a u) z ∙ drawn.ways u (2 + k) b (omega arith))
      ∙ left-way (way? g.w g.h u (2 + k)) (eqb (way_edge g.w g.h u (2 + k)) e) (has es (way_edge g.w g.h u (2 + k)))
      ∙ ap (λ (c : Bool). way? g.w g.h u (2 + k) && c) (sym (has-without (way_edge g.w g.h u (2 + k)) e es))

  ways-all : (u d : ℕ) → u < g.t → d < 4 → marked n a' u (8 + d) ≡ (way? g.w g.h u d && has (without (edge_of g τ) es) (way_edge g.w g.h u d))
  ways-all u zero b h = ways_on u 0 b (omega arith)
  ways-all u (suc zero) b h = ways_on u 1 b (omega arith)
  ways-all u (suc (suc zero)) b h = ways-back u 0 b (omega arith)
  ways-all u (suc (suc (suc zero))) b h = ways-back u 1 b (omega arith)
  ways-all u (suc (suc (suc (suc d)))) b h = absurd (omega arith)

  drawn-less : Drawn g n ps (without (edge_of g τ) es) a'
  drawn-less = record {
    fits = fits;
    pins = λ u l b i h.
        marks u (l - 1)
        ∙ other here u (8 + τ.third) (l - 1) (λ z. omega (arith, z)) (not (eqb there u && eqb (10 + τ.third) (l - 1)) && marked n a u (l - 1))
        ∙ other there u (10 + τ.third) (l - 1) (λ z. omega (arith, z)) (marked n a u (l - 1))
        ∙ drawn.pins u l b i h;
    ways = ways-all;
  }

-- ---- a tile whose only mark is a way loses it

module _ (g : Shape) (shaped : Shaped g) (n : ℕ) (ps : List Pin) (es : List ℕ) (a : List ℕ) (long : length a ≡ g.t) (fine : Fine g ps es) (drawn : Drawn g n ps es a)
    (t : ℕ) (in-grid : t < g.t) (one : way_in (bits_at n a t) < 4) where
  abbrev lo : ℕ → ℕ
  lo = lo_of g.w g.h

  abbrev hi : ℕ → ℕ
  hi = hi_of g.w g.h

  abbrev d : ℕ
  d = way_in (bits_at n a t)

  -- the tile at its end, and its edge
  abbrev u : ℕ
  u = (way_of g t (way_in (bits_at n a t))).tile

  abbrev lost : ℕ
  lost = way_edge g.w g.h t (way_in (bits_at n a t))

  way_in_lem : T (way? g.w g.h t (way_in (bits_at n a t))) × In (way_edge g.w g.h t (way_in (bits_at n a t))) es
  way_in_lem = way-there g shaped n ps es a fine drawn t in-grid one

  name : Named g (way_edge g.w g.h t (way_in (bits_at n a t)))
  name = named g shaped lost (omega (arith, fine.known lost way_in_lem.1, shaped.e_is))

  abbrev τ : Triple
  τ = name.entry

  spots : Placed g name.entry
  spots = placed g shaped τ name.inside name.way

  both-sides : Sides g name.entry t (way_in (bits_at n a t))
  both-sides = sides g shaped τ name.inside name.way t in-grid d one way_in_lem.0 (sym name.is)

  pub here-marked : marked n a t (8 + way_in (bits_at n a t)) ≡ true
  here-marked = way-marked g shaped n ps es a fine drawn t in-grid one

  pub can-take : WayRoom g t (way_in (bits_at n a t))
  can-take = way-room g shaped t in-grid d one way_in_lem.0

  pub there-in : (way_of g t (way_in (bits_at n a t))).tile < g.t
  there-in = ⊎_elim (λ s. omega (arith, s.1, spots.end_in)) (λ s. omega (arith, s.1, spots.start_in)) both-sides

  kept_there : has es (edge_of g name.entry) ≡ true
  kept_there = ap (has es) name.is ∙ has-true es lost way_in_lem.1

  still : marked n a (way_of g t (way_in (bits_at n a t))).tile (8 + back_of (way_in (bits_at n a t))) ≡ true
  still =
      ⊎_elim
      (λ s. ap₂ (marked n a) (sym s.1) (sym s.3) ∙ end_marked g shaped n ps es a drawn τ name.inside name.way ∙ kept_there)
      (λ s. ap₂ (marked n a) (sym s.1) (sym s.3) ∙ start-marked g shaped n ps es a drawn τ name.inside name.way ∙ kept_there)
      both-sides

  pub there-marked : marked n (unmark n a t (8 + way_in (bits_at n a t))) (way_of g t (way_in (bits_at n a t))).tile (8 + back_of (way_in (bits_at n a t))) ≡ true
  there-marked =
      unmark-has n a t (8 + d) (omega arith) here-marked u (8 + back_of d)
      ∙ rw (ne_eqb (8 + d) (8 + back_of d) (λ z. omega (arith, z)), still) (go (eqb t u))
    where
      go : (q : Bool) → (not (q && false) && true) ≡ true
      go true = refl
      go false = refl

  room-there : (way_of g t (way_in (bits_at n a t))).tile < length (unmark n a t (8 + way_in (bits_at n a t)))
  room-there = omega (arith, there-in, unmark-long n a t (8 + d))

  marks-are : (v k : ℕ) → marked n (cleared n a t (way_of g t (way_in (bits_at n a t))).tile (way_in (bits_at n a t))) v k
      ≡ (not (eqb (start_of g name.entry) v && eqb (8 + name.entry.third) k) && (not (eqb (hi_of g.w g.h (edge_of g name.entry)) v && eqb (10 + name.entry.third) k) && marked n a v k))
  marks-are v k =
      unmark-has n (unmark n a t (8 + d)) u (8 + back_of d) room-there there-marked v k
      ∙ ap (λ (c : Bool). not (eqb u v && eqb (8 + back_of d) k) && c) (unmark-has n a t (8 + d) (omega arith) here-marked v k)
      ∙ ⊎_elim
      (λ s.
      both-orders (eqb t v && eqb (8 + d) k) (eqb u v && eqb (8 + back_of d) k) (marked n a v k)
      ∙ ap₂ (λ (x i : ℕ). not (eqb x v && eqb i k) && (not (eqb u v && eqb (8 + back_of d) k) && marked n a v k)) (sym s.0) (sym s.2)
      ∙ ap₂ (λ (x i : ℕ). not (eqb (start_of g τ) v && eqb (8 + τ.third) k) && (not (eqb x v && eqb i k) && marked n a v k)) (sym s.1) (sym s.3))
      (λ s.
      ap₂ (λ (x i : ℕ). not (eqb x v && eqb i k) && (not (eqb t v && eqb (8 + d) k) && marked n a v k)) (sym s.1) (sym s.3)
      ∙ ap₂ (λ (x i : ℕ). not (eqb (start_of g τ) v && eqb (8 + τ.third) k) && (not (eqb x v && eqb i k) && marked n a v k)) (sym s.0) (sym s.2))
      both-sides

  pub step-drawn : Drawn g n ps (without (way_edge g.w g.h t (way_in (bits_at n a t))) es) (cleared n a t (way_of g t (way_in (bits_at n a t))).tile (way_in (bits_at n a t)))
  step-drawn =
      subst (λ (x : ℕ). Drawn g n ps (without x es) (cleared n a t u d)) name.is
      (drawn-less g shaped n ps es a drawn τ name.inside name.way (cleared n a t u d)
      (unmark-fits n (unmark n a t (8 + d)) u (8 + back_of d) room-there there-marked (unmark-fits n a t (8 + d) (omega arith) here-marked drawn.fits)) marks-are)

  pub step-fine : Fine g ps (without (way_edge g.w g.h t (way_in (bits_at n a t))) es)
  step-fine = record {
    once = λ x. omega (arith, fine.once x, keep-few (λ y. not (eqb y lost)) x es);
    known = λ x i. fine.known x ((in-keep (λ y. not (eqb y lost)) x es).0 i).0;
    layers = fine.layers;
  }

  -- the strip goes on at the other end
  leads : At (lo_of g.w g.h) (hi_of g.w g.h) (way_edge g.w g.h t (way_in (bits_at n a t))) t
      × (far (lo_of g.w g.h) (hi_of g.w g.h) t (way_edge g.w g.h t (way_in (bits_at n a t))) ≡ way_tile g.w t (way_in (bits_at n a t)))
  leads =
      let k = way-leads g.w g.h shaped.w_least shaped.h_least t d (omega (arith, shaped.t_is)) way_in_lem.0 in
      rw (lo-is g.w g.h shaped.w_least, hi-is g.w g.h shaped.w_least) (k.1, k.2)

  pub strip-on : (k : ℕ) → strip (lo_of g.w g.h) (hi_of g.w g.h) (pinned ps) (suc k) es t
      ≡ strip (lo_of g.w g.h) (hi_of g.w g.h) (pinned ps) k (without (way_edge g.w g.h t (way_in (bits_at n a t))) es) (way_of g t (way_in (bits_at n a t))).tile
  strip-on k =
      let b = way-bare g shaped n ps es a fine drawn t in-grid one in
      let e : edge_at lo hi es t ≡ lost = edge-only lo hi es t b.1 lost way_in_lem.1 leads.0 in
      ap (λ (q : Bool). cond q (strip lo hi (pinned ps) k (without (edge_at lo hi es t) es) (far lo hi t (edge_at lo hi es t))) es) (is_true (bare? lo hi (pinned ps) es t) ((bare-test lo hi (pinned ps) es t).1 b))
      ∙ ap (λ (x : ℕ). strip lo hi (pinned ps) k (without x es) (far lo hi t x)) e
      ∙ ap (strip lo hi (pinned ps) k (without lost es)) (leads.1 ∙ ap (λ (k : Way). k.tile) (sym (way-is g shaped t d)))

-- where it has another mark, or none, it keeps what it has
module _ (g : Shape) (shaped : Shaped g) (n : ℕ) (ps : List Pin) (es : List ℕ) (a : List ℕ) (fine : Fine g ps es) (drawn : Drawn g n ps es a) (t : ℕ) (in-grid : t < g.t)
    (no : 4 ≤ way_in (bits_at n a t)) where
  pub strip-ends : (k : ℕ) → strip (lo_of g.w g.h) (hi_of g.w g.h) (pinned ps) k es t ≡ es
  strip-ends zero = refl
  strip-ends (suc k) = go (bare? (lo_of g.w g.h) (hi_of g.w g.h) (pinned ps) es t) refl
    where
      go : (q : Bool) → bare? (lo_of g.w g.h) (hi_of g.w g.h) (pinned ps) es t ≡ q → strip (lo_of g.w g.h) (hi_of g.w g.h) (pinned ps) (suc k) es t ≡ es
      go false e = rw e
      go true e =
          let b = (bare-test (lo_of g.w g.h) (hi_of g.w g.h) (pinned ps) es t).0 (subst T (sym e) tt) in
          absurd (omega (arith, bare_way g shaped n ps es a fine drawn t in-grid b, no))
