-- One more net, on all its layers.
-- Assumes nothing.
use Rattle.std.specs.Prelude.{true, List, [], ◌∷◌, ◌≢◌, ◌≡◌, ℕ, ◌+◌, ◌-◌, ◌*◌, ◌≤◌, ◌<◌, length, get_or}
use Rattle.std.proofs.Common.{inl, sym, subst, arith}
use Rattle.std.proofs.Math.Path.{fun_ext}
use Rattle.layout.specs.Areas.{loads_at, demand_at, flat_at, above_at, engine_at}
use Rattle.layout.specs.Parts.{part, Outside, outside-then, outside-same}
use Rattle.layout.specs.declared.shape.Shape.{Shape}
use Rattle.model.specs.Job.{Job, runs, group, layers_of, capacity}
use Rattle.model.specs.Limits.{most_nets}
use Rattle.model.specs.Lists.{same, occurs, In}
use Rattle.net.specs.SoFar.{SoFarWith}
use Rattle.theory.specs.congestion.Edge.{Legal}
use Rattle.theory.specs.congestion.Loads.{mark-none}
use Rattle.theory.specs.congestion.Problem.{Bounds, LegalWithin, place}
use Rattle.theory.specs.congestion.Sums.{same_refl, same-ne, in_head, in_tail, in-other}
use Rattle.theory.specs.links.Flat.{problem}
use Rattle.theory.specs.links.Layers.{in-layers}
use Rattle.theory.specs.congestion.Tests.{is_true}
use Rattle.tracks.specs.Occupied.{load_place, cap_place, occupied, Free, one_more, so-far-same, others-kept, occupied-long, legal-free, occupied-with}
use Rattle.net.specs.Places.{edge-room, apart}

-- by walk place: the layer of the edge above it
abbrev pub layers_at : Shape → ℕ
layers_at g = engine_at g + 3 * g.m

-- the edges above the places 1 to n − 1 of the walk, and their layers
abbrev pub edges_of : Shape → ℕ → List ℕ → List ℕ
edges_of g n w = part (above_at g + 1) (n - 1) w

abbrev pub layers_in : Shape → ℕ → List ℕ → List ℕ
layers_in g n w = part (layers_at g + 1) (n - 1) w

-- the working numbers with one more net on the layers bs of the edges es
abbrev pub occupied_all : Shape → List ℕ → List ℕ → List ℕ → List ℕ
occupied_all g w [] bs = w
occupied_all g w (e ∷ es) [] = w
occupied_all g w (e ∷ es) (b ∷ bs) = occupied_all g (occupied g w e b) es bs

-- layer b of edge e can take one more net, and the edge is not among the es to come
pub record Takes (g : Shape) (w : List ℕ) (e b : ℕ) (es : List ℕ) : Type 0 where
  pub edge : e < g.e
  pub low : 1 ≤ b
  pub high : b ≤ g.k
  pub free : Free g w e b
  pub once : occurs e es ≡ 0

abbrev pub CanTake : Shape → List ℕ → List ℕ → List ℕ → Type 0
CanTake g w [] bs = Unit {0}
CanTake g w (e ∷ es) [] = ⊥
CanTake g w (e ∷ es) (b ∷ bs) = Takes g w e b es × CanTake g w es bs

-- ---- one edge leaves the others as they are

module _ (g : Shape) (w : List ℕ) (room : flat_at g ≤ length w) (e b : ℕ) (edge : e < g.e) (low : 1 ≤ b) (high : b ≤ g.k) where
  kept : (i : ℕ) → i ≢ load_place g e b → i ≢ demand_at g + e → get_or (occupied g w e b) i 0 ≡ get_or w i 0
  kept = others-kept g w e b edge low high (omega arith)

  free-kept : (a c : ℕ) → a ≢ e → a < g.e → 1 ≤ c → c ≤ g.k → Free g w a c → Free g (occupied g w e b) a c
  free-kept a c n h p q f = record {
    few = omega (arith, load, f.few);
    left = λ t. omega (arith, left, f.left (omega (arith, load, cap)));
  }
    where
      load : get_or (occupied g w e b) (load_place g a c) 0 ≡ get_or w (load_place g a c) 0
      load =
          kept (load_place g a c) (λ r. apart g.k a e (c - 1) (b - 1) (omega arith) (omega arith) (inl n) (omega arith)) (λ r. omega (arith, edge-room g a h))

      cap : get_or (occupied g w e b) (cap_place g a c) 0 ≡ get_or w (cap_place g a c) 0
      cap = kept (cap_place g a c) (λ r. omega (arith, edge-room g a h)) (λ r. omega (arith, edge-room g a h))

      left : get_or (occupied g w e b) (demand_at g + a) 0 ≡ get_or w (demand_at g + a) 0
      left = kept (demand_at g + a) (λ r. omega (arith, edge-room g e edge)) (λ r. n (omega arith))

  pub takes-kept : (es bs : List ℕ) → occurs e es ≡ 0 → CanTake g w es bs → CanTake g (occupied g w e b) es bs
  takes-kept [] bs z t = tt
  takes-kept (a ∷ es) [] z t = t
  takes-kept (a ∷ es) (c ∷ bs) z t = (
    record {
      edge = t.0.edge;
      low = t.0.low;
      high = t.0.high;
      free = free-kept a c (λ r. in-other e a (a ∷ es) z (in_head a es) (sym r)) t.0.edge t.0.low t.0.high t.0.free;
      once = t.0.once;
    },
    takes-kept es bs (omega arith) t.1,
  )

  -- only nets and overflow left change
  pub occupied-outside : Outside (loads_at g) (loads_at g + g.e) w (occupied g w e b)
  occupied-outside = record {
    long = occupied-long g w e b edge low high (omega arith);
    low = λ i h. kept i (λ r. omega arith) (λ r. omega arith);
    high = λ i h. kept i (λ r. omega (arith, edge-room g e edge)) (λ r. omega arith);
  }

pub all-outside : (g : Shape) (w es bs : List ℕ) → flat_at g ≤ length w → CanTake g w es bs → Outside (loads_at g) (loads_at g + g.e) w (occupied_all g w es bs)
all-outside g w [] bs room t = outside-same (loads_at g) (loads_at g + g.e) w
all-outside g w (e ∷ es) [] room t = absurd t
all-outside g w (e ∷ es) (b ∷ bs) room t =
    let o = occupied-outside g w room e b t.0.edge t.0.low t.0.high in
    outside-then (loads_at g) (loads_at g + g.e) w (occupied g w e b) (occupied_all g (occupied g w e b) es bs) o
    (all-outside g (occupied g w e b) es bs (omega (arith, o.long)) (takes-kept g w room e b t.0.edge t.0.low t.0.high es bs t.0.once t.1))

-- ---- a legal choice can be placed, and then the working numbers hold the net

module _ (g : Shape) (j : Job) (m : Bounds) (layers : g.k ≡ j.layers) where
  layer-in : (e b : ℕ) → In b (layers_of j e) → (1 ≤ b) × (b ≤ g.k) × (runs j.dirs (group j e) b ≡ true)
  layer-in e b i = let r = in-layers j (group j e) b i in (r.0, omega (arith, r.1), is_true (runs j.dirs (group j e) b) r.2)

  pub choice-takes : (x : ℕ → ℕ → ℕ) (w : List ℕ) → SoFarWith g j m.whole x w → ((e l : ℕ) → x e l ≤ most_nets) → (es bs : List ℕ) → LegalWithin (problem j) m x es bs
      → ((e : ℕ) → occurs e es ≤ 1) → ((e : ℕ) → In e es → e < g.e) → CanTake g w es bs
  choice-takes x w s few [] [] c once known = tt
  choice-takes x w s few [] (b ∷ bs) c once known = tt
  choice-takes x w s few (e ∷ es) [] c once known = c
  choice-takes x w s few (e ∷ es) (b ∷ bs) c once known =
      let k = layer-in e b c.0 in
      let h = known e (in_head e es) in (
        record {
          edge = h;
          low = k.0;
          high = k.1;
          free = legal-free g j m.whole x w s layers e b (m.limit e) h k.0 k.1 k.2 c.1 (few e b);
          once = omega (arith, once e, same_refl e);
        },
        choice-takes x w s few es bs c.2 (λ a. omega (arith, once a)) (λ a i. known a (in_tail a e es i)),
      )

  -- the choice for other edges is as legal as before
  others-legal : (x : ℕ → ℕ → ℕ) (e b : ℕ) (es bs : List ℕ) → occurs e es ≡ 0 → LegalWithin (problem j) m x es bs
      → LegalWithin (problem j) m (one_more e b x) es bs
  others-legal x e b [] [] z c = c
  others-legal x e b [] (d ∷ bs) z c = c
  others-legal x e b (a ∷ es) [] z c = c
  others-legal x e b (a ∷ es) (d ∷ bs) z c =
      let n : same a e ≡ 0 = same-ne a e (λ r. in-other e a (a ∷ es) z (in_head a es) (sym r)) in
      let y : x a ≡ one_more e b x a = fun_ext (λ l. omega (arith, mark-none a e (same b l) n)) in (
        c.0,
        subst (λ (f : ℕ → ℕ). Legal (layers_of j a) (capacity j a) f (m.limit a) (m.whole a) d) y c.1,
        others-legal x e b es bs (omega arith) c.2,
      )

  pub choice-occupied : (x : ℕ → ℕ → ℕ) (w : List ℕ) → SoFarWith g j m.whole x w → flat_at g ≤ length w → (es bs : List ℕ) → LegalWithin (problem j) m x es bs
      → ((e : ℕ) → occurs e es ≤ 1) → ((e : ℕ) → In e es → e < g.e) → SoFarWith g j m.whole (place x es bs) (occupied_all g w es bs)
  choice-occupied x w s room [] [] c once known = so-far-same g j m.whole x (place x [] []) w (λ e l. omega arith) s
  choice-occupied x w s room [] (b ∷ bs) c once known = absurd c
  choice-occupied x w s room (e ∷ es) [] c once known = absurd c
  choice-occupied x w s room (e ∷ es) (b ∷ bs) c once known =
      let k = layer-in e b c.0 in
      let h = known e (in_head e es) in
      so-far-same g j m.whole (place (one_more e b x) es bs) (place x (e ∷ es) (b ∷ bs)) (occupied_all g (occupied g w e b) es bs) (λ a l. omega arith)
      (choice-occupied (one_more e b x) (occupied g w e b) (occupied-with g j m.whole x w s layers e b (m.limit e) h k.0 k.1 k.2 c.1 (omega arith))
      (omega (arith, occupied-long g w e b h k.0 k.1 (omega arith))) es bs
      (others-legal x e b es bs (omega (arith, once e, same_refl e)) c.2) (λ a. omega (arith, once a)) (λ a i. known a (in_tail a e es i)))
