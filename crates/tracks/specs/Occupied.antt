-- One more net on a layer of an edge.
-- Assumes nothing.
use Rattle.std.specs.Prelude.{Bool, true, false, List, ◌⊎◌, ◌≢◌, ◌≡◌, refl, ℕ, ◌+◌, ◌-◌, ◌*◌, ◌≤◌, ◌<◌, T, leb, length, get_or, set}
use Rattle.std.proofs.Common.{inl, inr, sym, ap, ap₂, ◌∙◌, subst, arith, leb-true, leb-false}
use Rattle.std.proofs.Math.Path.{fun_ext}
use Rattle.std.proofs.Math.ListN.{length-set}
use Rattle.std.proofs.Math.Seq.{get_or-set_same, get_or-set_other}
use Rattle.layout.specs.Areas.{loads_at, demand_at}
use Rattle.layout.specs.declared.shape.Shape.{Shape}
use Rattle.model.specs.Job.{Job, runs, group, layers_of, capacity}
use Rattle.model.specs.Legal.{sum_over, put}
use Rattle.model.specs.Limits.{most_nets}
use Rattle.model.specs.Lists.{bit, same}
use Rattle.model.specs.Overflow.{over}
use Rattle.net.specs.SoFar.{SoFarWith}
use Rattle.theory.specs.congestion.Edge.{Legal, sum-over-put}
use Rattle.theory.specs.congestion.Loads.{mark-one, mark-none}
use Rattle.theory.specs.congestion.Sums.{same_cases, same_refl, sum-eq}
use Rattle.theory.specs.links.Layers.{layers_once, layers-in}
use Rattle.net.specs.Places.{edge-room, apart}

-- 1 where a layer is full
abbrev pub full_of : ℕ → ℕ → ℕ
full_of load cap = bit (leb cap load)

-- the place of the nets on layer l of edge e, and of its capacity
abbrev pub load_place : Shape → ℕ → ℕ → ℕ
load_place g e l = loads_at g + e * g.k + (l - 1)

abbrev pub cap_place : Shape → ℕ → ℕ → ℕ
cap_place g e l = e * g.k + (l - 1)

-- the overflow left, where one more net goes on the layer
abbrev pub left_after : Shape → List ℕ → ℕ → ℕ → ℕ
left_after g w e l = get_or w (demand_at g + e) 0 - full_of (get_or w (load_place g e l) 0) (get_or w (cap_place g e l) 0)

-- the working numbers with one more net on layer l of edge e
unfoldable pub occupied : Shape → List ℕ → ℕ → ℕ → List ℕ
occupied g w e l = set (set w (demand_at g + e) (left_after g w e l)) (load_place g e l) (get_or w (load_place g e l) 0 + 1)

-- the layer can take one more: a full one only where the edge has overflow left
pub record Free (g : Shape) (w : List ℕ) (e l : ℕ) : Type 0 where
  pub few : get_or w (load_place g e l) 0 ≤ most_nets
  pub left : get_or w (cap_place g e l) 0 ≤ get_or w (load_place g e l) 0 → 1 ≤ get_or w (demand_at g + e) 0

-- one more net on layer b of edge a
abbrev pub one_more : ℕ → ℕ → (ℕ → ℕ → ℕ) → ℕ → ℕ → ℕ
one_more a b x e l = x e l + same e a * same b l

-- where a full layer takes one more, the edge has that much left
pub full-fits : (load cap left : ℕ) → (cap ≤ load → 1 ≤ left) → full_of load cap ≤ left
full-fits load cap left h = go (leb cap load) refl
  where
    go : (q : Bool) → leb cap load ≡ q → bit q ≤ left
    go true e = h (leb-true cap load e)
    go false e = omega arith

-- ---- what the numbers are afterwards

-- the working numbers hold the same nets, however they are counted
pub so-far-same : (g : Shape) (j : Job) (o : ℕ → ℕ) (x y : ℕ → ℕ → ℕ) (w : List ℕ) → ((e l : ℕ) → x e l ≡ y e l) → SoFarWith g j o x w → SoFarWith g j o y w
so-far-same g j o x y w h s = subst (λ (z : ℕ → ℕ → ℕ). SoFarWith g j o z w) (fun_ext (λ e. fun_ext (λ l. h e l))) s

module _ (g : Shape) (w : List ℕ) (e l : ℕ) (edge : e < g.e) (low : 1 ≤ l) (high : l ≤ g.k) (room : demand_at g + g.e ≤ length w) where
  -- the nets stand below the overflow left, and the capacities below the nets
  below : load_place g e l < demand_at g
  below = omega (arith, edge-room g e edge)

  long : length (set w (demand_at g + e) (left_after g w e l)) ≡ length w
  long = length-set w (demand_at g + e) (left_after g w e l)

  pub load_here : get_or (occupied g w e l) (load_place g e l) 0 ≡ get_or w (load_place g e l) 0 + 1
  unfolding occupied
  load_here = get_or-set_same (set w (demand_at g + e) (left_after g w e l)) (load_place g e l) (get_or w (load_place g e l) 0 + 1) 0 (omega (arith, below, long))

  pub left_here : get_or (occupied g w e l) (demand_at g + e) 0 ≡ left_after g w e l
  unfolding occupied
  left_here =
      get_or-set_other (set w (demand_at g + e) (left_after g w e l)) (load_place g e l) (demand_at g + e) (get_or w (load_place g e l) 0 + 1) 0 (λ q. omega (arith, below))
      ∙ get_or-set_same w (demand_at g + e) (left_after g w e l) 0 (omega arith)

  pub others-kept : (i : ℕ) → i ≢ load_place g e l → i ≢ demand_at g + e → get_or (occupied g w e l) i 0 ≡ get_or w i 0
  unfolding occupied
  others-kept i p q =
      get_or-set_other (set w (demand_at g + e) (left_after g w e l)) (load_place g e l) i (get_or w (load_place g e l) 0 + 1) 0 p
      ∙ get_or-set_other w (demand_at g + e) i (left_after g w e l) 0 q

  pub occupied-long : length (occupied g w e l) ≡ length w
  unfolding occupied
  occupied-long = length-set (set w (demand_at g + e) (left_after g w e l)) (load_place g e l) (get_or w (load_place g e l) 0 + 1) ∙ long

-- a and c are the nets and the capacity of the layer, s the edge's overflows together, t the same with one more net there, and `left` what o has left
left-next : (a c left s t o : ℕ) → left + s ≡ o → t + (a - c) ≡ s + (a + 1 - c) → t ≤ o → left - full_of a c + t ≡ o
left-next a c left s t o p q h = go (leb c a) refl
  where
    go : (b : Bool) → leb c a ≡ b → left - bit b + t ≡ o
    go true e = omega (arith, leb-true c a e)
    go false e = omega (arith, leb-false c a e)

module _ (g : Shape) (j : Job) (o : ℕ → ℕ) (x : ℕ → ℕ → ℕ) (w : List ℕ) (s : SoFarWith g j o x w) (layers : g.k ≡ j.layers) (e l m : ℕ) (edge : e < g.e) (low : 1 ≤ l)
    (high : l ≤ g.k) (along : runs j.dirs (group j e) l ≡ true) (good : Legal (layers_of j e) (capacity j e) (x e) m (o e) l) where
  -- the overflows of the edge with one more net on the layer
  more : sum_over (layers_of j e) (capacity j e) (put l (x e)) + over (capacity j e l) (x e l) ≡ sum_over (layers_of j e) (capacity j e) (x e) + over (capacity j e l) (x e l + 1)
  more =
      sum-over-put (layers_of j e) (capacity j e) (x e) l
      (omega (arith, layers_once j (group j e) l, layers-in j (group j e) l low (omega arith) (subst T (sym along) tt)))

  -- a legal layer can take one more net
  pub legal-free : x e l ≤ most_nets → Free g w e l
  legal-free few = record {
    few = omega (arith, s.loads e l edge low high along);
    left = λ h. omega (arith, s.loads e l edge low high along, s.capacities.caps e l edge low high, s.left e edge, more, good.whole);
  }

  -- and with it the numbers hold one net more there
  pub occupied-with : demand_at g + g.e ≤ length w → SoFarWith g j o (one_more e l x) (occupied g w e l)
  occupied-with room = record {
    capacities = record {
      caps = λ a b h p q. kept (cap_place g a b) (λ r. omega (arith, edge-room g a h)) (λ r. omega (arith, edge-room g a h)) ∙ s.capacities.caps a b h p q;
    };
    loads = λ a b h p q r. load_at a b h p q r (same_cases a e) (same_cases l b);
    closed = λ a b h p q r. omega (arith, s.closed a b h p q r, closed_at a b h p q r (same_cases a e) (same_cases l b));
    left = λ a h. left_at a h (same_cases a e);
  }
    where
      kept : (i : ℕ) → i ≢ load_place g e l → i ≢ demand_at g + e → get_or (occupied g w e l) i 0 ≡ get_or w i 0
      kept = others-kept g w e l edge low high room

      -- the nets of a layer stand below every edge's overflow left
      under : (a b i : ℕ) → a < g.e → 1 ≤ b → b ≤ g.k → load_place g a b ≢ demand_at g + i
      under a b i h p q r = omega (arith, edge-room g a h)

      -- the nets of another layer are as they were
      other : (a b : ℕ) → a < g.e → 1 ≤ b → b ≤ g.k → (a ≢ e) ⊎ (b - 1 ≢ l - 1) → get_or (occupied g w e l) (load_place g a b) 0 ≡ get_or w (load_place g a b) 0
      other a b h p q n = kept (load_place g a b) (λ r. apart g.k a e (b - 1) (l - 1) (omega arith) (omega arith) n (omega arith)) (under a b e h p q)

      closed_at : (a b : ℕ) → a < g.e → 1 ≤ b → b ≤ g.k → runs j.dirs (group j a) b ≡ false → ((a ≡ e) × (same a e ≡ 1)) ⊎ ((a ≢ e) × (same a e ≡ 0))
          → ((l ≡ b) × (same l b ≡ 1)) ⊎ ((l ≢ b) × (same l b ≡ 0)) → get_or (occupied g w e l) (load_place g a b) 0 ≡ get_or w (load_place g a b) 0
      closed_at a b h p q r (inl c) (inl d) = absurd (subst T (sym along ∙ (λ k. runs j.dirs (group j (sym c.0 k)) (d.0 k)) ∙ r) tt)
      closed_at a b h p q r (inl c) (inr d) = other a b h p q (inr (λ t. d.0 (omega arith)))
      closed_at a b h p q r (inr c) d = other a b h p q (inl c.0)

      load_at : (a b : ℕ) → a < g.e → 1 ≤ b → b ≤ g.k → runs j.dirs (group j a) b ≡ true → ((a ≡ e) × (same a e ≡ 1)) ⊎ ((a ≢ e) × (same a e ≡ 0))
          → ((l ≡ b) × (same l b ≡ 1)) ⊎ ((l ≢ b) × (same l b ≡ 0)) → get_or (occupied g w e l) (load_place g a b) 0 ≡ x a b + same a e * same l b
      load_at a b h p q r (inl c) (inl d) =
          let i : load_place g a b ≡ load_place g e l = λ k. load_place g (c.0 k) (sym d.0 k) in
          let v : x a b ≡ x e l = λ k. x (c.0 k) (sym d.0 k) in
          omega (
            arith,
            ap (λ (n : ℕ). get_or (occupied g w e l) n 0) i,
            load_here g w e l edge low high room,
            s.loads e l edge low high along,
            v,
            mark-one a e (same l b) c.1,
            d.1,
          )
      load_at a b h p q r (inl c) (inr d) =
          omega (arith, other a b h p q (inr (λ t. d.0 (omega arith))), s.loads a b h p q r, mark-one a e (same l b) c.1, d.1)
      load_at a b h p q r (inr c) d = omega (arith, other a b h p q (inl c.0), s.loads a b h p q r, mark-none a e (same l b) c.1)

      left_at : (a : ℕ) → a < g.e → ((a ≡ e) × (same a e ≡ 1)) ⊎ ((a ≢ e) × (same a e ≡ 0))
          → get_or (occupied g w e l) (demand_at g + a) 0 + sum_over (layers_of j a) (capacity j a) (one_more e l x a) ≡ o a
      left_at a h (inl c) =
          subst (λ (n : ℕ). get_or (occupied g w e l) (demand_at g + n) 0 + sum_over (layers_of j n) (capacity j n) (one_more e l x n) ≡ o n) (sym c.0)
          (omega (
            arith,
            left_here g w e l edge low high room,
            ap₂ (λ (n k : ℕ). get_or w (demand_at g + e) 0 - full_of n k) (s.loads e l edge low high along) (s.capacities.caps e l edge low high),
            left-next (x e l) (capacity j e l) (get_or w (demand_at g + e) 0) (sum_over (layers_of j e) (capacity j e) (x e)) (sum_over (layers_of j e) (capacity j e) (put l (x e))) (o e)
                (s.left e edge) more good.whole,
            sum-eq (λ b. over (capacity j e b) (one_more e l x e b)) (λ b. over (capacity j e b) (put l (x e) b)) (layers_of j e)
                (λ b i. let r : one_more e l x e b ≡ put l (x e) b = omega (arith, mark-one e e (same l b) (same_refl e)) in ap (over (capacity j e b)) r),
          ))
      left_at a h (inr c) =
          omega (
            arith,
            kept (demand_at g + a) (λ r. under e l a edge low high (sym r)) (λ r. c.0 (omega arith)),
            s.left a h,
            sum-eq (λ b. over (capacity j a b) (one_more e l x a b)) (λ b. over (capacity j a b) (x a b)) (layers_of j a)
                (λ b i. let r : one_more e l x a b ≡ x a b = omega (arith, mark-none a e (same l b) c.1) in ap (over (capacity j a b)) r),
          )
