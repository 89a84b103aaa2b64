-- The legal layers of an edge as bits of a number: bit l − 1 is layer l.
-- Assumes nothing.
use Rattle.std.specs.Prelude.{Bool, true, false, cond, List, ◌↔◌, ◌≡◌, refl, ℕ, ◌+◌, ◌-◌, ◌*◌, ◌≤◌, ◌<◌, T, ltb, get_or}
use Rattle.std.proofs.Common.{sym, ◌∙◌, subst, ltb-true, ltb-false, le-ltb, ltb→lt, lt→ltb}
use Rattle.std.proofs.Math.Path.{ap}
use native.Mathlib.Omega.{arith}
use Rattle.layout.specs.Areas.{loads_at, demand_at}
use Rattle.layout.specs.declared.shape.Shape.{Shape}
use Rattle.marks.specs.Words.{bit_of}
use Rattle.model.specs.Job.{Job, runs, group, layers_of, capacity}
use Rattle.model.specs.Legal.{is_legal}
use Rattle.model.specs.Limits.{most_capacity, most_nets}
use Rattle.model.specs.Lists.{occurs, In}
use Rattle.model.specs.Overflow.{flat_overflow}
use Rattle.model.specs.Plan.{placed, legal}
use Rattle.net.specs.SoFar.{SoFarWith, SoFar}
use Rattle.theory.specs.congestion.Edge.{put_same, sum-over-put, is_legal→, →is_legal}
use Rattle.theory.specs.links.Best.{legal-iff}
use Rattle.theory.specs.links.Flat.{limit_at}
use Rattle.theory.specs.links.Layers.{layers_once, layers-in}
use Rattle.theory.specs.congestion.Tests.{is_true, test-eq}
use Rattle.tracks.specs.Masks.{bits_up, bits_up_lem, bits-few}

-- by how much a layer may pass its capacity: the limit where the edge has overflow left, and else 0
abbrev pub room_of : ℕ → ℕ → ℕ
room_of left m = cond (ltb 0 left) m 0

-- one more net may go on the layer
abbrev pub open_to : ℕ → ℕ → ℕ → Bool
open_to load cap room = ltb load (cap + room)

-- the same of layer i of those whose capacities stand from a on and whose nets from b on
abbrev pub open_in : List ℕ → ℕ → ℕ → ℕ → ℕ → Bool
open_in w a b room i = open_to (get_or w (b + i) 0) (get_or w (a + i) 0) room

pub room_most : (left m : ℕ) → room_of left m ≤ m
room_most left m = go (ltb 0 left)
  where
    go : (q : Bool) → cond q m 0 ≤ m
    go true = omega arith
    go false = omega arith

-- layer i + 1 of edge e, where the limit is m
abbrev pub open_at : Shape → List ℕ → ℕ → ℕ → ℕ → Bool
open_at g w e m = open_in w (e * g.k) (loads_at g + e * g.k) (room_of (get_or w (demand_at g + e) 0) m)

unfoldable pub legal_mask : Shape → List ℕ → ℕ → ℕ → ℕ
legal_mask g w e m = bits_up (open_at g w e m) 0 g.k

pub mask-small : (g : Shape) (w : List ℕ) (e m : ℕ) → g.k ≤ 8 → legal_mask g w e m < 256
unfolding legal_mask
mask-small g w e m h = bits-few (open_at g w e m) 0 g.k h

-- ---- it is the definitions' test

-- a and c are the nets and the capacity of a layer, s the edge's overflows together, t the same with one more net there, and `left` what o has left
there : (a c m left : ℕ) → T (open_to a c (room_of left m)) → a + 1 - c ≤ m
there a c m left h = go (ltb 0 left) (ltb→lt a (c + room_of left m) h)
  where
    go : (q : Bool) → a < c + cond q m 0 → a + 1 - c ≤ m
    go true k = omega arith
    go false k = omega arith

whole : (a c m left s t o : ℕ) → left + s ≡ o → t + (a - c) ≡ s + (a + 1 - c) → T (open_to a c (room_of left m)) → t ≤ o
whole a c m left s t o l p h = go (ltb 0 left) refl (ltb→lt a (c + room_of left m) h)
  where
    go : (q : Bool) → ltb 0 left ≡ q → a < c + cond q m 0 → t ≤ o
    go true e k = omega (arith, ltb-true 0 left e)
    go false e k = omega arith

back : (a c m left s t o : ℕ) → left + s ≡ o → t + (a - c) ≡ s + (a + 1 - c) → a + 1 - c ≤ m → t ≤ o → T (open_to a c (room_of left m))
back a c m left s t o l p h k = lt→ltb a (c + room_of left m) (go (ltb 0 left) refl)
  where
    go : (q : Bool) → ltb 0 left ≡ q → a < c + cond q m 0
    go true e = omega arith
    go false e = omega (arith, ltb-false 0 left e)

module _ (g : Shape) (j : Job) (o : ℕ → ℕ) (x : ℕ → ℕ → ℕ) (w : List ℕ) (s : SoFarWith g j o x w) (layers : g.k ≡ j.layers) (e m l : ℕ) (edge : e < g.e)
    (low : 1 ≤ l) (high : l ≤ g.k) where
  abbrev along : Bool
  along = runs j.dirs (group j e) l

  abbrev load : ℕ
  load = get_or w (loads_at g + e * g.k + (l - 1)) 0

  abbrev cap : ℕ
  cap = get_or w (e * g.k + (l - 1)) 0

  abbrev left : ℕ
  left = get_or w (demand_at g + e) 0

  -- a layer that runs the edge's way is open just where it is legal
  open-legal : along ≡ true → open_to load cap (room_of left m) ≡ is_legal (layers_of j e) (capacity j e) (x e) m (o e) l
  open-legal way = rw (s.loads e l edge low high way, s.capacities.caps e l edge low high) (test-eq _ _ there→ back→)
    where
      once : occurs l (layers_of j e) ≡ 1
      once = omega (arith, layers_once j (group j e) l, layers-in j (group j e) l low (omega arith) (subst T (sym way) tt))

      there→ : T (open_to (x e l) (capacity j e l) (room_of left m)) → T (is_legal (layers_of j e) (capacity j e) (x e) m (o e) l)
      there→ h = →is_legal (layers_of j e) (capacity j e) (x e) m (o e) l (record {
        there = omega (arith, there (x e l) (capacity j e l) m left h, put_same l (x e));
        whole = whole (x e l) (capacity j e l) m left _ _ (o e) (s.left e edge) (sum-over-put (layers_of j e) (capacity j e) (x e) l once) h;
      })

      back→ : T (is_legal (layers_of j e) (capacity j e) (x e) m (o e) l) → T (open_to (x e l) (capacity j e l) (room_of left m))
      back→ h =
          let k = is_legal→ (layers_of j e) (capacity j e) (x e) m (o e) l h in
          back (x e l) (capacity j e l) m left _ _ (o e) (s.left e edge) (sum-over-put (layers_of j e) (capacity j e) (x e) l once)
          (omega (arith, k.there, put_same l (x e))) k.whole

  -- and one that runs the other way is not: it holds more nets than any capacity and limit
  open-closed : along ≡ false → cap ≤ most_capacity → m ≤ most_nets → open_to load cap (room_of left m) ≡ false
  open-closed way small few = le-ltb load (cap + room_of left m) (omega (arith, s.closed e l edge low high way, room_most left m))

  -- bit l − 1 says whether layer l is open
  open-bit : bit_of (legal_mask g w e m) (l - 1) ≡ open_to load cap (room_of left m)
  unfolding legal_mask
  open-bit =
      let z : 0 + (l - 1) ≡ l - 1 = omega arith in
      bits_up_lem (open_at g w e m) 0 g.k (l - 1) (omega arith) ∙ ap (open_at g w e m) z

-- a layer is among the legal ones at a turn just where its bit is set
pub legal-in : (g : Shape) (j : Job) (plan : List (List ℕ)) (w : List ℕ) → SoFar g j plan w → g.k ≡ j.layers → (e l : ℕ) → e < g.e → 1 ≤ l → l ≤ g.k
    → capacity j e l ≤ most_capacity → limit_at j e ≤ most_nets → (bit_of (legal_mask g w e (limit_at j e)) (l - 1) ≡ true) ↔ In l (legal j plan e)
legal-in g j plan w s layers e l edge low high small few = go (runs j.dirs (group j e) l) refl
  where
    bit_is : bit_of (legal_mask g w e (limit_at j e)) (l - 1)
        ≡ open_to (get_or w (loads_at g + e * g.k + (l - 1)) 0) (get_or w (e * g.k + (l - 1)) 0) (room_of (get_or w (demand_at g + e) 0) (limit_at j e))
    bit_is = open-bit g j (flat_overflow j) (placed j plan) w s layers e (limit_at j e) l edge low high

    go : (b : Bool) → runs j.dirs (group j e) l ≡ b → (bit_of (legal_mask g w e (limit_at j e)) (l - 1) ≡ true) ↔ In l (legal j plan e)
    go true way =
        let k = legal-iff j plan e l in
        let t = bit_is ∙ open-legal g j (flat_overflow j) (placed j plan) w s layers e (limit_at j e) l edge low high way in (
          λ h. k.1 (low, omega arith, subst T (sym way) tt, subst T (sym h ∙ t) tt),
          λ i. t ∙ is_true _ (k.0 i).3,
        )
    go false way =
        let t = bit_is ∙ open-closed g j (flat_overflow j) (placed j plan) w s layers e (limit_at j e) l edge low high way
        (omega (arith, s.capacities.caps e l edge low high)) few in (
          λ h. absurd (subst T (sym h ∙ t) tt),
          λ i. absurd (subst T way ((legal-iff j plan e l).0 i).2),
        )
