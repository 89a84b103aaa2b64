-- The loops that put the chosen layers by edge, and from there into the net's stretch.
-- Assumes nothing.
use mathlib.Core.List.{List, [], ◌∷◌, map}
use mathlib.Core.Path.{◌≡◌, refl, sym, ap, ap₂, ◌∙◌}
use Prim.Native.Nat.{ℕ, zero, suc, ◌+◌, ◌-◌, ◌≤◌, ◌<◌}
use native.Mathlib.Decide.{ℕ_discrete}
use native.Mathlib.Omega.{arith}
use lib.ListN.{length, get_or, set, length-set, length-map}
use lib.Seq.{drop-cons, ext_get_or, get_or-set_same, get_or-set_other}
use Rattle.layout.specs.Areas.{chosen_at, list_at, above_at}
use Rattle.layout.specs.Parts.{part, part_at, part-long, Outside, set-outside, outside_wider, outside-then, outside-same}
use Rattle.layout.specs.Shapes.{Shaped}
use Rattle.layout.specs.declared.shape.Shape.{Shape}
use Rattle.tracks.specs.OccupiedAll.{layers_at, edges_of, layers_in}
use Rattle.turn.specs.Steps.{KnownEdges, put_by, chosen_in, listed_layers}

-- ---- by edge

-- i is the next walk place; the edges stand from a on and their layers from b on, and the layers go to the places from c on
pub record Putting (a b c n : ℕ) (w₀ w : List ℕ) (i : ℕ) : Type 0 where
  pub long : length w ≡ length w₀
  pub high : (p : ℕ) → a ≤ p → get_or w p 0 ≡ get_or w₀ p 0
  pub rest : put_by c w₀ (part (a + 1) (n - 1) w₀) (part (b + 1) (n - 1) w₀) ≡ put_by c w (part (a + i) (n - i) w₀) (part (b + i) (n - i) w₀)

part-next : (a n i : ℕ) (w : List ℕ) → i < n → a + n ≤ length w → part (a + i) (n - i) w ≡ get_or w (a + i) 0 ∷ part (a + (i + 1)) (n - (i + 1)) w
part-next a n i w h r =
    let p : n - i ≡ suc (n - (i + 1)) = omega arith in
    let q : a + (i + 1) ≡ suc (a + i) = omega arith in
    rw (p, q, drop-cons w (a + i) 0 (omega arith))

pub putting-start : (a b c n : ℕ) (w : List ℕ) → Putting a b c n w w 1
putting-start a b c n w = record { long = refl; high = λ p h. refl; rest = refl }

module _ (g : Shape) (shaped : Shaped g) (a b c n : ℕ) (w₀ : List ℕ) (a-is : a ≡ above_at g) (b-is : b ≡ layers_at g) (c-is : c ≡ chosen_at g) (known : KnownEdges g n w₀)
    (w : List ℕ) (i : ℕ) (o : Putting a b c n w₀ w i) where
  pub put-known : 1 ≤ i → i < n → get_or w (a + i) 0 < g.e
  put-known p h = omega (arith, o.high (a + i) (omega arith), ap (λ (x : ℕ). get_or w₀ (x + i) 0) a-is, known i p h)

  pub putting-next : 1 ≤ i → i < n → a + n ≤ length w₀ → b + n ≤ length w₀ → Putting a b c n w₀ (set w (c + get_or w (a + i) 0) (get_or w (b + i) 0)) (i + 1)
  putting-next p h a-room b-room = record {
    long = length-set w (c + get_or w (a + i) 0) (get_or w (b + i) 0) ∙ o.long;
    high = λ q k. (set-outside w (c + get_or w (a + i) 0) (get_or w (b + i) 0)).high q (omega (arith, put-known p h, shaped.e_tiles)) ∙ o.high q k;
    rest = o.rest ∙ ap₂ (λ (es ls : List ℕ). put_by c w es ls) edges-next layers-next;
  }
    where
      edges-next : part (a + i) (n - i) w₀ ≡ get_or w (a + i) 0 ∷ part (a + (i + 1)) (n - (i + 1)) w₀
      edges-next = part-next a n i w₀ h a-room ∙ ap {B = List ℕ} (λ (x : ℕ). x ∷ part (a + (i + 1)) (n - (i + 1)) w₀) (sym (o.high (a + i) (omega arith)))

      layers-next : part (b + i) (n - i) w₀ ≡ get_or w (b + i) 0 ∷ part (b + (i + 1)) (n - (i + 1)) w₀
      layers-next = part-next b n i w₀ h b-room ∙ ap {B = List ℕ} (λ (x : ℕ). x ∷ part (b + (i + 1)) (n - (i + 1)) w₀) (sym (o.high (b + i) (omega arith)))

  pub putting-done : n ≤ i → w ≡ put_by (chosen_at g) w₀ (edges_of g n w₀) (layers_in g n w₀)
  putting-done h =
      let z : n - i ≡ 0 = omega arith in
      sym (o.rest ∙ rw z) ∙ (λ k. put_by (c-is k) w₀ (part (a-is k + 1) (n - 1) w₀) (part (b-is k + 1) (n - 1) w₀))

-- ---- taken away

-- nothing stands any more for the first i edges listed, which stand from a on; what stands for an edge does so from c on
pub record Clearing (a c k : ℕ) (w₀ w : List ℕ) (i : ℕ) : Type 0 where
  pub each : (t : ℕ) → t < i → get_or w (c + get_or w₀ (a + t) 0) 0 ≡ 0
  pub outside : Outside c k w₀ w

pub clearing-start : (a c k : ℕ) (w : List ℕ) → Clearing a c k w w 0
clearing-start a c k w = record { each = λ t h. absurd (omega arith); outside = outside-same c k w }

pub clearing-next : (a c k : ℕ) (w₀ w : List ℕ) (i : ℕ) → Clearing a c k w₀ w i → c + k ≤ a → get_or w (a + i) 0 < k → c + k ≤ length w → Clearing a c k w₀ (set w (c + get_or w (a + i) 0) 0) (i + 1)
clearing-next a c k w₀ w i o apart small room = record {
  each = λ t h. go t h (ℕ_discrete (get_or w₀ (a + t) 0) (get_or w (a + i) 0));
  outside = outside-then c k w₀ w (set w (c + get_or w (a + i) 0) 0) o.outside
      (outside_wider (c + get_or w (a + i) 0) 1 c k w (set w (c + get_or w (a + i) 0) 0) (set-outside w (c + get_or w (a + i) 0) 0) (omega arith) (omega arith));
}
  where
    go : (t : ℕ) → t < i + 1 → Dec (get_or w₀ (a + t) 0 ≡ get_or w (a + i) 0) → get_or (set w (c + get_or w (a + i) 0) 0) (c + get_or w₀ (a + t) 0) 0 ≡ 0
    go t h (yes e) = ap (λ (x : ℕ). get_or (set w (c + get_or w (a + i) 0) 0) (c + x) 0) e ∙ get_or-set_same w (c + get_or w (a + i) 0) 0 0 (omega arith)
    go t h (no d) =
        get_or-set_other w (c + get_or w (a + i) 0) (c + get_or w₀ (a + t) 0) 0 0 (λ z. d (omega (arith, z)))
        ∙ o.each t (earlier (ℕ_discrete t i))
      where
        earlier : Dec (t ≡ i) → t < i
        earlier (yes e) = absurd (d (ap (λ (x : ℕ). get_or w₀ (a + x) 0) e ∙ sym (o.outside.high (a + i) (omega arith))))
        earlier (no n) = omega (arith, n)

-- ---- into the stretch

-- the first i entries are written; the edges stand from a on, and their layers by edge from c on
pub record Answering (a c : ℕ) (w out₀ out : List ℕ) (i : ℕ) : Type 0 where
  pub long : length out ≡ length out₀
  pub each : (k : ℕ) → k < i → get_or out k 0 ≡ get_or w (c + get_or w (a + k) 0) 0

pub answering-start : (a c : ℕ) (w out : List ℕ) → Answering a c w out out 0
answering-start a c w out = record { long = refl; each = λ k h. absurd (omega arith) }

pub answering-next : (a c : ℕ) (w out₀ out : List ℕ) (i : ℕ) → Answering a c w out₀ out i → i < length out₀
    → Answering a c w out₀ (set out i (get_or w (c + get_or w (a + i) 0) 0)) (i + 1)
answering-next a c w out₀ out i o h = record {
  long = length-set out i (get_or w (c + get_or w (a + i) 0) 0) ∙ o.long;
  each = λ k b. go k b (ℕ_discrete k i);
}
  where
    go : (k : ℕ) → k < i + 1 → Dec (k ≡ i) → get_or (set out i (get_or w (c + get_or w (a + i) 0) 0)) k 0 ≡ get_or w (c + get_or w (a + k) 0) 0
    go k b (yes e) = rw e (get_or-set_same out i (get_or w (c + get_or w (a + i) 0) 0) 0 (omega (arith, o.long)))
    go k b (no d) = get_or-set_other out i k (get_or w (c + get_or w (a + i) 0) 0) 0 d ∙ o.each k (omega arith)

map_at : (f : ℕ → ℕ) (xs : List ℕ) (k : ℕ) → k < length xs → get_or (map f xs) k 0 ≡ f (get_or xs k 0)
map_at f [] k h = absurd (omega arith)
map_at f (x ∷ xs) zero h = refl
map_at f (x ∷ xs) (suc k) h = map_at f xs k (omega arith)

pub answering-done : (g : Shape) (a c : ℕ) (w out₀ out : List ℕ) (i : ℕ) → a ≡ list_at g → c ≡ chosen_at g → list_at g + length out₀ ≤ length w → Answering a c w out₀ out i → length out₀ ≤ i
    → out ≡ listed_layers g w (length out₀)
answering-done g a c w out₀ out i a-is c-is room o h =
    ext_get_or 0 out (listed_layers g w (length out₀)) (o.long ∙ sym (length-map (part (list_at g) (length out₀) w) (chosen_in g w) ∙ long))
    (λ k b.
    o.each k (omega (arith, o.long))
    ∙ ap₂ (λ (x y : ℕ). get_or w (x + get_or w (y + k) 0) 0) c-is a-is
    ∙ ap (chosen_in g w) (sym (part_at (list_at g) (length out₀) w k (omega (arith, o.long))))
    ∙ sym (map_at (chosen_in g w) (part (list_at g) (length out₀) w) k (omega (arith, o.long, long))))
  where
    long : length (part (list_at g) (length out₀) w) ≡ length out₀
    long = part-long (list_at g) (length out₀) w room
