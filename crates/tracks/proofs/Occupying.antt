-- The loop over a net's edges: a turn puts one of them on its layer.
-- Assumes nothing.
use mathlib.Core.List.{List, ◌∷◌}
use mathlib.Core.Path.{◌≡◌, refl, sym, ap, ◌∙◌, subst}
use Prim.Native.Nat.{ℕ, suc, ◌+◌, ◌-◌, ◌≤◌, ◌<◌}
use native.Mathlib.Omega.{arith}
use lib.ListN.{length, get_or}
use lib.Seq.{drop-cons}
use Rattle.layout.specs.Areas.{flat_at, above_at}
use Rattle.layout.specs.Parts.{part}
use Rattle.layout.specs.declared.shape.Shape.{Shape}
use Rattle.tracks.specs.Occupied.{occupied}
use Rattle.tracks.specs.OccupiedAll.{layers_at, edges_of, layers_in, occupied_all, Takes, CanTake, takes-kept, occupied-outside}

-- i is the place of the next edge; the edges stand from a on, and their layers from b on
pub record Occupying (g : Shape) (a b n : ℕ) (w₀ w : List ℕ) (i : ℕ) : Type 0 where
  pub long : length w ≡ length w₀
  pub high : (p : ℕ) → flat_at g ≤ p → get_or w p 0 ≡ get_or w₀ p 0
  pub takes : CanTake g w (part (a + i) (n - i) w₀) (part (b + i) (n - i) w₀)
  pub rest : occupied_all g w₀ (part (a + 1) (n - 1) w₀) (part (b + 1) (n - 1) w₀) ≡ occupied_all g w (part (a + i) (n - i) w₀) (part (b + i) (n - i) w₀)

part-next : (a n i : ℕ) (w : List ℕ) → i < n → a + n ≤ length w → part (a + i) (n - i) w ≡ get_or w (a + i) 0 ∷ part (a + (i + 1)) (n - (i + 1)) w
part-next a n i w h r =
    let p : n - i ≡ suc (n - (i + 1)) = omega arith in
    let q : a + (i + 1) ≡ suc (a + i) = omega arith in
    rw (p, q, drop-cons w (a + i) 0 (omega arith))

module _ (g : Shape) (a b n : ℕ) (w₀ : List ℕ) where
  -- before the first edge, and after the last
  module _ (a-is : a ≡ above_at g) (b-is : b ≡ layers_at g) where
    pub occupying-start : CanTake g w₀ (edges_of g n w₀) (layers_in g n w₀) → Occupying g a b n w₀ w₀ 1
    occupying-start t = record { long = refl; high = λ p h. refl; takes = rw (a-is, b-is) t; rest = refl }

    pub occupying-done : (w : List ℕ) (i : ℕ) → n ≤ i → Occupying g a b n w₀ w i → w ≡ occupied_all g w₀ (edges_of g n w₀) (layers_in g n w₀)
    occupying-done w i h o =
        let z : n - i ≡ 0 = omega arith in
        sym (o.rest ∙ rw z) ∙ (λ k. occupied_all g w₀ (part (a-is k + 1) (n - 1) w₀) (part (b-is k + 1) (n - 1) w₀))

  module _ (a-room : a + n ≤ length w₀) (b-room : b + n ≤ length w₀) (a-high : flat_at g ≤ a) (b-high : flat_at g ≤ b) (w : List ℕ) (i : ℕ)
      (o : Occupying g a b n w₀ w i) (h : i < n) where
    -- the next edge and its layer, and those after them
    abbrev e : ℕ
    e = get_or w (a + i) 0

    abbrev l : ℕ
    l = get_or w (b + i) 0

    abbrev es : List ℕ
    es = part (a + (i + 1)) (n - (i + 1)) w₀

    abbrev ls : List ℕ
    ls = part (b + (i + 1)) (n - (i + 1)) w₀

    edges-next : part (a + i) (n - i) w₀ ≡ e ∷ es
    edges-next = part-next a n i w₀ h a-room ∙ ap {B = List ℕ} (λ (x : ℕ). x ∷ es) (sym (o.high (a + i) (omega arith)))

    layers-next : part (b + i) (n - i) w₀ ≡ l ∷ ls
    layers-next = part-next b n i w₀ h b-room ∙ ap {B = List ℕ} (λ (x : ℕ). x ∷ ls) (sym (o.high (b + i) (omega arith)))

    both : Takes g w e l es × CanTake g w es ls
    both = rw (edges-next, layers-next) at o.takes

    pub turn-takes : Takes g w e l es
    turn-takes = both.0

    pub occupying-next : (w' : List ℕ) → w' ≡ occupied g w e l → Occupying g a b n w₀ w' (i + 1)
    occupying-next w' w'-is = subst (λ (v : List ℕ). Occupying g a b n w₀ v (i + 1)) (sym w'-is) (finish both.0 both.1)
      where
        room : flat_at g ≤ length w
        room = omega (arith, o.long)

        finish : Takes g w e l es → CanTake g w es ls → Occupying g a b n w₀ (occupied g w e l) (i + 1)
        finish t rest =
            let u = occupied-outside g w room e l t.edge t.low t.high in
            record {
              long = u.long ∙ o.long;
              high = λ p k. u.high p (omega arith) ∙ o.high p k;
              takes = takes-kept g w room e l t.edge t.low t.high es ls t.once rest;
              rest = o.rest ∙ rw (edges-next, layers-next);
            }
