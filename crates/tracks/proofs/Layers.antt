-- One edge's layers: the mask of the legal ones, and one more net on a layer, at the places that the code finds.
-- Assumes nothing.
use mathlib.Core.List.{List}
use mathlib.Core.Path.{◌≡◌, sym, ap, ◌∙◌, subst}
use Prim.Native.Nat.{ℕ, ◌+◌, ◌-◌, ◌*◌, ◌^◌, ◌≤◌, ◌<◌}
use native.Mathlib.Omega.{arith}
use lib.ListN.{get_or, set}
use Rattle.layout.specs.Areas.{loads_at, demand_at}
use Rattle.layout.specs.declared.shape.Shape.{Shape}
use Rattle.model.specs.Limits.{most_nets}
use Rattle.tracks.specs.Legal.{room_of, room_most, open_in, legal_mask, mask-small}
use Rattle.tracks.specs.Masks.{bits_up}
use Rattle.tracks.specs.Occupied.{full_of, load_place, cap_place, occupied, Free, full-fits}
use Rattle.net.specs.Places.{SmallCapacities}

module _ (g : Shape) (w : List ℕ) (e m caps loads demand : ℕ) (caps-is : caps ≡ e * g.k) (loads-is : loads ≡ loads_at g) (demand-is : demand ≡ demand_at g)
    (room : ℕ) (room_is : room ≡ room_of (get_or w (demand + e) 0) m) where
  pub mask_fits : e < g.e → m ≤ most_nets → SmallCapacities g w → (i : ℕ) → i < g.k → get_or w (caps + i) 0 + room < 2 ^ 32
  mask_fits h l s i b =
      let p : get_or w (caps + i) 0 ≡ get_or w (e * g.k + i) 0 = ap (λ (a : ℕ). get_or w (a + i) 0) caps-is in
      omega (arith, p, s e i h b, room_is, room_most (get_or w (demand + e) 0) m)

  pub mask_is : g.k ≤ 8 → (r : ℕ) → r ≡ bits_up (open_in w caps (loads + caps) room) 0 g.k → (r ≡ legal_mask g w e m) × (r < 256)
  unfolding legal_mask
  mask_is h r r-is = (same, subst (λ (n : ℕ). n < 256) (sym same) (mask-small g w e m h))
    where
      room-here : room ≡ room_of (get_or w (demand_at g + e) 0) m
      room-here = room_is ∙ ap (λ (d : ℕ). room_of (get_or w (d + e) 0) m) demand-is

      same : r ≡ legal_mask g w e m
      same = r-is ∙ (λ k. bits_up (open_in w (caps-is k) (loads-is k + caps-is k) (room-here k)) 0 g.k)

module _ (g : Shape) (w : List ℕ) (e l : ℕ) (cap load left : ℕ) (cap-is : cap ≡ cap_place g e l) (load_is : load ≡ load_place g e l) (left_is : left ≡ demand_at g + e) where
  module _ (free : Free g w e l) where
    pub load_fits : get_or w load 0 ≤ most_nets
    load_fits = subst (λ (p : ℕ). get_or w p 0 ≤ most_nets) (sym load_is) free.few

    pub left-fits : full_of (get_or w load 0) (get_or w cap 0) ≤ get_or w left 0
    left-fits = rw (load_is, cap-is, left_is) (full-fits (get_or w (load_place g e l) 0) (get_or w (cap_place g e l) 0) (get_or w (demand_at g + e) 0) free.left)

  pub occupied-is : (f : ℕ) → f ≡ full_of (get_or w load 0) (get_or w cap 0) → set (set w left (get_or w left 0 - f)) load (get_or w load 0 + 1) ≡ occupied g w e l
  unfolding occupied
  occupied-is f f-is =
      let f-here : f ≡ full_of (get_or w (load_place g e l) 0) (get_or w (cap_place g e l) 0) = f-is ∙ (λ k. full_of (get_or w (load_is k) 0) (get_or w (cap-is k) 0)) in
      λ k. set (set w (left_is k) (get_or w (left_is k) 0 - f-here k)) (load_is k) (get_or w (load_is k) 0 + 1)
