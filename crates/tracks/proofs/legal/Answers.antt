-- `legal` meets its contract.
-- Assumes nothing.
use mathlib.Core.Path.{◌≡◌, refl, ap, ap₂, subst}
use Prim.Native.Nat.{ℕ, ◌+◌, ◌*◌, ◌^◌, ◌≤◌, ◌<◌}
use native.Mathlib.Omega.{arith}
use lib.ListN.{length, get_or}
use Rattle.model.specs.Limits.{most_layers}
use Rattle.tracks.specs.Legal.{open_to, open_in, legal_mask}
use Rattle.tracks.specs.Masks.{bits_up, bits-few}
use Rattle.tracks.proofs.Layers.{mask_fits, mask_is}
use Rattle.tracks.proofs.Turns.{bits-halves}
use Rattle.tracks.proofs.legal.Goals as goal
use Rattle.tracks.proofs.legal.Goals.{After-room_of-room}

-- what is known where the layers are tested, and the answer for k of them, all that the edge has
module _ (c : After-room_of-room) where
  abbrev caps : ℕ
  caps = c.edge_at-caps.result

  abbrev loads : ℕ
  loads = c.loads_at.result + caps

  -- what is asked of n of the layers, from layer j + 1 on
  asked : (j n p q : ℕ) → p ≡ caps + j → q ≡ loads + j → j + n ≤ c.args.g.k
      → ((p + n ≤ length c.args.w.now) × (q + n ≤ length c.args.w.now) × (n ≤ most_layers))
      × ((i : ℕ) → i < n → get_or c.args.w.now (p + i) 0 + c.room_of-room.result < 2 ^ 32)
  asked j n p q p-is q-is h =
      let x = c.args in (
        (omega (arith, c.edge_at-caps.ensures.1, c.requires.edge_lt_e), omega (arith, c.edge_at-caps.ensures.1, c.loads_at.ensures, c.requires.edge_lt_e), omega (arith, c.args.g.shaped.k_most)),
        λ i b.
            let t : caps + (j + i) ≡ p + i = omega arith in
            subst (λ (t : ℕ). get_or x.w.now t 0 + c.room_of-room.result < 2 ^ 32) t
            (mask_fits x.g x.w.now x.edge x.limit caps c.loads_at.result c.demand_at.result c.edge_at-caps.ensures.0
            c.loads_at.ensures.value c.demand_at.ensures.value c.room_of-room.result c.room_of-room.ensures c.requires.edge_lt_e.0 c.requires.edge_lt_e.2 c.requires.small_capacities (j + i) (omega arith)),
      )

  found : (r : ℕ) → r ≡ bits_up (open_in c.args.w.now caps loads c.room_of-room.result) 0 c.args.g.k
      → (r ≡ legal_mask c.args.g c.args.w.now c.args.edge c.args.limit) × (r < 256)
  found r r-is =
      let x = c.args in
      mask_is x.g x.w.now x.edge x.limit caps c.loads_at.result c.demand_at.result c.edge_at-caps.ensures.0
      c.loads_at.ensures.value c.demand_at.ensures.value c.room_of-room.result c.room_of-room.ensures c.args.g.shaped.k_most r r-is

  few : (p q r : ℕ) → r ≡ bits_up (open_in c.args.w.now p q c.room_of-room.result) 0 4 → r < 256
  few p q r r-is = omega (arith, r-is, bits-few (open_in c.args.w.now p q c.room_of-room.result) 0 4 (omega arith))

  -- two fours are all
  halves : (low high : ℕ) → 8 ≡ c.args.g.k → low ≡ bits_up (open_in c.args.w.now caps loads c.room_of-room.result) 0 4
      → high ≡ bits_up (open_in c.args.w.now (caps + 4) (loads + 4) c.room_of-room.result) 0 4
      → low + 16 * high ≡ bits_up (open_in c.args.w.now caps loads c.room_of-room.result) 0 c.args.g.k
  halves low high k-is low_is high_is =
      let w = c.args.w.now in
      let r = c.room_of-room.result in
      omega (
        arith,
        low_is,
        high_is,
        bits-halves (open_in w caps loads r) (open_in w (caps + 4) (loads + 4) r) (λ i.
            let p : loads + 4 + i ≡ loads + (4 + i) = omega arith in
            let q : caps + 4 + i ≡ caps + (4 + i) = omega arith in
            ap₂ (λ (a b : ℕ). open_to (get_or w a 0) (get_or w b 0) r) p q),
        ap (bits_up (open_in w caps loads r) 0) k-is,
      )

pub open_layers-low-requires : goal.open_layers-low-requires
open_layers-low-requires c =
    let r = asked (goal.at.open_layers-low-requires c).After-room_of-room 0 4 (caps (goal.at.open_layers-low-requires c).After-room_of-room) (loads (goal.at.open_layers-low-requires c).After-room_of-room) (omega arith) (omega arith) (omega arith) in record { k_in_bounds = r.0; by_index = r.1 }

pub open_layers-high-requires : goal.open_layers-high-requires
open_layers-high-requires c =
    let r = asked (goal.at.open_layers-high-requires c).After-room_of-room 4 4 (caps (goal.at.open_layers-high-requires c).After-room_of-room + 4) (loads (goal.at.open_layers-high-requires c).After-room_of-room + 4) refl refl (omega arith) in record { k_in_bounds = r.0; by_index = r.1 }

pub overflow_mul-result : goal.overflow_mul-result
overflow_mul-result c =
    omega (arith, few (goal.at.overflow_mul-result c).After-room_of-room (caps (goal.at.overflow_mul-result c).After-room_of-room + 4) (loads (goal.at.overflow_mul-result c).After-room_of-room + 4) c.open_layers-high.result c.open_layers-high.ensures)

pub overflow_add-result : goal.overflow_add-result
overflow_add-result c =
    omega (arith, few (goal.at.overflow_add-result c).After-room_of-room (caps (goal.at.overflow_add-result c).After-room_of-room + 4) (loads (goal.at.overflow_add-result c).After-room_of-room + 4) c.open_layers-high.result c.open_layers-high.ensures, few (goal.at.overflow_add-result c).After-room_of-room (caps (goal.at.overflow_add-result c).After-room_of-room) (loads (goal.at.overflow_add-result c).After-room_of-room) c.open_layers-low.result c.open_layers-low.ensures)

pub returns-then-g-eq8 : goal.returns-then-g-eq8
returns-then-g-eq8 c =
    let r = found (goal.at.returns-then-g-eq8 c).After-room_of-room _ (halves (goal.at.returns-then-g-eq8 c).After-room_of-room c.open_layers-low.result c.open_layers-high.result (omega arith) c.open_layers-low.ensures c.open_layers-high.ensures) in record { value = r.0; upper_bound = r.1 }

pub open_layers-requires : goal.open_layers-requires
open_layers-requires c =
    let r = asked (goal.at.open_layers-requires c).After-room_of-room 0 c.args.g.k (caps (goal.at.open_layers-requires c).After-room_of-room) (loads (goal.at.open_layers-requires c).After-room_of-room) (omega arith) (omega arith) (omega arith) in record { k_in_bounds = r.0; by_index = r.1 }

pub returns : goal.returns
returns c =
    let r = found (goal.at.returns c).After-room_of-room c.open_layers.result c.open_layers.ensures in record { value = r.0; upper_bound = r.1 }
