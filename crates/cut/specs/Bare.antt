-- A tile whose only mark is a way: it has one edge and no pin.
-- Assumes nothing.
use Rattle.std.specs.Prelude.{Bool, true, false, ◌&&◌, ◌||◌, cond, List, [], ◌∷◌, ◌≢◌, ◌≡◌, refl, ℕ, zero, suc, ◌+◌, ◌-◌, ◌*◌, ◌^◌, ◌≤◌, ◌<◌, T, eqb, ltb, Option, Some, None, length}
use Rattle.std.proofs.Common.{⊎_elim, sym, ap, subst, ◌∙◌, zero-add, arith, eq-eqb, ne_eqb, eqb-true, ltb-true, ltb-false}
use Rattle.std.proofs.lemmas.Option.{none-some, same_Some}
use Rattle.layout.specs.Shapes.{Shaped}
use Rattle.layout.specs.declared.shape.Shape.{Shape}
use Rattle.marks.specs.Marks.{bits_at}
use Rattle.marks.specs.Words.{bit_of, bits_small, bit-zero, bit-add, value_of, value-is}
use Rattle.model.specs.Cut.{pinned}
use Rattle.model.specs.Grid.{grid_edges}
use Rattle.model.specs.Job.{Pin}
use Rattle.model.specs.Lists.{has, bit, sum, keep, In, occurs}
use Rattle.model.specs.Vias.{pin_layers}
use Rattle.net.specs.AtHand.{Drawn}
use Rattle.theory.specs.congestion.Sums.{lt-or-ge}
use Rattle.theory.specs.congestion.Tests.{and_both, has_in}
use Rattle.theory.specs.cutting.Prune.{degree, Bare}
use Rattle.theory.specs.cutting.Strip.{degree-ways}
use Rattle.theory.specs.links.Edges.{near_of, near-is, fits-of}
use Rattle.theory.specs.links.Nets.{EachPin}
use Rattle.theory.specs.links.Reach.{lo_of, hi_of}
use Rattle.theory.specs.walk.Ways.{way?, way_edge, ways_by}

-- what is known of the pins and edges that are marked
pub record Fine (g : Shape) (ps : List Pin) (es : List ℕ) : Type 0 where
  pub once : (e : ℕ) → occurs e es ≤ 1
  pub known : (e : ℕ) → In e es → e < grid_edges g.w g.h
  pub layers : EachPin (λ p. (1 ≤ p.layer) × (p.layer ≤ 8)) ps

-- ---- the bits of a tile

-- the way that is its only mark, and 4 where there is none such
unfoldable pub way_in : ℕ → ℕ
way_in m = cond (eqb m 256) 0 (cond (eqb m 512) 1 (cond (eqb m 1_024) 2 (cond (eqb m 2_048) 3 4)))

pub way-first : (m : ℕ) → m ≡ 256 → 0 ≡ way_in m
unfolding way_in
way-first m e = rw (eq-eqb m 256 e)

pub way-second : (m : ℕ) → m ≢ 256 → m ≡ 512 → 1 ≡ way_in m
unfolding way_in
way-second m p e = rw (ne_eqb m 256 p, eq-eqb m 512 e)

pub way-third : (m : ℕ) → m ≢ 256 → m ≢ 512 → m ≡ 1_024 → 2 ≡ way_in m
unfolding way_in
way-third m p q e = rw (ne_eqb m 256 p, ne_eqb m 512 q, eq-eqb m 1_024 e)

pub way-fourth : (m : ℕ) → m ≢ 256 → m ≢ 512 → m ≢ 1_024 → m ≡ 2_048 → 3 ≡ way_in m
unfolding way_in
way-fourth m p q r e = rw (ne_eqb m 256 p, ne_eqb m 512 q, ne_eqb m 1_024 r, eq-eqb m 2_048 e)

pub way-other : (m : ℕ) → m ≢ 256 → m ≢ 512 → m ≢ 1_024 → m ≢ 2_048 → 4 ≡ way_in m
unfolding way_in
way-other m p q r u = rw (ne_eqb m 256 p, ne_eqb m 512 q, ne_eqb m 1_024 r, ne_eqb m 2_048 u)

-- the way that is its only mark, where it has one such
abbrev pub only_of : ℕ → Option ℕ
only_of m = cond (ltb (way_in m) 4) (Some (way_in m)) None

pub only-some : (m d : ℕ) → Some d ≡ only_of m → (d ≡ way_in m) × (way_in m < 4)
only-some m d = go (ltb (way_in m) 4) refl
  where
    go : (q : Bool) → ltb (way_in m) 4 ≡ q → Some d ≡ cond q (Some (way_in m)) None → (d ≡ way_in m) × (way_in m < 4)
    go true e h = (same_Some d (way_in m) h, ltb-true (way_in m) 4 e)
    go false e h = absurd (none-some d (sym h))

pub only-none : (m : ℕ) → None ≡ only_of m → 4 ≤ way_in m
only-none m = go (ltb (way_in m) 4) refl
  where
    go : (q : Bool) → ltb (way_in m) 4 ≡ q → None ≡ cond q (Some (way_in m)) None → 4 ≤ way_in m
    go true e h = absurd (none-some (way_in m) h)
    go false e h = ltb-false (way_in m) 4 e

pub way-power : (m : ℕ) → way_in m < 4 → m ≡ 2 ^ (8 + way_in m)
unfolding way_in
way-power m = go (eqb m 256) refl (eqb m 512) refl (eqb m 1_024) refl (eqb m 2_048) refl
  where
    go : (a : Bool) → eqb m 256 ≡ a → (b : Bool) → eqb m 512 ≡ b → (c : Bool) → eqb m 1_024 ≡ c → (d : Bool) → eqb m 2_048 ≡ d
        → cond (eqb m 256) 0 (cond (eqb m 512) 1 (cond (eqb m 1_024) 2 (cond (eqb m 2_048) 3 4))) < 4
        → m ≡ 2 ^ (8 + cond (eqb m 256) 0 (cond (eqb m 512) 1 (cond (eqb m 1_024) 2 (cond (eqb m 2_048) 3 4))))
    go true e b f c h d i l = rw e (eqb-true m 256 e)
    go false e true f c h d i l = rw (e, f) (eqb-true m 512 f)
    go false e false f true h d i l = rw (e, f, h) (eqb-true m 1_024 h)
    go false e false f false h true i l = rw (e, f, h, i) (eqb-true m 2_048 i)
    go false e false f false h false i l = absurd (let k : ◌<◌ 4 4 = rw (e, f, h, i) at l in omega arith)

pub way-none : (m : ℕ) → 4 ≤ way_in m → (m ≢ 256) × (m ≢ 512) × (m ≢ 1_024) × (m ≢ 2_048)
unfolding way_in
way-none m l = (
  (λ e. let k : ◌≤◌ 4 0 = rw (eq-eqb m 256 e) at l in omega arith),
  (λ e. let k : ◌≤◌ 4 1 = rw (ne_eqb m 256 (λ q. omega arith), eq-eqb m 512 e) at l in omega arith),
  (λ e. let k : ◌≤◌ 4 2 = rw (ne_eqb m 256 (λ q. omega arith), ne_eqb m 512 (λ q. omega arith), eq-eqb m 1_024 e) at l in omega arith),
  (λ e. let k : ◌≤◌ 4 3 = rw (ne_eqb m 256 (λ q. omega arith), ne_eqb m 512 (λ q. omega arith), ne_eqb m 1_024 (λ q. omega arith), eq-eqb m 2_048 e) at l in omega arith),
)

-- one of four ways, and no other mark
by-ways : (v x y z u : ℕ) → v ≡ 256 * x + (512 * y + (1_024 * z + 2_048 * u)) → x + (y + (z + (u + 0))) ≡ 1 → v ≢ 256 → v ≢ 512 → v ≢ 1_024 → v ≢ 2_048 → ⊥
by-ways v x y z u e s p q r o =
    ⊎_elim
    (λ h. p (omega (arith, e, s, h)))
    (λ h.
    ⊎_elim
    (λ i. q (omega (arith, e, s, h, i)))
    (λ i. ⊎_elim (λ k. r (omega (arith, e, s, h, i, k))) (λ k. o (omega (arith, e, s, h, i, k))) (lt-or-ge 0 z))
    (lt-or-ge 0 y))
    (lt-or-ge 0 x)

-- ---- pins in a tile

layer-there : (t : ℕ) (ps : List Pin) → EachPin (λ p. (1 ≤ p.layer) × (p.layer ≤ 8)) ps → pinned ps t ≡ true
    → (l : ℕ) × (1 ≤ l) × (l ≤ 8) × (has (pin_layers t ps) l ≡ true)
layer-there t [] k h = absurd (let y : ◌≡◌ {A = ℕ} 0 1 = ap bit h in omega arith)
layer-there t (p ∷ ps) k h = go (eqb p.tile t) (layer-there t ps k.1) h
  where
    go : (q : Bool) → (pinned ps t ≡ true → (l : ℕ) × (1 ≤ l) × (l ≤ 8) × (has (pin_layers t ps) l ≡ true)) → cond q true (pinned ps t) ≡ true
        → (l : ℕ) × (1 ≤ l) × (l ≤ 8) × (has (cond q (p.layer ∷ pin_layers t ps) (pin_layers t ps)) l ≡ true)
    go true rest e = (p.layer, k.0.0, k.0.1, rw (eq-eqb p.layer p.layer refl))
    go false rest e = rest e

none-there : (t : ℕ) (ps : List Pin) → pinned ps t ≡ false → (l : ℕ) → has (pin_layers t ps) l ≡ false
none-there t [] h l = refl
none-there t (p ∷ ps) h l = go (eqb p.tile t) (none-there t ps) h
  where
    go : (q : Bool) → (pinned ps t ≡ false → (m : ℕ) → has (pin_layers t ps) m ≡ false) → cond q true (pinned ps t) ≡ false
        → has (cond q (p.layer ∷ pin_layers t ps) (pin_layers t ps)) l ≡ false
    go true rest e = absurd (let y : ◌≡◌ {A = ℕ} 1 0 = ap bit e in omega arith)
    go false rest e = rest e l

-- ---- the edges that meet in a tile are the ways marked

module _ (W H t : ℕ) (es : List ℕ) where
  abbrev marks : ℕ → Bool
  marks d = way? W H t d && has es (way_edge W H t d)

  count-ways : (ds : List ℕ) → length (keep (has es) (ways_by (W - 1) W H t ds)) ≡ sum (λ d. bit (way? W H t d && has es (way_edge W H t d))) ds
  count-ways [] = refl
  count-ways (d ∷ ds) = go (way? W H t d) (has es (way_edge W H t d)) refl (count-ways ds)
    where
      go : (p q : Bool) → has es (way_edge W H t d) ≡ q → length (keep (has es) (ways_by (W - 1) W H t ds)) ≡ sum (λ k. bit (way? W H t k && has es (way_edge W H t k))) ds
          → length (keep (has es) (cond p (way_edge W H t d ∷ ways_by (W - 1) W H t ds) (ways_by (W - 1) W H t ds)))
          ≡ bit (p && has es (way_edge W H t d)) + sum (λ k. bit (way? W H t k && has es (way_edge W H t k))) ds
      go false q e ih = omega (arith, ih)
      go true true e ih = rw e (omega (arith, ih))
      go true false e ih = rw e (omega (arith, ih))

module _ (g : Shape) (shaped : Shaped g) (n : ℕ) (ps : List Pin) (es : List ℕ) (a : List ℕ) (fine : Fine g ps es) (drawn : Drawn g n ps es a) (t : ℕ) (in-grid : t < g.t) where
  abbrev m : ℕ
  m = bits_at n a t

  way-bit : (d : ℕ) → d < 4 → bit_of (bits_at n a t) (8 + d) ≡ (way? g.w g.h t d && has es (way_edge g.w g.h t d))
  way-bit d h = drawn.ways t d in-grid h

  degree-is : degree (lo_of g.w g.h) (hi_of g.w g.h) es t ≡ bit (bit_of (bits_at n a t) 8) + (bit (bit_of (bits_at n a t) 9) + (bit (bit_of (bits_at n a t) 10) + (bit (bit_of (bits_at n a t) 11) + 0)))
  degree-is =
      degree-ways (lo_of g.w g.h) (hi_of g.w g.h) (near_of g.w g.h) (g.w * g.h) es (fits-of g.w g.h shaped.w_least shaped.h_least es fine.once fine.known) t (omega (arith, shaped.t_is))
      ∙ ap (λ (f : ℕ → List ℕ). length (keep (has es) (f t))) (near-is g.w g.h shaped.w_least)
      ∙ count-ways g.w g.h t es (0 ∷ 1 ∷ 2 ∷ 3 ∷ [])
      ∙ rw (sym (way-bit 0 (omega arith)), sym (way-bit 1 (omega arith)), sym (way-bit 2 (omega arith)), sym (way-bit 3 (omega arith)))

  -- ---- one edge and no pin

  pin-bit : pinned ps t ≡ false → (i : ℕ) → i < 8 → bit_of (bits_at n a t) i ≡ false
  pin-bit h i k =
      let e : i ≡ suc i - 1 = omega arith in
      ap (λ (j : ℕ). bit_of (bits_at n a t) j) e ∙ drawn.pins t (suc i) in-grid (omega arith) (omega arith) ∙ none-there t ps h (suc i)

  -- where it is so, the tile's only mark is a way
  pub bare_way : Bare (lo_of g.w g.h) (hi_of g.w g.h) (pinned ps) es t → way_in (bits_at n a t) < 4
  bare_way b =
      ⊎_elim
      (λ h. h)
      (λ h.
      let k = way-none (bits_at n a t) h in
      absurd (only (bits_at n a t) (value-is 12 (bits_at n a t) (bits_small n _)) (pin-bit b.0) (sym degree-is ∙ b.1) k.0 k.1 k.2 k.3))
      (lt-or-ge (way_in (bits_at n a t)) 4)
    where
      only : (v : ℕ) → value_of 12 v ≡ v → ((i : ℕ) → i < 8 → bit_of v i ≡ false) → bit (bit_of v 8) + (bit (bit_of v 9) + (bit (bit_of v 10) + (bit (bit_of v 11) + 0))) ≡ 1
          → v ≢ 256 → v ≢ 512 → v ≢ 1_024 → v ≢ 2_048 → ⊥
      only v e f s =
          let z : (i : ℕ) → i < 8 → bit (bit_of v i) ≡ 0 = λ i h. ap bit (f i h) in
          let by_bits : bit (bit_of v 0) + 2 * (bit (bit_of v 1) + 2 * (bit (bit_of v 2) + 2 * (bit (bit_of v 3) + 2 * (bit (bit_of v 4) + 2 * (bit (bit_of v 5) + 2 * (bit (bit_of v 6) + 2 * (bit (bit_of v 7) + 2 * (bit (bit_of v 8) + 2 * (bit (bit_of v 9) + 2 * (bit (bit_of v 10) + 2 * (bit (bit_of v 11) + 2 * 0))))))))))) ≡ v = e in
          by-ways v (bit (bit_of v 8)) (bit (bit_of v 9)) (bit (bit_of v 10)) (bit (bit_of v 11))
          (omega (arith, by_bits, z 0 (omega arith), z 1 (omega arith), z 2 (omega arith), z 3 (omega arith), z 4 (omega arith), z 5 (omega arith), z 6 (omega arith), z 7 (omega arith)))
          s

  -- and the other way round
  module _ (one : way_in (bits_at n a t) < 4) where
    abbrev d : ℕ
    d = way_in (bits_at n a t)

    only-mark : (k : ℕ) → bit_of (bits_at n a t) k ≡ eqb (8 + way_in (bits_at n a t)) k
    only-mark k =
        ap (λ (x : ℕ). bit_of x k) (way-power (bits_at n a t) one ∙ sym (zero-add (2 ^ (8 + d))))
        ∙ bit-add 0 (8 + d) k (bit-zero (8 + d))
        ∙ ap (λ (q : Bool). eqb (8 + d) k || q) (bit-zero k)
        ∙ or-none (eqb (8 + d) k)
      where
        or-none : (q : Bool) → (q || false) ≡ q
        or-none true = refl
        or-none false = refl

    no_pin : pinned ps t ≡ false
    no_pin = go (pinned ps t) refl
      where
        go : (q : Bool) → pinned ps t ≡ q → q ≡ false
        go false e = refl
        go true e =
            let r = layer-there t ps fine.layers e in
            let x : true ≡ eqb (8 + d) (r.0 - 1) = sym (drawn.pins t r.0 in-grid r.1 r.2 ∙ r.3) ∙ only-mark (r.0 - 1) in
            absurd (omega (arith, eqb-true (8 + d) (r.0 - 1) (sym x), r.1, r.2))

    pub way-bare : Bare (lo_of g.w g.h) (hi_of g.w g.h) (pinned ps) es t
    way-bare = (no_pin, degree-is ∙ rw (only-mark 8, only-mark 9, only-mark 10, only-mark 11) (single d one))
      where
        single : (k : ℕ) → k < 4 → bit (eqb (8 + k) 8) + (bit (eqb (8 + k) 9) + (bit (eqb (8 + k) 10) + (bit (eqb (8 + k) 11) + 0))) ≡ 1
        single zero h = refl
        single (suc zero) h = refl
        single (suc (suc zero)) h = refl
        single (suc (suc (suc zero))) h = refl
        single (suc (suc (suc (suc k)))) h = absurd (omega arith)

    pub way-marked : bit_of (bits_at n a t) (8 + way_in (bits_at n a t)) ≡ true
    way-marked = only-mark (8 + d) ∙ eq-eqb (8 + d) (8 + d) refl

    pub way-there : T (way? g.w g.h t (way_in (bits_at n a t))) × In (way_edge g.w g.h t (way_in (bits_at n a t))) es
    way-there =
        let k = and_both (way? g.w g.h t d) (has es (way_edge g.w g.h t d)) (subst T (sym way-marked ∙ way-bit d one) tt) in
        (k.0, (has_in es (way_edge g.w g.h t d)).0 k.1)
