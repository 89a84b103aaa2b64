-- What the marks of a list of pins say.
-- Assumes nothing.
use Rattle.std.specs.Prelude.{Bool, true, false, not, ◌&&◌, ◌||◌, cond, List, [], ◌∷◌, map, ◌≡◌, refl, ℕ, ◌+◌, ◌-◌, ◌≤◌, ◌<◌, eqb, length}
use Rattle.std.proofs.Common.{sym, ap, ◌∙◌, arith, eq-eqb, ne_eqb}
use Rattle.std.proofs.Math.Decide.{ℕ_discrete}
use Rattle.marks.specs.Marks.{bits_at, marked, touched, Older, mark-has, mark-touches, mark-fits, mark-long, none_yet, none-marked}
use Rattle.marks.specs.Words.{Fits}
use Rattle.model.specs.Job.{Pin}
use Rattle.model.specs.Lists.{sum, bit, any, twice, different}
use Rattle.model.specs.Read.{same_pin}
use Rattle.model.specs.Score.{different_tiles}
use Rattle.theory.specs.links.Stacked.{different-step, different-free}
use Rattle.pins.specs.Pins.{pin_marked, mark_pin, mark_pins, marked_twice, new_tiles}

-- pins that a list of words has room for, on layers 1 to 8
abbrev pub Inside : ℕ → Pin → Type 0
Inside m p = (p.tile < m) × (1 ≤ p.layer) × (p.layer ≤ 8)

abbrev pub AllInside : ℕ → List Pin → Type 0
AllInside m [] = Unit {0}
AllInside m (p ∷ ps) = Inside m p × AllInside m ps

same-layer : (a b : ℕ) → 1 ≤ a → 1 ≤ b → eqb (a - 1) (b - 1) ≡ eqb a b
same-layer a b h k = go (ℕ_discrete a b)
  where
    go : Dec (a ≡ b) → eqb (a - 1) (b - 1) ≡ eqb a b
    go (yes e) = rw (eq-eqb a b e, eq-eqb (a - 1) (b - 1) (omega arith))
    go (no n) = rw (ne_eqb a b n, ne_eqb (a - 1) (b - 1) (λ q. n (omega arith)))

module _ (n : ℕ) where
  -- one more pin
  pub pin-then : (a : List ℕ) (p q : Pin) → Inside (length a) p → 1 ≤ q.layer → pin_marked n a p ≡ false
      → pin_marked n (mark_pin n a p) q ≡ (same_pin p q || pin_marked n a q)
  pin-then a p q h k e =
      mark-has n a p.tile (p.layer - 1) h.0 (omega arith) e q.tile (q.layer - 1)
      ∙ ap (λ (b : Bool). (eqb p.tile q.tile && b) || pin_marked n a q) (same-layer p.layer q.layer h.1 k)

  pub still-inside : (a : List ℕ) (p : Pin) (ps : List Pin) → AllInside (length a) ps → AllInside (length (mark_pin n a p)) ps
  still-inside a p ps k = rw (mark-long n a p.tile (p.layer - 1)) k

  any-mark : (a : List ℕ) (p : Pin) → Inside (length a) p → pin_marked n a p ≡ false → (m : ℕ) (qs : List Pin) → AllInside m qs
      → any (pin_marked n (mark_pin n a p)) qs ≡ (any (same_pin p) qs || any (pin_marked n a) qs)
  any-mark a p h e m [] k = refl
  any-mark a p h e m (q ∷ qs) k =
      rw (pin-then a p q h k.0.1 e, any-mark a p h e m qs k.1) (go (same_pin p q) (pin_marked n a q) (any (same_pin p) qs) (any (pin_marked n a) qs))
    where
      go : (x y u v : Bool) → cond (x || y) true (u || v) ≡ (cond x true u || cond y true v)
      go true y u v = refl
      go false true true v = refl
      go false true false v = refl
      go false false u v = refl

  -- a pin is met that is marked already: it was marked at the start, or it stands in the list twice
  pub marked-twice : (a : List ℕ) (ps : List Pin) → AllInside (length a) ps → marked_twice n a ps ≡ (any (pin_marked n a) ps || twice same_pin ps)
  marked-twice a [] k = refl
  marked-twice a (p ∷ ps) k = go (pin_marked n a p) refl (marked-twice (mark_pin n a p) ps)
    where
      order : (x y z : Bool) → ((x || y) || z) ≡ (y || cond x true z)
      order true true z = refl
      order true false z = refl
      order false true z = refl
      order false false z = refl

      go : (t : Bool) → pin_marked n a p ≡ t
          → (AllInside (length (mark_pin n a p)) ps → marked_twice n (mark_pin n a p) ps ≡ (any (pin_marked n (mark_pin n a p)) ps || twice same_pin ps))
          → cond t true (marked_twice n (mark_pin n a p) ps) ≡ (cond t true (any (pin_marked n a) ps) || cond (any (same_pin p) ps) true (twice same_pin ps))
      go true e h = refl
      go false e h =
          h (still-inside a p ps k.1)
          ∙ rw (any-mark a p k.0 e (length a) ps k.1) (order (any (same_pin p) ps) (any (pin_marked n a) ps) (twice same_pin ps))

  -- where every mark is an earlier net's, a pin is met twice just where it stands in the list twice
  pub first-twice : (a : List ℕ) → Older n a → (ps : List Pin) → AllInside (length a) ps → marked_twice n a ps ≡ twice same_pin ps
  first-twice a o ps k = marked-twice a ps k ∙ ap (λ (b : Bool). b || twice same_pin ps) (none ps)
    where
      none : (qs : List Pin) → any (pin_marked n a) qs ≡ false
      none [] = refl
      none (q ∷ qs) = rw (none-marked n a o q.tile (q.layer - 1)) (none qs)

  -- ---- what a list of pins marks, where none is met twice

  -- the next pin and what is left
  pub first-new : (a : List ℕ) (p : Pin) (ps : List Pin) → marked_twice n a (p ∷ ps) ≡ false → (pin_marked n a p ≡ false) × (marked_twice n (mark_pin n a p) ps ≡ false)
  first-new a p ps e = go (pin_marked n a p) e
    where
      go : (t : Bool) → cond t true (marked_twice n (mark_pin n a p) ps) ≡ false → (t ≡ false) × (marked_twice n (mark_pin n a p) ps ≡ false)
      go true h = absurd (let y : ◌≡◌ {A = ℕ} 0 1 = cc in omega arith)
      go false h = (refl, h)

  -- the pins are those marked before, and those of the list
  pub pins-has : (a : List ℕ) (ps : List Pin) → AllInside (length a) ps → marked_twice n a ps ≡ false → (q : Pin) → 1 ≤ q.layer
      → pin_marked n (mark_pins n a ps) q ≡ (any (λ p. same_pin p q) ps || pin_marked n a q)
  pins-has a [] k e q l = refl
  pins-has a (p ∷ ps) k e q l =
      let f = first-new a p ps e in
      pins-has (mark_pin n a p) ps (still-inside a p ps k.1) f.1 q l
      ∙ rw (pin-then a p q k.0 l f.0) (order (any (λ r. same_pin r q) ps) (same_pin p q) (pin_marked n a q))
    where
      order : (x y z : Bool) → (x || (y || z)) ≡ (cond y true x || z)
      order true true z = refl
      order true false z = refl
      order false true z = refl
      order false false z = refl

  -- other bits stay as they are
  pub pins-others : (a : List ℕ) (ps : List Pin) → AllInside (length a) ps → marked_twice n a ps ≡ false → (t i : ℕ) → 8 ≤ i
      → marked n (mark_pins n a ps) t i ≡ marked n a t i
  pins-others a [] k e t i h = refl
  pins-others a (p ∷ ps) k e t i h =
      let f = first-new a p ps e in
      pins-others (mark_pin n a p) ps (still-inside a p ps k.1) f.1 t i h
      ∙ mark-has n a p.tile (p.layer - 1) k.0.0 (omega (arith, k.0)) f.0 t i
      ∙ ap (λ (b : Bool). (eqb p.tile t && b) || marked n a t i) (ne_eqb (p.layer - 1) i (λ q. omega (arith, k.0)))
      ∙ none (eqb p.tile t)
    where
      none : (b : Bool) → ((b && false) || marked n a t i) ≡ marked n a t i
      none true = refl
      none false = refl

  pub pins-fit : (a : List ℕ) (ps : List Pin) → AllInside (length a) ps → marked_twice n a ps ≡ false → Fits n a → Fits n (mark_pins n a ps)
  pins-fit a [] k e h = h
  pins-fit a (p ∷ ps) k e h =
      let f = first-new a p ps e in
      pins-fit (mark_pin n a p) ps (still-inside a p ps k.1) f.1 (mark-fits n a p.tile (p.layer - 1) k.0.0 (omega (arith, k.0)) f.0 h)

  -- ---- in how many tiles they are

  -- 1 where a tile has no mark yet
  abbrev free : List ℕ → ℕ → ℕ
  free a t = bit (eqb (bits_at n a t) 0)

  untouched : (b c : Bool) → not b ≡ c → bit b ≡ bit (not c)
  untouched true c h = rw (← h)
  untouched false c h = rw (← h)

  untouched-as : (b c : Bool) → not b ≡ not c → bit b ≡ bit c
  untouched-as b true h = untouched b false h
  untouched-as b false h = untouched b true h

  -- going along the pins, those are the first in their tile whose tile was free
  pub new-tiles : (a : List ℕ) (ps : List Pin) → AllInside (length a) ps → marked_twice n a ps ≡ false → new_tiles n a ps ≡ sum (free a) (different (map (λ p. p.tile) ps))
  new-tiles a [] k e = refl
  new-tiles a (p ∷ ps) k e =
      ap (λ (m : ℕ). free a p.tile + m) (new-tiles (mark_pin n a p) ps (still-inside a p ps k.1) (first-new a p ps e).1)
      ∙ different-step (free a) (free (mark_pin n a p)) p.tile met others (map (λ q. q.tile) ps)
    where
      touches : (u : ℕ) → touched n (mark_pin n a p) u ≡ (eqb p.tile u || touched n a u)
      touches = mark-touches n a p.tile (p.layer - 1) k.0.0 (omega (arith, k.0)) (first-new a p ps e).0

      met : free (mark_pin n a p) p.tile ≡ 0
      met = untouched (eqb (bits_at n (mark_pin n a p) p.tile) 0) true (touches p.tile ∙ ap (λ (b : Bool). b || touched n a p.tile) (eq-eqb p.tile p.tile refl))

      others : (u : ℕ) → (u ≡ p.tile → ⊥) → free (mark_pin n a p) u ≡ free a u
      others u h =
          untouched-as (eqb (bits_at n (mark_pin n a p) u) 0) (eqb (bits_at n a u) 0)
          (touches u ∙ ap (λ (b : Bool). b || touched n a u) (ne_eqb p.tile u (λ q. h (sym q))))

  -- where every mark is an earlier net's, they are as many as the pins have different tiles
  pub first-tiles : (a : List ℕ) → Older n a → (ps : List Pin) → AllInside (length a) ps → marked_twice n a ps ≡ false → new_tiles n a ps ≡ different_tiles ps
  first-tiles a o ps k e = new-tiles a ps k e ∙ different-free (free a) (λ u. ap bit (eq-eqb (bits_at n a u) 0 (none_yet n a o u))) (different (map (λ p. p.tile) ps))
