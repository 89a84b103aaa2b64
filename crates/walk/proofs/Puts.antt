-- Ways written as tiles of the walk: what stands where.
-- Assumes nothing.
use mathlib.Core.List.{List, [], ◌∷◌, ◌++◌}
use mathlib.Core.Path.{◌≡◌, refl, ap, ◌∙◌}
use Prim.Native.Nat.{ℕ, zero, suc, ◌+◌, ◌*◌, ◌≤◌, ◌<◌}
use native.Mathlib.Omega.{arith}
use lib.ListN.{length, get_or, set, length-set}
use lib.Seq.{get_or-set_same, get_or-set_other}
use Rattle.layout.specs.Parts.{Outside}
use Rattle.layout.specs.declared.Way.{Way}
use Rattle.walk.specs.Steps.{put_ways}

-- no way
abbrev pub no_way : Way
no_way = record { tile = 0; edge = 0 }

module _ (s t : ℕ) where
  abbrev put : List ℕ → ℕ → Way → List ℕ
  put w n y = set (set w (s + n) y.tile) (s + t + n) y.edge

  put-long : (w : List ℕ) (n : ℕ) (y : Way) → length (put w n y) ≡ length w
  put-long w n y = length-set (set w (s + n) y.tile) (s + t + n) y.edge ∙ length-set w (s + n) y.tile

  pub puts-long : (w : List ℕ) (n : ℕ) (ys : List Way) → length (put_ways s t w n ys) ≡ length w
  puts-long w n [] = refl
  puts-long w n (y ∷ ys) = puts-long (put w n y) (suc n) ys ∙ put-long w n y

  -- ways written one after the other
  pub puts-append : (w : List ℕ) (n : ℕ) (ys zs : List Way) → put_ways s t w n (ys ++ zs) ≡ put_ways s t (put_ways s t w n ys) (n + length ys) zs
  puts-append w n [] zs = let e : n ≡ n + 0 = omega arith in ap (λ (k : ℕ). put_ways s t w k zs) e
  puts-append w n (y ∷ ys) zs =
      let e : suc n + length ys ≡ n + suc (length ys) = omega arith in
      puts-append (put w n y) (suc n) ys zs ∙ ap (λ (k : ℕ). put_ways s t (put_ways s t (put w n y) (suc n) ys) k zs) e

  -- a number that is none of theirs
  pub puts-other : (w : List ℕ) (n : ℕ) (ys : List Way) (p : ℕ) → ((k : ℕ) → n ≤ k → k < n + length ys → (p ≡ s + k → ⊥) × (p ≡ s + t + k → ⊥))
      → get_or (put_ways s t w n ys) p 0 ≡ get_or w p 0
  puts-other w n [] p h = refl
  puts-other w n (y ∷ ys) p h =
      puts-other (put w n y) (suc n) ys p (λ k l m. h k (omega arith) (omega arith))
      ∙ get_or-set_other (set w (s + n) y.tile) (s + t + n) p y.edge 0 (h n (omega arith) (omega arith)).1
      ∙ get_or-set_other w (s + n) p y.tile 0 (h n (omega arith) (omega arith)).0

  -- the number of way k, and of its edge
  pub puts-tile : (w : List ℕ) (n : ℕ) (ys : List Way) (k : ℕ) → k < length ys → n + length ys ≤ t → s + t + t ≤ length w
      → get_or (put_ways s t w n ys) (s + (n + k)) 0 ≡ (get_or ys k no_way).tile
  puts-tile w n [] k h r l = absurd (omega arith)
  puts-tile w n (y ∷ ys) zero h r l =
      let e : s + (n + 0) ≡ s + n = omega arith in
      ap (λ (p : ℕ). get_or (put_ways s t (put w n y) (suc n) ys) p 0) e
      ∙ puts-other (put w n y) (suc n) ys (s + n) (λ k a b. (λ q. omega arith, λ q. omega arith))
      ∙ get_or-set_other (set w (s + n) y.tile) (s + t + n) (s + n) y.edge 0 (λ q. omega arith)
      ∙ get_or-set_same w (s + n) y.tile 0 (omega arith)
  puts-tile w n (y ∷ ys) (suc k) h r l =
      let e : s + (n + suc k) ≡ s + (suc n + k) = omega arith in
      ap (λ (p : ℕ). get_or (put_ways s t (put w n y) (suc n) ys) p 0) e
      ∙ puts-tile (put w n y) (suc n) ys k (omega arith) (omega arith) (omega (arith, put-long w n y))

  pub puts-edge : (w : List ℕ) (n : ℕ) (ys : List Way) (k : ℕ) → k < length ys → n + length ys ≤ t → s + t + t ≤ length w
      → get_or (put_ways s t w n ys) (s + t + (n + k)) 0 ≡ (get_or ys k no_way).edge
  puts-edge w n [] k h r l = absurd (omega arith)
  puts-edge w n (y ∷ ys) zero h r l =
      let e : s + t + (n + 0) ≡ s + t + n = omega arith in
      ap (λ (p : ℕ). get_or (put_ways s t (put w n y) (suc n) ys) p 0) e
      ∙ puts-other (put w n y) (suc n) ys (s + t + n) (λ k a b. (λ q. omega arith, λ q. omega arith))
      ∙ get_or-set_same (set w (s + n) y.tile) (s + t + n) y.edge 0 (omega (arith, length-set w (s + n) y.tile))
  puts-edge w n (y ∷ ys) (suc k) h r l =
      let e : s + t + (n + suc k) ≡ s + t + (suc n + k) = omega arith in
      ap (λ (p : ℕ). get_or (put_ways s t (put w n y) (suc n) ys) p 0) e
      ∙ puts-edge (put w n y) (suc n) ys k (omega arith) (omega arith) (omega (arith, put-long w n y))

-- ---- a tile taken out: its ways are written from place n on, and then r and v at its own place i

module _ (s t : ℕ) (w : List ℕ) (i n : ℕ) (ys : List Way) (r v : ℕ) (here : i < t) (places : n + length ys ≤ t) (room : s + t + t + t + t ≤ length w) where
  abbrev ways : List ℕ
  ways = put_ways s t w n ys

  abbrev pub after : List ℕ
  after = set (set (put_ways s t w n ys) (s + t + t + i) r) (s + t + t + t + i) v

  ways-long : length ways ≡ length w
  ways-long = puts-long s t w n ys

  pub after-long : length after ≡ length w
  after-long = length-set (set ways (s + t + t + i) r) (s + t + t + t + i) v ∙ length-set ways (s + t + t + i) r ∙ ways-long

  -- what is not at its own place
  apart : (p : ℕ) → (p ≡ s + t + t + i → ⊥) → (p ≡ s + t + t + t + i → ⊥) → get_or after p 0 ≡ get_or ways p 0
  apart p a b = get_or-set_other (set ways (s + t + t + i) r) (s + t + t + t + i) p v 0 b ∙ get_or-set_other ways (s + t + t + i) p r 0 a

  kept : (p : ℕ) → (p ≡ s + t + t + i → ⊥) → (p ≡ s + t + t + t + i → ⊥) → ((k : ℕ) → n ≤ k → k < n + length ys → (p ≡ s + k → ⊥) × (p ≡ s + t + k → ⊥)) → get_or after p 0 ≡ get_or w p 0
  kept p a b h = apart p a b ∙ puts-other s t w n ys p h

  -- the tiles and edges written before, and the new ones
  pub old-tile : (k : ℕ) → k < n → get_or after (s + k) 0 ≡ get_or w (s + k) 0
  old-tile k h = kept (s + k) (λ q. omega arith) (λ q. omega arith) (λ m a b. (λ q. omega arith, λ q. omega arith))

  pub old-edge : (k : ℕ) → k < n → get_or after (s + t + k) 0 ≡ get_or w (s + t + k) 0
  old-edge k h = kept (s + t + k) (λ q. omega arith) (λ q. omega arith) (λ m a b. (λ q. omega arith, λ q. omega arith))

  pub new-tile : (k : ℕ) → k < length ys → get_or after (s + (n + k)) 0 ≡ (get_or ys k no_way).tile
  new-tile k h = apart (s + (n + k)) (λ q. omega arith) (λ q. omega arith) ∙ puts-tile s t w n ys k h places (omega arith)

  pub new-edge : (k : ℕ) → k < length ys → get_or after (s + t + (n + k)) 0 ≡ (get_or ys k no_way).edge
  new-edge k h = apart (s + t + (n + k)) (λ q. omega arith) (λ q. omega arith) ∙ puts-edge s t w n ys k h places (omega arith)

  -- the numbers at the places before, and at its own
  pub old-end : (k : ℕ) → k < i → get_or after (s + t + t + k) 0 ≡ get_or w (s + t + t + k) 0
  old-end k h = kept (s + t + t + k) (λ q. omega arith) (λ q. omega arith) (λ m a b. (λ q. omega arith, λ q. omega arith))

  pub old-pins : (k : ℕ) → k < i → get_or after (s + t + t + t + k) 0 ≡ get_or w (s + t + t + t + k) 0
  old-pins k h = kept (s + t + t + t + k) (λ q. omega arith) (λ q. omega arith) (λ m a b. (λ q. omega arith, λ q. omega arith))

  pub new-end : get_or after (s + t + t + i) 0 ≡ r
  new-end =
      get_or-set_other (set ways (s + t + t + i) r) (s + t + t + t + i) (s + t + t + i) v 0 (λ q. omega arith)
      ∙ get_or-set_same ways (s + t + t + i) r 0 (omega (arith, ways-long))

  pub new-pins : get_or after (s + t + t + t + i) 0 ≡ v
  new-pins = get_or-set_same (set ways (s + t + t + i) r) (s + t + t + t + i) v 0 (omega (arith, ways-long, length-set ways (s + t + t + i) r))

  -- all other numbers stay
  pub after-outside : Outside s (4 * t) w after
  after-outside = record {
    long = after-long;
    low = λ p h. kept p (λ q. omega arith) (λ q. omega arith) (λ m a b. (λ q. omega arith, λ q. omega arith));
    high = λ p h. kept p (λ q. omega arith) (λ q. omega arith) (λ m a b. (λ q. omega arith, λ q. omega arith));
  }
