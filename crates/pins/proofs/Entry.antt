-- One entry of the line.
-- Assumes nothing.
use mathlib.Core.Bool.{Bool, true, false, cond}
use mathlib.Core.List.{List}
use mathlib.Core.Path.{◌≡◌, refl, sym, ap}
use Prim.Native.Nat.{ℕ, ◌+◌, ◌-◌, ◌*◌, ◌≤◌}
use native.Mathlib.Nat.{add-zero}
use native.Mathlib.Omega.{arith}
use lib.Dec.{eqb}
use lib.ListN.{length}
use Rattle.layout.specs.declared.shape.Shape.{Shape}
use Rattle.marks.specs.Marks.{bits_at, marked, put_of, mark, marks_after, mark-long}
use Rattle.marks.specs.declared.Put.{Put}
use Rattle.marks.specs.declared.Put.TheVariants.{Twice, Fresh, Known}
use Rattle.model.specs.Lists.{bit}
use Rattle.model.specs.Read.{Triple, pin_inside, pin_at}
use Rattle.scan.specs.Pins.{triple}
use Rattle.pins.specs.Pins.{marked_seen, seen_after, work_after}
use Rattle.pins.specs.declared.Seen.{Seen}

-- ---- what marking found

module _ (n : ℕ) (a : List ℕ) (t l : ℕ) (v : Seen) where
  -- what is seen of a mark that was there, or not, in a tile that was empty, or not
  seen : Bool → Bool → Seen
  seen m z =
      cond m (record { tiles = v.tiles; inside = v.inside; twice = true })
      (record { tiles = v.tiles + bit z; inside = v.inside; twice = v.twice })

  wrong : {A : Type 0} → ◌≡◌ {A = Put} Twice Fresh → A
  wrong e = absurd (let y : ◌≡◌ {A = ℕ} 0 1 = cc in omega arith)

  wrong-2 : {A : Type 0} → ◌≡◌ {A = Put} Twice Known → A
  wrong-2 e = absurd (let y : ◌≡◌ {A = ℕ} 0 1 = cc in omega arith)

  wrong-3 : {A : Type 0} → ◌≡◌ {A = Put} Fresh Known → A
  wrong-3 e = absurd (let y : ◌≡◌ {A = ℕ} 0 1 = cc in omega arith)

  pub seen_twice : Twice ≡ put_of n a t (l - 1) → record { tiles = v.tiles; inside = v.inside; twice = true } ≡ marked_seen n a t l v
  unfolding put_of marked_seen seen
  seen_twice p = go (marked n a t (l - 1)) (eqb (bits_at n a t) 0) p
    where
      go : (m z : Bool) → Twice ≡ cond m Twice (cond z Fresh Known) → record { tiles = v.tiles; inside = v.inside; twice = true } ≡ seen m z
      go true z q = refl
      go false true q = wrong q
      go false false q = wrong-2 q

  pub seen-fresh : Fresh ≡ put_of n a t (l - 1)
      → record { tiles = v.tiles + 1; inside = v.inside; twice = v.twice } ≡ marked_seen n a t l v
  unfolding put_of marked_seen seen
  seen-fresh p = go (marked n a t (l - 1)) (eqb (bits_at n a t) 0) p
    where
      go : (m z : Bool) → Fresh ≡ cond m Twice (cond z Fresh Known) → record { tiles = v.tiles + 1; inside = v.inside; twice = v.twice } ≡ seen m z
      go true z q = wrong (sym q)
      go false true q = refl
      go false false q = wrong-3 q

  pub seen-known : Known ≡ put_of n a t (l - 1)
      → record { tiles = v.tiles; inside = v.inside; twice = v.twice } ≡ marked_seen n a t l v
  unfolding put_of marked_seen seen
  seen-known p = go (marked n a t (l - 1)) (eqb (bits_at n a t) 0) p
    where
      go : (m z : Bool) → Known ≡ cond m Twice (cond z Fresh Known) → record { tiles = v.tiles; inside = v.inside; twice = v.twice } ≡ seen m z
      go true z q = wrong-2 (sym q)
      go false true q = wrong-3 (sym q)
      go false false q = ap (λ (k : ℕ). record { tiles = k; inside = v.inside; twice = v.twice }) (sym (add-zero v.tiles))

-- ---- inside the grid, or not

module _ (g : Shape) (n : ℕ) (a : List ℕ) (v : Seen) (x y l : ℕ) where
  pub put-outside : pin_inside g.w g.h g.k (triple x y l) ≡ false
      → (record { tiles = v.tiles; inside = false; twice = v.twice } ≡ seen_after g n a v (triple x y l)) × (a ≡ work_after g n a (triple x y l))
  unfolding seen_after work_after
  put-outside e = (rw e, rw e)

  pub put-inside : pin_inside g.w g.h g.k (triple x y l) ≡ true → (here : ℕ) → here ≡ y * g.w + x → (r : Seen) (b : List ℕ) → r ≡ marked_seen n a here l v → b ≡ marks_after n a here (l - 1)
      → (r ≡ seen_after g n a v (triple x y l)) × (b ≡ work_after g n a (triple x y l))
  unfolding seen_after work_after
  put-inside e here h r b p q = (rw (e, ← h) p, rw (e, ← h) q)

-- ---- a step keeps the length, and adds at most one tile

pub work-long : (g : Shape) (n : ℕ) (a : List ℕ) (t : Triple) → length (work_after g n a t) ≡ length a
unfolding work_after marks_after
work-long g n a t = go (pin_inside g.w g.h g.k t) (marked n a (pin_at g.w t).tile (t.third - 1))
  where
    go : (p q : Bool) → length (cond p (cond q a (mark n a (pin_at g.w t).tile (t.third - 1))) a) ≡ length a
    go true true = refl
    go true false = mark-long n a (pin_at g.w t).tile (t.third - 1)
    go false q = refl

pub seen-counts : (g : Shape) (n : ℕ) (a : List ℕ) (v : Seen) (t : Triple) → (seen_after g n a v t).tiles ≤ v.tiles + 1
unfolding seen_after marked_seen
seen-counts g n a v t = go (pin_inside g.w g.h g.k t) (marked n a (pin_at g.w t).tile (t.third - 1)) (eqb (bits_at n a (pin_at g.w t).tile) 0)
  where
    after : Bool → Bool → Bool → Seen
    after p q z =
        cond p
        (cond q (record { tiles = v.tiles; inside = v.inside; twice = true })
        (record { tiles = v.tiles + bit z; inside = v.inside; twice = v.twice }))
        (record { tiles = v.tiles; inside = false; twice = v.twice })

    go : (p q z : Bool) → (after p q z).tiles ≤ v.tiles + 1
    go true true z = omega arith
    go true false true = omega arith
    go true false false = omega arith
    go false q z = omega arith
