-- The engine's part, lent on and put back.
-- Assumes nothing.
use mathlib.Core.List.{List}
use mathlib.Core.Path.{◌≡◌, sym, ◌∙◌, subst}
use Prim.Native.Nat.{ℕ, ◌+◌, ◌-◌, ◌*◌, ◌≤◌}
use native.Mathlib.Omega.{arith}
use lib.ListN.{length, take, drop}
use borrow.Rule.Slice.PartMut.{put_mid}
use Rattle.engine.specs.Net.{Holds, HoldsNet, Placed}
use Rattle.layout.specs.Areas.{engine_at, areas_end}
use Rattle.layout.specs.Lent.{lent-part, put-part, put-outside}
use Rattle.layout.specs.Parts.{Outside, part-long}
use Rattle.layout.specs.declared.shape.Shape.{Shape}
use Rattle.model.specs.Job.{Job, Net}
use Rattle.turn.specs.Steps.{engine_of}

module _ (g : Shape) (n : ℕ) (w : List ℕ) (room : areas_end g ≤ length w) (there : HoldsNet (engine_of g w) g.m n g.k) (from to : ℕ) (from_is : from ≡ engine_at g)
    (to_is : to ≡ engine_at g + 12 * g.m) where
  lent : take (to - from) (drop from w) ≡ engine_of g w
  lent = lent-part (engine_at g) (12 * g.m) w from to from_is to_is

  pub lent-holds : HoldsNet (take (to - from) (drop from w)) g.m n g.k
  lent-holds = subst (λ (p : List ℕ). HoldsNet p g.m n g.k) (sym lent) there

  module _ (p : List ℕ) (v : ℕ)
      (placed : (j : Job) (net : Net) (allowed : ℕ → List ℕ) → Holds j net allowed (take (to - from) (drop from w)) g.m n g.k → Placed (λ l. l) j net allowed (take (to - from) (drop from w)) p g.m v) where
    of_part : (j : Job) (net : Net) (allowed : ℕ → List ℕ) → Holds j net allowed (engine_of g w) g.m n g.k → Placed (λ l. l) j net allowed (engine_of g w) p g.m v
    of_part j net allowed h =
        subst (λ (q : List ℕ). Placed (λ l. l) j net allowed q p g.m v) lent (placed j net allowed (subst (λ (q : List ℕ). Holds j net allowed q g.m n g.k) (sym lent) h))

    long : length p ≡ 12 * g.m
    long = (of_part there.job there.net there.allowed there.holds).long ∙ part-long (engine_at g) (12 * g.m) w (omega arith)

    back : engine_of g (put_mid from (to - from) w p) ≡ p
    back = put-part (engine_at g) (12 * g.m) w from to from_is to_is p (omega arith) long

    pub put_back : ((j : Job) (net : Net) (allowed : ℕ → List ℕ) → Holds j net allowed (engine_of g w) g.m n g.k
        → Placed (λ l. l) j net allowed (engine_of g w) (engine_of g (put_mid from (to - from) w p)) g.m v) × Outside (engine_at g) (12 * g.m) w (put_mid from (to - from) w p)
    put_back = (
      λ j net allowed h. subst (λ (q : List ℕ). Placed (λ l. l) j net allowed (engine_of g w) q g.m v) (sym back) (of_part j net allowed h),
      put-outside (engine_at g) (12 * g.m) w from to from_is to_is p (omega arith) long,
    )
