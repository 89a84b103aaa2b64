-- The limits on the overflow of one layer: "MO/K rounded up", and in a job with `dirs`, "for each direction, the largest flat overflow among edges of that
-- direction divided by the number of its layers, rounded up, and 0 where it has no edge or no layer".
-- Assumes nothing.
use Rattle.std.specs.Prelude.{Bool, true, false, cond, List, [], ◌⊎◌, ◌≡◌, refl, ℕ, zero, suc, ◌+◌, ◌-◌, ◌≤◌, ◌<◌, max, eqb, ltb, length, get_or, Some, None, is_some, Option as Maybe}
use Rattle.std.proofs.Common.{inl, inr, sym, ap, ap₂, ◌∙◌, arith, lt-ltb, le-ltb}
use Rattle.std.proofs.Math.Option.{Option, none, some}
use Rattle.std.proofs.Math.Path.{fun_ext}
use Rattle.layout.specs.Areas.{demand_at}
use Rattle.layout.specs.Dirs.{digits_of, dirs_of}
use Rattle.layout.specs.declared.shape.Dirs.{Dirs}
use Rattle.layout.specs.declared.shape.Shape.{Shape}
use Rattle.model.specs.Grid.{east_count}
use Rattle.model.specs.Job.{Job, edge_count, runs, group, layers_in, edges_in}
use Rattle.model.specs.Lists.{up_from, most, keep}
use Rattle.model.specs.Overflow.{flat_overflow, MO, ceil_div, group_most, limit}
use Rattle.theory.specs.congestion.Base.{in-up_from}
use Rattle.theory.specs.congestion.Sums.{lt-or-ge, most-le}
use Rattle.theory.specs.links.Plain.{plain-group, plain-limit, plain-limit-none}
use Rattle.flat.specs.FlatPlan.{most_at, most-eq}
use Rattle.flat.specs.declared.Limits.{Limits}

-- the layers of a way
abbrev pub layers_for : Shape → ℕ → ℕ
layers_for g way = length (keep (runs (dirs_of g.k g.dirs) way) (up_from 1 g.k))

-- the limit of n edges from the first one on, all of which go this way
abbrev pub way_limit : Shape → List ℕ → ℕ → ℕ → ℕ → ℕ
way_limit g w way first n = ceil_div (most_at (demand_at g + first) n w) (layers_for g way)

-- by whether the job says which way its layers run
abbrev pub limits_by : Maybe Dirs → Shape → List ℕ → ℕ → Limits
limits_by None g w m = record { border = g.east; east = ceil_div m g.k; north = ceil_div m g.k }
limits_by (Some d) g w m = record { border = g.east; east = way_limit g w 0 0 g.east; north = way_limit g w 1 g.east (g.e - g.east) }

-- where it does not say, and where it does
pub limits-plain : (d : Maybe Dirs) → is_some d ≡ false → (g : Shape) (w : List ℕ) (m : ℕ) → limits_by d g w m ≡ record { border = g.east; east = ceil_div m g.k; north = ceil_div m g.k }
limits-plain None h g w m = refl
limits-plain (Some d) h g w m = cc

pub limits-given : (d : Maybe Dirs) → is_some d ≡ true → (g : Shape) (w : List ℕ) (m : ℕ)
    → limits_by d g w m ≡ record { border = g.east; east = way_limit g w 0 0 g.east; north = way_limit g w 1 g.east (g.e - g.east) }
limits-given None h g w m = cc
limits-given (Some d) h g w m = refl

-- the limits found in the working numbers w, MO being m
abbrev pub limits_of : Shape → List ℕ → ℕ → Limits
limits_of g w m = limits_by g.dirs g w m

-- the limit of an edge
abbrev pub limit_at : Limits → ℕ → ℕ
limit_at m e = cond (ltb e m.border) m.east m.north

-- no number is larger than m, so the largest is not
pub most-few : (a n m : ℕ) (w : List ℕ) → ((i : ℕ) → i < n → get_or w (a + i) 0 ≤ m) → most_at a n w ≤ m
most-few a n m w h = most-le (λ i. get_or w (a + i) 0) m (up_from 0 n) (λ i k. h i (omega (arith, (in-up_from i 0 n).0 k)))

-- ---- they are the definitions'

-- of the edges from a on, those below E go east and the others north
above : (E v a n : ℕ) → E ≤ a → eqb 1 v ≡ true → keep (λ e. eqb (cond (ltb e E) 0 1) v) (up_from a n) ≡ up_from a n
above E v a zero h t = refl
above E v a (suc n) h t = rw (le-ltb a E h, t, above E v (suc a) n (omega arith) t)

none_above : (E v a n : ℕ) → E ≤ a → eqb 1 v ≡ false → keep (λ e. eqb (cond (ltb e E) 0 1) v) (up_from a n) ≡ []
none_above E v a zero h t = refl
none_above E v a (suc n) h t = rw (le-ltb a E h, t) (none_above E v (suc a) n (omega arith) t)

east-edges : (E a n : ℕ) → a ≤ E → E ≤ a + n → keep (λ e. eqb (cond (ltb e E) 0 1) 0) (up_from a n) ≡ up_from a (E - a)
east-edges E a zero h k = let z : E - a ≡ 0 = omega arith in rw z
east-edges E a (suc n) h k = go (lt-or-ge a E) (λ p. east-edges E (suc a) n p (omega arith))
  where
    go : (a < E) ⊎ (E ≤ a) → (a < E → keep (λ e. eqb (cond (ltb e E) 0 1) 0) (up_from (suc a) n) ≡ up_from (suc a) (E - suc a))
        → keep (λ e. eqb (cond (ltb e E) 0 1) 0) (up_from a (suc n)) ≡ up_from a (E - a)
    go (inl p) ih = let z : E - a ≡ suc (E - suc a) = omega arith in rw (z, lt-ltb a E p, ih p)
    go (inr p) ih = let z : E - a ≡ 0 = omega arith in rw z (none_above E 0 a (suc n) p refl)

north-edges : (E a n : ℕ) → a ≤ E → E ≤ a + n → keep (λ e. eqb (cond (ltb e E) 0 1) 1) (up_from a n) ≡ up_from E (a + n - E)
north-edges E a zero h k = let z : a + 0 - E ≡ 0 = omega arith in rw z
north-edges E a (suc n) h k = go (lt-or-ge a E) (λ p. north-edges E (suc a) n p (omega arith))
  where
    go : (a < E) ⊎ (E ≤ a) → (a < E → keep (λ e. eqb (cond (ltb e E) 0 1) 1) (up_from (suc a) n) ≡ up_from E (suc a + n - E))
        → keep (λ e. eqb (cond (ltb e E) 0 1) 1) (up_from a (suc n)) ≡ up_from E (a + suc n - E)
    go (inl p) ih = let z : a + suc n - E ≡ suc a + n - E = omega arith in rw (z, lt-ltb a E p) (ih p)
    go (inr p) ih =
        let z : a ≡ E = omega arith in
        let y : a + suc n - E ≡ suc n = omega arith in
        above E 1 a (suc n) p refl ∙ ap₂ up_from z (sym y)

-- the largest of numbers that stand from a place on
most-shift : (f : ℕ → ℕ) (a n : ℕ) → most f (up_from (suc a) n) ≡ most (λ i. f (suc i)) (up_from a n)
most-shift f a zero = refl
most-shift f a (suc n) = ap (max (f (suc a))) (most-shift f (suc a) n)

most-from : (f : ℕ → ℕ) (a n : ℕ) → most f (up_from a n) ≡ most (λ i. f (a + i)) (up_from 0 n)
most-from f zero n = most-eq f (λ i. f (0 + i)) (up_from 0 n) (λ i k. ap f (omega arith))
most-from f (suc a) n =
    most-shift f a n ∙ most-from (λ i. f (suc i)) a n ∙ most-eq (λ i. f (suc (a + i))) (λ i. f (suc a + i)) (up_from 0 n) (λ i k. ap f (omega arith))

either : (b : Bool) (x : ℕ) → cond b x x ≡ x
either true x = refl
either false x = refl

-- what is asked of the limits: each edge has that of its group, and the larger one is that of the groups
pub record LimitsAre (j : Job) (r : Limits) : Type 0 where
  pub each : (e : ℕ) → limit_at r e ≡ limit j (group j e)
  pub largest : max r.east r.north ≡ max (limit j 0) (limit j 1)

module _ (g : Shape) (j : Job) (w : List ℕ) (m : ℕ) (over : (e : ℕ) → e < g.e → get_or w (demand_at g + e) 0 ≡ flat_overflow j e) (most-is : m ≡ MO j) (layers : g.k ≡ j.layers)
    (edges : g.e ≡ edge_count j) (east : g.east ≡ east_count j.width j.height) (few : g.east ≤ g.e) (ways : dirs_of g.k g.dirs ≡ j.dirs) where
  -- without `dirs` all edges have one
  plain-are : j.dirs ≡ none → LimitsAre j (record { border = g.east; east = ceil_div m g.k; north = ceil_div m g.k })
  plain-are plain = record {
    each = λ e. either (ltb e g.east) (ceil_div m g.k) ∙ one ∙ ap (limit j) (sym (plain-group j plain e));
    largest = omega (arith, one, plain-limit-none j plain 0);
  }
    where
      one : ceil_div m g.k ≡ limit j 0
      one = ap₂ ceil_div most-is layers ∙ sym (plain-limit j plain)

  layers-for : (way : ℕ) → layers_for g way ≡ length (layers_in j way)
  layers-for way = ap₂ (λ (ds : Option (List ℕ)) (k : ℕ). length (keep (runs ds way) (up_from 1 k))) ways layers

  -- n edges from the first one on that are those of a group
  way-is : (way first n : ℕ) → first + n ≤ g.e → edges_in j way ≡ up_from first n → way_limit g w way first n ≡ limit j way
  way-is way first n room es = ap₂ ceil_div largest-there (layers-for way)
    where
      largest-there : most_at (demand_at g + first) n w ≡ group_most j way
      largest-there =
          most-eq (λ i. get_or w (demand_at g + first + i) 0) (λ i. flat_overflow j (first + i)) (up_from 0 n)
          (λ i k.
          let p : demand_at g + first + i ≡ demand_at g + (first + i) = omega arith in
          ap (λ (a : ℕ). get_or w a 0) p ∙ over (first + i) (omega (arith, (in-up_from i 0 n).0 k)))
          ∙ sym (most-from (flat_overflow j) first n)
          ∙ ap (most (flat_overflow j)) (sym es)

  -- with it, each direction has its own
  given-are : (ds : List ℕ) → j.dirs ≡ some ds → LimitsAre j (record { border = g.east; east = way_limit g w 0 0 g.east; north = way_limit g w 1 g.east (g.e - g.east) })
  given-are ds given = record {
    each = λ e. ap₂ (λ (a b : ℕ). cond (ltb e g.east) a b) east_is north-is ∙ by e (ltb e g.east) ∙ ap (limit j) (sym (group-is e));
    largest = ap₂ max east_is north-is;
  }
    where
      group-is : (e : ℕ) → group j e ≡ cond (ltb e g.east) 0 1
      group-is e = rw (given, east) refl

      by : (e : ℕ) (b : Bool) → cond b (limit j 0) (limit j 1) ≡ limit j (cond b 0 1)
      by e true = refl
      by e false = refl

      in_group : (way : ℕ) → edges_in j way ≡ keep (λ e. eqb (cond (ltb e g.east) 0 1) way) (up_from 0 g.e)
      in_group way = ap₂ (λ (f : ℕ → ℕ) (n : ℕ). keep (λ e. eqb (f e) way) (up_from 0 n)) (fun_ext group-is) (sym edges)

      whole : g.east - 0 ≡ g.east
      whole = omega arith

      others : 0 + g.e - g.east ≡ g.e - g.east
      others = omega arith

      east_is : way_limit g w 0 0 g.east ≡ limit j 0
      east_is = way-is 0 0 g.east (omega arith) (in_group 0 ∙ east-edges g.east 0 g.e (omega arith) (omega arith) ∙ ap (up_from 0) whole)

      north-is : way_limit g w 1 g.east (g.e - g.east) ≡ limit j 1
      north-is =
          way-is 1 g.east (g.e - g.east) (omega arith) (in_group 1 ∙ north-edges g.east 0 g.e (omega arith) (omega arith) ∙ ap (up_from g.east) others)

  pub limits-are : LimitsAre j (limits_of g w m)
  limits-are = go g.dirs refl
    where
      go : (d : Maybe Dirs) → g.dirs ≡ d → LimitsAre j (limits_by d g w m)
      go None e = plain-are (sym ways ∙ ap (dirs_of g.k) e)
      go (Some d) e = given-are (digits_of g.k d.north) (sym ways ∙ ap (dirs_of g.k) e)
