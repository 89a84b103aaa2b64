-- Layers that run the other way are closed before the first turn. Document 02, S-2.
-- Assumes nothing.
use Rattle.std.specs.Prelude.{Bool, true, false, cond, List, ◌≡◌, refl, ℕ, suc, ◌+◌, ◌-◌, ◌*◌, ◌≤◌, ◌<◌, ltb, get_or, Some, None, is_some, Option as Maybe}
use Rattle.std.proofs.Common.{⊎_elim, sym, ap, ◌∙◌, subst, mul-le-mul_right, add-mul, arith, lt-ltb, le-ltb}
use Rattle.layout.specs.Areas.{loads_at, edge-room}
use Rattle.layout.specs.Dirs.{dirs_of}
use Rattle.layout.specs.Fill.{Filled}
use Rattle.layout.specs.Parts.{Outside, outside-same, outside_wider, outside-then}
use Rattle.layout.specs.declared.shape.Dirs.{Dirs}
use Rattle.layout.specs.declared.shape.Shape.{Shape}
use Rattle.model.specs.Grid.{east_count}
use Rattle.model.specs.Job.{Job, group_in, runs, group}
use Rattle.net.specs.SoFar.{closed_load}
use Rattle.theory.specs.congestion.Sums.{lt-or-ge}

-- where the nets on the layers of edge e stand
abbrev pub row_at : Shape → ℕ → ℕ
row_at g e = loads_at g + e * g.k

-- the nets on layer l of edge e, counted from 0, once the layers that run another way are closed
abbrev pub shut_at : Shape → ℕ → List ℕ → ℕ → ℕ → ℕ
shut_at g way w e l = cond (runs (dirs_of g.k g.dirs) way (l + 1)) (get_or w (row_at g e + l) 0) closed_load

-- the same of n layers whose nets stand from `at` on
abbrev pub shut_from : ℕ → Maybe Dirs → ℕ → List ℕ → ℕ → ℕ → ℕ
shut_from k d way w at l = cond (runs (dirs_of k d) way (l + 1)) (get_or w (at + l) 0) closed_load

pub shut_row : (g : Shape) (way : ℕ) (w w' : List ℕ) (e at n : ℕ) → at ≡ row_at g e → n ≡ g.k → Filled at n (shut_from g.k g.dirs way w at) w w'
    → Filled (row_at g e) g.k (shut_at g way w e) w w'
shut_row g way w w' e at n a b f = rw (a, b) at f

-- w' is w with the layers of the edges from `from` on, up to `to`, closed so
pub record Shut (g : Shape) (from to way : ℕ) (w w' : List ℕ) : Type 0 where
  pub each : (e l : ℕ) → from ≤ e → e < to → l < g.k → get_or w' (row_at g e + l) 0 ≡ shut_at g way w e l
  pub outside : Outside (row_at g from) ((to - from) * g.k) w w'

module _ (g : Shape) (from way : ℕ) (w : List ℕ) where
  pub shut_none : Shut g from from way w w
  shut_none = record { each = λ e l a b h. absurd (omega arith); outside = outside-same (row_at g from) ((from - from) * g.k) w }

  -- one edge more
  pub shut-next : (e : ℕ) (w' w'' : List ℕ) → from ≤ e → Shut g from e way w w' → Filled (row_at g e) g.k (shut_at g way w' e) w' w'' → Shut g from (e + 1) way w w''
  shut-next e w' w'' h s f = record { each = each; outside = outside-then (row_at g from) ((e + 1 - from) * g.k) w w' w'' before here }
    where
      rows : (e - from) * g.k + from * g.k ≡ e * g.k
      rows = sym (add-mul (e - from) from g.k) ∙ ap (λ (n : ℕ). n * g.k) (omega arith)

      more : (e + 1 - from) * g.k ≡ (e - from) * g.k + g.k
      more = let p : e + 1 - from ≡ suc (e - from) = omega arith in rw p (omega arith)

      before : Outside (row_at g from) ((e + 1 - from) * g.k) w w'
      before = outside_wider (row_at g from) ((e - from) * g.k) (row_at g from) ((e + 1 - from) * g.k) w w' s.outside (omega arith) (omega (arith, more))

      here : Outside (row_at g from) ((e + 1 - from) * g.k) w' w''
      here = outside_wider (row_at g e) g.k (row_at g from) ((e + 1 - from) * g.k) w' w'' f.outside (omega (arith, rows)) (omega (arith, more, rows))

      kept : (l : ℕ) → get_or w' (row_at g e + l) 0 ≡ get_or w (row_at g e + l) 0
      kept l = s.outside.high (row_at g e + l) (omega (arith, rows))

      each : (a l : ℕ) → from ≤ a → a < e + 1 → l < g.k → get_or w'' (row_at g a + l) 0 ≡ shut_at g way w a l
      each a l low high b =
          ⊎_elim
          (λ p. f.outside.low (row_at g a + l) (omega (arith, mul-le-mul_right g.k p)) ∙ s.each a l low p b)
          (λ p.
          let q : e ≡ a = omega arith in
          subst (λ (n : ℕ). get_or w'' (row_at g n + l) 0 ≡ shut_at g way w n l) q
          (f.each l b ∙ ap (λ (v : ℕ). cond (runs (dirs_of g.k g.dirs) way (l + 1)) v closed_load) (kept l)))
          (lt-or-ge a e)

-- ---- all edges, each by its own way

pub record Closed (g : Shape) (w w' : List ℕ) : Type 0 where
  pub each : (e l : ℕ) → e < g.e → l < g.k → get_or w' (row_at g e + l) 0 ≡ shut_at g (group_in (dirs_of g.k g.dirs) g.east e) w e l
  pub outside : Outside (loads_at g) (loads_at g) w w'

none-there : (d : Maybe Dirs) → is_some d ≡ false → d ≡ None
none-there None n = refl
none-there (Some d) n = cc

-- where directions are given, an edge's group is by where it stands
group_by : (k east e : ℕ) (d : Maybe Dirs) → is_some d ≡ true → group_in (dirs_of k d) east e ≡ cond (ltb e east) 0 1
group_by k east e None n = cc
group_by k east e (Some d) n = refl

-- a job that says nothing of directions has no layer closed
pub closed-any : (g : Shape) (w : List ℕ) → is_some g.dirs ≡ false → Closed g w w
closed-any g w n = record { each = λ a l h b. rw (none-there g.dirs n) refl; outside = outside-same (loads_at g) (loads_at g) w }

module _ (g : Shape) (given : is_some g.dirs ≡ true) (few : g.east ≤ g.e) (w w' w'' : List ℕ) (east : Shut g 0 g.east 0 w w') (north : Shut g g.east g.e 1 w' w'') where
  parts : g.east * g.k + (g.e - g.east) * g.k ≡ loads_at g
  parts = sym (add-mul g.east (g.e - g.east) g.k) ∙ (let p : g.east + (g.e - g.east) ≡ g.e = omega arith in rw p (omega arith))

  pub closed-given : Closed g w w''
  closed-given = record {
    each = λ e l h b. ⊎_elim (λ p. below e l p b) (λ p. above e l p h b) (lt-or-ge e g.east);
    outside = outside-then (loads_at g) (loads_at g) w w' w''
        (outside_wider (row_at g 0) ((g.east - 0) * g.k) (loads_at g) (loads_at g) w w' east.outside (omega arith) (omega (arith, parts, first)))
        (outside_wider (row_at g g.east) ((g.e - g.east) * g.k) (loads_at g) (loads_at g) w' w'' north.outside (omega arith) (omega (arith, parts)));
  }
    where
      first : (g.east - 0) * g.k ≡ g.east * g.k
      first = ap (λ (n : ℕ). n * g.k) (omega arith)

      group-is : (e v : ℕ) (b : Bool) → ltb e g.east ≡ b → cond b 0 1 ≡ v → group_in (dirs_of g.k g.dirs) g.east e ≡ v
      group-is e v b t u = group_by g.k g.east e g.dirs given ∙ rw t u

      below : (e l : ℕ) → e < g.east → l < g.k → get_or w'' (row_at g e + l) 0 ≡ shut_at g (group_in (dirs_of g.k g.dirs) g.east e) w e l
      below e l p b =
          north.outside.low (row_at g e + l) (omega (arith, mul-le-mul_right g.k p))
          ∙ east.each e l (omega arith) p b
          ∙ ap (λ (v : ℕ). shut_at g v w e l) (sym (group-is e 0 true (lt-ltb e g.east p) refl))

      above : (e l : ℕ) → g.east ≤ e → e < g.e → l < g.k → get_or w'' (row_at g e + l) 0 ≡ shut_at g (group_in (dirs_of g.k g.dirs) g.east e) w e l
      above e l p h b =
          north.each e l p h b
          ∙ ap (λ (v : ℕ). cond (runs (dirs_of g.k g.dirs) 1 (l + 1)) v closed_load)
          (east.outside.high (row_at g e + l) (omega (arith, mul-le-mul_right g.k p, first)))
          ∙ ap (λ (v : ℕ). shut_at g v w e l) (sym (group-is e 1 false (le-ltb e g.east p) refl))

-- ---- before the first turn

-- no net is on a layer that runs its edge's way, and the others are closed
module _ (g : Shape) (j : Job) (w w' : List ℕ) (c : Closed g w w') (ways : dirs_of g.k g.dirs ≡ j.dirs) (border : g.east ≡ east_count j.width j.height)
    (empty : (i : ℕ) → i < loads_at g → get_or w (loads_at g + i) 0 ≡ 0) where
  there : (e l : ℕ) → e < g.e → 1 ≤ l → l ≤ g.k → get_or w' (loads_at g + e * g.k + (l - 1)) 0 ≡ cond (runs j.dirs (group j e) l) 0 closed_load
  there e l h a b =
      let p : row_at g e + (l - 1) ≡ loads_at g + (e * g.k + (l - 1)) = omega arith in
      let q : l - 1 + 1 ≡ l = omega arith in
      c.each e (l - 1) h (omega arith)
      ∙ (λ i. cond (runs (ways i) (group_in (ways i) (border i) e) (q i)) (get_or w (row_at g e + (l - 1)) 0) closed_load)
      ∙ ap (λ (v : ℕ). cond (runs j.dirs (group j e) l) v closed_load) (ap (λ (n : ℕ). get_or w n 0) p ∙ empty (e * g.k + (l - 1)) (omega (arith, edge-room g e h)))

  pub first-loads : (e l : ℕ) → e < g.e → 1 ≤ l → l ≤ g.k → runs j.dirs (group j e) l ≡ true → get_or w' (loads_at g + e * g.k + (l - 1)) 0 ≡ 0
  first-loads e l h a b r = there e l h a b ∙ ap (λ (t : Bool). cond t 0 closed_load) r

  pub first-closed : (e l : ℕ) → e < g.e → 1 ≤ l → l ≤ g.k → runs j.dirs (group j e) l ≡ false → closed_load ≤ get_or w' (loads_at g + e * g.k + (l - 1)) 0
  first-closed e l h a b r = omega (arith, there e l h a b, ap (λ (t : Bool). cond t 0 closed_load) r)
