-- What the counting of nets does to each number.
-- Assumes nothing.
use Rattle.std.specs.Prelude.{Bool, true, false, ◌&&◌, cond, List, [], ◌∷◌, ◌++◌, ◌⊎◌, ◌≢◌, ◌≡◌, refl, ℕ, suc, ◌+◌, ◌-◌, ◌*◌, ◌≤◌, ◌<◌, ltb, eqb, length, set}
use Rattle.std.proofs.Common.{inl, inr, sym, ◌∙◌, arith, lt-ltb, le-ltb}
use Rattle.std.proofs.Math.Logic.{⊎_elim}
use Rattle.std.proofs.Math.Path.{ap}
use Rattle.std.proofs.Math.Decide.{ℕ_discrete}
use Rattle.std.proofs.Math.ListN.{get_or, length-set}
use Rattle.std.proofs.Math.Seq.{get_or-set_same, get_or-set_other}
use Rattle.layout.specs.Areas.{loads_at, demand_at, tiles_at, edge-room}
use Rattle.layout.specs.Parts.{Outside, set-outside, outside_wider, outside-then, outside-same}
use Rattle.layout.specs.declared.shape.Shape.{Shape}
use Rattle.model.specs.Job.{Net, low_of}
use Rattle.model.specs.Lists.{bit, occurs, In, count, has}
use Rattle.net.specs.Places.{apart}
use Rattle.theory.specs.congestion.Sums.{same, same_cases, in_head, in_tail, eqb-true, eqb-false, lt-or-ge}
use Rattle.theory.specs.links.Nets.{EachNet}
use Rattle.theory.specs.congestion.Tests.{has-true, has-false}
use Rattle.directives.specs.Counts.{cell, one_more, marked, marked_net, marked_nets}

-- all edges of a list are of the grid
abbrev pub Known : Shape → List ℕ → Type 0
Known g es = (e : ℕ) → In e es → e < g.e

pub marked-snoc : (g : Shape) (t : ℕ) (es : List ℕ) (e : ℕ) (w : List ℕ) → marked g t (es ++ (e ∷ [])) w ≡ one_more g t e (marked g t es w)
marked-snoc g t [] e w = refl
marked-snoc g t (d ∷ es) e w = marked-snoc g t es e (one_more g t d w)

-- the same number is stored in two lists, apart from where they differ
set_both : (a k : ℕ) (w w' : List ℕ) → Outside a k w w' → (i v v' : ℕ) → i < a → i < length w → v' ≡ v → Outside a k (set w i v) (set w' i v')
set_both a k w w' out i v v' h room e = record {
  long = length-set w' i v' ∙ out.long ∙ sym (length-set w i v);
  low = λ j b. go j b (ℕ_discrete j i);
  high = λ j b. get_or-set_other w' i j v' 0 (λ q. omega arith) ∙ out.high j b ∙ sym (get_or-set_other w i j v 0 (λ q. omega arith));
}
  where
    go : (j : ℕ) → j < a → Dec (j ≡ i) → get_or (set w' i v') j 0 ≡ get_or (set w i v) j 0
    go j b (yes q) =
        ap (λ (x : ℕ). get_or (set w' i v') x 0) q ∙ get_or-set_same w' i v' 0 (omega (arith, out.long)) ∙ e
        ∙ sym (ap (λ (x : ℕ). get_or (set w i v) x 0) q ∙ get_or-set_same w i v 0 room)
    go j b (no q) = get_or-set_other w' i j v' 0 q ∙ out.low j b ∙ sym (get_or-set_other w i j v 0 q)

module _ (g : Shape) where
  -- a cell is among the loads
  pub cell-inside : (e t : ℕ) → e < g.e → 1 ≤ t → t ≤ g.k → (loads_at g ≤ cell g e t) × (cell g e t < demand_at g)
  cell-inside e t h low high = (omega arith, omega (arith, edge-room g e h))

  -- no two cells are one
  pub cell_apart : (a b s t : ℕ) → 1 ≤ s → s ≤ g.k → 1 ≤ t → t ≤ g.k → (a ≢ b) ⊎ (s ≢ t) → cell g a s ≢ cell g b t
  cell_apart a b s t s1 sk t1 tk d e = apart g.k a b (s - 1) (t - 1) (omega arith) (omega arith) (other d) (omega arith)
    where
      other : (a ≢ b) ⊎ (s ≢ t) → (a ≢ b) ⊎ (s - 1 ≢ t - 1)
      other (inl n) = inl n
      other (inr n) = inr (λ q. n (omega arith))

  -- ---- one net more on an edge

  module _ (t : ℕ) (low : 1 ≤ t) (high : t ≤ g.k) where
    pub one-long : (e : ℕ) (w : List ℕ) → length (one_more g t e w) ≡ length w
    unfolding one_more
    one-long e w = length-set w (cell g e t) (get_or w (cell g e t) 0 + 1)

    pub one_outside : (e : ℕ) (w : List ℕ) → e < g.e → Outside (loads_at g) (loads_at g) w (one_more g t e w)
    unfolding one_more
    one_outside e w h =
        let c = cell-inside e t h low high in
        outside_wider (cell g e t) 1 (loads_at g) (loads_at g) w (set w (cell g e t) (get_or w (cell g e t) 0 + 1)) (set-outside w (cell g e t) (get_or w (cell g e t) 0 + 1)) (omega (arith, c)) (omega (arith, c))

    pub one_at : (e : ℕ) (w : List ℕ) → e < g.e → demand_at g ≤ length w → (d : ℕ) → get_or (one_more g t e w) (cell g d t) 0 ≡ get_or w (cell g d t) 0 + same d e
    unfolding one_more
    one_at e w h room d =
        ⊎_elim
        (λ s.
        ap (λ (x : ℕ). get_or (one_more g t e w) (cell g x t) 0) s.0
        ∙ get_or-set_same w (cell g e t) (get_or w (cell g e t) 0 + 1) 0 (omega (arith, cell-inside e t h low high))
        ∙ omega (arith, s.1, ap (λ (x : ℕ). get_or w (cell g x t) 0) s.0))
        (λ s. omega (arith, s.1, get_or-set_other w (cell g e t) (cell g d t) (get_or w (cell g e t) 0 + 1) 0 (cell_apart d e t t low high low high (inl s.0))))
        (same_cases d e)

    one-other : (e : ℕ) (w : List ℕ) (d s : ℕ) → 1 ≤ s → s ≤ g.k → s ≢ t → get_or (one_more g t e w) (cell g d s) 0 ≡ get_or w (cell g d s) 0
    unfolding one_more
    one-other e w d s s1 sk n = get_or-set_other w (cell g e t) (cell g d s) (get_or w (cell g e t) 0 + 1) 0 (cell_apart d e s t s1 sk low high (inr n))

    -- ---- a net

    pub marked-outside : (es w : List ℕ) → Known g es → Outside (loads_at g) (loads_at g) w (marked g t es w)
    marked-outside [] w k = outside-same (loads_at g) (loads_at g) w
    marked-outside (e ∷ es) w k =
        outside-then (loads_at g) (loads_at g) w (one_more g t e w) (marked g t es (one_more g t e w)) (one_outside e w (k e (in_head e es)))
        (marked-outside es (one_more g t e w) (λ d i. k d (in_tail d e es i)))

    pub marked-at : (es w : List ℕ) → Known g es → demand_at g ≤ length w → (d : ℕ) → get_or (marked g t es w) (cell g d t) 0 ≡ get_or w (cell g d t) 0 + occurs d es
    marked-at [] w k room d = omega arith
    marked-at (e ∷ es) w k room d =
        omega (
          arith,
          marked-at es (one_more g t e w) (λ x i. k x (in_tail x e es i)) (omega (arith, one-long e w)) d,
          one_at e w (k e (in_head e es)) room d,
        )

    pub marked_other : (es w : List ℕ) (d s : ℕ) → 1 ≤ s → s ≤ g.k → s ≢ t → get_or (marked g t es w) (cell g d s) 0 ≡ get_or w (cell g d s) 0
    marked_other [] w d s s1 sk n = refl
    marked_other (e ∷ es) w d s s1 sk n = marked_other es (one_more g t e w) d s s1 sk n ∙ one-other e w d s s1 sk n

  -- ---- lists that differ in the marks and the links of the tiles only stay so

  module _ (t : ℕ) (low : 1 ≤ t) (high : t ≤ g.k) where
    one-both : (e : ℕ) (w w' : List ℕ) → e < g.e → demand_at g ≤ length w → Outside (tiles_at g) (2 * g.t) w w' → Outside (tiles_at g) (2 * g.t) (one_more g t e w) (one_more g t e w')
    unfolding one_more
    one-both e w w' h room out =
        let c = cell-inside e t h low high in
        set_both (tiles_at g) (2 * g.t) w w' out (cell g e t) (get_or w (cell g e t) 0 + 1) (get_or w' (cell g e t) 0 + 1) (omega (arith, c)) (omega (arith, c))
        (omega (arith, out.low (cell g e t) (omega (arith, c))))

    pub marked-both : (es w w' : List ℕ) → Known g es → demand_at g ≤ length w → Outside (tiles_at g) (2 * g.t) w w' → Outside (tiles_at g) (2 * g.t) (marked g t es w) (marked g t es w')
    marked-both [] w w' k room out = out
    marked-both (e ∷ es) w w' k room out =
        marked-both es (one_more g t e w) (one_more g t e w') (λ d i. k d (in_tail d e es i)) (omega (arith, one-long t low high e w)) (one-both e w w' (k e (in_head e es)) room out)

  -- ---- the nets

  -- a net of the job: its edges are of the grid, each once, and its lowest wanted layer is a layer
  pub record Fine (n : Net) : Type 0 where
    pub known : Known g n.edges
    pub once : (e : ℕ) → occurs e n.edges ≤ 1
    pub low : 1 ≤ low_of n
    pub high : low_of n ≤ g.k

  -- the nets that use edge e with lowest wanted layer t
  abbrev pub wants : ℕ → ℕ → Net → Bool
  wants e t n = has n.edges e && eqb (low_of n) t

  net-outside : (n : Net) (w : List ℕ) → Fine n → Outside (loads_at g) (loads_at g) w (marked_net g n w)
  net-outside n w f = go (ltb 1 (low_of n))
    where
      go : (b : Bool) → Outside (loads_at g) (loads_at g) w (cond b (marked g (low_of n) n.edges w) w)
      go true = marked-outside (low_of n) f.low f.high n.edges w f.known
      go false = outside-same (loads_at g) (loads_at g) w

  pub net-both : (n : Net) (w w' : List ℕ) → Fine n → demand_at g ≤ length w → Outside (tiles_at g) (2 * g.t) w w' → Outside (tiles_at g) (2 * g.t) (marked_net g n w) (marked_net g n w')
  net-both n w w' f room out = go (ltb 1 (low_of n))
    where
      go : (b : Bool) → Outside (tiles_at g) (2 * g.t) (cond b (marked g (low_of n) n.edges w) w) (cond b (marked g (low_of n) n.edges w') w')
      go true = marked-both (low_of n) f.low f.high n.edges w w' f.known room out
      go false = out

  net-at : (n : Net) (w : List ℕ) → Fine n → demand_at g ≤ length w → (e t : ℕ) → 2 ≤ t → t ≤ g.k
      → get_or (marked_net g n w) (cell g e t) 0 ≡ get_or w (cell g e t) 0 + bit (wants e t n)
  net-at n w f room e t t2 tk = go (lt-or-ge 1 (low_of n)) (same_cases (low_of n) t)
    where
      used : bit (has n.edges e && true) ≡ occurs e n.edges
      used =
          ⊎_elim
          (λ i. rw (has-true n.edges e i) (omega (arith, f.once e)))
          (λ z. rw (has-false n.edges e (omega arith)) (omega arith))
          (lt-or-ge 0 (occurs e n.edges))

      unused : (b : Bool) → bit (b && false) ≡ 0
      unused true = refl
      unused false = refl

      go : (1 < low_of n) ⊎ (low_of n ≤ 1) → ((low_of n ≡ t) × (same (low_of n) t ≡ 1)) ⊎ ((low_of n ≢ t) × (same (low_of n) t ≡ 0))
          → get_or (marked_net g n w) (cell g e t) 0 ≡ get_or w (cell g e t) 0 + bit (wants e t n)
      go (inl h) (inl s) =
          rw (lt-ltb 1 (low_of n) h, eqb-true (low_of n) t s.0)
          (omega (arith, used, ap (λ (x : ℕ). get_or (marked g (low_of n) n.edges w) (cell g e x) 0) s.0, ap (λ (x : ℕ). get_or w (cell g e x) 0) s.0, marked-at (low_of n) f.low f.high n.edges w f.known room e))
      go (inl h) (inr s) =
          rw (lt-ltb 1 (low_of n) h, eqb-false (low_of n) t s.0)
          (omega (arith, unused (has n.edges e), marked_other (low_of n) f.low f.high n.edges w e t (omega arith) tk (λ q. s.0 (sym q))))
      go (inr h) s = rw (le-ltb 1 (low_of n) h, eqb-false (low_of n) t (λ q. omega arith)) (omega (arith, unused (has n.edges e)))

  pub nets-outside : (ns : List Net) (w : List ℕ) → EachNet Fine ns → Outside (loads_at g) (loads_at g) w (marked_nets g ns w)
  nets-outside [] w f = outside-same (loads_at g) (loads_at g) w
  nets-outside (n ∷ ns) w f =
      outside-then (loads_at g) (loads_at g) w (marked_net g n w) (marked_nets g ns (marked_net g n w)) (net-outside n w f.0) (nets-outside ns (marked_net g n w) f.1)

  -- each net that wants the layer is counted once on the edge
  pub nets-at : (ns : List Net) (w : List ℕ) → EachNet Fine ns → demand_at g ≤ length w → (e t : ℕ) → 2 ≤ t → t ≤ g.k
      → get_or (marked_nets g ns w) (cell g e t) 0 ≡ get_or w (cell g e t) 0 + count (wants e t) ns
  nets-at [] w f room e t t2 tk = omega arith
  nets-at (n ∷ ns) w f room e t t2 tk =
      omega (
        arith,
        nets-at ns (marked_net g n w) f.1 (omega (arith, (net-outside n w f.0).long)) e t t2 tk,
        net-at n w f.0 room e t t2 tk,
      )

pub nets-snoc : (g : Shape) (ns : List Net) (n : Net) (w : List ℕ) → marked_nets g (ns ++ (n ∷ [])) w ≡ marked_net g n (marked_nets g ns w)
nets-snoc g [] n w = refl
nets-snoc g (m ∷ ns) n w = nets-snoc g ns n (marked_net g m w)

pub count-few : {A : Type 0} (p : A → Bool) (xs : List A) → count p xs ≤ length xs
count-few p [] = omega arith
count-few p (x ∷ xs) = go (p x) (count-few p xs)
  where
    go : (b : Bool) → count p xs ≤ length xs → bit b + count p xs ≤ suc (length xs)
    go true ih = omega arith
    go false ih = omega arith
