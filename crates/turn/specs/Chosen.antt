-- Layers put by edge: what then stands for each edge, and for the edges of a net in the order of its line.
-- Assumes nothing.
use Rattle.std.specs.Prelude.{Bool, cond, List, [], ◌∷◌, map, ◌≢◌, ◌≡◌, refl, ℕ, ◌+◌, ◌≤◌, ◌<◌, length, get_or, set}
use Rattle.std.proofs.Common.{⊎_elim, sym, ap, ap₂, ◌∙◌, arith, eq-eqb, ne_eqb, length-set, get_or-set_same, get_or-set_other}
use Rattle.layout.specs.Parts.{Outside, set-outside, outside_wider, outside-then, outside-same}
use Rattle.layout.specs.declared.shape.Shape.{Shape}
use Rattle.model.specs.Lists.{same, occurs, In}
use Rattle.model.specs.Plan.{layer_of}
use Rattle.theory.specs.congestion.Sums.{same_cases, same_refl, in_head, in_tail}
use Rattle.tracks.specs.OccupiedAll.{CanTake}
use Rattle.turn.specs.Steps.{put_by}

layer-here : (a : ℕ) (es : List ℕ) (y : ℕ) (ys : List ℕ) (e : ℕ) → e ≡ a → layer_of (a ∷ es) (y ∷ ys) e ≡ y
layer-here a es y ys e h = ap (λ (q : Bool). cond q y (layer_of es ys e)) (eq-eqb a e (sym h))

layer-later : (a : ℕ) (es : List ℕ) (y : ℕ) (ys : List ℕ) (e : ℕ) → e ≢ a → layer_of (a ∷ es) (y ∷ ys) e ≡ layer_of es ys e
layer-later a es y ys e h = ap (λ (q : Bool). cond q y (layer_of es ys e)) (ne_eqb a e (λ p. h (sym p)))

-- an edge that is not among them keeps what stands for it
pub put_other : (a : ℕ) (w es ls : List ℕ) (e : ℕ) → occurs e es ≡ 0 → get_or (put_by a w es ls) (a + e) 0 ≡ get_or w (a + e) 0
put_other a w [] ls e z = refl
put_other a w (b ∷ es) [] e z = refl
put_other a w (b ∷ es) (l ∷ ls) e z =
    put_other a (set w (a + b) l) es ls e (omega arith)
    ∙ get_or-set_other w (a + b) (a + e) l 0 (λ q. let p : e ≡ b = omega arith in omega (arith, same_refl e, ap (same e) p))

-- where no edge comes twice, each has its layer
pub put-at : (a : ℕ) (w es ls : List ℕ) → ((e : ℕ) → occurs e es ≤ 1) → ((e : ℕ) → In e es → a + e < length w) → length ls ≡ length es → (e : ℕ) → In e es
    → get_or (put_by a w es ls) (a + e) 0 ≡ layer_of es ls e
put-at a w [] ls once room long e i = absurd (omega arith)
put-at a w (b ∷ es) [] once room long e i = absurd (omega arith)
put-at a w (b ∷ es) (l ∷ ls) once room long e i =
    ⊎_elim here
    (λ s.
    there s
    (put-at a (set w (a + b) l) es ls (λ d. omega (arith, once d)) (λ d k. omega (arith, length-set w (a + b) l, room d (in_tail d b es k))) (omega arith) e
    (omega (arith, s.1))))
    (same_cases e b)
  where
    here : (e ≡ b) × (same e b ≡ 1) → get_or (put_by a (set w (a + b) l) es ls) (a + e) 0 ≡ layer_of (b ∷ es) (l ∷ ls) e
    here s =
        put_other a (set w (a + b) l) es ls e (omega (arith, once e, s.1))
        ∙ ap (λ (x : ℕ). get_or (set w (a + b) l) (a + x) 0) s.0
        ∙ get_or-set_same w (a + b) l 0 (room b (in_head b es))
        ∙ sym (layer-here b es l ls e s.0)

    there : (e ≢ b) × (same e b ≡ 0) → get_or (put_by a (set w (a + b) l) es ls) (a + e) 0 ≡ layer_of es ls e
        → get_or (put_by a (set w (a + b) l) es ls) (a + e) 0 ≡ layer_of (b ∷ es) (l ∷ ls) e
    there s p = p ∙ sym (layer-later b es l ls e s.0)

-- only what stands for these edges changes
pub put-outside : (a k : ℕ) (w es ls : List ℕ) → ((e : ℕ) → In e es → e < k) → Outside a k w (put_by a w es ls)
put-outside a k w [] ls h = outside-same a k w
put-outside a k w (e ∷ es) [] h = outside-same a k w
put-outside a k w (e ∷ es) (l ∷ ls) h =
    outside-then a k w (set w (a + e) l) (put_by a (set w (a + e) l) es ls)
    (outside_wider (a + e) 1 a k w (set w (a + e) l) (set-outside w (a + e) l) (omega arith) (omega (arith, h e (in_head e es))))
    (put-outside a k (set w (a + e) l) es ls (λ d i. h d (in_tail d e es i)))

-- layers that can take one more net are layers of the stack
pub layer-small : (g : Shape) (w es ls : List ℕ) → CanTake g w es ls → (e : ℕ) → In e es → layer_of es ls e ≤ g.k
layer-small g w [] ls t e i = absurd (omega arith)
layer-small g w (b ∷ es) [] t e i = absurd t
layer-small g w (b ∷ es) (l ∷ ls) t e i =
    ⊎_elim
    (λ s. omega (arith, layer-here b es l ls e s.0, t.0.high))
    (λ s. omega (arith, layer-later b es l ls e s.0, layer-small g w es ls t.1 e (omega (arith, s.1))))
    (same_cases e b)

pub map_same : (f h : ℕ → ℕ) (es : List ℕ) → ((e : ℕ) → In e es → f e ≡ h e) → map f es ≡ map h es
map_same f h [] k = refl
map_same f h (e ∷ es) k = ap₂ {C = List ℕ} (λ b r. b ∷ r) (k e (in_head e es)) (map_same f h es (λ d i. k d (in_tail d e es i)))
