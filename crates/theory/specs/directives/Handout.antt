-- One edge: the summed excess is the fewest nets that must go without a track on a wanted layer, over all ways to hand out tracks.
-- `ws` are the wanted layers of the nets, in any order; `hs` hold the layer that each net is given, 0 where it goes without.
-- Assumes nothing.
use Rattle.std.specs.Prelude.{◌≡◌, refl, List, [], ◌∷◌, Bool, true, false, cond, ◌⊎◌, ℕ, zero, suc, ◌+◌, ◌-◌, ◌≤◌, ◌<◌, min, ltb, length}
use Rattle.std.proofs.Common.{sym, ap, subst, inl, inr, ⊎_elim, arith, ltb-true, ltb-false}
use Rattle.model.specs.Directives.{virtual_capacity, virtual_demand, excess, summed_excess, Fits, HandOut, Fewest}
use Rattle.model.specs.Lists.{up_from, sum, occurs, In}
use Rattle.theory.specs.congestion.Sums.{same, same_cases, same_refl, same-ne, in_head, in_tail, sum_mono, sum-add, sum-zero, lt-or-ge}
use Rattle.theory.specs.congestion.Base.{up_from-low, up_from-once, in-up_from}
use Rattle.theory.specs.directives.Demand.{sum-suffix, capacity-is, demand-step, excess-served, excess-rest, excess-eq}

pub fewest-once : (c : ℕ → ℕ) (K : ℕ) (ws : List ℕ) (m n : ℕ) → Fewest c K ws m → Fewest c K ws n → m ≡ n
fewest-once c K ws m n p q =
    omega (arith, p.some.2, q.some.2, p.least q.some.0 q.some.1, q.least p.some.0 p.some.1)

pub fits-length : (K : ℕ) (ws hs : List ℕ) → Fits K ws hs → length hs ≡ length ws
fits-length K [] [] f = refl
fits-length K [] (h ∷ hs) f = absurd f
fits-length K (w ∷ ws) [] f = absurd f
fits-length K (w ∷ ws) (h ∷ hs) f = ap suc (fits-length K ws hs f.1)

-- ---- counting by layers and counting by nets is one

pub same-sym : (a b : ℕ) → same a b ≡ same b a
same-sym a b = ⊎_elim (λ s. rw s.0) (λ s. omega (arith, s.1, same-ne b a (λ e. s.0 (sym e)))) (same_cases a b)

marks : (x : ℕ) (ls : List ℕ) → sum (λ l. same l x) ls ≡ occurs x ls
marks x [] = refl
marks x (l ∷ ls) = omega (arith, same-sym l x, marks x ls)

pub count-swap : (ls xs : List ℕ) → sum (λ l. occurs l xs) ls ≡ sum (λ x. occurs x ls) xs
count-swap ls [] = sum-zero (λ l. 0) ls (λ l i. refl)
count-swap ls (x ∷ xs) = omega (arith, sum-add (λ l. same l x) (λ l. occurs l xs) ls, marks x ls, count-swap ls xs)

-- ---- no hand-out leaves fewer without

-- the nets that want a layer of the list and are given one
abbrev got : List ℕ → List ℕ → List ℕ → ℕ
got ls [] hs = 0
got ls (w ∷ ws) [] = 0
got ls (w ∷ ws) (h ∷ hs) = (occurs w ls - same 0 h) + got ls ws hs

got-step : (t : ℕ) (ls ws hs : List ℕ) → got (t ∷ ls) ws hs ≤ occurs t ws + got ls ws hs
got-step t ls [] hs = omega arith
got-step t ls (w ∷ ws) [] = omega arith
got-step t ls (w ∷ ws) (h ∷ hs) = omega (arith, same-sym t w, got-step t ls ws hs)

got-missed : (K : ℕ) (ls ws hs : List ℕ) → Fits K ws hs → sum (λ w. occurs w ls) ws ≤ got ls ws hs + occurs 0 hs
got-missed K ls [] hs f = omega arith
got-missed K ls (w ∷ ws) [] f = absurd f
got-missed K ls (w ∷ ws) (h ∷ hs) f = omega (arith, got-missed K ls ws hs f.1)

-- who wants a layer from t up and is given one, is given one from t up
module _ (K t n : ℕ) (top : t + n ≡ suc K) where
  higher : (w h : ℕ) → w ≤ h → h ≤ K → occurs w (up_from t n) ≤ occurs h (up_from t n)
  higher w h a b =
      ⊎_elim (λ k. omega (arith, up_from-low w t n k)) (λ k. omega (arith, up_from-once w t n, (in-up_from h t n).1 (omega arith, omega arith))) (lt-or-ge w t)

  got-there : (ws hs : List ℕ) → Fits K ws hs → got (up_from t n) ws hs ≤ sum (λ h. occurs h (up_from t n)) hs
  got-there [] hs f = omega arith
  got-there (w ∷ ws) [] f = absurd f
  got-there (w ∷ ws) (h ∷ hs) f =
      ⊎_elim
      (λ e. omega (arith, up_from-once w t n, ap (same 0) e, same_refl 0, got-there ws hs f.1))
      (λ k. omega (arith, higher w h k.0 k.1, got-there ws hs f.1))
      f.0

module _ (c : ℕ → ℕ) (K : ℕ) (ws hs : List ℕ) (g : HandOut c K ws hs) where
  got-room : (t n : ℕ) → 1 ≤ t → t + n ≡ suc K → got (up_from t n) ws hs ≤ sum c (up_from t n)
  got-room t n h top =
      omega (
        arith,
        got-there K t n top ws hs g.fits,
        count-swap (up_from t n) hs,
        sum_mono (λ l. occurs l hs) c (up_from t n) (λ l i. g.room l (omega (arith, (in-up_from l t n).0 i))),
      )

  -- from the top down: at most the demand, as one layer more adds at most those that want it; and at most the capacity
  got-served : (t n : ℕ) → 1 ≤ t → t + n ≡ suc K
      → got (up_from t n) ws hs ≤ min (virtual_demand c K (λ l. occurs l ws) t) (virtual_capacity c K t)
  got-served t zero h top = omega (arith, got-room t zero h top)
  got-served t (suc n) h top =
      omega (
        arith,
        got-room t (suc n) h top,
        capacity-is c K t (suc n) top,
        demand-step c K (λ l. occurs l ws) t (omega arith),
        got-step t (up_from (suc t) n) ws hs,
        got-served (suc t) n (omega arith) (omega arith),
      )

  excess-low : (t n : ℕ) → 1 ≤ t → t + n ≡ suc K → sum (excess c K (λ l. occurs l ws)) (up_from t n) ≤ occurs 0 hs
  excess-low t n h top =
      omega (arith, excess-served c K (λ l. occurs l ws) t n top, got-served t n h top, got-missed K (up_from t n) ws hs g.fits, count-swap (up_from t n) ws)

-- Those that want t or above and get a track are at most the demand that finds room at t (above); with the excess from t up that room makes all that
-- want t or above (`excess-served`). So those that want and get none are at least the excess. Nothing is asked of the wanted layers.
pub none-fewer : (c : ℕ → ℕ) (K : ℕ) (ws hs : List ℕ) → HandOut c K ws hs → summed_excess c K (λ l. occurs l ws) ≤ occurs 0 hs
unfolding summed_excess
none-fewer c zero ws hs g = omega arith
none-fewer c (suc K) ws hs g = excess-low c (suc K) ws hs g 2 (suc K - 1) (omega arith) (omega arith)

-- ---- some hand-out leaves just so many without

-- the first of n layers, from t up, that has a free track, 0 where none has
abbrev pub first_free : (ℕ → ℕ) → (ℕ → ℕ) → ℕ → ℕ → ℕ
first_free c x t zero = 0
first_free c x t (suc n) = let r = first_free c x (suc t) n in cond (ltb (x t) (c t)) t r

-- the nets one by one, the last of the list first: each is given the lowest wanted layer that has a free track
abbrev pub given : (ℕ → ℕ) → ℕ → List ℕ → List ℕ
given c K [] = []
given c K (w ∷ ws) = let r = given c K ws in first_free c (λ l. occurs l r) w (suc K - w) ∷ r

-- every layer from a up to below b is full
abbrev Full : (ℕ → ℕ) → (ℕ → ℕ) → ℕ → ℕ → Type 0
Full c x a b = (l : ℕ) → a ≤ l → l < b → c l ≤ x l

full-more : (c x : ℕ → ℕ) (a b : ℕ) → c a ≤ x a → Full c x (suc a) b → Full c x a b
full-more c x a b h f l p q =
    ⊎_elim (λ k. f l k q) (λ k. let e : a ≡ l = omega arith in subst (λ (s : ℕ). c s ≤ x s) e h) (lt-or-ge a l)

-- a net that wants w and has h has passed full layers only
abbrev Passed : (ℕ → ℕ) → (ℕ → ℕ) → ℕ → ℕ → ℕ → Type 0
Passed c x top w h = ((h ≡ 0) × Full c x w top) ⊎ ((w ≤ h) × (h < top) × Full c x w h)

abbrev AllPassed : (ℕ → ℕ) → (ℕ → ℕ) → ℕ → List ℕ → List ℕ → Type 0
AllPassed c x top [] [] = Unit {0}
AllPassed c x top [] (h ∷ hs) = ⊥
AllPassed c x top (w ∷ ws) [] = ⊥
AllPassed c x top (w ∷ ws) (h ∷ hs) = Passed c x top w h × AllPassed c x top ws hs

-- what is full stays full
module _ (c x y : ℕ → ℕ) (top : ℕ) (more : (l : ℕ) → x l ≤ y l) where
  passed-stays : (w h : ℕ) → Passed c x top w h → Passed c y top w h
  passed-stays w h (inl p) = inl (p.0, λ l a b. omega (arith, p.1 l a b, more l))
  passed-stays w h (inr p) = inr (p.0, p.1, λ l a b. omega (arith, p.2 l a b, more l))

  all-passed-stays : (ws hs : List ℕ) → AllPassed c x top ws hs → AllPassed c y top ws hs
  all-passed-stays [] [] p = tt
  all-passed-stays [] (h ∷ hs) p = absurd p
  all-passed-stays (w ∷ ws) [] p = absurd p
  all-passed-stays (w ∷ ws) (h ∷ hs) p = (passed-stays w h p.0, all-passed-stays ws hs p.1)

passed-fits : (c x : ℕ → ℕ) (K : ℕ) (ws hs : List ℕ) → AllPassed c x (suc K) ws hs → Fits K ws hs
passed-fits c x K [] [] p = tt
passed-fits c x K [] (h ∷ hs) p = absurd p
passed-fits c x K (w ∷ ws) [] p = absurd p
passed-fits c x K (w ∷ ws) (h ∷ hs) p = (⊎_elim (λ q. inl q.0) (λ q. inr (q.0, omega arith)) p.0, passed-fits c x K ws hs p.1)

-- the first free layer: all before it are full, and it has a track
abbrev Free : (ℕ → ℕ) → (ℕ → ℕ) → ℕ → ℕ → ℕ → Type 0
Free c x top t h = ((h ≡ 0) × Full c x t top) ⊎ ((t ≤ h) × (h < top) × (x h < c h) × Full c x t h)

first-free : (c x : ℕ → ℕ) (t n : ℕ) → Free c x (t + n) t (first_free c x t n)
first-free c x t zero = inl (refl, λ l a b. absurd (omega arith))
first-free c x t (suc n) = go (ltb (x t) (c t)) refl (first-free c x (suc t) n)
  where
    go : (q : Bool) → ltb (x t) (c t) ≡ q → Free c x (suc t + n) (suc t) (first_free c x (suc t) n)
        → Free c x (t + suc n) t (cond (ltb (x t) (c t)) t (first_free c x (suc t) n))
    go true e r = rw e (inr (omega arith, omega arith, ltb-true (x t) (c t) e, λ l a b. absurd (omega arith)))
    go false e (inl r) =
        rw e (inl (r.0, full-more c x t (t + suc n) (ltb-false (x t) (c t) e) (λ l a b. r.1 l a (omega arith))))
    go false e (inr r) = rw e (inr (omega arith, omega arith, r.2, full-more c x t (first_free c x (suc t) n) (ltb-false (x t) (c t) e) r.3))

-- every net has passed full layers only, and the capacities are kept
module _ (c : ℕ → ℕ) (K : ℕ) where
  free-passed : (x : ℕ → ℕ) (w h : ℕ) → Free c x (w + (suc K - w)) w h → Passed c x (suc K) w h
  free-passed x w h (inl f) = inl (f.0, λ l a b. f.1 l a (omega arith))
  free-passed x w h (inr f) = inr (f.0, omega arith, f.3)

  given-passed : (ws : List ℕ) → AllPassed c (λ l. occurs l (given c K ws)) (suc K) ws (given c K ws)
  given-passed [] = tt
  given-passed (w ∷ ws) = finish (given c K ws) (given-passed ws)
    where
      finish : (hs : List ℕ) → AllPassed c (λ l. occurs l hs) (suc K) ws hs
          → AllPassed c (λ l. occurs l (first_free c (λ k. occurs k hs) w (suc K - w) ∷ hs)) (suc K) (w ∷ ws) (first_free c (λ k. occurs k hs) w (suc K - w) ∷ hs)
      finish hs ih =
          let h = first_free c (λ k. occurs k hs) w (suc K - w) in
          let more : (l : ℕ) → occurs l hs ≤ occurs l (h ∷ hs) = λ l. omega arith in (
            passed-stays c (λ l. occurs l hs) (λ l. occurs l (h ∷ hs)) (suc K) more w h
                (free-passed (λ l. occurs l hs) w h (first-free c (λ l. occurs l hs) w (suc K - w))),
            all-passed-stays c (λ l. occurs l hs) (λ l. occurs l (h ∷ hs)) (suc K) more ws hs ih,
          )

  room-put : (top w h : ℕ) (hs : List ℕ) → Free c (λ l. occurs l hs) top w h → (l : ℕ) → 1 ≤ l → occurs l hs ≤ c l → occurs l (h ∷ hs) ≤ c l
  room-put top w h hs f l p r = ⊎_elim (λ s. here f s.0 s.1) (λ s. omega (arith, s.1)) (same_cases l h)
    where
      here : Free c (λ k. occurs k hs) top w h → l ≡ h → same l h ≡ 1 → occurs l (h ∷ hs) ≤ c l
      here (inl g) e o = absurd (omega (arith, g.0))
      here (inr g) e o = let k : occurs l hs < c l = subst (λ (s : ℕ). occurs s hs < c s) (sym e) g.2 in omega arith

  given-room : (ws : List ℕ) (l : ℕ) → 1 ≤ l → occurs l (given c K ws) ≤ c l
  given-room [] l p = omega arith
  given-room (w ∷ ws) l p =
      room-put (w + (suc K - w)) w (first_free c (λ k. occurs k (given c K ws)) w (suc K - w)) (given c K ws)
      (first-free c (λ k. occurs k (given c K ws)) w (suc K - w)) l p (given-room ws l p)

  pub given-hand-out : (ws : List ℕ) → HandOut c K ws (given c K ws)
  given-hand-out ws =
      record { fits = passed-fits c (λ l. occurs l (given c K ws)) K ws (given c K ws) (given-passed ws); room = given-room ws }

-- the last of n layers, from t up, that is not full: all above it are
last-free : (c x : ℕ → ℕ) (t n : ℕ) → Full c x t (t + n) ⊎ ((b : ℕ) × (t ≤ b) × (b < t + n) × (x b < c b) × Full c x (suc b) (t + n))
last-free c x t zero = inl (λ l a b. absurd (omega arith))
last-free c x t (suc n) = go (last-free c x (suc t) n) (lt-or-ge (x t) (c t))
  where
    go : Full c x (suc t) (suc t + n) ⊎ ((b : ℕ) × (suc t ≤ b) × (b < suc t + n) × (x b < c b) × Full c x (suc b) (suc t + n)) → (x t < c t) ⊎ (c t ≤ x t)
        → Full c x t (t + suc n) ⊎ ((b : ℕ) × (t ≤ b) × (b < t + suc n) × (x b < c b) × Full c x (suc b) (t + suc n))
    go (inl f) (inl h) = inr (t, omega arith, omega arith, h, λ l a b. f l a (omega arith))
    go (inl f) (inr h) = inl (full-more c x t (t + suc n) h (λ l a b. f l a (omega arith)))
    go (inr r) (inl h) = inr (r.0, omega arith, omega arith, r.3, λ l a b. r.4 l a (omega arith))
    go (inr r) (inr h) = inr (r.0, omega arith, omega arith, r.3, λ l a b. r.4 l a (omega arith))

-- all wanted layers are among 2 to K
abbrev pub Wanted : ℕ → List ℕ → Type 0
Wanted K ws = (w : ℕ) → In w ws → (2 ≤ w) × (w ≤ K)

wanted-tail : (K w : ℕ) (ws : List ℕ) → Wanted K (w ∷ ws) → Wanted K ws
wanted-tail K w ws r v i = r v (in_tail v w ws i)

-- a net that wants a layer below m has one below m
abbrev Stay : ℕ → List ℕ → List ℕ → Type 0
Stay m [] [] = Unit {0}
Stay m [] (h ∷ hs) = ⊥
Stay m (w ∷ ws) [] = ⊥
Stay m (w ∷ ws) (h ∷ hs) = ((m ≤ w) ⊎ ((1 ≤ h) × (h < m))) × Stay m ws hs

module _ (c x : ℕ → ℕ) (K : ℕ) where
  stay-two : (ws hs : List ℕ) → Wanted K ws → AllPassed c x (suc K) ws hs → Stay 2 ws hs
  stay-two [] [] r p = tt
  stay-two [] (h ∷ hs) r p = absurd p
  stay-two (w ∷ ws) [] r p = absurd p
  stay-two (w ∷ ws) (h ∷ hs) r p = (inl (r w (in_head w ws)).0, stay-two ws hs (wanted-tail K w ws r) p.1)

  -- nobody passes a layer that is not full
  stay-below : (b : ℕ) → x b < c b → b ≤ K → (ws hs : List ℕ) → Wanted K ws → AllPassed c x (suc K) ws hs → Stay (suc b) ws hs
  stay-below b free k [] [] r p = tt
  stay-below b free k [] (h ∷ hs) r p = absurd p
  stay-below b free k (w ∷ ws) [] r p = absurd p
  stay-below b free k (w ∷ ws) (h ∷ hs) r p =
      (⊎_elim inl (λ a. inr (stops a (r w (in_head w ws)).0 p.0)) (lt-or-ge b w), stay-below b free k ws hs (wanted-tail K w ws r) p.1)
    where
      stops : w ≤ b → 2 ≤ w → Passed c x (suc K) w h → (1 ≤ h) × (h < suc b)
      stops a two (inl q) = absurd (omega (arith, q.1 b a (omega arith)))
      stops a two (inr q) = (omega arith, ⊎_elim (λ e. absurd (omega (arith, q.2 b a e))) (λ e. omega arith) (lt-or-ge b h))

-- so those without and those on the layers from m up all want a layer from m up
stay-count : (K m n : ℕ) → 1 ≤ m → m + n ≡ suc K → (ws hs : List ℕ) → Wanted K ws → Stay m ws hs
    → occurs 0 hs + sum (λ h. occurs h (up_from m n)) hs ≤ sum (λ w. occurs w (up_from m n)) ws
stay-count K m n one top [] [] r s = omega arith
stay-count K m n one top [] (h ∷ hs) r s = absurd s
stay-count K m n one top (w ∷ ws) [] r s = absurd s
stay-count K m n one top (w ∷ ws) (h ∷ hs) r s =
    omega (arith, single s.0, stay-count K m n one top ws hs (wanted-tail K w ws r) s.1)
  where
    single : (m ≤ w) ⊎ ((1 ≤ h) × (h < m)) → same 0 h + occurs h (up_from m n) ≤ occurs w (up_from m n)
    single (inl a) =
        let i : In w (up_from m n) = (in-up_from w m n).1 (a, omega (arith, r w (in_head w ws))) in
        ⊎_elim
        (λ e. omega (arith, e.1, up_from-low h m n (omega (arith, e.0))))
        (λ e. omega (arith, e.1, up_from-once h m n))
        (same_cases 0 h)
    single (inr a) = omega (arith, same-ne 0 h (omega arith), up_from-low h m n a.1)

-- the layers from m up are full, and who wants one below has one below: those without are at most the excess from m up
module _ (c : ℕ → ℕ) (K : ℕ) (ws hs : List ℕ) (r : Wanted K ws) where
  tight : (m n : ℕ) → 1 ≤ m → m + n ≡ suc K → Full c (λ l. occurs l hs) m (suc K) → Stay m ws hs
      → occurs 0 hs ≤ sum (excess c K (λ l. occurs l ws)) (up_from m n)
  tight m n one top f s =
      omega (
        arith,
        stay-count K m n one top ws hs r s,
        count-swap (up_from m n) hs,
        count-swap (up_from m n) ws,
        excess-served c K (λ l. occurs l ws) m n top,
        capacity-is c K m n top,
        sum_mono c (λ l. occurs l hs) (up_from m n) (λ l i. let k = (in-up_from l m n).0 i in f l k.0 (omega arith)),
      )

  -- take m just above the last layer that is not full, or 2 where all are full
  given-tight : (n : ℕ) → 2 + n ≡ suc K → AllPassed c (λ l. occurs l hs) (suc K) ws hs → occurs 0 hs ≤ sum (excess c K (λ l. occurs l ws)) (up_from 2 n)
  given-tight n top p = ⊎_elim all some (last-free c (λ l. occurs l hs) 2 n)
    where
      all : Full c (λ l. occurs l hs) 2 (2 + n) → occurs 0 hs ≤ sum (excess c K (λ l. occurs l ws)) (up_from 2 n)
      all f = tight 2 n (omega arith) top (λ l a b. f l a (omega arith)) (stay-two c (λ l. occurs l hs) K ws hs r p)

      some : ((b : ℕ) × (2 ≤ b) × (b < 2 + n) × (occurs b hs < c b) × Full c (λ l. occurs l hs) (suc b) (2 + n))
          → occurs 0 hs ≤ sum (excess c K (λ l. occurs l ws)) (up_from 2 n)
      some q =
          let b = q.0 in
          let e : 2 + (suc b - 2) ≡ suc b = omega (arith, q.1) in
          let e' : (suc b - 2) + (K - b) ≡ n = omega (arith, q.1, q.2) in
          let k : sum (excess c K (λ l. occurs l ws)) (up_from (suc b) (K - b)) ≤ sum (excess c K (λ l. occurs l ws)) (up_from 2 n) =
          rw (e, e') at (sum-suffix (excess c K (λ l. occurs l ws)) 2 (suc b - 2) (K - b)) in
          omega (
            arith,
            k,
            tight (suc b) (K - b) (omega arith) (omega (arith, q.2)) (λ l a d. q.4 l a (omega arith))
                (stay-below c (λ l. occurs l hs) K b q.3 (omega (arith, q.2)) ws hs r p),
          )

-- Whoever was given a layer, or none, has passed full layers only. So nobody passed the last layer that is not full: those without and those above it all
-- want a layer above it, and as all tracks there are taken, those without are the excess of the layers above it. The order of the nets does not matter.
pub given-few : (c : ℕ → ℕ) (K : ℕ) (ws : List ℕ) → Wanted K ws → occurs 0 (given c K ws) ≤ summed_excess c K (λ l. occurs l ws)
unfolding summed_excess
given-few c zero [] r = omega arith
given-few c zero (w ∷ ws) r = absurd (omega (arith, r w (in_head w ws)))
given-few c (suc K) ws r = given-tight c (suc K) ws (given c (suc K) ws) r (suc K - 1) (omega arith) (given-passed c (suc K) ws)

-- ---- the law

-- "the sum is the fewest nets with `low` above 1 that must go without a track on a wanted layer, over all ways to hand out tracks"
pub excess-fewest : (c : ℕ → ℕ) (K : ℕ) (ws : List ℕ) → Wanted K ws → Fewest c K ws (summed_excess c K (λ l. occurs l ws))
excess-fewest c K ws r = record {
  some = (given c K ws, given-hand-out c K ws, omega (arith, given-few c K ws r, none-fewer c K ws (given c K ws) (given-hand-out c K ws)));
  least = none-fewer c K ws;
}

-- the order of the nets does not matter
pub excess-order : (c : ℕ → ℕ) (K : ℕ) (ws vs : List ℕ) → ((w : ℕ) → occurs w ws ≡ occurs w vs)
    → summed_excess c K (λ l. occurs l ws) ≡ summed_excess c K (λ l. occurs l vs)
excess-order c K ws vs h = excess-eq c c (λ l. occurs l ws) (λ l. occurs l vs) K (λ l a b. refl) (λ l a b. h l)

-- it is all the nets less those that find room at 2 or above
pub excess-length : (c : ℕ → ℕ) (K : ℕ) (ws : List ℕ) → Wanted K ws → 1 ≤ K
    → summed_excess c K (λ l. occurs l ws) + min (virtual_demand c K (λ l. occurs l ws) 2) (virtual_capacity c K 2) ≡ length ws
excess-length c K ws r h =
    omega (arith, excess-rest c K (λ l. occurs l ws) h, count-swap (up_from 2 (K - 1)) ws, each ws r)
  where
    each : (vs : List ℕ) → Wanted K vs → sum (λ w. occurs w (up_from 2 (K - 1))) vs ≡ length vs
    each [] q = refl
    each (v ∷ vs) q =
        let b = q v (in_head v vs) in
        omega (arith, up_from-once v 2 (K - 1), (in-up_from v 2 (K - 1)).1 (b.0, omega arith), each vs (wanted-tail K v vs q))

-- so it is at most the nets, wherever their wanted layers are
occurs-few : (a : ℕ) (xs : List ℕ) → occurs a xs ≤ length xs
occurs-few a [] = omega arith
occurs-few a (x ∷ xs) = ⊎_elim (λ s. omega (arith, s.1, occurs-few a xs)) (λ s. omega (arith, s.1, occurs-few a xs)) (same_cases a x)

pub excess_small : (c : ℕ → ℕ) (K : ℕ) (ws : List ℕ) → summed_excess c K (λ l. occurs l ws) ≤ length ws
excess_small c K ws =
    omega (
      arith,
      none-fewer c K ws (given c K ws) (given-hand-out c K ws),
      occurs-few 0 (given c K ws),
      fits-length K ws (given c K ws) (given-hand-out c K ws).fits,
    )
