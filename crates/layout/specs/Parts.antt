-- Parts of a lent list: k numbers from a on. Where a part is lent on and comes back, the rest of the list is as it was.
-- Assumes nothing.
use Rattle.std.specs.Prelude.{List, ◌++◌, ◌⊎◌, ◌≡◌, refl, ℕ, ◌+◌, ◌-◌, ◌≤◌, ◌<◌, length, take, drop, get_or, set}
use Rattle.std.proofs.Common.{⊎_elim, sym, ap, ◌∙◌, arith, length-append, length-take, length-drop, length-set, get_or-take, get_or-drop, get_or-append-add, get_or-set_other, ext_get_or, length-take-le, take_at, drop_at}
use Rattle.std.proofs.Math.ListN.{get_or-append}

-- k numbers from a on
abbrev pub part : ℕ → ℕ → List ℕ → List ℕ
part a k w = take k (drop a w)

-- the list w' is w outside of the k numbers from a on
pub record Outside (a k : ℕ) (w w' : List ℕ) : Type 0 where
  pub long : length w' ≡ length w
  pub low : (i : ℕ) → i < a → get_or w' i 0 ≡ get_or w i 0
  pub high : (i : ℕ) → a + k ≤ i → get_or w' i 0 ≡ get_or w i 0

-- ---- a part

pub part_at : (a k : ℕ) (w : List ℕ) (i : ℕ) → i < k → get_or (part a k w) i 0 ≡ get_or w (a + i) 0
part_at a k w i h = get_or-take k (drop a w) i 0 h ∙ get_or-drop a w i 0

pub part-long : (a k : ℕ) (w : List ℕ) → a + k ≤ length w → length (part a k w) ≡ k
part-long a k w h = omega (arith, length-take k (drop a w), length-drop a w)

-- two lists that agree on the part have the same part
pub part_same : (a k : ℕ) (w w' : List ℕ) → length w' ≡ length w → ((i : ℕ) → i < k → get_or w' (a + i) 0 ≡ get_or w (a + i) 0) → part a k w' ≡ part a k w
part_same a k w w' l h =
    ext_get_or 0 (part a k w') (part a k w)
    (omega (arith, length-take k (drop a w'), length-drop a w', length-take k (drop a w), length-drop a w))
    (λ i b.
    let s : i < k = omega (arith, length-take k (drop a w')) in
    part_at a k w' i s ∙ h i s ∙ sym (part_at a k w i s))

-- a part apart from where the lists differ
pub part-outside : (a k : ℕ) (w w' : List ℕ) → Outside a k w w' → (b m : ℕ) → (b + m ≤ a) ⊎ (a + k ≤ b) → part b m w' ≡ part b m w
part-outside a k w w' o b m s =
    part_same b m w w' o.long (λ i h. ⊎_elim (λ c. o.low (b + i) (omega arith)) (λ c. o.high (b + i) (omega arith)) s)

-- ---- one number is stored

pub set-outside : (w : List ℕ) (i v : ℕ) → Outside i 1 w (set w i v)
set-outside w i v = record {
  long = length-set w i v;
  low = λ j h. get_or-set_other w i j v 0 (λ e. omega arith);
  high = λ j h. get_or-set_other w i j v 0 (λ e. omega arith);
}

-- the same, seen from a part that holds it
pub outside_wider : (a k b m : ℕ) (w w' : List ℕ) → Outside a k w w' → b ≤ a → a + k ≤ b + m → Outside b m w w'
outside_wider a k b m w w' o h l = record { long = o.long; low = λ i c. o.low i (omega arith); high = λ i c. o.high i (omega arith) }

pub outside-then : (a k : ℕ) (w w' w'' : List ℕ) → Outside a k w w' → Outside a k w' w'' → Outside a k w w''
outside-then a k w w' w'' o p = record {
  long = p.long ∙ o.long;
  low = λ i h. p.low i h ∙ o.low i h;
  high = λ i h. p.high i h ∙ o.high i h;
}

pub outside-same : (a k : ℕ) (w : List ℕ) → Outside a k w w
outside-same a k w = record { long = refl; low = λ i h. refl; high = λ i h. refl }

-- ---- a part is put back

module _ (a k : ℕ) (w p : List ℕ) (room : a + k ≤ length w) (long : length p ≡ k) where
  -- the list with p in the place of the part
  abbrev back : List ℕ
  back = take a w ++ (p ++ drop k (drop a w))

  front : length (take a w) ≡ a
  front = length-take-le a w (omega arith)

  pub back-part : part a k (take a w ++ (p ++ drop k (drop a w))) ≡ p
  back-part = ap (take k) (drop_at (take a w) (p ++ drop k (drop a w)) a front) ∙ take_at p (drop k (drop a w)) k long

  whole : length (take a w ++ (p ++ drop k (drop a w))) ≡ length w
  whole =
      omega (
        arith,
        length-append (take a w) (p ++ drop k (drop a w)),
        length-append p (drop k (drop a w)),
        front,
        long,
        length-drop k (drop a w),
        length-drop a w,
      )

  before : (i : ℕ) → i < a → get_or (take a w ++ (p ++ drop k (drop a w))) i 0 ≡ get_or w i 0
  before i h = get_or-append (take a w) (p ++ drop k (drop a w)) 0 i (omega (arith, front)) ∙ get_or-take a w i 0 h

  behind : (i : ℕ) → a + k ≤ i → get_or (take a w ++ (p ++ drop k (drop a w))) i 0 ≡ get_or w i 0
  behind i h =
      let e : i ≡ length (take a w) + (length p + (i - a - k)) = omega (arith, front, long) in
      let f : a + (k + (i - a - k)) ≡ i = omega arith in
      ap (λ (x : ℕ). get_or (take a w ++ (p ++ drop k (drop a w))) x 0) e
      ∙ get_or-append-add (take a w) (p ++ drop k (drop a w)) (length p + (i - a - k)) 0
      ∙ get_or-append-add p (drop k (drop a w)) (i - a - k) 0
      ∙ get_or-drop k (drop a w) (i - a - k) 0
      ∙ get_or-drop a w (k + (i - a - k)) 0
      ∙ ap (λ (x : ℕ). get_or w x 0) f

  pub back-outside : Outside a k w (take a w ++ (p ++ drop k (drop a w)))
  back-outside = record { long = whole; low = before; high = behind }
