-- The links of the net at hand, one word to a tile: its stamp times 4,096, and the tile's parent. A word of another stamp stands for a tile that is
-- its own parent, so that nothing is cleared between nets. `n` is the stamp of the net at hand.
-- Assumes nothing.
use Rattle.std.specs.Prelude.{◌≡◌, List, [], Bool, not, cond, ◌≢◌, ℕ, ◌+◌, ◌/◌, ◌%◌, ◌<◌, eqb, length, get_or}
use Rattle.std.proofs.Common.{arith}
use Rattle.marks.specs.Marks.{Older}
use Rattle.marks.specs.Words.{stamp_unit}
use Rattle.theory.specs.congestion.Sums.{eqb-true, eqb-false}
use Rattle.theory.specs.walk.Joined.{relabel}
use Rattle.theory.specs.walk.Union.{top_of, Falling, Holds, holds-own}

unfoldable pub parent_in : ℕ → List ℕ → ℕ → ℕ
parent_in n a i = cond (eqb (get_or a i 0 / stamp_unit) n) (get_or a i 0 % stamp_unit) i

-- no word's stamp is above n, and no parent above its tile
pub record Links (n : ℕ) (a : List ℕ) : Type 0 where
  pub older : Older (n + 1) a
  pub falling : Falling (parent_in n a)

-- the words a' have the roots of the words a
pub record Kept (n : ℕ) (a a' : List ℕ) : Type 0 where
  pub links : Links n a'
  pub same_length : length a' ≡ length a
  pub roots : (i : ℕ) → top_of (parent_in n a') i ≡ top_of (parent_in n a) i

-- r is the root of tile x
pub record Found (n : ℕ) (a : List ℕ) (x : ℕ) (a' : List ℕ) (r : ℕ) : Type 0 where
  pub is_root : r ≡ top_of (parent_in n a) x
  pub inside : r < length a
  pub kept : Kept n a a'

-- the roots of tiles x and y are merged; r is whether they were two
pub record Merged (n : ℕ) (a : List ℕ) (x y : ℕ) (a' : List ℕ) (r : Bool) : Type 0 where
  pub apart : r ≡ not (eqb (top_of (parent_in n a) x) (top_of (parent_in n a) y))
  pub links : Links n a'
  pub same_length : length a' ≡ length a
  pub roots : (z : ℕ) → top_of (parent_in n a') z ≡ relabel (top_of (parent_in n a) x) (top_of (parent_in n a) y) (top_of (parent_in n a) z)

-- ---- one word

pub parent-new : (n : ℕ) (a : List ℕ) (i : ℕ) → get_or a i 0 / stamp_unit ≡ n → parent_in n a i ≡ get_or a i 0 % stamp_unit
unfolding parent_in
parent-new n a i e = rw (eqb-true (get_or a i 0 / stamp_unit) n e)

pub parent-old : (n : ℕ) (a : List ℕ) (i : ℕ) → get_or a i 0 / stamp_unit ≢ n → parent_in n a i ≡ i
unfolding parent_in
parent-old n a i e = rw (eqb-false (get_or a i 0 / stamp_unit) n e)

-- ---- from net to net

-- at words of older nets alone each tile is its own parent
pub older-own : (n : ℕ) (a : List ℕ) → Older n a → (i : ℕ) → parent_in n a i ≡ i
older-own n a h i = parent-old n a i (λ e. omega (arith, h i, e))

pub older-links : (n : ℕ) (a : List ℕ) → Older n a → Links n a
older-links n a h = record { older = λ i. omega (arith, h i); falling = λ i. omega (arith, older-own n a h i) }

pub older-holds : (lo hi : ℕ → ℕ) (n : ℕ) (a : List ℕ) → Older n a → Holds lo hi (parent_in n a) []
older-holds lo hi n a h = holds-own lo hi (parent_in n a) (older-own n a h)

-- after a net its words are ready for the next
pub links-older : (n : ℕ) (a : List ℕ) → Links n a → Older (n + 1) a
links-older n a h = h.older
