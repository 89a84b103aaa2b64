-- What the number of dropped entries says of a net that the reading let pass: none is dropped exactly where its entries have no ring.
-- Assumes nothing.
use Rattle.std.specs.Prelude.{Bool, true, false, List, [], ◌≡◌, refl, ℕ, ◌+◌, ◌*◌, ◌/◌, ◌%◌, ◌≤◌, ◌<◌, length}
use Rattle.std.proofs.Common.{sym, ap, ◌∙◌, arith}
use Rattle.layout.specs.Areas.{tiles_at, tiles_of, links_of}
use Rattle.layout.specs.Parts.{Outside, outside-then, outside-same}
use Rattle.layout.specs.Shapes.{Shaped}
use Rattle.layout.specs.declared.shape.Shape.{Shape}
use Rattle.marks.specs.Marks.{Older}
use Rattle.model.specs.Cut.{cut, pinned}
use Rattle.model.specs.Job.{Net}
use Rattle.model.specs.Lists.{has, keep}
use Rattle.model.specs.Tree.{ring}
use Rattle.theory.specs.cutting.Prune.{pruned-part}
use Rattle.theory.specs.links.Cut.{cut_is, cut_all, cut-loses, cut-pruned, cut-length, cut-in-order}
use Rattle.theory.specs.links.Nets.{NetOk}
use Rattle.theory.specs.links.Reach.{lo_of, hi_of}
use Rattle.theory.specs.walk.Joined.{kept}
use Rattle.theory.specs.walk.Stops.{less-length}
use Rattle.net.specs.Left.{entries-few}
use Rattle.net.specs.Table.{counts_of, counts-entries, counts-dropped}

-- the marks and the links of the tiles all have stamps below n
pub record Unmarked (g : Shape) (n : ℕ) (w : List ℕ) : Type 0 where
  pub marks : Older n (tiles_of g w)
  pub links : Older n (links_of g w)

pub unmarked-more : (g : Shape) (n m : ℕ) (w : List ℕ) → n ≤ m → Unmarked g n w → Unmarked g m w
unmarked-more g n m w h u = record { marks = λ t. omega (arith, u.marks t); links = λ t. omega (arith, u.links t) }

-- w' is w but for the marks and the links of the tiles, and their stamps are below n
pub record Remarked (g : Shape) (n : ℕ) (w w' : List ℕ) : Type 0 where
  pub out : Outside (tiles_at g) (2 * g.t) w w'
  pub after : Unmarked g n w'

pub remarked-same : (g : Shape) (n m : ℕ) (w : List ℕ) → n ≤ m → Unmarked g n w → Remarked g m w w
remarked-same g n m w h u = record { out = outside-same (tiles_at g) (2 * g.t) w; after = unmarked-more g n m w h u }

pub remarked-then : (g : Shape) (n m : ℕ) (w w' w'' : List ℕ) → Remarked g n w w' → Remarked g m w' w'' → Remarked g m w w''
remarked-then g n m w w' w'' a b = record { out = outside-then (tiles_at g) (2 * g.t) w w' w'' a.out b.out; after = b.after }

module _ (W H K : ℕ) (net : Net) (ok : NetOk W H K net) where
  -- an entry is lost to a ring
  loses : ring W H net.entries ≡ true → length net.edges < length net.entries
  loses r =
      let part = less-length (cut W H net.pins net.entries) (kept (lo_of W H) (hi_of W H) [] net.entries)
      (pruned-part (lo_of W H) (hi_of W H) (pinned net.pins) (cut-pruned W H net.pins net.entries)) in
      omega (arith, part, cut-loses W H net.entries r, ap length (cut_is W H net.entries), ap length ok.cut_is)

  pub kept-fewer : length net.edges ≤ length net.entries
  kept-fewer = omega (arith, cut-length W H net.pins net.entries, ap length ok.cut_is)

  -- no entry is dropped: all are kept
  pub kept-all : length net.entries ≡ length net.edges → net.edges ≡ net.entries
  kept-all e = go (ring W H net.entries) refl
    where
      go : (q : Bool) → ring W H net.entries ≡ q → net.edges ≡ net.entries
      go true r = absurd (omega (arith, loses r))
      go false r = ok.cut_is ∙ cut_all W H net.pins net.entries r

  -- some entry is dropped: there is a ring
  pub ring-there : length net.edges < length net.entries → ring W H net.entries ≡ true
  ring-there h = go (ring W H net.entries) refl
    where
      go : (q : Bool) → ring W H net.entries ≡ q → ring W H net.entries ≡ true
      go true r = r
      go false r = absurd (omega (arith, ap length (ok.cut_is ∙ cut_all W H net.pins net.entries r)))

  -- those kept stand in the order of the line
  pub kept-in-order : keep (has net.edges) net.entries ≡ net.edges
  kept-in-order =
      ap (λ (es : List ℕ). keep (has es) net.entries) ok.cut_is
      ∙ sym (cut-in-order W H net.pins net.entries ok.entries_once)
      ∙ sym ok.cut_is

-- ---- what stands in the net table

module _ (g : Shape) (shaped : Shaped g) (net : Net) (ok : NetOk g.w g.h g.k net) where
  -- v are the counts of the net
  module _ (v : ℕ) (is : v ≡ counts_of net) where
    pub told_entries : v % 65_536 ≡ length net.entries
    told_entries = counts-entries net v is (omega (arith, entries-few g shaped net ok, shaped.e_most))

    pub told-dropped : v / 65_536 + length net.edges ≡ length net.entries
    told-dropped =
        omega (arith, counts-dropped net v is (omega (arith, entries-few g shaped net ok, shaped.e_most)), kept-fewer g.w g.h g.k net ok)

    pub told_none : v / 65_536 ≡ 0 → net.edges ≡ net.entries
    told_none e = kept-all g.w g.h g.k net ok (omega (arith, told-dropped))

    pub told-ring : 0 < v / 65_536 → ring g.w g.h net.entries ≡ true
    told-ring h = ring-there g.w g.h g.k net ok (omega (arith, told-dropped))
