-- A net whose two lines are read, with a ring among its entries or without: what it drops.
-- Assumes nothing.
use Rattle.std.specs.Prelude.{Bool, true, false, List, ◌≡◌, ℕ, ◌+◌, ◌≤◌, length, get_or}
use Rattle.std.proofs.Common.{ap, ◌∙◌, arith}
use Rattle.cut.specs.Dropped.{RingCounted, CutDone}
use Rattle.cut.specs.Net.{RingAt}
use Rattle.layout.specs.Areas.{demand_at, tiles_of, links_of}
use Rattle.layout.specs.declared.shape.Shape.{Shape}
use Rattle.marks.specs.Marks.{Older}
use Rattle.model.specs.Job.{Net}
use Rattle.model.specs.Lists.{In, occurs}
use Rattle.model.specs.Tree.{ring}
use Rattle.net.specs.Table.{PinsAt, EdgesAt}
use Rattle.theory.specs.links.Cut.{cut_all}
use Rattle.theory.specs.links.Nets.{NetOk}

-- the lines of the net stand at p and q, and `told` says whether its entries have a ring
pub record LinesAt (s : List ℕ) (g : Shape) (p q : ℕ) (told : Bool) (net : Net) : Type 0 where
  pub pins : PinsAt s g.w g.h g.k p net
  pub edges : EdgesAt s g.w g.h q net
  pub ok : NetOk g.w g.h g.k net
  pub ring_told : ring g.w g.h net.entries ≡ told

-- so do the lines of some net, each of whose entries is counted in the demand
pub record LinesCounted (s : List ℕ) (g : Shape) (p q : ℕ) (told : Bool) (w : List ℕ) : Type 0 where
  pub net : Net
  pub lines : LinesAt s g p q told net
  pub counted : (e : ℕ) → In e net.entries → 1 ≤ get_or w (demand_at g + e) 0

module _ (s : List ℕ) (g : Shape) (p q : ℕ) (told : Bool) where
  -- there is one
  pub ring-there : (net : Net) → LinesAt s g p q told net → told ≡ true → RingAt s g p q net
  ring-there net at h = record { pins = at.pins; edges = at.edges; ok = at.ok; ring = at.ring_told ∙ h }

  pub ring-counted : (w : List ℕ) → LinesCounted s g p q told w → told ≡ true → RingCounted s g p q w
  ring-counted w c h = record { net = c.net; lines = ring-there c.net c.lines h; counted = c.counted }

  -- there is none: nothing is dropped, and nothing changes
  pub no-ring-cut : (net : Net) → LinesAt s g p q told net → told ≡ false → (n : ℕ) (w : List ℕ) → Older n (tiles_of g w) → Older n (links_of g w) → CutDone g n net w w 0
  no-ring-cut net at h n w marks links =
      let all : net.edges ≡ net.entries = at.ok.cut_is ∙ cut_all g.w g.h net.pins net.entries (at.ring_told ∙ h) in
      record {
        long = omega arith;
        low = λ k b. omega arith;
        demand = λ e b. omega (arith, ap (occurs e) all);
        marks = λ t. omega (arith, marks t);
        links = λ t. omega (arith, links t);
        count = omega (arith, ap length all);
      }
