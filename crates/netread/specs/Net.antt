-- A net that is read again: its two lines in the text, and what the working numbers then hold.
-- Assumes nothing.
use Rattle.std.specs.Prelude.{List, map, ◌≡◌, ℕ, ◌+◌, ◌<◌, length, get_or}
use Rattle.layout.specs.Areas.{tiles_at, tiles_of, links_of}
use Rattle.layout.specs.Parts.{Outside}
use Rattle.layout.specs.declared.shape.Shape.{Shape}
use Rattle.marks.specs.Marks.{Older}
use Rattle.model.specs.Job.{Net, Job}
use Rattle.model.specs.Walk.{net_tiles, lowest_from, lowest}
use Rattle.net.specs.AtHand.{AtHand}
use Rattle.net.specs.Table.{PinsAt, EdgesAt}
use Rattle.theory.specs.links.Nets.{NetOk}
use Rattle.netread.specs.Pins.{after_pins, no_tile}
use Rattle.netread.specs.declared.Again.{Again}

-- the pins of the net are marked, and r is the lowest of their tiles
pub record PinsPut (g : Shape) (n : ℕ) (net : Net) (w w' : List ℕ) (r : ℕ) : Type 0 where
  pub marks : tiles_of g w' ≡ after_pins n (tiles_of g w) net.pins
  pub low : r ≡ lowest_from no_tile (map (λ p. p.tile) net.pins)
  pub out : Outside (tiles_at g) g.t w w'

-- the lines of some net that the first pass found right stand at p and q
pub record NetThere (s : List ℕ) (g : Shape) (p q : ℕ) : Type 0 where
  pub net : Net
  pub pins : PinsAt s g.w g.h g.k p net
  pub edges : EdgesAt s g.w g.h q net
  pub ok : NetOk g.w g.h g.k net

-- the lines of this net, of a job with this grid, stand there
pub record LinesOf (s : List ℕ) (g : Shape) (p q : ℕ) (j : Job) (net : Net) : Type 0 where
  pub width : g.w ≡ j.width
  pub height : g.h ≡ j.height
  pub pins : PinsAt s g.w g.h g.k p net
  pub edges : EdgesAt s g.w g.h q net

-- it is at hand; what lies below the marks is as it was, and no link has a later stamp
pub record NetRead (g : Shape) (n : ℕ) (j : Job) (net : Net) (w w' : List ℕ) (r : Again) : Type 0 where
  pub hand : AtHand g n net w'
  pub count : r.entries ≡ length net.entries
  pub root : r.low ≡ lowest (net_tiles j net)
  pub long : length w' ≡ length w
  pub low : (i : ℕ) → i < tiles_at g → get_or w' i 0 ≡ get_or w i 0
  pub links : Older n (links_of g w) → Older (n + 1) (links_of g w')
