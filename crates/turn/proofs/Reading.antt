-- A net's turn, first step: it is read again and walked.
-- Assumes nothing.
use mathlib.Core.Bool.{Bool, true, false}
use mathlib.Core.List.{List, [], ◌∷◌}
use mathlib.Core.Logic.{inl, ⊎_elim}
use mathlib.Core.Path.{◌≡◌, sym, ap, ◌∙◌, subst}
use Prim.Native.Nat.{ℕ, suc, ◌+◌, ◌*◌, ◌≤◌, ◌<◌}
use native.Mathlib.Omega.{arith}
use lib.ListN.{length, get_or}
use Rattle.cut.specs.Net.{RingAt}
use Rattle.layout.specs.Areas.{tiles_at, links_at, chosen_at, list_at, stops_at, links_of}
use Rattle.layout.specs.Parts.{part, Outside, part-outside}
use Rattle.layout.specs.Shapes.{Shaped}
use Rattle.layout.specs.declared.shape.Shape.{Shape}
use Rattle.marks.specs.Marks.{Older}
use Rattle.model.specs.Lists.{In, has}
use Rattle.net.specs.Table.{PinsAt, EdgesAt}
use Rattle.netread.specs.Net.{NetThere, LinesOf, NetRead}
use Rattle.netread.specs.declared.Again.{Again}
use Rattle.theory.specs.congestion.Sums.{same_cases}
use Rattle.theory.specs.congestion.Tests.{has-none}
use Rattle.theory.specs.links.Nets.{NetOk}
use Rattle.theory.specs.links.Planned.{stands}
use Rattle.walk.specs.Walked.{Walks, Walked}
use Rattle.turn.specs.Kept.{so-far-low}
use Rattle.turn.specs.Steps.{KnownList, ChosenCleared}
use Rattle.turn.specs.Turn.{Turn, turn_net, Before, NetAgain, NetWalked}
use Rattle.turn.proofs.Net.{net-ok, entries_known, entries_fit}

-- what is in a list stands at some place of it
place_of : (xs : List ℕ) (e : ℕ) → In e xs → (k : ℕ) × (k < length xs) × (get_or xs k 0 ≡ e)
place_of [] e i = absurd (omega arith)
place_of (x ∷ xs) e i = ⊎_elim (λ s. (0, omega arith, sym s.0)) (λ s. let r = place_of xs e (omega (arith, s.1)) in (suc r.0, omega (arith, r.1), r.2)) (same_cases e x)

module _ (s : List ℕ) (p q : ℕ) (d : Bool) (g : Shape) (shaped : Shaped g) (stamp : ℕ) (w : List ℕ) (u : Turn) (b : Before s p q d g stamp w u) where
  pins-there : PinsAt s g.w g.h g.k p (turn_net u)
  pins-there = rw (b.grid.width, b.grid.height, b.grid.layers) b.pins

  edges-there : EdgesAt s g.w g.h q (turn_net u)
  edges-there = rw (b.grid.width, b.grid.height) b.edges

  ok-there : NetOk g.w g.h g.k (turn_net u)
  ok-there = rw (b.grid.width, b.grid.height, b.grid.layers) (net-ok u)

  pub net-there : NetThere s g p q
  net-there = record { net = turn_net u; pins = pins-there; edges = edges-there; ok = ok-there }

  pub lines_of : LinesOf s g p q u.job (turn_net u)
  lines_of = record { width = b.grid.width; height = b.grid.height; pins = pins-there; edges = edges-there }

  -- where it lost an edge
  pub ring-at : d ≡ true → RingAt s g p q (turn_net u)
  ring-at e = record { pins = pins-there; edges = edges-there; ok = ok-there; ring = rw (b.grid.width, b.grid.height) (b.cut e) }

  module _ (w' : List ℕ) (r : Again) (read : NetRead g stamp u.job (turn_net u) w w' r) where
    links-stand : Older (suc stamp) (links_of g w')
    links-stand t = omega (arith, read.links b.links t)

    -- all its entries are kept
    pub again-whole : d ≡ false → NetAgain g stamp w w' r.low u
    again-whole e = record {
      hand = read.hand;
      root = read.root;
      long = read.long;
      low = read.low;
      links = links-stand;
      free = λ x i h. absurd (omega (arith, i, has-none (turn_net u).entries x (ap (λ (es : List ℕ). has es x) (sym (b.whole e)) ∙ h)));
    }

    pub listed-known : KnownList g r.entries w'
    listed-known i h =
        let k : i < length (turn_net u).entries = omega (arith, read.count) in
        omega (arith, read.hand.list i k, entries_known u g shaped b.grid (get_or (turn_net u).entries i 0) (stands (turn_net u).entries i k))

    pub listed-few : r.entries ≤ 2 * g.t
    listed-few = omega (arith, read.count, entries_fit u g shaped b.grid, shaped.e_tiles)

    -- some are dropped, and nothing is chosen for any of them
    module _ (w'' : List ℕ) (cleared : ChosenCleared g r.entries w' w'') where
      below : (a k : ℕ) → a + k ≤ chosen_at g → part a k w'' ≡ part a k w'
      below a k h = part-outside (chosen_at g) (2 * g.t) w' w'' cleared.outside a k (inl h)

      pub again_cut : NetAgain g stamp w w'' r.low u
      again_cut = record {
        hand = record {
          drawn = rw (below (tiles_at g) g.t (omega arith)) read.hand.drawn;
          list = λ i h. cleared.outside.high (list_at g + i) (omega arith) ∙ read.hand.list i h;
        };
        root = read.root;
        long = cleared.outside.long ∙ read.long;
        low = λ i h. cleared.outside.low i (omega arith) ∙ read.low i h;
        links = subst (Older (suc stamp)) (sym (below (links_at g) g.t (omega arith))) links-stand;
        free = λ x i h.
            let k = place_of (turn_net u).entries x i in
            let v : get_or w' (list_at g + k.0) 0 ≡ x = read.hand.list k.0 k.1 ∙ k.2 in
            ap (λ (y : ℕ). get_or w'' (chosen_at g + y) 0) (sym v) ∙ cleared.each k.0 (omega (arith, k.1, read.count));
      }

  module _ (w' : List ℕ) (r : ℕ) (again : NetAgain g stamp w w' r u) where
    pub net-walks : Walks g stamp u.job (turn_net u) r w'
    net-walks = record { width = b.grid.width; height = b.grid.height; ok = net-ok u; hand = again.hand; lowest_tile = again.root }

    pub net-walked : (w'' : List ℕ) (n : ℕ) → Walked g u.job (turn_net u) w' w'' n → NetWalked g stamp n w'' u
    net-walked w'' n walked = record {
      grid = b.grid;
      tiles = walked.tiles;
      list = λ i h. o.low (list_at g + i) (omega (arith, entries_fit u g shaped b.grid, shaped.e_tiles)) ∙ again.hand.list i h;
      above = walked.above;
      ends = walked.ends;
      pins_small = walked.pins_small;
      pins = walked.pins;
      so_far = so-far-low g w w'' (λ i h. o.low i (omega arith) ∙ again.low i (omega arith)) u.job _ _ b.so_far;
      older = subst (Older (suc stamp)) (sym (same (tiles_at g) g.t (omega arith))) (λ t. omega (arith, again.hand.drawn.fits t));
      links = subst (Older (suc stamp)) (sym (same (links_at g) g.t (omega arith))) again.links;
      free = λ e i h. o.low (chosen_at g + e) (omega (arith, entries_known u g shaped b.grid e i, shaped.e_tiles)) ∙ again.free e i h;
    }
      where
        o : Outside (stops_at g) (4 * g.m) w' w''
        o = walked.outside

        same : (a k : ℕ) → a + k ≤ stops_at g → part a k w'' ≡ part a k w'
        same a k h = part-outside (stops_at g) (4 * g.m) w' w'' walked.outside a k (inl h)
