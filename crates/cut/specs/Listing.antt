-- The entries of a net with a ring, listed in the order of the line, and the lowest tile of those that are kept.
-- Assumes nothing.
use Rattle.std.specs.Prelude.{Bool, true, false, cond, List, [], ◌∷◌, ◌++◌, map, ◌≡◌, refl, ℕ, ◌+◌, ◌*◌, ◌≤◌, ◌<◌, min, length, get_or, set}
use Rattle.std.proofs.Common.{append-nil, inl, ⊎_elim, sym, ap, ap₂, subst, ◌∙◌, arith, length-append, get_or-set_same, get_or-set_other}
use Rattle.std.proofs.Math.ListN.{get_or-append}
use Rattle.std.proofs.Math.Seq.{get_or-append_seam}
use Rattle.layout.specs.Areas.{tiles_at, links_at, list_at, tiles_of}
use Rattle.layout.specs.Parts.{part, part-outside, Outside, set-outside, outside_wider, outside-then, outside-same}
use Rattle.layout.specs.Shapes.{Shaped}
use Rattle.layout.specs.declared.shape.Shape.{Shape}
use Rattle.marks.specs.Marks.{Older}
use Rattle.model.specs.Job.{Pin, Net, Job}
use Rattle.model.specs.Lists.{has, keep}
use Rattle.model.specs.Walk.{lowest_from}
use Rattle.net.specs.AtHand.{Drawn}
use Rattle.net.specs.Dropped.{kept-in-order}
use Rattle.netread.specs.Hand.{lowest-more}
use Rattle.netread.specs.Net.{NetRead}
use Rattle.netread.specs.PinHand.{net-lowest}
use Rattle.netread.specs.Pins.{no_tile}
use Rattle.netread.specs.declared.Again.{Again}
use Rattle.theory.specs.congestion.Sums.{In, lt-or-ge}
use Rattle.theory.specs.links.Reach.{lo_of}
use Rattle.theory.specs.walk.NetVias.{pin_tiles}
use Rattle.cut.specs.Again.{keep-end}
use Rattle.cut.specs.Net.{RingAt, CutMarked}

-- The entries xs are listed; v are their number, and the lowest of `low` and the first tiles of those that are among the edges es.
pub record Listed (g : Shape) (es xs : List ℕ) (low : ℕ) (w w' : List ℕ) (v : Again) : Type 0 where
  pub list : (i : ℕ) → i < length xs → get_or w' (list_at g + i) 0 ≡ get_or xs i 0
  pub count : v.entries ≡ length xs
  pub lowest : v.low ≡ lowest_from low (map (lo_of g.w g.h) (keep (has es) xs))
  pub out : Outside (list_at g) (2 * g.t) w w'

-- whatever edges are marked
abbrev pub Listing : Shape → ℕ → List ℕ → ℕ → List ℕ → List ℕ → Again → Type 0
Listing g n xs low w w' v = (ps : List Pin) (es : List ℕ) → Drawn g n ps es (tiles_of g w) → Listed g es xs low w w' v

pub listed-none : (g : Shape) (es : List ℕ) (low : ℕ) (w : List ℕ) → Listed g es [] low w w (record { low = low; entries = 0 })
listed-none g es low w = record { list = λ i h. absurd (omega arith); count = refl; lowest = refl; out = outside-same (list_at g) (2 * g.t) w }

-- ---- one entry more

module _ (g : Shape) (shaped : Shaped g) (es xs : List ℕ) (low : ℕ) (w₀ w : List ℕ) (v : Again) (so_far : Listed g es xs low w₀ w v) (x : ℕ) (room : length xs < g.e) (inside : list_at g + 2 * g.t ≤ length w) where
  abbrev lo : ℕ → ℕ
  lo = lo_of g.w g.h

  place : list_at g + length xs < length w
  place = omega (arith, shaped.e_tiles)

  -- the lowest tile, where it is kept and where it is not
  pub lowest-next : (u : ℕ) → u ≡ cond (has es x) (min v.low (lo_of g.w g.h x)) v.low
      → u ≡ lowest_from low (map (lo_of g.w g.h) (keep (has es) (xs ++ (x ∷ []))))
  lowest-next u e = e ∙ go (has es x) ∙ ap (λ (l : List ℕ). lowest_from low (map lo l)) (sym (keep-end (has es) xs x))
    where
      go : (q : Bool) → cond q (min v.low (lo x)) v.low ≡ lowest_from low (map lo (keep (has es) xs ++ cond q (x ∷ []) []))
      go true = ap (λ (a : ℕ). min a (lo x)) so_far.lowest ∙ sym (lowest-more lo low (keep (has es) xs) x)
      go false = so_far.lowest ∙ ap (λ (l : List ℕ). lowest_from low (map lo l)) (sym (append-nil (keep (has es) xs)))

  pub listed_more : (u : ℕ) → u ≡ cond (has es x) (min v.low (lo_of g.w g.h x)) v.low
      → Listed g es (xs ++ (x ∷ [])) low w₀ (set w (list_at g + length xs) x) (record { low = u; entries = length xs + 1 })
  listed_more u e = record {
    list = λ i h. ⊎_elim (before i) (last i h) (lt-or-ge i (length xs));
    count = sym (length-append xs (x ∷ []));
    lowest = lowest-next u e;
    out = outside-then (list_at g) (2 * g.t) w₀ w (set w (list_at g + length xs) x) so_far.out
        (outside_wider (list_at g + length xs) 1 (list_at g) (2 * g.t) w (set w (list_at g + length xs) x) (set-outside w (list_at g + length xs) x) (omega arith) (omega (arith, shaped.e_tiles)));
  }
    where
      before : (i : ℕ) → i < length xs → get_or (set w (list_at g + length xs) x) (list_at g + i) 0 ≡ get_or (xs ++ (x ∷ [])) i 0
      before i h = get_or-set_other w (list_at g + length xs) (list_at g + i) x 0 (λ z. omega (arith, z)) ∙ so_far.list i h ∙ sym (get_or-append xs (x ∷ []) 0 i h)

      last : (i : ℕ) → i < length (xs ++ (x ∷ [])) → length xs ≤ i → get_or (set w (list_at g + length xs) x) (list_at g + i) 0 ≡ get_or (xs ++ (x ∷ [])) i 0
      last i h b =
          let e : i ≡ length xs = omega (arith, length-append xs (x ∷ [])) in
          ap (λ (k : ℕ). get_or (set w (list_at g + length xs) x) (list_at g + k) 0) e
          ∙ get_or-set_same w (list_at g + length xs) x 0 place
          ∙ sym (get_or-append_seam xs x [] 0)
          ∙ ap (λ (k : ℕ). get_or (xs ++ (x ∷ [])) k 0) (sym e)

-- ---- the whole net

module _ (s : List ℕ) (g : Shape) (shaped : Shaped g) (p q : ℕ) (j : Job) (net : Net) (at : RingAt s g p q net) (n : ℕ) (w w₁ w₂ : List ℕ) (low : ℕ) (marked : CutMarked g n net w w₁ low) (r : Again)
    (listed : Listed g net.edges net.entries low w₁ w₂ r) where
  below : (b k : ℕ) → b + k ≤ list_at g → part b k w₂ ≡ part b k w₁
  below b k h = part-outside (list_at g) (2 * g.t) w₁ w₂ listed.out b k (inl h)

  pins_small : (t : ℕ) → In t (pin_tiles net.pins) → t < no_tile
  pins_small t i = omega (arith, at.ok.pins_inside t i, shaped.t_is, shaped.t_most)

  -- it is at hand
  pub ring-read : g.w ≡ j.width → g.h ≡ j.height → NetRead g n j net w w₂ r
  ring-read width height = record {
    hand = record { drawn = subst (Drawn g n net.pins net.edges) (sym (below (tiles_at g) g.t (omega arith))) marked.drawn; list = listed.list };
    count = listed.count;
    root =
        listed.lowest
        ∙ ap (λ (es : List ℕ). lowest_from low (map (lo_of g.w g.h) es)) (kept-in-order g.w g.h g.k net at.ok)
        ∙ ap (λ (b : ℕ). lowest_from b (map (lo_of g.w g.h) net.edges)) marked.low
        ∙ ap₂ (λ (W H : ℕ). lowest_from (lowest_from no_tile (map (λ (k : Pin). k.tile) net.pins)) (map (lo_of W H) net.edges)) width height
        ∙ net-lowest j (omega (arith, width, shaped.w_least)) (omega (arith, height, shaped.h_least)) net at.ok.some_pin pins_small;
    long = listed.out.long ∙ marked.around.long;
    low = λ i h. listed.out.low i (omega arith) ∙ marked.around.low i h;
    links = λ h. subst (Older (n + 1)) (sym (below (links_at g) g.t (omega arith))) marked.links;
  }
