-- The nets of a text, one after the other.
-- Assumes nothing.
use mathlib.Core.List.{List, [], ◌∷◌, ◌++◌, map, append_assoc, append-nil}
use mathlib.Core.Path.{◌≡◌, refl, sym, ap, ap₂, ◌∙◌, subst}
use Prim.Native.Nat.{ℕ, zero, suc, ◌+◌, ◌-◌, ◌*◌, ◌≤◌, ◌<◌}
use native.Mathlib.Decide.{dec_lt}
use native.Mathlib.Omega.{arith}
use lib.ListN.{length, get_or, drop, length-append, length-take, get_or-append, get_or-eq_default}
use lib.Seq.{get_or-append_seam}
use Rattle.layout.specs.Areas.{demand_at, tiles_at, links_at, chosen_at}
use Rattle.layout.specs.Dirs.{dirs_of}
use Rattle.layout.specs.Parts.{part, part_at}
use Rattle.layout.specs.Shapes.{sizes_of, Shaped}
use Rattle.layout.specs.Table.{pins_column, edges_column, tiles_column, first_column, count_column, vias_column}
use Rattle.layout.specs.declared.shape.Shape.{Shape}
use Rattle.lines.specs.Told.{refused_by}
use Rattle.marks.specs.Words.{stamp_unit}
use Rattle.model.specs.Job.{Net, no_net, lengths}
use Rattle.model.specs.Limits.{most_nets}
use Rattle.model.specs.Lists.{occurs}
use Rattle.model.specs.Overflow.{demand}
use Rattle.model.specs.Read.{Place, Result, refused, found, next, net_lines, nets}
use Rattle.net.specs.Table.{PinsAt, EdgesAt}
use Rattle.text.specs.Refusals.{place_of}
use Rattle.text.specs.declared.Cursor.{Cursor}
use Rattle.text.specs.declared.Refusal.{Refusal}
use Rattle.theory.specs.links.JobText.{option_lines, nets_lines, lines-few, lines_snoc}
use Rattle.theory.specs.links.Nets.{NetOk, EachNet}
use Rattle.theory.specs.links.Reading.{NetFine, gives_found, net-gives}
use Rattle.theory.specs.links.Stretches.{offset}
use Rattle.nets.specs.Rows.{RowAt}
use Rattle.nets.specs.Nets.{NetReady, NetFound, SoRead, NetsReady, NetsFound, edges_of, entries_of, ahead}
use Rattle.nets.proofs.Body.{few-entries}

-- ---- lists with one net more at the end

-- of any list that a net has
module _ (of : Net → List ℕ) where
  lists-snoc : (ns : List Net) (n : Net) → map of (ns ++ (n ∷ [])) ≡ map of ns ++ (of n ∷ [])
  lists-snoc [] n = refl
  lists-snoc (m ∷ ns) n = ap {B = List (List ℕ)} (λ l. of m ∷ l) (lists-snoc ns n)

edges-snoc : (ns : List Net) (n : Net) → edges_of (ns ++ (n ∷ [])) ≡ edges_of ns ++ (n.edges ∷ [])
edges-snoc ns n = lists-snoc (λ m. m.edges) ns n

entries-snoc : (ns : List Net) (n : Net) → entries_of (ns ++ (n ∷ [])) ≡ entries_of ns ++ (n.entries ∷ [])
entries-snoc ns n = lists-snoc (λ m. m.entries) ns n

demand-snoc : (e : ℕ) (xs : List (List ℕ)) (x : List ℕ) → demand e (xs ++ (x ∷ [])) ≡ demand e xs + occurs e x
demand-snoc e [] x = omega arith
demand-snoc e (y ∷ xs) x = omega (arith, demand-snoc e xs x)

lengths-snoc : (xs : List (List ℕ)) (x : List ℕ) → lengths (xs ++ (x ∷ [])) ≡ lengths xs + length x
lengths-snoc [] x = omega arith
lengths-snoc (y ∷ xs) x = omega (arith, lengths-snoc xs x)

offset-snoc : (xs : List (List ℕ)) (x : List ℕ) (k : ℕ) → k ≤ length xs → offset (xs ++ (x ∷ [])) k ≡ offset xs k
offset-snoc xs x zero h = refl
offset-snoc [] x (suc k) h = absurd (omega arith)
offset-snoc (y ∷ xs) x (suc k) h = omega (arith, offset-snoc xs x k (omega arith))

offset-end : (xs : List (List ℕ)) (x : List ℕ) → offset (xs ++ (x ∷ [])) (length xs) ≡ lengths xs
offset-end [] x = refl
offset-end (y ∷ xs) x = omega (arith, offset-end xs x)

entries-long : (ns : List Net) → length (entries_of ns) ≡ length ns
entries-long [] = refl
entries-long (n ∷ ns) = ap suc (entries-long ns)

module _ (P : Net → Type 0) where
  each_snoc : (ns : List Net) (n : Net) → EachNet P ns → P n → EachNet P (ns ++ (n ∷ []))
  each_snoc [] n h p = (p, tt)
  each_snoc (m ∷ ns) n h p = (h.0, each_snoc ns n h.1 p)

-- ---- bounds

module _ (g : Shape) (shaped : Shaped g) where
  demand-few : (e : ℕ) (ns : List Net) → EachNet (NetOk g.w g.h g.k) ns → demand e (edges_of ns) ≤ length ns
  demand-few e [] h = omega arith
  demand-few e (n ∷ ns) h = omega (arith, h.0.once e, demand-few e ns h.1)

  entries-few : (ns : List Net) → EachNet (NetOk g.w g.h g.k) ns → lengths (entries_of ns) ≤ length ns * 8_064
  entries-few [] h = omega arith
  entries-few (n ∷ ns) h = omega (arith, few-entries g shaped n h.0, entries-few ns h.1)

-- ---- a row is kept by what changes behind it

row_kept : (s : List ℕ) (W H K : ℕ) (t t' : List ℕ) (i k first : ℕ) (net : Net) → k < i → ((x : ℕ) → x < 6 * i → get_or t' x 0 ≡ get_or t x 0)
    → RowAt s W H K t k first net → RowAt s W H K t' k first net
row_kept s W H K t t' i k first net b h r = record {
  pins = subst (λ (p : ℕ). PinsAt s W H K p net) (sym (h (pins_column k) (omega arith))) r.pins;
  edges = subst (λ (p : ℕ). EdgesAt s W H p net) (sym (h (edges_column k) (omega arith))) r.edges;
  pin_tiles = h (tiles_column k) (omega arith) ∙ r.pin_tiles;
  counts = h (count_column k) (omega arith) ∙ r.counts;
  first_is = h (first_column k) (omega arith) ∙ r.first_is;
  low_is = h (vias_column k) (omega arith) ∙ r.low_is;
}

module _ (s : List ℕ) (g : Shape) (shaped : Shaped g) where
  -- ---- before the first net

  pub nets-start : (w table : List ℕ) → NetsReady g w table → SoRead s g [] 0 w w table
  nets-start w table ready = record {
    long = refl;
    low = λ k h. refl;
    demands = λ e h. ready.demands (demand_at g + e) (omega arith) (omega arith);
    marks = λ t. older (tiles_at g) t (omega arith) (omega arith);
    links = λ t. older (links_at g) t (omega arith) (omega arith);
    ok = tt;
    entries_are = refl;
    table_long = ready.table_long;
    rows = λ i h. absurd (omega arith);
  }
    where
      older : (a t : ℕ) → tiles_at g ≤ a → a + g.t ≤ chosen_at g → get_or (part a g.t w) t 0 < 1 * stamp_unit
      older a t h b = go (dec_lt t g.t)
        where
          go : Dec (t < g.t) → get_or (part a g.t w) t 0 < 1 * stamp_unit
          go (yes l) = omega (arith, part_at a g.t w t l, ready.kept (a + t) (omega arith) (omega arith))
          go (no l) = omega (arith, get_or-eq_default (part a g.t w) 0 {n = t} (omega (arith, length-take g.t (drop a w))))

  -- ---- one net more

  module _ (ns : List Net) (entries : ℕ) (w₀ w table : List ℕ) (so : SoRead s g ns entries w₀ w table) where
    pub nets-few : entries ≤ length ns * 8_064
    nets-few = omega (arith, so.entries_are, entries-few g shaped ns so.ok)

    pub nets-ready : (i : ℕ) → length ns ≡ i → i < most_nets → chosen_at g ≤ length w₀ → NetReady g i w
    nets-ready i e h room = record {
      turn = h;
      room = omega (arith, so.long);
      marks = λ t. omega (arith, so.marks t);
      links = λ t. omega (arith, so.links t);
      few = λ k l. omega (arith, so.demands k l, demand-few g shaped k ns so.ok);
    }

    module _ (i : ℕ) (count_is : length ns ≡ i) (line : Net → ℕ) (w' table' : List ℕ) (p : Place) (c : Cursor) (count : ℕ)
        (found-net : NetFound s g i entries line w w' table table' (net_lines (sizes_of g) (i + 1) p) c count) where
      abbrev net : Net
      net = found-net.net

      abbrev more : List Net
      more = ns ++ (found-net.net ∷ [])

      long-more : length (ns ++ (found-net.net ∷ [])) ≡ suc (length ns)
      long-more = omega (arith, length-append ns (found-net.net ∷ []))

      net-is-ok : NetOk g.w g.h g.k found-net.net
      net-is-ok =
          let ds = dirs_of g.k g.dirs in
          (gives_found (NetFine g.w g.h g.k ds) (net_lines (sizes_of g) (i + 1) p) net (place_of s c) found-net.is (net-gives g.w g.h g.k ds (omega (arith, shaped.k_least)) (i + 1) p)).0

      rows_more : (k : ℕ) → k < length (ns ++ (found-net.net ∷ []))
          → RowAt s g.w g.h g.k table' k (offset (entries_of (ns ++ (found-net.net ∷ []))) k) (get_or (ns ++ (found-net.net ∷ [])) k no_net)
      rows_more k h = go (dec_lt k (length ns))
        where
          go : Dec (k < length ns) → RowAt s g.w g.h g.k table' k (offset (entries_of (ns ++ (found-net.net ∷ []))) k) (get_or (ns ++ (found-net.net ∷ [])) k no_net)
          go (yes l) =
              rw (entries-snoc ns net, offset-snoc (entries_of ns) net.entries k (omega (arith, entries-long ns)), get_or-append ns (net ∷ []) no_net k l)
              (row_kept s g.w g.h g.k table table' i k (offset (entries_of ns) k) (get_or ns k no_net) (omega arith) found-net.rows_before (so.rows k l))
          go (no l) =
              let here : k ≡ length ns = omega (arith, long-more) in
              let first : offset (entries_of ns ++ (net.entries ∷ [])) (length ns) ≡ entries =
              ap (offset (entries_of ns ++ (net.entries ∷ []))) (sym (entries-long ns)) ∙ offset-end (entries_of ns) net.entries ∙ sym so.entries_are in
              rw (here, entries-snoc ns net, first, get_or-append_seam ns net [] no_net)
              (subst (λ (m : ℕ). RowAt s g.w g.h g.k table' m entries net) (sym count_is) found-net.row)

      pub nets-more : SoRead s g (ns ++ (found-net.net ∷ [])) (entries + count) w₀ w' table'
      nets-more =
          let k = found-net.counted in
          record {
            long = k.long ∙ so.long;
            low = λ x h. k.low x h ∙ so.low x h;
            demands = λ e h.
                omega (arith, k.demand e h, so.demands e h, demand-snoc e (edges_of ns) net.edges, ap (demand e) (edges-snoc ns net));
            marks = λ t. omega (arith, k.marks t, long-more);
            links = λ t. omega (arith, k.links t, long-more);
            ok = each_snoc (NetOk g.w g.h g.k) ns net so.ok net-is-ok;
            entries_are = omega (arith, so.entries_are, found-net.count_is, lengths-snoc (entries_of ns) net.entries, ap lengths (entries-snoc ns net));
            table_long = omega (arith, so.table_long, found-net.table_long);
            rows = rows_more;
          }

-- ---- what is left of the text

ahead_none : (r : Result (List Net)) → r ≡ ahead [] r
ahead_none (refused n l) = refl
ahead_none (found ns p) = refl

ahead-one : (ns : List Net) (n : Net) (r : Result (List Net)) → ahead ns (next r (λ ms q. found (n ∷ ms) q)) ≡ ahead (ns ++ (n ∷ [])) r
ahead-one ns n (refused k l) = refl
ahead-one ns n (found ms q) = ap (λ (l : List Net). found l q) (sym (append_assoc ns (n ∷ []) ms))

-- The nets before net i were read, and the cursor stands before it; r is what the definitions say of all n nets.
pub record Midway (s : List ℕ) (g : Shape) (n from : ℕ) (w₀ w table : List ℕ) (r : Result (List Net)) (c : Cursor) (entries i : ℕ) : Type 0 where
  pub done : List Net
  pub count : length done ≡ i
  pub turn : i ≤ n
  pub so_read : SoRead s g done entries w₀ w table
  pub place : c.at ≤ length s
  pub lines : c.line ≡ from + nets_lines done
  pub left : r ≡ ahead done (nets (sizes_of g) (suc i) (n - i) (place_of s c))

module _ (s : List ℕ) (g : Shape) (shaped : Shaped g) (n from : ℕ) (w₀ : List ℕ) (r : Result (List Net)) where
  pub midway_start : (table : List ℕ) (c : Cursor) → NetsReady g w₀ table → c.at ≤ length s → c.line ≡ from → r ≡ nets (sizes_of g) 1 n (place_of s c)
      → Midway s g n from w₀ w₀ table r c 0 0
  midway_start table c ready at line e =
      let all : n ≡ n - 0 = omega arith in
      record {
        done = [];
        count = refl;
        turn = omega arith;
        so_read = nets-start s g shaped w₀ table ready;
        place = at;
        lines = omega arith;
        left = e ∙ ap (λ (m : ℕ). nets (sizes_of g) 1 m (place_of s c)) all ∙ ahead_none (nets (sizes_of g) 1 (n - 0) (place_of s c));
      }

  module _ (w table : List ℕ) (c : Cursor) (entries i : ℕ) (mid : Midway s g n from w₀ w table r c entries i) where
    pub midway-ready : i < n → n ≤ most_nets → chosen_at g ≤ length w₀ → NetReady g i w
    midway-ready h m room = nets-ready s g shaped mid.done entries w₀ w table mid.so_read i mid.count (omega arith) room

    -- four lines a net at most
    pub midway-lines : c.line ≤ from + 4 * i
    midway-lines = omega (arith, mid.lines, mid.count, lines-few mid.done)

    pub midway-few : entries ≤ i * 8_064
    midway-few = omega (arith, nets-few s g shaped mid.done entries w₀ w table mid.so_read, mid.count)

    -- the definitions read one net more
    one_more : i < n → r ≡ ahead mid.done (next (net_lines (sizes_of g) (i + 1) (place_of s c)) (λ m q. next (nets (sizes_of g) (suc (i + 1)) (n - (i + 1)) q) (λ ms q'. found (m ∷ ms) q')))
    one_more h =
        let less : n - i ≡ suc (n - (i + 1)) = omega arith in
        let number : suc i ≡ i + 1 = omega arith in
        mid.left
        ∙ ap₂ (λ (a b : ℕ). ahead mid.done (nets (sizes_of g) a b (place_of s c))) number less

    pub midway-stop : i < n → (f : Refusal) → net_lines (sizes_of g) (i + 1) (place_of s c) ≡ refused_by f → r ≡ refused_by f
    midway-stop h f e =
        one_more h
        ∙ ap (λ (x : Result Net). ahead mid.done (next x (λ m q. next (nets (sizes_of g) (suc (i + 1)) (n - (i + 1)) q) (λ ms q'. found (m ∷ ms) q')))) e

    pub midway-next : i < n → (w' table' : List ℕ) (d : Cursor) (count : ℕ)
        → NetFound s g i entries (λ n. c.line + 3 + option_lines n.low) w w' table table' (net_lines (sizes_of g) (i + 1) (place_of s c)) d count
        → Midway s g n from w₀ w' table' r d (entries + count) (i + 1)
    midway-next h w' table' d count f = record {
      done = mid.done ++ (f.net ∷ []);
      count = omega (arith, length-append mid.done (f.net ∷ []), mid.count);
      turn = omega arith;
      so_read = nets-more s g shaped mid.done entries w₀ w table mid.so_read i mid.count (λ n. c.line + 3 + option_lines n.low) w' table' (place_of s c) d count f;
      place = f.after.place;
      lines = omega (arith, f.after.lines, mid.lines, lines_snoc mid.done f.net);
      left =
          one_more h
          ∙ ap (λ (x : Result Net). ahead mid.done (next x (λ m q. next (nets (sizes_of g) (suc (i + 1)) (n - (i + 1)) q) (λ ms q'. found (m ∷ ms) q')))) f.is
          ∙ ahead-one mid.done f.net (nets (sizes_of g) (suc (i + 1)) (n - (i + 1)) (place_of s d));
    }

    pub midway_end : n ≤ i → NetsFound s g n from w₀ w table r c entries
    midway_end h =
        let all : i ≡ n = omega (arith, mid.turn) in
        let none : n - i ≡ 0 = omega arith in
        record {
          nets = mid.done ++ [];
          is = mid.left ∙ ap (λ (m : ℕ). ahead mid.done (nets (sizes_of g) (suc i) m (place_of s c))) none;
          after = record { place = mid.place; lines = mid.lines ∙ ap (λ (l : List Net). from + nets_lines l) (sym (append-nil mid.done)) };
          count = ap length (append-nil mid.done) ∙ mid.count ∙ all;
          so_read = subst (λ (l : List Net). SoRead s g l entries w₀ w table) (sym (append-nil mid.done)) mid.so_read;
        }
