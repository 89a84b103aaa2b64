-- The head, and behind it the rest: the job, and what the working numbers hold of it.
-- Assumes nothing.
use Rattle.std.specs.Prelude.{Ok, Err, Option as Maybe, Result as Outcome}
use mathlib.Core.Bool.{Bool, true, false}
use mathlib.Core.List.{List, ◌∷◌}
use mathlib.Core.Path.{◌≡◌, refl, sym, ap, ◌∙◌, subst}
use Prim.Native.Nat.{ℕ, zero, suc, ◌+◌, ◌-◌, ◌*◌, ◌≤◌, ◌<◌}
use native.Mathlib.Nat.{suc-mul, mul_comm}
use native.Mathlib.Omega.{arith}
use borrow.Author.Tests.{leb-true}
use lib.Dec.{leb}
use lib.ListN.{length, get_or}
use Rattle.capacities.specs.Capacities.{column, columns, capacities_of, capacity-in}
use Rattle.head.specs.Reads.{HeadJob, head_in, rest_in}
use Rattle.head.specs.Told.{head_job, Holds, read_by}
use Rattle.head.specs.declared.Head.{Head}
use Rattle.layout.specs.Areas.{loads_at, demand_at, areas_end, edge-room}
use Rattle.layout.specs.Dirs.{dirs_of}
use Rattle.layout.specs.Shapes.{ShapeOf, Shaped}
use Rattle.layout.specs.Table.{table_size, vias_column}
use Rattle.layout.specs.declared.shape.Shape.{Shape}
use Rattle.lines.specs.Told.{refused_by}
use Rattle.model.specs.Job.{Net, Job, net_count, no_net}
use Rattle.model.specs.Limits.{most_text}
use Rattle.model.specs.Read.{Place, found, Lent, working_need, read}
use Rattle.net.specs.SoFar.{Capacities}
use Rattle.net.specs.Table.{Row, PinTiles, Marks, mark-stays}
use Rattle.text.specs.Refusals.{place_of}
use Rattle.text.specs.declared.Cursor.{Cursor}
use Rattle.text.specs.declared.Refusal.{Refusal}
use Rattle.theory.specs.links.Directives.{low-inside}
use Rattle.theory.specs.links.JobText.{option-few}
use Rattle.theory.specs.links.Reading as reading
use Rattle.theory.specs.links.Stretches.{offset}
use Rattle.nets.specs.Nets.{SoRead, CountsCleared, NetsReady, entries_of}
use Rattle.nets.specs.Rows.{RowAt}
use Rattle.reader.specs.Whole.{lent_by, job_of, RestFound, RestTold, HeadFound, JobFound, JobTold}

-- a head is read only from a text that is not too long
pub text-fits : (size working order : ℕ) (p q : Place) (h : HeadJob) → head_in size working order p ≡ found h q → size ≤ most_text
unfolding head_in
text-fits size working order p q h e = go (leb size most_text) refl
  where
    go : (b : Bool) → leb size most_text ≡ b → size ≤ most_text
    go true l = leb-true size most_text l
    go false l = absurd (let y : ◌≡◌ {A = ℕ} 0 1 = cc (rw l at e) in omega arith)

-- ---- two lists that agree below K × E have the same capacities

column-same : (k bound : ℕ) (w v : List ℕ) → ((i : ℕ) → i < bound → get_or v i 0 ≡ get_or w i 0) → (at n : ℕ) → at + n * k < bound + k → column k v at n ≡ column k w at n
column-same k bound w v h at zero b = refl
column-same k bound w v h at (suc n) b =
    let q = suc-mul n k in
    ap (λ (x : ℕ). x ∷ column k v (at + k) n) (h at (omega (arith, q))) ∙ ap (λ (xs : List ℕ). get_or w at 0 ∷ xs) (column-same k bound w v h (at + k) n (omega (arith, q)))

columns-same : (k n : ℕ) (w v : List ℕ) → ((i : ℕ) → i < n * k → get_or v i 0 ≡ get_or w i 0) → (l m : ℕ) → l + m ≤ k → columns k n v l m ≡ columns k n w l m
columns-same k n w v h l zero b = refl
columns-same k n w v h l (suc m) b =
    ap (λ (c : List ℕ). c ∷ columns k n v (suc l) m) (column-same k (n * k) w v h l n (omega arith))
    ∙ ap (λ (cs : List (List ℕ)). column k w l n ∷ cs) (columns-same k n w v h (suc l) m (omega arith))

capacities-same : (g : Shape) (w v : List ℕ) → ((i : ℕ) → i < loads_at g → get_or v i 0 ≡ get_or w i 0) → capacities_of g v ≡ capacities_of g w
capacities-same g w v h = columns-same g.k g.e w v (λ i b. h i (omega (arith, mul_comm g.e g.k))) 0 g.k (omega arith)

shape_is : (g : Shape) → ShapeOf g.w g.h g.k g.dirs g
shape_is g = record { width = refl; height = refl; layers = refl; dirs = refl }

-- ---- the head

module _ (s : List ℕ) (order : ℕ) (w : List ℕ) (w₁ : List ℕ) where
  pub no-head : (f : Refusal) → refused_by f ≡ head_in (length s) (length w) order (record { line = 0; rest = s })
      → (answer : ℕ) (print : Maybe ℕ) → read (lent_by (length w) order answer print) s ≡ refused_by f
  no-head f told answer print = read_by (lent_by (length w) order answer print) s w₁ (Err f) told

  module _ (h : Head) (c : Cursor) (told : found (head_job h w₁) (place_of s c) ≡ head_in (length s) (length w) order (record { line = 0; rest = s }))
      (holds : Holds (length s) order w w₁ h c) (long : length w₁ ≡ length w) where
    short-text : length s ≤ 1048576
    short-text = text-fits (length s) (length w) order (record { line = 0; rest = s }) (place_of s c) (head_job h w₁) (sym told)

    -- the need is that of the places in the working numbers, and more
    need-is : working_need h.shape.w h.shape.h h.shape.k ≡ demand_at h.shape + 2 * h.shape.e + 32 * h.shape.t
    need-is =
        let g = h.shape in
        let u : 2 * g.k * g.e ≡ 2 * (g.k * g.e) = omega arith in
        rw (sym holds.shaped.t_is, sym holds.shaped.e_is, u)

    pub areas-fit : areas_end h.shape ≤ length w₁
    areas-fit = omega (arith, need-is, holds.working, holds.shaped.m_is)

    -- the working numbers v, with zeros in what the nets are counted and marked in
    module _ (v : List ℕ) (cleared : CountsCleared h.shape w₁ v) where
      -- the capacities are those of the head
      read-on : (answer : ℕ) (print : Maybe ℕ) → read (lent_by (length w) order answer print) s ≡ rest_in (lent_by (length w) order answer print) (head_job h v) (place_of s c)
      read-on answer print =
          let lent = lent_by (length w) order answer print in
          read_by lent s w₁ (Ok (h, c)) told
          ∙ ap (λ (cs : List (List ℕ)). rest_in lent (record { width = h.shape.w; height = h.shape.h; layers = h.shape.k; dirs = dirs_of h.shape.k h.shape.dirs; alpha = h.weights.alpha; beta = h.weights.beta; gamma = h.weights.gamma; capacities = cs; nets = h.nets }) (place_of s c))
          (sym (capacities-same h.shape w₁ v cleared.low))

      pub head-found : HeadFound s (length w) order v h c
      head-found = record {
        is = read-on;
        shaped = holds.shaped;
        nets = holds.nets;
        place = holds.place;
        lines = omega (arith, holds.lines, holds.shaped.k_most, option-few (dirs_of h.shape.k h.shape.dirs));
        short = short-text;
        room = omega (arith, areas-fit, cleared.long);
        counts = cleared.counts;
        kept = cleared.kept;
      }

-- ---- and the rest behind it

module _ (s : List ℕ) (working order : ℕ) (v : List ℕ) (h : Head) (c : Cursor) (head : HeadFound s working order v h c) where
  pub nets-may-start : (table : List ℕ) → table_size ≤ length table → NetsReady h.shape v table
  nets-may-start table t = record { room = omega (arith, head.room); demands = λ k a b. head.counts k (omega arith) b; kept = head.kept; table_long = t }

  module _ (answer : ℕ) (print : Maybe ℕ) (w₂ table : List ℕ) where
    abbrev lent : Lent
    lent = lent_by working order answer print

    module _ (found-rest : RestFound s h answer print (place_of s c) v w₂ table) where
      abbrev ns : List Net
      ns = found-rest.nets_read

      abbrev job : Job
      job = job_of h v found-rest.nets_read

      abbrev so : SoRead s h.shape found-rest.nets_read found-rest.entries v w₂ table
      so = found-rest.so_read

      capacities-are : Capacities h.shape (job_of h v found-rest.nets_read) w₂
      capacities-are = record {
        caps = λ a l b x y.
            so.low (a * h.shape.k + (l - 1)) (omega (arith, edge-room h.shape a b))
            ∙ sym (capacity-in job h.shape v refl a l b x y);
      }

      row_is : (i : ℕ) → i < net_count (job_of h v found-rest.nets_read) → Row s (job_of h v found-rest.nets_read) table i
      row_is i b =
          let z : i ≡ suc i - 1 = omega arith in
          let k = subst (λ (m : ℕ). RowAt s h.shape.w h.shape.h h.shape.k table i (offset (entries_of ns) i) (get_or ns m no_net)) z (so.rows i b) in
          record { pins = k.pins; edges = k.edges; counts = k.counts; first = k.first_is }

      pin-tiles-are : PinTiles (job_of h v found-rest.nets_read) table
      pin-tiles-are i b =
          let z : i ≡ suc i - 1 = omega arith in
          (subst (λ (m : ℕ). RowAt s h.shape.w h.shape.h h.shape.k table i (offset (entries_of ns) i) (get_or ns m no_net)) z (so.rows i b)).pin_tiles

      lows-are : reading.Accepted (lent_by working order answer print) (job_of h v found-rest.nets_read) → Marks (job_of h v found-rest.nets_read) table
      lows-are acc i b =
          let z : i ≡ suc i - 1 = omega arith in
          let e = (subst (λ (m : ℕ). RowAt s h.shape.w h.shape.h h.shape.k table i (offset (entries_of ns) i) (get_or ns m no_net)) z (so.rows i b)).low_is in
          mark-stays (get_or table (vias_column i) 0) (get_or ns (suc i - 1) no_net).low e (omega (arith, acc.layers.1, low-inside job lent acc i b))

      job-found : JobFound s (lent_by working order answer print) w₂ table h
      job-found = record {
        job = job;
        place = found-rest.place;
        is = head.is answer print ∙ found-rest.is working order;
        checked = record {
          shape = shape_is h.shape;
          dirs = refl;
          shaped = head.shaped;
          room = omega (arith, head.room, so.long);
          capacities = capacities-are;
          loads = λ i a b. so.low i b ∙ head.counts i a (omega arith);
          demand = so.demands;
          marks = so.marks;
          links = so.links;
          rows = record { long = so.table_long; rows = row_is };
          pin_tiles = pin-tiles-are;
          lows = lows-are (reading.accepted lent s job found-rest.place (head.is answer print ∙ found-rest.is working order));
        };
        alpha = refl;
        beta = refl;
        gamma = refl;
        nets = sym found-rest.count;
      }

    pub job-told : (a : Outcome Head Refusal) → RestTold s h answer print (place_of s c) v w₂ table a → JobTold s (lent_by working order answer print) w₂ table a
    job-told (Err f) t = head.is answer print ∙ t working order
    job-told (Ok k) t = subst (λ (x : Head). JobFound s lent w₂ table x) (sym t.0) (job-found t.1)
