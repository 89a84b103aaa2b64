-- The end of the text, and the rest of it behind the head.
-- Assumes nothing.
use Rattle.std.specs.Prelude.{Some, Ok, Err, Option as Maybe}
use mathlib.Core.Bool.{true, false}
use mathlib.Core.List.{List}
use mathlib.Core.Path.{◌≡◌, sym, ap, ◌∙◌}
use Prim.Native.Nat.{ℕ, suc, ◌+◌, ◌*◌, ◌≤◌, ◌<◌}
use native.Mathlib.Omega.{arith}
use borrow.Author.Tests.{le-leb, lt-leb}
use lib.Dec.{leb}
use lib.ListN.{length, drop_of_length-le}
use lib.Seq.{drop-cons}
use Rattle.head.specs.Reads.{rest_in}
use Rattle.head.specs.Told.{head_job}
use Rattle.head.specs.declared.Head.{Head}
use Rattle.layout.specs.Shapes.{sizes_of}
use Rattle.lines.specs.Told.{refused_by}
use Rattle.model.specs.Job.{Net, Job, entry_count}
use Rattle.model.specs.Read.{Place, Result, found, next, give, nets, print_need, print_fits}
use Rattle.text.specs.Refusals.{place_of}
use Rattle.text.specs.declared.Cursor.{Cursor}
use Rattle.text.specs.declared.Fault.TheVariants.{Form}
use Rattle.text.specs.declared.Refusal.{Refusal}
use Rattle.text.specs.declared.Refusal.TheVariants.{Line, Short}
use Rattle.nets.specs.Nets.{turn_told, NetsFound}
use Rattle.reader.specs.Whole.{print_lent, lent_by, end_in, job_of, rest-splits, RestFound}

pub fits-bytes : (n entries m : ℕ) (print : Maybe ℕ) → print ≡ Some m → leb (256 + 64 * n + 2 * entries) m ≡ print_fits (print_need n entries) (print_lent print)
fits-bytes n entries m print e = rw e

module _ (s : List ℕ) (c : Cursor) (n entries answer : ℕ) (print : Maybe ℕ) where
  pub end_more : c.at < length s → turn_told s (Err (Line Form (c.line + 1))) ≡ end_in n entries answer (print_lent print) (place_of s c)
  unfolding end_in
  end_more h = let y : suc c.line ≡ c.line + 1 = omega arith in sym (rw (drop-cons s c.at 0 h, y))

  module _ (h : length s ≤ c.at) where
    pub end_short : answer < entries → turn_told s (Err (Short c.line)) ≡ end_in n entries answer (print_lent print) (place_of s c)
    unfolding end_in
    end_short l = sym (rw (drop_of_length-le s {i = c.at} h, lt-leb entries answer l))

    module _ (l : entries ≤ answer) where
      pub end-narrow : print_fits (print_need n entries) (print_lent print) ≡ false → turn_told s (Err (Short c.line)) ≡ end_in n entries answer (print_lent print) (place_of s c)
      unfolding end_in
      end-narrow f = sym (rw (drop_of_length-le s {i = c.at} h, le-leb entries answer l, f))

      pub end_fits : print_fits (print_need n entries) (print_lent print) ≡ true → turn_told s (Ok c) ≡ end_in n entries answer (print_lent print) (place_of s c)
      unfolding end_in
      end_fits f = sym (rw (drop_of_length-le s {i = c.at} h, le-leb entries answer l, f))

-- ---- behind the head

module _ (s : List ℕ) (h : Head) (answer : ℕ) (print : Maybe ℕ) (p : Place) (w₀ : List ℕ) where
  abbrev all : Result (List Net)
  all = nets (sizes_of h.shape) 1 h.nets p

  abbrev ended : List Net → Place → Result Job
  ended ns q = next (end_in h.nets (entry_count (job_of h w₀ ns)) answer (print_lent print) q) (λ u. give (job_of h w₀ ns))

  pub rest-no-nets : (f : Refusal) → nets (sizes_of h.shape) 1 h.nets p ≡ refused_by f
      → (working order : ℕ) → rest_in (lent_by working order answer print) (head_job h w₀) p ≡ refused_by f
  rest-no-nets f e working order =
      rest-splits (lent_by working order answer print) h w₀ p ∙ ap (λ (r : Result (List Net)). next r ended) e

  module _ (line : ℕ) (w table : List ℕ) (d : Cursor) (entries : ℕ)
      (k : NetsFound s h.shape h.nets line w₀ w table (nets (sizes_of h.shape) 1 h.nets p) d entries) where
    -- after the nets the end is read
    rest-ends : (working order : ℕ) → rest_in (lent_by working order answer print) (head_job h w₀) p
        ≡ next (end_in h.nets entries answer (print_lent print) (place_of s d)) (λ u. give (job_of h w₀ k.nets))
    rest-ends working order =
        rest-splits (lent_by working order answer print) h w₀ p
        ∙ ap (λ (r : Result (List Net)). next r ended) k.is
        ∙ ap (λ (a : ℕ). next (end_in h.nets a answer (print_lent print) (place_of s d)) (λ u. give (job_of h w₀ k.nets))) (sym k.so_read.entries_are)

    pub rest-no-end : (f : Refusal) → refused_by f ≡ end_in h.nets entries answer (print_lent print) (place_of s d)
        → (working order : ℕ) → rest_in (lent_by working order answer print) (head_job h w₀) p ≡ refused_by f
    rest-no-end f told working order =
        rest-ends working order ∙ ap (λ (x : Result (Unit {0})). next x (λ u. give (job_of h w₀ k.nets))) (sym told)

    pub rest-found : (q : Place) → found tt q ≡ end_in h.nets entries answer (print_lent print) (place_of s d) → RestFound s h answer print p w₀ w table
    rest-found q told = record {
      nets_read = k.nets;
      place = q;
      is = λ working order. rest-ends working order ∙ ap (λ (x : Result (Unit {0})). next x (λ u. give (job_of h w₀ k.nets))) (sym told);
      count = k.count;
      entries = entries;
      so_read = k.so_read;
    }
