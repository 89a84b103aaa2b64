-- Entries of a line, counted one after another: all of them, or those that are kept.
-- Assumes nothing.
use Rattle.std.specs.Prelude.{Bool, true, false, cond, List, [], ◌∷◌, ◌++◌, ◌≡◌, refl, ℕ, ◌+◌, ◌≤◌, ◌<◌, length, get_or}
use Rattle.std.proofs.Common.{append-nil, inr, sym, ap, subst, ◌∙◌, arith}
use Rattle.cut.specs.Again.{KeptAt, keep-end}
use Rattle.layout.specs.Areas.{loads_at, demand_at, tiles_at, tiles_of}
use Rattle.layout.specs.Parts.{part-outside, Outside, outside-then, outside-same}
use Rattle.layout.specs.declared.shape.Shape.{Shape}
use Rattle.model.specs.Job.{Pin, Net}
use Rattle.model.specs.Limits.{most_nets}
use Rattle.model.specs.Lists.{has, keep, occurs}
use Rattle.net.specs.AtHand.{Drawn}
use Rattle.theory.specs.congestion.Tests.{has-none}
use Rattle.theory.specs.walk.Stops.{occurs-append}
use Rattle.directives.specs.Counts.{cell, one_more, marked, Few}
use Rattle.directives.specs.Marked.{marked-snoc, one_outside, one_at}

-- of the edges xs some are counted as wanting layer t, which makes w of w₀
pub record SomeCounted (g : Shape) (t : ℕ) (w₀ xs w : List ℕ) : Type 0 where
  pub out : Outside (loads_at g) (loads_at g) w₀ w
  pub few : (e : ℕ) → get_or w (cell g e t) 0 ≤ get_or w₀ (cell g e t) 0 + occurs e xs

-- all of them are
pub record AllCounted (g : Shape) (t : ℕ) (w₀ xs w : List ℕ) : Type 0 where
  pub some : SomeCounted g t w₀ xs w
  pub w_is : w ≡ marked g t xs w₀

-- those are that are among the edges marked under stamp m
pub record KeptCounted (g : Shape) (t m : ℕ) (w₀ xs w : List ℕ) : Type 0 where
  pub some : SomeCounted g t w₀ xs w
  pub w_is : (ps : List Pin) (es : List ℕ) → Drawn g m ps es (tiles_of g w₀) → w ≡ marked g t (keep (has es) xs) w₀

module _ (g : Shape) (t : ℕ) (low : 1 ≤ t) (high : t ≤ g.k) (w₀ : List ℕ) where
  none-counted : SomeCounted g t w₀ [] w₀
  none-counted = record { out = outside-same (loads_at g) (loads_at g) w₀; few = λ e. omega arith }

  pub all_none : AllCounted g t w₀ [] w₀
  all_none = record { some = none-counted; w_is = refl }

  pub kept-none : (m : ℕ) → KeptCounted g t m w₀ [] w₀
  kept-none m = record { some = none-counted; w_is = λ ps es drawn. refl }

  module _ (xs w : List ℕ) (now : SomeCounted g t w₀ xs w) (x : ℕ) where
    -- the next edge can be counted
    pub next-room : has xs x ≡ false → x < g.e → Few g t w₀ → get_or w (cell g x t) 0 < most_nets
    next-room new known few = omega (arith, now.few x, has-none xs x new, few x known)

    -- it is, or it is passed by
    some_more : x < g.e → demand_at g ≤ length w → SomeCounted g t w₀ (xs ++ (x ∷ [])) (one_more g t x w)
    some_more known room = record {
      out = outside-then (loads_at g) (loads_at g) w₀ w (one_more g t x w) now.out (one_outside g t low high x w known);
      few = λ e. omega (arith, now.few e, one_at g t low high x w known room e, occurs-append e xs (x ∷ []));
    }

    some-passed : SomeCounted g t w₀ (xs ++ (x ∷ [])) w
    some-passed = record { out = now.out; few = λ e. omega (arith, now.few e, occurs-append e xs (x ∷ [])) }

  pub all_more : (xs w : List ℕ) → AllCounted g t w₀ xs w → (x : ℕ) → x < g.e → demand_at g ≤ length w → (w' : List ℕ) → w' ≡ one_more g t x w → AllCounted g t w₀ (xs ++ (x ∷ [])) w'
  all_more xs w now x known room w' e =
      subst (AllCounted g t w₀ (xs ++ (x ∷ []))) (sym e)
      (record { some = some_more xs w now.some x known room; w_is = ap (one_more g t x) now.w_is ∙ sym (marked-snoc g t xs x w₀) })

  module _ (m : ℕ) (xs w : List ℕ) (now : KeptCounted g t m w₀ xs w) (x : ℕ) (q : Bool) (is : (ps : List Pin) (es : List ℕ) → Drawn g m ps es (tiles_of g w) → q ≡ has es x) where
    -- the marks are as they were
    now-kept : (b : Bool) → q ≡ b → (ps : List Pin) (es : List ℕ) → Drawn g m ps es (tiles_of g w₀) → keep (has es) (xs ++ (x ∷ [])) ≡ keep (has es) xs ++ cond b (x ∷ []) []
    now-kept b e ps es drawn =
        keep-end (has es) xs x
        ∙ ap (λ (c : Bool). keep (has es) xs ++ cond c (x ∷ []) [])
        (sym (is ps es (subst (Drawn g m ps es) (sym (part-outside (loads_at g) (loads_at g) w₀ w now.some.out (tiles_at g) g.t (inr (omega arith)))) drawn)) ∙ e)

    pub kept-counted : q ≡ true → x < g.e → demand_at g ≤ length w → (w' : List ℕ) → w' ≡ one_more g t x w → KeptCounted g t m w₀ (xs ++ (x ∷ [])) w'
    kept-counted e known room w' counted =
        subst (KeptCounted g t m w₀ (xs ++ (x ∷ []))) (sym counted)
        (record {
          some = some_more xs w now.some x known room;
          w_is = λ ps es drawn.
              ap (one_more g t x) (now.w_is ps es drawn)
              ∙ sym (marked-snoc g t (keep (has es) xs) x w₀)
              ∙ ap (λ (l : List ℕ). marked g t l w₀) (sym (now-kept true e ps es drawn));
        })

    pub kept-passed : q ≡ false → KeptCounted g t m w₀ (xs ++ (x ∷ [])) w
    kept-passed e = record {
      some = some-passed xs w now.some x;
      w_is = λ ps es drawn.
          now.w_is ps es drawn ∙ ap (λ (l : List ℕ). marked g t l w₀) (sym (now-kept false e ps es drawn ∙ append-nil (keep (has es) xs)));
    }

-- all entries of a net, of which those that it keeps are marked
pub kept-net : (s : List ℕ) (g : Shape) (p t m : ℕ) (w₀ w : List ℕ) (n : Net) → KeptAt s g p m w₀ n → KeptCounted g t m w₀ n.entries w → w ≡ marked g t n.edges w₀
kept-net s g p t m w₀ w n at k = k.w_is n.pins n.edges at.drawn ∙ ap (λ (l : List ℕ). marked g t l w₀) at.in_order
