-- The third part of an edge entry, one byte e or n, and the byte after it; a line that may be empty.
-- Assumes nothing.
use Rattle.std.specs.Prelude.{◌≡◌, refl, Bool, true, false, cond, List, [], ◌∷◌, ℕ, suc, get_or}
use Rattle.std.proofs.Common.{sym, ap, ◌∙◌, ne_eqb}
use Rattle.std.proofs.Math.Option.{Option, none, some}
use Rattle.std.proofs.Math.Decide.{ℕ_discrete}
use Rattle.model.specs.Lists.{all}
use Rattle.model.specs.Text.{bytes, Cut, cut_step, cut_line, behind, on_first}
use Rattle.model.specs.Read.{Result, Reading, refused, found, next, ◌>>=◌, ◌>>◌, give, form, need, value_in, line, Triple, three_parts, way, edge_entries, edge_inside}
use Rattle.scan.specs.Lines.{Judge, Lined, line_of, line_by, with_rest, first-all, cons_to, one_to, line_other, line-comma, line-semicolon, line-newline, line-none}
use Rattle.scan.specs.Keys.{after_key, key-law}

-- a judge of the last part of an edge entry
pub record Ends (f : Judge) : Type 0 where
  pub wrong : (p : List ℕ) → way p ≡ none → f (p ∷ []) ≡ none
  pub more : (p q : List ℕ) (ps : List (List ℕ)) → f (p ∷ q ∷ ps) ≡ none

way-other : (c : ℕ) (p : List ℕ) → (c ≡ 101 → ⊥) → (c ≡ 110 → ⊥) → way (c ∷ p) ≡ none
way-other c [] h k = rw (ne_eqb c 101 h, ne_eqb c 110 k)
way-other c (d ∷ p) h k = refl

module _ (f g : Judge) (b : Ends f) where
  nothing : (p : List ℕ) → way p ≡ none → (q : List ℕ) (ps : List (List ℕ)) → f (p ∷ ps) ≡ none
  nothing p e q [] = b.wrong p e
  nothing p e q (r ∷ ps) = b.more p r ps

  -- no way stands here
  pub way-bad : (u : List ℕ) → (get_or u 0 0 ≡ 101 → ⊥) → (get_or u 0 0 ≡ 110 → ⊥) → line_of f g u ≡ none
  way-bad [] h k = refl
  way-bad (c ∷ u) h k = go (ℕ_discrete c 44) (ℕ_discrete c 59) (ℕ_discrete c 10)
    where
      first : (p : List ℕ) (ps : List (List ℕ)) → f (on_first c (p ∷ ps)) ≡ none
      first p ps = nothing (c ∷ p) (way-other c p h k) [] ps

      go : Dec (c ≡ 44) → Dec (c ≡ 59) → Dec (c ≡ 10) → line_of f g (c ∷ u) ≡ none
      go (yes x) q r = rw x (line-comma f g u ∙ line-none (λ ps. f ([] ∷ ps)) g (λ p ps. b.more [] p ps) u)
      go (no n) (yes x) r = rw x (line-semicolon f g u ∙ rw (b.wrong [] refl))
      go (no n) (no m) (yes x) = rw x (line-newline f g u ∙ rw (b.wrong [] refl))
      go (no n) (no m) (no l) = line_other f g c u n m l ∙ line-none (λ ps. f (on_first c ps)) g first u

  module _ (c : ℕ) (n44 : c ≡ 44 → ⊥) (n59 : c ≡ 59 → ⊥) (n10 : c ≡ 10 → ⊥) where
    pub way-semicolon : (u : List ℕ) → line_of f g (c ∷ 59 ∷ u) ≡ cons_to (f ((c ∷ []) ∷ [])) (line_of g g u)
    way-semicolon u = line_other f g c (59 ∷ u) n44 n59 n10 ∙ line-semicolon (λ ps. f (on_first c ps)) g u

    pub way-newline : (u : List ℕ) → line_of f g (c ∷ 10 ∷ u) ≡ one_to (f ((c ∷ []) ∷ [])) u
    way-newline u = line_other f g c (10 ∷ u) n44 n59 n10 ∙ line-newline (λ ps. f (on_first c ps)) g u

    pub way-no-break : (u : List ℕ) → (get_or u 0 0 ≡ 59 → ⊥) → (get_or u 0 0 ≡ 10 → ⊥) → line_of f g (c ∷ u) ≡ none
    way-no-break u h k = line_other f g c u n44 n59 n10 ∙ rest u h k
      where
        rest : (u : List ℕ) → (get_or u 0 0 ≡ 59 → ⊥) → (get_or u 0 0 ≡ 10 → ⊥) → line_of (λ ps. f (on_first c ps)) g u ≡ none
        rest [] h k = refl
        rest (d ∷ u) h k = go (ℕ_discrete d 44)
          where
            go : Dec (d ≡ 44) → line_of (λ ps. f (on_first c ps)) g (d ∷ u) ≡ none
            go (yes x) = rw x (line-comma (λ ps. f (on_first c ps)) g u ∙ line-none (λ ps. f ((c ∷ []) ∷ ps)) g (λ p ps. b.more (c ∷ []) p ps) u)
            go (no n) = line_other (λ ps. f (on_first c ps)) g d u n h k
                ∙ line-none (λ ps. f (on_first c (on_first d ps))) g (λ p ps. nothing (c ∷ d ∷ p) refl [] ps) u

-- ---- a line of edges, which may be empty

abbrev pub edges_of : List ℕ → Lined
edges_of t = line_of (three_parts way) (three_parts way) t

-- the value of the line, then its entries
abbrev pub edges_cut : Cut → Lined
edges_cut none = none
edges_cut (some c) = with_rest (edge_entries c.0) c.1

pub edges-empty : (t : List ℕ) → edges_cut (cut_line (10 ∷ t)) ≡ some ([], t)
edges-empty t = refl

pub edges_some : (t : List ℕ) → (get_or t 0 0 ≡ 10 → ⊥) → edges_cut (cut_line t) ≡ edges_of t
edges_some [] h = refl
edges_some (b ∷ t) h = rw (ne_eqb b 10 h) (go (cut_line t))
  where
    go : (c : Cut) → edges_cut (cut_step b c) ≡ line_by (three_parts way) (three_parts way) (cut_step b c)
    go none = refl
    go (some c) = ap (λ (e : Option (List Triple)). with_rest e c.1) (sym (first-all (three_parts way) (b ∷ c.0)))

-- ---- the form and the range of an edges line

abbrev pub edges_in : ℕ → ℕ → List ℕ → Reading (List Triple)
edges_in W H v = do
  es ← form 2 (edge_entries v)
  need 3 (all (edge_inside W H) es)
  give es

-- the first tests of the definitions' edges line: its form and its range
unfoldable pub edges_ranged : ℕ → ℕ → Reading (List Triple)
edges_ranged W H = do
  v ← line 2 "edges"
  edges_in W H v

abbrev pub ranged : ℕ → ℕ → ℕ → Lined → Result (List Triple)
ranged W H n none = refused 2 n
ranged W H n (some c) = cond (all (edge_inside W H) c.0) (found c.0 (record { line = n; rest = c.1 })) (refused 3 n)

abbrev pub edges_key : ℕ → ℕ → ℕ → Option (List ℕ) → Result (List Triple)
edges_key W H n none = refused 2 n
edges_key W H n (some u) = ranged W H n (edges_cut (cut_line u))

pub edges-law : (W H n : ℕ) (t : List ℕ) → edges_ranged W H (record { line = n; rest = t }) ≡ edges_key W H (suc n) (behind (bytes "edges=") t)
unfolding edges_ranged line
edges-law W H n t =
    ap (λ (r : Result (List ℕ)). next r (edges_in W H)) (key-law (suc n) (bytes "edges=") t (refl, (refl, (refl, (refl, (refl, (refl, tt)))))))
    ∙ go (behind (bytes "edges=") t)
  where
    tests : (p : Bool) (es : List Triple) (r : List ℕ) →
        next (need 3 p (record { line = suc n; rest = r })) (λ a. give es) ≡ cond p (found es (record { line = suc n; rest = r })) (refused 3 (suc n))
    tests true es r = refl
    tests false es r = refl

    read : (e : Option (List Triple)) (r : List ℕ) →
        next (form 2 e (record { line = suc n; rest = r })) (λ es. ◌>>◌ (need 3 (all (edge_inside W H) es)) (give es)) ≡ ranged W H (suc n) (with_rest e r)
    read none r = refl
    read (some es) r = tests (all (edge_inside W H) es) es r

    cut : (c : Cut) → next (value_in 2 (suc n) c []) (edges_in W H) ≡ ranged W H (suc n) (edges_cut c)
    cut none = refl
    cut (some c) = read (edge_entries c.0) c.1

    go : (o : Option (List ℕ)) → next (after_key (suc n) o) (edges_in W H) ≡ edges_key W H (suc n) o
    go none = refl
    go (some u) = cut (cut_line u)
