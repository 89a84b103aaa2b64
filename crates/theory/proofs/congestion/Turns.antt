-- A choice is to be considered at a net's turn just where it is legal, there always is one, and so a plan that takes a cheapest legal choice at each turn
-- takes a cheapest of those to be considered. Source document 000, Theorem 1.
-- Assumes nothing.
use Rattle.std.specs.Prelude.{◌≡◌, refl, List, [], ◌∷◌, ◌↔◌, ℕ, zero, suc, ◌+◌, ◌≤◌, ◌<◌, length, take, drop, get_or}
use Rattle.std.proofs.Common.{sym, ap, subst, arith}
use Rattle.theory.specs.congestion.Sums.{same, In, same_refl, in_head, in_tail}
use Rattle.theory.specs.congestion.Edge.{put, Within, within-less, within→legal}
use Rattle.theory.specs.congestion.Problem.{Problem, ProblemOk, flat_over, IsChoice, IsLayering, uses, load, Keeps, LegalChoice, before, net_at, Considered, Demand3, Greedy, place, after}
use Rattle.theory.specs.congestion.Loads.{AllWithin, mark-one, tight→within, within→tight}
use Rattle.theory.specs.congestion.Turns.{legal→choice, good-less, State, Room, next-legal, next-state, LegalBefore, state-at, start, before-is, EarlierLegal}

module _ (j : Problem) (limit : ℕ → ℕ) where
  -- what keeps the limits with this net and more was placed by a legal choice
  good→legal : (x z : ℕ → ℕ → ℕ) (n y : List ℕ) → ((e l : ℕ) → uses e l n y ≤ z e l) → ((e : ℕ) → In e n → Within (j.layers e) (j.cap e) (λ l. x e l + z e l) (limit e) (flat_over j e))
      → IsChoice j.layers n y → LegalChoice j limit x n y
  good→legal x z [] [] u w c = tt
  good→legal x z [] (b ∷ y) u w c = c
  good→legal x z (a ∷ n) [] u w c = c
  good→legal x z (a ∷ n) (b ∷ y) u w c = (
    c.0,
    within→legal (j.layers a) (j.cap a) (x a) (limit a) (flat_over j a) b c.0
        (within-less (j.layers a) (j.cap a) (put b (x a)) (λ l. x a l + z a l) (limit a) (flat_over j a)
        (λ l i. omega (arith, u a l, mark-one a a (same b l) (same_refl a)))
        (w a (in_head a n))),
    good→legal x z n y (λ e l. omega (arith, u e l)) (λ e i. w e (in_tail e a n i)) c.1,
  )

module _ (j : Problem) (ok : ProblemOk j) (limit : ℕ → ℕ) (room : Room j limit) where
  -- the nets that are left can all be placed
  complete : (ns : List (List ℕ)) (x : ℕ → ℕ → ℕ) → State j limit x ns
      → (ys : List (List ℕ)) × IsLayering j.layers ns ys × AllWithin j limit (λ e l. x e l + load e l ns ys)
  complete [] x s = ([], tt, λ e i. good-less j limit (λ e' l. x e' l + 0) x e (λ l. omega arith) (s.good e i))
  complete (n ∷ ns) x s =
      let g = next-legal j ok limit room x n ns s in
      let r = complete ns (place x n g.0) (next-state j ok limit room x n ns g.0 s g.1) in (
        g.0 ∷ r.0,
        (legal→choice j limit x n g.0 g.1, r.1),
        λ e i. good-less j limit (λ e' l. x e' l + load e' l (n ∷ ns) (g.0 ∷ r.0)) (λ e' l. place x n g.0 e' l + load e' l ns r.0) e (λ l. omega arith) (r.2 e i),
      )

  -- ---- the same over what is left: x are the loads of the nets placed before, ns the nets that are left, ys the plan's choices for them

  -- to be considered at turn i of those that are left
  record Open (x : ℕ → ℕ → ℕ) (ns ys : List (List ℕ)) (i : ℕ) (choice : List ℕ) : Type 0 where
    zs : List (List ℕ)
    is_layering : IsLayering j.layers ns zs
    earlier : take i zs ≡ take i ys
    this : get_or zs i [] ≡ choice
    good : AllWithin j limit (λ e l. x e l + load e l ns zs)

  -- the first turn of those that are left
  open→legal : (x : ℕ → ℕ → ℕ) (n : List ℕ) (ns zs : List (List ℕ)) (choice : List ℕ) → State j limit x (n ∷ ns)
      → IsLayering j.layers (n ∷ ns) zs → get_or zs 0 [] ≡ choice → AllWithin j limit (λ e l. x e l + load e l (n ∷ ns) zs) → LegalChoice j limit x n choice
  open→legal x n ns [] choice s ly t w = absurd ly
  open→legal x n ns (z ∷ zs) choice s ly t w =
      subst (λ (y : List ℕ). LegalChoice j limit x n y) t
      (good→legal j limit x (λ e l. uses e l n z + load e l ns zs) n z (λ e l. omega arith) (λ e i. w e (s.nets_ok.1 e i)) ly.0)

  legal→open : (x : ℕ → ℕ → ℕ) (n : List ℕ) (ns ys : List (List ℕ)) (choice : List ℕ) → State j limit x (n ∷ ns)
      → LegalChoice j limit x n choice → Open x (n ∷ ns) ys 0 choice
  legal→open x n ns ys choice s g =
      let r = complete ns (place x n choice) (next-state j ok limit room x n ns choice s g) in
      record {
        zs = choice ∷ r.0;
        is_layering = (legal→choice j limit x n choice g, r.1);
        earlier = refl;
        this = refl;
        good = λ e i. good-less j limit (λ e' l. x e' l + load e' l (n ∷ ns) (choice ∷ r.0)) (λ e' l. place x n choice e' l + load e' l ns r.0) e (λ l. omega arith) (r.2 e i);
      }

  -- a later turn: the first net is as in the plan
  open-tail : (x : ℕ → ℕ → ℕ) (n y : List ℕ) (ns ys zs : List (List ℕ)) (i : ℕ) (choice : List ℕ)
      → IsLayering j.layers (n ∷ ns) zs → take (suc i) zs ≡ y ∷ take i ys → get_or zs (suc i) [] ≡ choice
      → AllWithin j limit (λ e l. x e l + load e l (n ∷ ns) zs) → Open (place x n y) ns ys i choice
  open-tail x n y ns ys [] i choice ly p t w = absurd ly
  open-tail x n y ns ys (z ∷ zs) i choice ly p t w =
      let head : z ≡ y = cc in
      record {
        zs = zs;
        is_layering = ly.1;
        earlier = cc;
        this = t;
        good = λ e k. good-less j limit (λ e' l. place x n y e' l + load e' l ns zs) (λ e' l. x e' l + load e' l (n ∷ ns) (z ∷ zs)) e (λ l. omega (arith, ap (λ (c : List ℕ). uses e l n c) head)) (w e k);
      }

  open-cons : (x : ℕ → ℕ → ℕ) (n y : List ℕ) (ns ys : List (List ℕ)) (i : ℕ) (choice : List ℕ) → LegalChoice j limit x n y
      → Open (place x n y) ns ys i choice → Open x (n ∷ ns) (y ∷ ys) (suc i) choice
  open-cons x n y ns ys i choice g o = record {
    zs = y ∷ o.zs;
    is_layering = (legal→choice j limit x n y g, o.is_layering);
    earlier = ap {B = List (List ℕ)} (λ r. y ∷ r) o.earlier;
    this = o.this;
    good = λ e k. good-less j limit (λ e' l. x e' l + load e' l (n ∷ ns) (y ∷ o.zs)) (λ e' l. place x n y e' l + load e' l ns o.zs) e (λ l. omega arith) (o.good e k);
  }

  open-iff-legal : (i : ℕ) (x : ℕ → ℕ → ℕ) (ns ys : List (List ℕ)) → State j limit x ns → i < length ns → i ≤ length ys → LegalBefore j ok limit room x ns ys i
      → (choice : List ℕ) → Open x ns ys i choice ↔ LegalChoice j limit (after x (take i ns) (take i ys)) (get_or ns i []) choice
  open-iff-legal i x [] ys s h h' g choice = absurd (omega arith)
  open-iff-legal zero x (n ∷ ns) ys s h h' g choice = (
    λ o. open→legal x n ns o.zs choice s o.is_layering o.this o.good,
    λ c. legal→open x n ns ys choice s c,
  )
  open-iff-legal (suc i) x (n ∷ ns) [] s h h' g choice = absurd (omega arith)
  open-iff-legal (suc i) x (n ∷ ns) (y ∷ ys) s h h' g choice =
      let g0 : LegalChoice j limit x n y = g 0 (omega arith) in
      let r = open-iff-legal i (place x n y) ns ys (next-state j ok limit room x n ns y s g0) (omega arith) (omega arith) (λ k b. g (suc k) (omega arith)) choice in (
        λ o. r.0 (open-tail x n y ns ys o.zs i choice o.is_layering o.earlier o.this o.good),
        λ c. open-cons x n y ns ys i choice g0 (r.1 c),
      )

  -- a plan that is legal at every turn is a layering within the limits
  legal-layering : (x : ℕ → ℕ → ℕ) (ns ys : List (List ℕ)) → State j limit x ns → length ys ≡ length ns → LegalBefore j ok limit room x ns ys (length ns)
      → IsLayering j.layers ns ys × AllWithin j limit (λ e l. x e l + load e l ns ys)
  legal-layering x [] [] s h g = (tt, λ e i. good-less j limit (λ e' l. x e' l + 0) x e (λ l. omega arith) (s.good e i))
  legal-layering x [] (y ∷ ys) s h g = absurd (omega arith)
  legal-layering x (n ∷ ns) [] s h g = absurd (omega arith)
  legal-layering x (n ∷ ns) (y ∷ ys) s h g =
      let g0 : LegalChoice j limit x n y = g 0 (omega arith) in
      let r = legal-layering (place x n y) ns ys (next-state j ok limit room x n ns y s g0) (omega arith) (λ k b. g (suc k) (omega arith)) in (
        (legal→choice j limit x n y g0, r.0),
        λ e i. good-less j limit (λ e' l. x e' l + load e' l (n ∷ ns) (y ∷ ys)) (λ e' l. place x n y e' l + load e' l ns ys) e (λ l. omega arith) (r.1 e i),
      )

  earlier : (plan : List (List ℕ)) (i : ℕ) → EarlierLegal j ok limit room plan i → LegalBefore j ok limit room (λ e l. 0) j.nets plan i
  earlier plan i g k h = subst (λ (x : ℕ → ℕ → ℕ). LegalChoice j limit x (net_at j k) (get_or plan k [])) (sym (before-is j ok limit room plan k)) (g k h)

  -- a net always has a legal choice at its turn
  pub legal-exists : (plan : List (List ℕ)) (i : ℕ) → i < length j.nets → i ≤ length plan → EarlierLegal j ok limit room plan i
      → (choice : List ℕ) × LegalChoice j limit (before j plan i) (net_at j i) choice
  legal-exists plan i h h' g =
      rw (← before-is j ok limit room plan i)
      (next-legal j ok limit room (after (λ e l. 0) (take i j.nets) (take i plan)) (net_at j i) (drop (suc i) j.nets)
      (state-at j ok limit room i (λ e l. 0) j.nets plan (start j ok limit room) h h' (earlier plan i g)))

  module _ (bounded : List (List ℕ) → Type 0) (bounded-iff : (ys : List (List ℕ)) → bounded ys ↔ Keeps j limit ys) where
    -- a choice is to be considered at a net's turn just where it is legal
    pub considered-iff-legal : (plan : List (List ℕ)) (i : ℕ) → i < length j.nets → i ≤ length plan → EarlierLegal j ok limit room plan i
        → (choice : List ℕ) → Considered j bounded plan i choice ↔ LegalChoice j limit (before j plan i) (net_at j i) choice
    considered-iff-legal plan i h h' g choice = rw (← before-is j ok limit room plan i) (λ c. both.0 (there c), λ c. back (both.1 c))
      where
        both : Open (λ e l. 0) j.nets plan i choice ↔ LegalChoice j limit (after (λ e l. 0) (take i j.nets) (take i plan)) (net_at j i) choice
        both = open-iff-legal i (λ e l. 0) j.nets plan (start j ok limit room) h h' (earlier plan i g) choice

        there : Considered j bounded plan i choice → Open (λ e l. 0) j.nets plan i choice
        there c = record {
          zs = c.layering;
          is_layering = c.is_layering;
          earlier = c.earlier;
          this = c.this;
          good = λ e k.
              good-less j limit (λ e' l. 0 + load e' l j.nets c.layering) (λ e' l. load e' l j.nets c.layering) e (λ l. omega arith)
              (tight→within j ok c.layering c.is_layering limit c.least_total ((bounded-iff c.layering).0 c.in_bounds) e k);
        }

        back : Open (λ e l. 0) j.nets plan i choice → Considered j bounded plan i choice
        back o =
            let t = within→tight j ok o.zs o.is_layering limit
            (λ e k. good-less j limit (λ e' l. load e' l j.nets o.zs) (λ e' l. 0 + load e' l j.nets o.zs) e (λ l. omega arith) (o.good e k)) in
            record {
              layering = o.zs;
              is_layering = o.is_layering;
              earlier = o.earlier;
              this = o.this;
              least_total = t.0;
              in_bounds = (bounded-iff o.zs).1 t.1;
            }

    -- and so a plan that takes a cheapest legal choice at each turn meets demand 3
    pub greedy-demand3 : (cost : ℕ → List ℕ → ℕ) (plan : List (List ℕ)) → Greedy j limit cost plan → Demand3 j bounded cost plan
    greedy-demand3 cost plan g =
        let whole = legal-layering (λ e l. 0) j.nets plan (start j ok limit room) g.one_each (earlier plan (length j.nets) g.legal) in
        let t = within→tight j ok plan whole.0 limit
        (λ e k. good-less j limit (λ e' l. load e' l j.nets plan) (λ e' l. 0 + load e' l j.nets plan) e (λ l. omega arith) (whole.1 e k)) in
        let upto : (i : ℕ) → i < length j.nets → EarlierLegal j ok limit room plan i = λ i h k b. g.legal k (omega arith) in
        let iff : (i : ℕ) → i < length j.nets → (choice : List ℕ) → Considered j bounded plan i choice ↔ LegalChoice j limit (before j plan i) (net_at j i) choice
        = λ i h choice. considered-iff-legal plan i h (omega (arith, g.one_each)) (upto i h) choice in
        record {
          is_layering = whole.0;
          least_total = t.0;
          in_bounds = (bounded-iff plan).1 t.1;
          considered = λ i h. (iff i h (get_or plan i [])).1 (g.legal i h);
          cheapest = λ i h choice c. g.least i h choice ((iff i h choice).0 c);
        }
