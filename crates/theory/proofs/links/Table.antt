-- The table of refusals as laws: a text is refused with a number and a line exactly where the row of this number fits this line, and is accepted where no row
-- fits it.
-- Assumes nothing.
use Rattle.std.specs.Prelude.{◌≡◌, refl, List, [], ◌∷◌, ◌++◌, Bool, false, ◌↔◌, ◌≢◌, ℕ, zero, suc, ◌+◌, ◌*◌, ◌≤◌, ◌<◌, length}
use Rattle.std.proofs.Common.{sym, ◌∙◌, subst, append-nil, inl, inr, ⊎_elim, arith, length-append}
use Rattle.std.proofs.Math.Option.{Option, none, some}
use Prim.Native.String.{String}
use Rattle.std.proofs.Math.Seq.{append_snoc}
use Rattle.model.specs.Grid.{east_count, north_count}
use Rattle.model.specs.Job.{Pin, Net, Job, runs}
use Rattle.model.specs.Limits.{least_side, most_side, least_layers, most_layers, most_weight, most_nets}
use Rattle.model.specs.Read.{Place, Result, refused, found, Sizes, Triple, net_with, Lent, read}
use Rattle.model.specs.Text.{behind}
use Rattle.theory.specs.congestion.Sums.{same_cases}
use Rattle.theory.specs.links.Chain.{First, Kind, opening, WrongLine, form_wrong, row_wrong, Chain, done, reads, may, tests, refused-found, same-refusal, AtFault, begun, past_absent, comes-refused, Decided, then-line, then-there, then-tests, then-end, decided-refused, decided-found}
use Rattle.theory.specs.links.Kinds.{ranged_kind, dirs_kind, low_kind, capacity_kind, net_kind, pins_kind, edges_kind}
use Rattle.theory.specs.links.JobText.{one, start, option_lines, capacities_at, lines_to, layers_chain, tree_chain, nets_chain, end_chain, job_of, lines_snoc, text_chain, read_is}
use Rattle.theory.specs.links.Table.{Nothing, row_at, At, LineAt, ThereAt, Stack, Nets, ended, OfNet, OfTree, net_at, pins_at, edges_at, TooLong, WrongAt, RangeAt, TurnAt, PinTwiceAt, EdgeTwiceAt, RingAt, ReachAt, WorkingAt, OrderAt, RoomAt, ClosedAt, NoLayerAt, too_long, wrong_form, wrong_there, wrong_length, wrong_letters, text_after, number_out, low_out, capacity_out, pin_out, edge_out, out_of_turn, pin_twice, edge_twice, not_reached, working_short, order_short, room_short, closed_layer, no_layer, table, Why}

-- ---- tables

nothing : {B : Type 0} → Nothing → B
nothing = elim [ ]

-- F holds of number and line wherever a row does; the first row has the number i
abbrev EachRow : (ℕ → ℕ → Type 0) → List (ℕ → Type 1) → ℕ → Type 1
EachRow F [] i = Unit {1}
EachRow F (r ∷ rs) i = ((l : ℕ) → r l → F i l) × EachRow F rs (suc i)

infixr 4 ◌also◌
abbrev ◌also◌ : {A B : Type 1} → A → B → A × B
◌also◌ a b = (a, b)

each_row : (F : ℕ → ℕ → Type 0) (rs : List (ℕ → Type 1)) (i n l : ℕ) → EachRow F rs i → row_at rs n l → F (i + n) l
each_row F [] i n l h w = nothing w
each_row F (r ∷ rs) i zero l h w = subst (λ (m : ℕ). F m l) (omega arith) (h.0 l w)
each_row F (r ∷ rs) i (suc n) l h w = subst (λ (m : ℕ). F m l) (omega arith) (each_row F rs (suc i) n l h.1 w)

row_below : (rs : List (ℕ → Type 1)) (n l : ℕ) → row_at rs n l → n < length rs
row_below [] n l w = nothing w
row_below (r ∷ rs) zero l w = omega arith
row_below (r ∷ rs) (suc n) l w = omega (arith, row_below rs n l w)

length-snoc : (ns : List Net) (n : Net) → length (ns ++ (n ∷ [])) ≡ suc (length ns)
length-snoc ns n = omega (arith, length-append ns (n ∷ []))

module _ (lent : Lent) (text : List ℕ) where
  -- ---- a text that a row fits is refused

  by : {t : Chain Job} {q : Place} (n l : ℕ) → At lent text t q → AtFault t q n l → read lent text ≡ refused n l
  by n l a f = read_is lent text ∙ comes-refused (text_chain lent text) (start text) n l a f

  by-line : {B C : Type 0} {k : Kind B C} {b : B} (n l : ℕ) → LineAt lent text k b l → First (k.rows b) n → read lent text ≡ refused n l
  by-line {b = b} n l d f = by n l d.comes (row_wrong b d.after d.stands f, d.line)

  by-there : {B C : Type 0} {k : Kind B (Option C)} {b : B} (n l : ℕ) → ThereAt lent text k b l → First (k.rows b) n → read lent text ≡ refused n l
  by-there {b = b} n l d f = by n l d.comes (d.value, d.there, row_wrong b d.after d.stands f, d.line)

  abbrev Refused : ℕ → ℕ → Type 0
  Refused n l = read lent text ≡ refused n l

  on_line : (n l : ℕ) {m : ℕ} → l ≡ m → Refused n m → Refused n l
  on_line n l z e = subst (Refused n) (sym z) e

  long-refused : (l : ℕ) → TooLong lent text l → Refused 1 l
  long-refused l (too_long h z) = by 1 l begun (inl (h, refl), z)

  wrong-refused : (l : ℕ) → WrongAt lent text l → Refused 2 l
  wrong-refused l (wrong_form k f q a m w z) = by 2 l a (form_wrong w (sym m), z)
  wrong-refused l (wrong_there k c f q v a e m w z) = by 2 l a (v, e, form_wrong w (sym m), z)
  wrong-refused l (wrong_length key size along cs d w) = by-line 2 l d (inl (w, refl))
  wrong-refused l (wrong_letters K ds d w) = by-there 2 l d (inl (w, refl))
  wrong-refused l (text_after s q a h z) = by 2 l a (h, refl, z)

  range-refused : (l : ℕ) → RangeAt lent text l → Refused 3 l
  range-refused l (number_out key low high m d w) = by-line 3 l d (inl (w, refl))
  range-refused l (low_out K m d w) = by-there 3 l d (inl (w, refl))
  range-refused l (capacity_out key size along cs d u w) = by-line 3 l d (inr (λ h. h u, inl (w, refl)))
  range-refused l (pin_out z ps d w) = by-line 3 l d (inl (w, refl))
  range-refused l (edge_out z pins es d w) = by-line 3 l d (inl (w, refl))

  turn-refused : (l : ℕ) → TurnAt lent text l → Refused 4 l
  turn-refused l (out_of_turn z earlier m o d w y) = on_line 4 l y (by-line 4 (net_at lent text z earlier) d (inl (w, refl)))

  pin-refused : (l : ℕ) → PinTwiceAt lent text l → Refused 5 l
  pin-refused l (pin_twice z earlier low ps o d u w y) = on_line 5 l y (by-line 5 (pins_at lent text z earlier low) d (inr (u, inl (w, refl))))

  edge-refused : (l : ℕ) → EdgeTwiceAt lent text l → Refused 6 l
  edge-refused l (edge_twice z earlier low pins es o d u w y) = on_line 6 l y (by-line 6 (edges_at lent text z earlier low) d (inr (u, inl (w, refl))))

  ring-refused : (l : ℕ) → RingAt lent text l → Refused 7 l
  ring-refused l w = nothing w

  reach-refused : (l : ℕ) → ReachAt lent text l → Refused 8 l
  reach-refused l (not_reached z earlier low pins es o d u v w y) = on_line 8 l y (by-line 8 (edges_at lent text z earlier low) d (inr (u, inr (v, inl (w, refl)))))

  working-refused : (l : ℕ) → WorkingAt lent text l → Refused 9 l
  working-refused l (working_short z q a w y x) = by 9 l a (inl (w, refl), x ∙ sym y)

  order-refused : (l : ℕ) → OrderAt lent text l → Refused 10 l
  order-refused l (order_short z N s q k a w y x) = by 10 l a (inl (w, refl), x ∙ sym y)

  room-refused : (l : ℕ) → RoomAt lent text l → Refused 11 l
  room-refused l (room_short z N j s q k n a w y x) = by 11 l a (inl (w, refl), x ∙ sym y)

  closed-refused : (l : ℕ) → ClosedAt lent text l → Refused 12 l
  closed-refused l (closed_layer z key size m way cs k d u v e w y) = by-line 12 l d (inr (λ h. h u, inr (v, inl ((e, w), refl))))

  no-layer-refused : (l : ℕ) → NoLayerAt lent text l → Refused 13 l
  no-layer-refused l (no_layer z earlier low pins es o d u v x w a) =
      on_line 13 l a (by-line 13 (edges_at lent text z earlier low) d (inr (u, inr (v, inr (x, inl (w, refl))))))

  table-refused : EachRow Refused (table lent text) 1
  table-refused =
      long-refused also wrong-refused also range-refused also turn-refused also pin-refused also edge-refused also ring-refused also reach-refused
      also working-refused also order-refused also room-refused also closed-refused also no-layer-refused also tt

  why-refused : (n l : ℕ) → Why lent text n l → Refused n l
  why-refused zero l w = nothing w
  why-refused (suc n) l w = subst (λ (m : ℕ). Refused m l) (omega arith) (each_row Refused (table lent text) 1 n l table-refused w)

  -- ---- a row fits a text that is refused: along the lines, each fault is told by its row

  because : (m n l : ℕ) → n ≡ m → Why lent text m l → Why lent text n l
  because m n l e w = subst (λ (x : ℕ). Why lent text x l) (sym e) w

  abbrev End : Type 1
  End = Decided (text_chain lent text) (start text) (Why lent text)

  -- the reading goes on behind a line that gives c
  abbrev Goes : {C : Type 0} → (C → Chain Job) → Place → Type 1
  Goes {C} f q = (c : C) (r : Place) → r.line ≡ suc q.line → At lent text (f c) r → End

  reads_on : {B C : Type 0} {k : Kind B C} {f : C → Chain Job} {q : Place} → k.number ≡ 2 → At lent text (reads k f) q
      → ((n : ℕ) (b : B) → LineAt lent text k b (suc q.line) → First (k.rows b) n → Why lent text n (suc q.line)) → Goes f q → End
  reads_on {B} {C} {k} {f} {q} two a h = then-line (text_chain lent text) (start text) (Why lent text) a told
    where
      told : (n : ℕ) → WrongLine k q n → Why lent text n (suc q.line)
      told n (form_wrong w e) = because 2 n (suc q.line) (e ∙ two) (wrong_form k f q a two w refl)
      told n (row_wrong b r s w) = h n b (record { others = f; before = q; after = r; comes = a; stands = s; line = refl }) w

  ranged-on : (key : String) (low high : ℕ) {f : ℕ → Chain Job} {q : Place} → At lent text (reads (ranged_kind key low high) f) q → Goes f q → End
  ranged-on key low high {q = q} a = reads_on refl a told
    where
      told : (n m : ℕ) → LineAt lent text (ranged_kind key low high) m (suc q.line) → First ((ranged_kind key low high).rows m) n → Why lent text n (suc q.line)
      told n m d (inl (w, e)) = because 3 n (suc q.line) e (number_out key low high m d w)
      told n m d (inr (u, w)) = absurd w

  -- a capacity line of layer m, with its way
  capacity-on : (z : Sizes) (m way : ℕ) (key : String) (size : ℕ) {f : List ℕ → Chain Job} {q : Place} → Stack lent text z → suc q.line ≡ capacities_at z.dirs m way
      → At lent text (reads (capacity_kind key size (runs z.dirs way m)) f) q → Goes f q → End
  capacity-on z m way key size {q = q} k y a = reads_on refl a told
    where
      along : Bool
      along = runs z.dirs way m

      long : (cs : List ℕ) → (length cs ≢ size → ⊥) → length cs ≡ size
      long cs u = ⊎_elim (λ t. t.0) (λ t. absurd (u t.0)) (same_cases (length cs) size)

      told : (n : ℕ) (cs : List ℕ) → LineAt lent text (capacity_kind key size along) cs (suc q.line) → First ((capacity_kind key size along).rows cs) n → Why lent text n (suc q.line)
      told n cs d (inl (w, e)) = because 2 n (suc q.line) e (wrong_length key size along cs d w)
      told n cs d (inr (u, inl (w, e))) = because 3 n (suc q.line) e (capacity_out key size along cs d (long cs u) w)
      told n cs d (inr (u, inr (v, inl (w, e)))) = because 12 n (suc q.line) e (closed_layer z key size m way cs k d (long cs u) v w.0 w.1 y)
      told n cs d (inr (u, inr (v, inr (x, w)))) = absurd w

  -- a line that may be left out: the reading goes on behind it, where it stands
  may-on : {B C : Type 0} {k : Kind B (Option C)} {f : Option C → Chain Job} {q : Place} → k.number ≡ 2 → At lent text (may k none f) q
      → ((n : ℕ) (b : B) → ThereAt lent text k b (suc q.line) → First (k.rows b) n → Why lent text n (suc q.line))
      → (At lent text (f none) q → End) → ((b : B) (r : Place) → r.line ≡ suc q.line → At lent text (f (k.result b)) r → End) → End
  may-on {B} {C} {k} {f} {q} two a h absent there = go (behind (opening k) q.rest) refl
    where
      go : (o : Option (List ℕ)) → behind (opening k) q.rest ≡ o → End
      go none e = absent (past_absent a e)
      go (some v) e = then-there (text_chain lent text) (start text) (Why lent text) a e told there
        where
          told : (n : ℕ) → WrongLine k q n → Why lent text n (suc q.line)
          told n (form_wrong w m) = because 2 n (suc q.line) (m ∙ two) (wrong_there k none f q v a e two w refl)
          told n (row_wrong b r s w) = h n b (record { others = f; before = q; after = r; value = v; comes = a; there = e; stands = s; line = refl }) w

  dirs-on : (K : ℕ) {f : Option (List ℕ) → Chain Job} {q : Place} → At lent text (may (dirs_kind K) none f) q
      → ((ds : Option (List ℕ)) (r : Place) → r.line ≡ q.line + option_lines ds → At lent text (f ds) r → End) → End
  dirs-on K {f} {q} a g = may-on refl a told (g none q (omega arith)) (λ ds r h. g (some ds) r (omega arith))
    where
      told : (n : ℕ) (ds : List ℕ) → ThereAt lent text (dirs_kind K) ds (suc q.line) → First ((dirs_kind K).rows ds) n → Why lent text n (suc q.line)
      told n ds d (inl (w, e)) = because 2 n (suc q.line) e (wrong_letters K ds d w)
      told n ds d (inr (u, w)) = absurd w

  low-on : (K : ℕ) {f : Option ℕ → Chain Job} {q : Place} → At lent text (may (low_kind K) none f) q
      → ((low : Option ℕ) (r : Place) → r.line ≡ q.line + option_lines low → At lent text (f low) r → End) → End
  low-on K {f} {q} a g = may-on refl a told (g none q (omega arith)) (λ m r h. g (some m) r (omega arith))
    where
      told : (n m : ℕ) → ThereAt lent text (low_kind K) m (suc q.line) → First ((low_kind K).rows m) n → Why lent text n (suc q.line)
      told n m d (inl (w, e)) = because 3 n (suc q.line) e (low_out K m d w)
      told n m d (inr (u, w)) = absurd w

  net-on : (z : Sizes) (earlier : List Net) {f : Unit {0} → Chain Job} {q : Place} → OfNet lent text z earlier → suc q.line ≡ net_at lent text z earlier
      → At lent text (reads (net_kind (suc (length earlier))) f) q → Goes f q → End
  net-on z earlier {q = q} o y a = reads_on refl a told
    where
      i : ℕ
      i = suc (length earlier)

      told : (n m : ℕ) → LineAt lent text (net_kind i) m (suc q.line) → First ((net_kind i).rows m) n → Why lent text n (suc q.line)
      told n m d (inl (w, e)) = because 4 n (suc q.line) e (out_of_turn z earlier m o (subst (LineAt lent text (net_kind i) m) y d) w y)
      told n m d (inr (u, w)) = absurd w

  pins-on : (z : Sizes) (earlier : List Net) (low : Option ℕ) {f : List Pin → Chain Job} {q : Place} → OfTree lent text z earlier low → suc q.line ≡ pins_at lent text z earlier low
      → At lent text (reads (pins_kind z) f) q → Goes f q → End
  pins-on z earlier low {q = q} o y a = reads_on refl a told
    where
      told : (n : ℕ) (ps : List Triple) → LineAt lent text (pins_kind z) ps (suc q.line) → First ((pins_kind z).rows ps) n → Why lent text n (suc q.line)
      told n ps d (inl (w, e)) = because 3 n (suc q.line) e (pin_out z ps d w)
      told n ps d (inr (u, inl (w, e))) = because 5 n (suc q.line) e (pin_twice z earlier low ps o (subst (LineAt lent text (pins_kind z) ps) y d) u w y)
      told n ps d (inr (u, inr (v, w))) = absurd w

  edges-on : (z : Sizes) (earlier : List Net) (low : Option ℕ) (pins : List Pin) {f : List ℕ → Chain Job} {q : Place} → OfTree lent text z earlier low
      → suc q.line ≡ edges_at lent text z earlier low → At lent text (reads (edges_kind z pins) f) q → Goes f q → End
  edges-on z earlier low pins {q = q} o y a = reads_on refl a told
    where
      here : (es : List Triple) → LineAt lent text (edges_kind z pins) es (suc q.line) → LineAt lent text (edges_kind z pins) es (edges_at lent text z earlier low)
      here es = subst (LineAt lent text (edges_kind z pins) es) y

      told : (n : ℕ) (es : List Triple) → LineAt lent text (edges_kind z pins) es (suc q.line) → First ((edges_kind z pins).rows es) n → Why lent text n (suc q.line)
      told n es d (inl (w, e)) = because 3 n (suc q.line) e (edge_out z pins es d w)
      told n es d (inr (u, inl (w, e))) = because 6 n (suc q.line) e (edge_twice z earlier low pins es o (here es d) u w y)
      told n es d (inr (u, inr (v, inl (w, e)))) = because 8 n (suc q.line) e (not_reached z earlier low pins es o (here es d) u v w y)
      told n es d (inr (u, inr (v, inr (x, inl (w, e))))) = because 13 n (suc q.line) e (no_layer z earlier low pins es o (here es d) u v x w y)
      told n es d (inr (u, inr (v, inr (x, inr (t, w))))) = absurd w

  -- two lines for each layer: m of them, from layer l on
  layers-on : (z : Sizes) → Stack lent text z → (l m : ℕ) {k : List (List ℕ) → Chain Job} {q : Place} → suc q.line ≡ capacities_at z.dirs l 0
      → At lent text (layers_chain z l m k) q → ((cs : List (List ℕ)) (r : Place) → r.line ≡ q.line + 2 * m → At lent text (k cs) r → End) → End
  layers-on z st l zero {q = q} y a g = g [] q (omega arith) a
  layers-on z st l (suc m) y a g =
      capacity-on z l 0 "east" (east_count z.width z.height) st y a (λ east q1 e1 a1.
      capacity-on z l 1 "north" (north_count z.width z.height) st (omega arith) a1 (λ north q2 e2 a2.
      layers-on z st (suc l) m (omega arith) a2 (λ above r e. g ((east ++ north) ∷ above) r (omega arith))))

  -- the nets: `earlier` are read, and `left` others follow
  module _ (z : Sizes) (a b g : ℕ) (cs : List (List ℕ)) (N : ℕ) (stack : Stack lent text z) (nets : Nets lent text N) where
    nets-on : (earlier : List Net) (left : ℕ) {q : Place} → length earlier + left ≡ N → At lent text (nets_chain z (suc (length earlier)) left (ended lent text z a b g cs N earlier)) q
        → q.line ≡ lines_to z earlier → ((ns : List Net) (r : Place) → r.line ≡ lines_to z ns → At lent text (end_chain lent N (job_of z a b g cs ns)) r → End) → End
    nets-on earlier zero {q} n at e k =
        let whole : earlier ++ [] ≡ earlier = append-nil earlier in
        k earlier q e (subst (λ (ns : List Net). At lent text (end_chain lent N (job_of z a b g cs ns)) q) whole at)
    nets-on earlier (suc left) {q} n at e k =
        net-on z earlier net (omega arith) at (λ u q1 e1 a1.
        low-on z.layers a1 (λ low q2 e2 a2.
        pins-on z earlier low (tree low q2 a2) (omega arith) a2 (λ pins q3 e3 a3.
        edges-on z earlier low pins (tree low q2 a2) (omega arith) a3 (λ edges q4 e4 a4.
        nets-on (earlier ++ (net_with z low pins edges ∷ [])) left
        (omega (arith, length-snoc earlier (net_with z low pins edges)))
        (further (net_with z low pins edges) q4 a4)
        (omega (arith, lines_snoc earlier (net_with z low pins edges))) k))))
      where
        net : OfNet lent text z earlier
        net = record {
          alpha = a;
          beta = b;
          gamma = g;
          capacities = cs;
          left = left;
          place = q;
          stack = stack;
          nets = subst (Nets lent text) (sym n) nets;
          comes = subst (λ (m : ℕ). At lent text (nets_chain z (suc (length earlier)) (suc left) (ended lent text z a b g cs m earlier)) q) (sym n) at;
        }

        rest : ℕ → Net → Chain Job
        rest m x = nets_chain z (suc (suc (length earlier))) left (λ others. ended lent text z a b g cs m earlier (x ∷ others))

        tree : (low : Option ℕ) (r : Place) → At lent text (tree_chain z low (rest N)) r → OfTree lent text z earlier low
        tree low r c = record { net = net; place = r; comes = subst (λ (m : ℕ). At lent text (tree_chain z low (rest m)) r) (sym n) c }

        further : (x : Net) (r : Place) → At lent text (rest N x) r → At lent text (nets_chain z (suc (length (earlier ++ (x ∷ [])))) left (ended lent text z a b g cs N (earlier ++ (x ∷ [])))) r
        further x r c =
            subst (λ (m : ℕ). At lent text (nets_chain z (suc m) left (ended lent text z a b g cs N (earlier ++ (x ∷ [])))) r) (sym (length-snoc earlier x))
            (subst (λ (f : List Net → Chain Job). At lent text (nets_chain z (suc (suc (length earlier))) left f) r)
            (λ i others. end_chain lent N (job_of z a b g cs (sym (append_snoc earlier x others) i))) c)

  -- one test at the line read last
  test_on : (m : ℕ) {b : Bool} {Wrong : Type 0} {w : (b ≡ false) ↔ Wrong} {s : Chain Job} {q : Place} → At lent text (tests (one m b Wrong w) s) q
      → (Wrong → Why lent text m q.line) → (At lent text s q → End) → End
  test_on m {b} {Wrong} {w} {q = q} a h = then-tests (text_chain lent text) (start text) (Why lent text) a told
    where
      told : (n : ℕ) → First (one m b Wrong w) n → Why lent text n q.line
      told n (inl (x, e)) = because m n q.line e (h x)
      told n (inr (u, x)) = absurd x

  -- the whole text
  decided : End
  decided =
      test_on 1 begun (λ h. too_long h refl) (λ a0.
      ranged-on "width" least_side most_side a0 (λ W q1 e1 a1.
      ranged-on "height" least_side most_side a1 (λ H q2 e2 a2.
      ranged-on "layers" least_layers most_layers a2 (λ K q3 e3 a3.
      dirs-on K a3 (λ ds q4 e4 a4.
      let z : Sizes = record { width = W; height = H; layers = K; dirs = ds } in
      let stack : Stack lent text z = (q4, a4) in
      test_on 9 a4 (λ h. working_short z q4 a4 h (omega arith) (omega arith)) (λ a5.
      ranged-on "alpha" 0 most_weight a5 (λ a q6 e6 a6.
      ranged-on "beta" 0 most_weight a6 (λ b q7 e7 a7.
      ranged-on "gamma" 0 most_weight a7 (λ g q8 e8 a8.
      layers-on z stack 1 K (omega arith) a8 (λ cs q9 e9 a9.
      ranged-on "nets" 0 most_nets a9 (λ N q10 e10 a10.
      let nets : Nets lent text N = (_, q10, a10) in
      test_on 10 a10 (λ h. order_short z N _ q10 stack a10 h (omega arith) (omega arith)) (λ a11.
      nets-on z a b g cs N stack nets [] N (omega arith) a11 (omega arith) (λ ns q12 e12 a12.
      then-end (text_chain lent text) (start text) (Why lent text) a12 (λ h. text_after _ q12 a12 h refl) (λ a13.
      let j : Job = job_of z a b g cs ns in
      test_on 11 a13 (λ h. room_short z N j _ q12 stack nets a13 h e12 e12) (λ a14.
      inr (j, q12, a14))))))))))))))))

  refused_why : (n l : ℕ) → read lent text ≡ refused n l → Why lent text n l
  refused_why n l e = decided-refused (text_chain lent text) (start text) (Why lent text) decided n l (sym (read_is lent text) ∙ e)

  -- ---- the table as laws

  -- a text is refused with the number n and the line l exactly where the row of n fits it with this line
  pub refused-iff : (n l : ℕ) → (read lent text ≡ refused n l) ↔ Why lent text n l
  refused-iff n l = (refused_why n l, why-refused n l)

  -- "1, 0: text above 1,048,576 bytes"
  pub one-iff : (l : ℕ) → (read lent text ≡ refused 1 l) ↔ TooLong lent text l
  one-iff = refused-iff 1

  -- "2, the line: wrong key, form or list length, missing line, text after the last line"
  pub two-iff : (l : ℕ) → (read lent text ≡ refused 2 l) ↔ WrongAt lent text l
  two-iff = refused-iff 2

  -- "3, the line: a number outside its range, an edge leaving the grid"
  pub three-iff : (l : ℕ) → (read lent text ≡ refused 3 l) ↔ RangeAt lent text l
  three-iff = refused-iff 3

  -- "4, the line: net number out of turn"
  pub four-iff : (l : ℕ) → (read lent text ≡ refused 4 l) ↔ TurnAt lent text l
  four-iff = refused-iff 4

  -- "5, the line: same tile and layer twice on `pins`"
  pub five-iff : (l : ℕ) → (read lent text ≡ refused 5 l) ↔ PinTwiceAt lent text l
  five-iff = refused-iff 5

  -- "6, the line: same edge twice on `edges`"
  pub six-iff : (l : ℕ) → (read lent text ≡ refused 6 l) ↔ EdgeTwiceAt lent text l
  six-iff = refused-iff 6

  -- "Refusal 7 never occurs from now on"
  pub seven-iff : (l : ℕ) → (read lent text ≡ refused 7 l) ↔ RingAt lent text l
  seven-iff = refused-iff 7

  pub never-seven : (l : ℕ) → read lent text ≡ refused 7 l → ⊥
  never-seven l e = nothing ((seven-iff l).0 e)

  -- "8, the `edges` line: no ring, but a pin or edge not reached from the first pin's tile along the edges"
  pub eight-iff : (l : ℕ) → (read lent text ≡ refused 8 l) ↔ ReachAt lent text l
  eight-iff = refused-iff 8

  -- "9, 3: fewer working numbers than needed"
  pub nine-iff : (l : ℕ) → (read lent text ≡ refused 9 l) ↔ WorkingAt lent text l
  nine-iff = refused-iff 9

  -- "10, the `nets` line: fewer order entries than N"
  pub ten-iff : (l : ℕ) → (read lent text ≡ refused 10 l) ↔ OrderAt lent text l
  ten-iff = refused-iff 10

  -- "11, the last line: answer list or print buffer too short"
  pub eleven-iff : (l : ℕ) → (read lent text ≡ refused 11 l) ↔ RoomAt lent text l
  eleven-iff = refused-iff 11

  -- "12, on a capacity line, after 3, a nonzero capacity on a layer that runs the other way"
  pub twelve-iff : (l : ℕ) → (read lent text ≡ refused 12 l) ↔ ClosedAt lent text l
  twelve-iff = refused-iff 12

  -- "13, on an `edges` line, after 8 and before 11, an edge whose direction has no layer"
  pub thirteen-iff : (l : ℕ) → (read lent text ≡ refused 13 l) ↔ NoLayerAt lent text l
  thirteen-iff = refused-iff 13

  -- no refusal has another number
  pub number-range : (n l : ℕ) → read lent text ≡ refused n l → (1 ≤ n) × (n ≤ 13)
  number-range n l e = go n (refused_why n l e)
    where
      go : (m : ℕ) → Why lent text m l → (1 ≤ m) × (m ≤ 13)
      go zero w = nothing w
      go (suc m) w = omega (arith, row_below (table lent text) m l w)

  -- at most one row fits, with one line
  pub one-row : (n l m k : ℕ) → Why lent text n l → Why lent text m k → (n ≡ m) × (l ≡ k)
  one-row n l m k v w = same-refusal (sym (why-refused n l v) ∙ why-refused m k w)

  -- "A job, its text and the lent lengths together, is accepted where no row of the table below fits it"
  pub accepted-none : (j : Job) (p : Place) → read lent text ≡ found j p → (n l : ℕ) → Why lent text n l → ⊥
  accepted-none j p e n l w = refused-found (sym (why-refused n l w) ∙ e)

  pub none-accepted : ((n l : ℕ) → Why lent text n l → ⊥) → (j : Job) × (p : Place) × (read lent text ≡ found j p)
  none-accepted h = go (read lent text) refl
    where
      go : (r : Result Job) → read lent text ≡ r → (j : Job) × (p : Place) × (read lent text ≡ found j p)
      go (refused n l) e = absurd (h n l (refused_why n l e))
      go (found j p) e = (j, p, e)

  -- it is so exactly where every line is in order and nothing follows the last one
  pub accepted-iff : (j : Job) (p : Place) → (read lent text ≡ found j p) ↔ At lent text (done j) p
  accepted-iff j p =
      let d = decided-found (text_chain lent text) (start text) (Why lent text) decided j p in
      (λ e. d.0 (sym (read_is lent text) ∙ e), λ a. read_is lent text ∙ d.1 a)
