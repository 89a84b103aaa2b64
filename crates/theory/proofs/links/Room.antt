-- What is written fits: the plan into the answer list, the printed text into a print buffer of 256 + 64 × N + 2 × A bytes.
-- Assumes nothing.
use Rattle.std.specs.Prelude.{◌≡◌, Bool, true, false, cond, eqb, length}
use Rattle.std.proofs.Common.{arith, mul-le-mul, length-append}
use mathlib.Core.List.{List, [], ◌∷◌, ◌++◌, map}
use Prim.Native.Nat.{ℕ, suc, ◌+◌, ◌-◌, ◌*◌, ◌≤◌, ◌<◌}
use Prim.Native.String.{String}
use Rattle.std.proofs.lemmas.List.{length-map}
use Rattle.model.specs.Lists.{up_from, sum}
use Rattle.model.specs.Text.{bytes, decimal, decimals}
use Rattle.model.specs.Layering.{IsChoice, IsLayering}
use Rattle.model.specs.Job.{Net, Job, net_count, tile_count, edge_count, net_edges, entry_count, lengths}
use Rattle.model.specs.Score.{Entry, order}
use Rattle.model.specs.Vias.{vias}
use Rattle.model.specs.Plan.{layer_of, plan, answered, net_vias, total_vias}
use Rattle.model.specs.Overflow.{total_overflow, max_overflow}
use Rattle.model.specs.Directives.{ldof, has_low}
use Rattle.model.specs.Print.{print_line, print_net, print_nets, ldof_line, printed}
use Rattle.model.specs.Read.{Lent, print_need}
use Rattle.model.specs.Calls.{stretches}
use Rattle.model.specs.Demand3.{turns}
use Rattle.theory.specs.congestion.Sums.{In, in_head, in_tail}
use Rattle.theory.specs.congestion.Base.{in-up_from}
use Rattle.theory.specs.links.Directives.{ldof-few}
use Rattle.theory.specs.links.Dropped.{answered-long, layering-long}
use Rattle.theory.specs.links.Groups.{maximum-both}
use Rattle.theory.specs.links.Layers.{layering-all}
use Rattle.theory.specs.links.Nets.{NetOk, EachNet}
use Rattle.theory.specs.links.Reading.{Accepted}
use Rattle.theory.specs.links.Planned.{turn-net}
use Rattle.theory.proofs.links.Planned.{plan-meets, plan-maximum}
use Rattle.theory.proofs.links.Meets.{order-long}
use Rattle.theory.specs.links.Limits.{vias-few, total-small, limit-small}
use Rattle.theory.specs.links.Room.{decimal-few}

-- ---- digits

-- numbers of at most m digits, comma between
abbrev EachDecimal : ℕ → List ℕ → Type 0
EachDecimal m [] = Unit {0}
EachDecimal m (n ∷ ns) = (length (decimal n) ≤ m) × EachDecimal m ns

decimals-few : (m : ℕ) (ns : List ℕ) → EachDecimal m ns → length (decimals ns) ≤ length ns * (m + 1)
decimals-few m [] h = omega arith
decimals-few m (n ∷ []) h = omega (arith, h.0)
decimals-few m (n ∷ a ∷ ns) h = omega (arith, h.0, length-append (decimal n) (44 ∷ decimals (a ∷ ns)), decimals-few m (a ∷ ns) h.1)

line-long : (key : String) (ns : List ℕ) → length (print_line key ns) ≡ length (bytes key) + length (decimals ns) + 2
line-long key ns =
    omega (arith, length-append (bytes key ++ (61 ∷ decimals ns)) (10 ∷ []), length-append (bytes key) (61 ∷ decimals ns))

-- ---- a net's lines

layer-small : (K : ℕ) (ks ys : List ℕ) (e : ℕ) → IsChoice (λ d. up_from 1 K) ks ys → layer_of ks ys e ≤ K
layer-small K [] ys e h = omega arith
layer-small K (a ∷ ks) [] e h = absurd h
layer-small K (a ∷ ks) (y ∷ ys) e h = go (eqb a e) (omega (arith, (in-up_from y 1 K).0 h.0)) (layer-small K ks ys e h.1)
  where
    go : (q : Bool) → y ≤ K → layer_of ks ys e ≤ K → cond q y (layer_of ks ys e) ≤ K
    go true m n = m
    go false m n = n

-- the layers of the entries es of a net with the edges ks, 0 for a dropped one
layers-few : (K : ℕ) → K ≤ 8 → (es ks ys : List ℕ) → IsChoice (λ e. up_from 1 K) ks ys → EachDecimal 1 (map (layer_of ks ys) es)
layers-few K k [] ks ys h = tt
layers-few K k (e ∷ es) ks ys h = (decimal-few 0 (layer_of ks ys e) (omega (arith, layer-small K ks ys e h)), layers-few K k es ks ys h)

net-few : (K : ℕ) → K ≤ 8 → (i v : ℕ) → i ≤ 4096 → v ≤ 28_672 → (es ks ys : List ℕ) → IsChoice (λ e. up_from 1 K) ks ys
    → length (print_net i v (map (layer_of ks ys) es)) ≤ 28 + 2 * length es
net-few K k i v hi hv es ks ys g =
    omega (
      arith,
      length-append (print_line "net" (i ∷ []) ++ print_line "vias" (v ∷ [])) (print_line "layers" (map (layer_of ks ys) es)),
      length-append (print_line "net" (i ∷ [])) (print_line "vias" (v ∷ [])),
      line-long "net" (i ∷ []),
      line-long "vias" (v ∷ []),
      line-long "layers" (map (layer_of ks ys) es),
      decimal-few 3 i (omega arith),
      decimal-few 4 v (omega arith),
      decimals-few 1 (map (layer_of ks ys) es) (layers-few K k es ks ys g),
      length-map es (layer_of ks ys),
    )

module _ (j : Job) (W64 : j.width ≤ 64) (H64 : j.height ≤ 64) (K8 : j.layers ≤ 8) where
  tiles-few : tile_count j ≤ 4096
  tiles-few = omega (arith, mul-le-mul W64 H64)

  net-vias : (n : Net) (ys : List ℕ) → NetOk j.width j.height j.layers n → IsChoice (λ e. up_from 1 j.layers) n.edges ys
      → vias j n.pins n.edges ys ≤ 28_672
  net-vias n ys ok g =
      let k : j.layers - 1 ≤ 7 = omega arith in
      omega (arith, vias-few j n.pins n.edges ys ok.pins_layers g, mul-le-mul tiles-few k)

  nets-few : (i : ℕ) (ns : List Net) (ys : List (List ℕ)) → EachNet (NetOk j.width j.height j.layers) ns
      → IsLayering (λ e. up_from 1 j.layers) (map (λ n. n.edges) ns) ys → i + length ns ≤ 4097
      → length (print_nets i (net_vias j ns ys) (answered ns ys)) ≤ 28 * length ns + 2 * lengths (map (λ n. n.entries) ns)
  nets-few i [] [] h g b = omega arith
  nets-few i [] (y ∷ ys) h g b = absurd g
  nets-few i (n ∷ ns) [] h g b = absurd g
  nets-few i (n ∷ ns) (y ∷ ys) h g b =
      omega (
        arith,
        length-append (print_net i (vias j n.pins n.edges y) (map (layer_of n.edges y) n.entries)) (print_nets (suc i) (net_vias j ns ys) (answered ns ys)),
        net-few j.layers K8 i (vias j n.pins n.edges y) (omega arith) (net-vias n y h.0 g.0) n.entries n.edges y g.0,
        nets-few (suc i) ns ys h.1 g.1 (omega arith),
      )

  vias-total : (ns : List Net) (ys : List (List ℕ)) → EachNet (NetOk j.width j.height j.layers) ns
      → IsLayering (λ e. up_from 1 j.layers) (map (λ n. n.edges) ns) ys → sum (λ v. v) (net_vias j ns ys) ≤ length ns * 28_672
  vias-total [] [] h g = omega arith
  vias-total [] (y ∷ ys) h g = absurd g
  vias-total (n ∷ ns) [] h g = absurd g
  vias-total (n ∷ ns) (y ∷ ys) h g = omega (arith, net-vias n y h.0 g.0, vias-total ns ys h.1 g.1)

-- ---- the whole text

order-few : (N : ℕ) → N ≤ 4096 → (ts : List Entry) → ((k : ℕ) → In k (turns ts) → k < N) → EachDecimal 4 (map (λ t. t.net) ts)
order-few N h [] f = tt
order-few N h (t ∷ ts) f =
    (decimal-few 3 t.net (omega (arith, f (t.net - 1) (in_head (t.net - 1) (turns ts)))), order-few N h ts (λ k i. f k (in_tail k (t.net - 1) (turns ts) i)))

module _ (lent : Lent) (j : Job) (acc : Accepted lent j) where
  layering : IsLayering (λ e. up_from 1 j.layers) (net_edges j) (plan j)
  layering = layering-all j (net_edges j) (plan j) (plan-meets lent j acc).is_layering

  -- "An answer list of A bytes"
  pub plan-long : length (stretches (answered j.nets (plan j))) ≡ entry_count j
  plan-long = answered-long j.nets (plan j) (layering-long (λ e. up_from 1 j.layers) j.nets (plan j) layering)

  pub total-vias-few : total_vias j (plan j) ≤ net_count j * 28_672
  total-vias-few = vias-total j acc.width.1 acc.height.1 acc.layers.1 j.nets (plan j) acc.nets layering

  edges_few : edge_count j ≤ 8192
  edges_few =
      let w : j.width - 1 ≤ 64 = omega (arith, acc.width.1) in
      let h : j.height - 1 ≤ 64 = omega (arith, acc.height.1) in
      omega (arith, mul-le-mul w acc.height.1, mul-le-mul acc.width.1 h)

  -- "a print buffer of 256 + 64 × N + 2 × A bytes"
  pub print-room : length (printed j (order j) (plan j)) ≤ print_need (net_count j) (entry_count j)
  unfolding printed
  print-room = finish (mul-le-mul edges_few acc.count_of_nets)
    where
      one : List ℕ
      one = print_line "order" (map (λ t. t.net) (order j))

      two : List ℕ
      two = print_nets 1 (net_vias j j.nets (plan j)) (answered j.nets (plan j))

      three : List ℕ
      three = print_line "total_vias" (total_vias j (plan j) ∷ [])

      four : List ℕ
      four = print_line "total_overflow" (total_overflow j (plan j) ∷ [])

      five : List ℕ
      five = print_line "max_overflow" (max_overflow j (plan j) ∷ [])

      first-line : length one ≤ 7 + 5 * net_count j
      first-line =
          omega (
            arith,
            line-long "order" (map (λ t. t.net) (order j)),
            decimals-few 4 (map (λ t. t.net) (order j)) (order-few (net_count j) acc.count_of_nets (order j) (turn-net lent j acc)),
            length-map {B = ℕ} (order j) (λ t. t.net),
            order-long lent j acc,
          )

      vias-line : length three ≤ 21
      vias-line = omega (arith, line-long "total_vias" (total_vias j (plan j) ∷ []), decimal-few 8 (total_vias j (plan j)) (omega (arith, total-vias-few, acc.count_of_nets)))

      total-line : edge_count j * net_count j ≤ 33_554_432 → length four ≤ 24
      total-line b =
          omega (
            arith,
            line-long "total_overflow" (total_overflow j (plan j) ∷ []),
            decimal-few 7 (total_overflow j (plan j)) (omega (arith, b, (plan-meets lent j acc).least_total, total-small lent j acc)),
          )

      last : List ℕ
      last = ldof_line j

      last_line : edge_count j * net_count j ≤ 33_554_432 → length last ≤ 14
      last_line b = go (has_low j)
        where
          go : (h : Bool) → length (cond h (print_line "ldof" (ldof j ∷ [])) []) ≤ 14
          go true = omega (arith, line-long "ldof" (ldof j ∷ []), decimal-few 7 (ldof j) (omega (arith, b, ldof-few j)))
          go false = omega arith

      maximum-line : length five ≤ 18
      maximum-line =
          omega (
            arith,
            line-long "max_overflow" (max_overflow j (plan j) ∷ []),
            decimal-few 3 (max_overflow j (plan j)) (omega (arith, maximum-both j (plan j), plan-maximum lent j acc 0, plan-maximum lent j acc 1, limit-small lent j acc 0, limit-small lent j acc 1, acc.count_of_nets)),
          )

      finish : edge_count j * net_count j ≤ 33_554_432 → length (one ++ two ++ three ++ four ++ five ++ last) ≤ 256 + 64 * net_count j + 2 * entry_count j
      finish b =
          omega (
            arith,
            length-append (one ++ two ++ three ++ four ++ five) last,
            length-append (one ++ two ++ three ++ four) five,
            length-append (one ++ two ++ three) four,
            length-append (one ++ two) three,
            length-append one two,
            first-line,
            nets-few j acc.width.1 acc.height.1 acc.layers.1 1 j.nets (plan j) acc.nets layering (omega (arith, acc.count_of_nets)),
            vias-line,
            total-line b,
            maximum-line,
            last_line b,
          )
