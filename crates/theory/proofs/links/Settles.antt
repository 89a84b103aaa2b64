-- What the record `Met` of demand 3 settles by itself, of any returned numbers and any buffers, and that both calls settle it.
-- Assumes nothing.
use Rattle.std.specs.Prelude.{◌≡◌, List, [], ℕ, get_or}
use Rattle.std.proofs.Common.{◌∙◌, subst}
use Rattle.model.specs.Calls.{Returned, Buffers, plan_lent, plan_call, print_lent, print_call}
use Rattle.model.specs.Demand3.{Considered, Demand3, plan_in, Met}
use Rattle.model.specs.Job.{Job}
use Rattle.model.specs.Read.{Lent, found, Place, read}
use Rattle.model.specs.Score.{Entry, order}
use Rattle.theory.proofs.links.Meets.{demand3-to, plan-meets-demand3, print-meets-demand3}
use Rattle.theory.specs.links.Settles.{met-settles, place_at, Completes, Settled}
use Rattle.theory.proofs.links.Planned.{demand3-turn}
use Rattle.theory.specs.links.Reading.{accepted}

considered-whole : (j : Job) (plan : List (List ℕ)) (i : ℕ) (ys : List ℕ) → Considered j (order j) plan i ys → (whole : List (List ℕ)) × Completes j plan i ys whole
considered-whole j plan i ys c = (c.layering, (c.is_layering, c.earlier, c.this, c.total, c.maximum))

whole-considered : (j : Job) (plan : List (List ℕ)) (i : ℕ) (ys : List ℕ) (whole : List (List ℕ)) → Completes j plan i ys whole → Considered j (order j) plan i ys
whole-considered j plan i ys whole h = record { layering = whole; is_layering = h.0; earlier = h.1; this = h.2; total = h.3; maximum = h.4 }

-- For every accepted job the record says all of this: the turns are those of the scores, and at a turn whose earlier nets were placed legally a
-- choice is to be considered just where it is legal.
pub met-says : (lent : Lent) (text : List ℕ) (j : Job) (p : Place) → read lent text ≡ found j p
    → (r : Returned) (b : Buffers) → Met j r b → Settled j r b.order (plan_in j b.answer)
met-says lent text j p e r b m = record {
  number = m.number;
  line = m.line;
  order_list = m.order_told;
  is_layering = m.demand.is_layering;
  total = m.demand.total;
  maximum = m.demand.maximum;
  least_total = λ ys h. (m.demand.none_lower ys h).0;
  least_maximum = λ ys h. (m.demand.none_lower ys h).1;
  vias_told = m.vias_told;
  total_told = m.total_told ∙ m.demand.total;
  maximum_told = (met-settles j r b m).4;
  some_choice = λ i h. let c = d.exists i h in let w = considered-whole j plan i c.0 c.1 in (c.0, w.0, w.1);
  completes = λ i h. considered-whole j plan i (get_or plan (place_at j i) []) (d.considered i h);
  legal = λ i h. (demand3-turn lent j (accepted lent text j p e) plan (demand3-to lent j (accepted lent text j p e) plan d) i h).0;
  fewest = λ i h. (demand3-turn lent j (accepted lent text j p e) plan (demand3-to lent j (accepted lent text j p e) plan d) i h).1;
  fewest_of_all = λ i h ys whole c. d.cheapest i h ys (whole-considered j plan i ys whole c);
}
  where
    plan : List (List ℕ)
    plan = plan_in j b.answer

    d : Demand3 j (order j) (plan_in j b.answer)
    d = subst (λ (es : List Entry). Demand3 j es (plan_in j b.answer)) m.order_told m.demand

-- of the two calls
pub plan-settles : (text : List ℕ) (b : Buffers) (j : Job) (p : Place) → read (plan_lent b) text ≡ found j p
    → Settled j (plan_call text b).returned (plan_call text b).buffers.order (plan_in j (plan_call text b).buffers.answer)
plan-settles text b j p e = met-says (plan_lent b) text j p e (plan_call text b).returned (plan_call text b).buffers (plan-meets-demand3 text b j p e)

pub print-settles : (text : List ℕ) (b : Buffers) (out : List ℕ) (j : Job) (p : Place) → read (print_lent b out) text ≡ found j p
    → Settled j (print_call text b out).returned (print_call text b out).buffers.order (plan_in j (print_call text b out).buffers.answer)
print-settles text b out j p e =
    met-says (print_lent b out) text j p e (print_call text b out).returned (print_call text b out).buffers (print-meets-demand3 text b out j p e)
