-- `print_nets` meets its contract: the last line is found, which changes marks and links alone; the plan is made, and its text is written from the net table and
-- the answer list (`Steps.antt`).
-- Assumes nothing.
use mathlib.Core.List.{List}
use mathlib.Core.Path.{◌≡◌, refl, ◌∙◌}
use native.Mathlib.Omega.{arith}
use Prim.Native.Nat.{ℕ}
use lib.ListN.{length}
use Rattle.model.specs.Job.{Job}
use Rattle.model.specs.Print.{ldof_line}
use Rattle.model.specs.Read.{Lent}
use Rattle.print.specs.Texts.{ldof_text}
use Rattle.planning.specs.Closing.{Turned, turned-remarked, PlanMade}
use Rattle.planning.proofs.Steps.{directives-asked, directives-some, rows-there, text-fits, print-made}
use Rattle.planning.proofs.print_nets.Goals as goal
use Rattle.planning.proofs.print_nets.Goals.{After-ldof_of-last, After-place_nets-t}

-- the last line is found
module _ (c : After-ldof_of-last) where
  abbrev w' : List ℕ
  w' = c.ldof_of-last.new.w

  still : (lent : Lent) (j : Job) → Turned 3 c.args.s.now c.args.h c.args.w.now c.args.table.now (length c.args.answer.now) lent j
      → Turned 4 c.args.s.now c.args.h w' c.args.table.now (length c.args.answer.now) lent j
  still lent j at = turned-remarked 3 4 c.args.s.now c.args.h c.args.w.now w' c.args.table.now (length c.args.answer.now) lent j at c.ldof_of-last.ensures.remarked

  last_told : (lent : Lent) (j : Job) → Turned 3 c.args.s.now c.args.h c.args.w.now c.args.table.now (length c.args.answer.now) lent j → ldof_text c.ldof_of-last.result ≡ ldof_line j
  last_told lent j at =
      let x = c.args in
      c.ldof_of-last.ensures.result_value lent j (directives-asked x.s.now x.h x.w.now x.table.now (length x.answer.now) lent j at) at.given.capacities at.given.count

-- the nets are placed, seen from behind the print
module _ (c : After-place_nets-t) where
  made : (lent : Lent) (j : Job) → Turned 3 c.args.s.now c.args.h c.args.w.now c.args.table.now (length c.args.answer.now) lent j
      → PlanMade j c.args.answer.now c.place_nets-t.new.answer c.place_nets-t.new.table c.place_nets-t.result
  made lent j at = c.place_nets-t.ensures.plan_made lent j (still (goal.at.After-place_nets-t c).After-ldof_of-last lent j at)

pub ldof_of-last-requires : goal.ldof_of-last-requires
ldof_of-last-requires c =
    let x = c.args in
    let o = c.requires in
    let at = o.turned in record { g_in_bounds = (omega (arith, at.given.room), at.given.unmarked); asked_some = directives-some x.s.now x.h x.w.now x.table.now (length x.answer.now) o.lent o.job at }

pub place_nets-t-requires : goal.place_nets-t-requires
place_nets-t-requires c =
    let o = c.requires in
    record { lent = o.lent; job = o.job; turned = still (goal.at.place_nets-t-requires c).After-ldof_of-last o.lent o.job o.turned }

pub put_plan-size-requires : goal.put_plan-size-requires
put_plan-size-requires c =
    let x = c.args in
    let o = c.requires in
    let is = made (goal.at.put_plan-size-requires c).After-place_nets-t o.lent o.job o.turned in
    let told = last_told (goal.at.put_plan-size-requires c).After-ldof_of-last o.lent o.job o.turned in record { rows = rows-there x.s.now x.h x.w.now x.table.now x.answer.now c.place_nets-t.new.answer c.place_nets-t.new.table c.place_nets-t.result o.lent o.job o.turned is c.ldof_of-last.result told; last_in_bounds = text-fits x.s.now x.h x.w.now x.table.now x.answer.now c.place_nets-t.new.answer c.place_nets-t.new.table c.place_nets-t.result o.lent o.job o.turned is c.ldof_of-last.result told x.out.now o.bytes_room }

pub shape_of-w : goal.shape_of-w
shape_of-w c =
    c.place_nets-t.ensures.w_len_unchanged ∙ c.ldof_of-last.ensures.remarked.out.long

pub returns : goal.returns
returns c =
    let x = c.args in record {
      print_done = record {
        totals = c.place_nets-t.result;
        size = c.put_plan-size.result;
        is = refl;
        table' = c.place_nets-t.new.table;
        made = made (goal.at.returns c).After-place_nets-t;
        told = λ lent j at room.
            print-made x.s.now x.h x.w.now x.table.now x.answer.now c.place_nets-t.new.answer c.place_nets-t.new.table c.place_nets-t.result lent j at (made (goal.at.returns c).After-place_nets-t lent j at)
            c.ldof_of-last.result (last_told (goal.at.returns c).After-ldof_of-last lent j at) x.out.now room c.put_plan-size.new.b c.put_plan-size.result c.put_plan-size.ensures.b_after c.put_plan-size.ensures.value;
      };
      w_len_unchanged = c.place_nets-t.ensures.w_len_unchanged ∙ c.ldof_of-last.ensures.remarked.out.long;
    }
