-- `open_job` meets its contract: a refusal is the reading's own; of a job that is found the flat capacities and the scores are put in their places (`Steps.antt`).
-- Assumes nothing.
use native.Mathlib.Omega.{arith}
use lib.ListN.{length}
use Rattle.reader.specs.Whole.{lent_by}
use Rattle.planning.proofs.Steps.{shaped, nets-few, flat-room, small, reading-marks, some-job, opened}
use Rattle.planning.proofs.open_job.Goals as goal

pub flat_capacities-requires : goal.flat_capacities-requires
flat_capacities-requires c =
    let x = c.args in
    let k = c.in_ok-h.ensures.job_told in record { g_in_bounds = flat-room x.s.now (lent_by (length x.w.now) x.lists.order x.lists.answer x.lists.print) c.read_job.new.w c.read_job.new.table c.in_ok-h.h k; small_capacities = small x.s.now (lent_by (length x.w.now) x.lists.order x.lists.answer x.lists.print) c.read_job.new.w c.read_job.new.table c.in_ok-h.h k }

pub weights_of-requires : goal.weights_of-requires
weights_of-requires c =
    let x = c.args in
    let k = c.in_ok-h.ensures.job_told in
    nets-few x.s.now (lent_by (length x.w.now) x.lists.order x.lists.answer x.lists.print) c.read_job.new.w c.read_job.new.table c.in_ok-h.h k

pub score_nets-requires : goal.score_nets-requires
score_nets-requires c =
    let x = c.args in
    let k = c.in_ok-h.ensures.job_told in record {
      g_in_bounds = (
        omega (arith, k.checked.room, c.flat_capacities.ensures.outside.long),
        reading-marks x.s.now (lent_by (length x.w.now) x.lists.order x.lists.answer x.lists.print) c.read_job.new.w c.read_job.new.table c.in_ok-h.h k c.flat_capacities.new.w c.flat_capacities.ensures.flat_capacities c.flat_capacities.ensures.outside,
      );
      some_job = some-job x.s.now (lent_by (length x.w.now) x.lists.order x.lists.answer x.lists.print) c.read_job.new.w c.read_job.new.table c.in_ok-h.h k c.flat_capacities.new.w c.flat_capacities.ensures.flat_capacities c.flat_capacities.ensures.outside c.weights_of.result c.weights_of.ensures;
    }

pub returns : goal.returns
returns c =
    let x = c.args in
    let k = c.in_ok-h.ensures.job_told in
    opened x.s.now (lent_by (length x.w.now) x.lists.order x.lists.answer x.lists.print) c.read_job.new.w c.read_job.new.table c.in_ok-h.h k c.flat_capacities.new.w c.flat_capacities.ensures.flat_capacities c.flat_capacities.ensures.outside c.weights_of.result c.weights_of.ensures c.score_nets.new.w c.score_nets.new.table c.score_nets.ensures.scored c.score_nets.ensures.remarked
