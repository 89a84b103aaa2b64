-- `read_body` meets its contract.
-- Assumes nothing.
use mathlib.Core.Path.{sym}
use Prim.Native.Nat.{◌≤◌}
use lib.ListN.{length}
use Rattle.std.proofs.lemmas.Result.{err_from_is_err_and}
use Rattle.theory.specs.links.JobText.{option_lines, option-few}
use Rattle.layout.specs.Dirs.{dirs_of}
use Rattle.layout.specs.declared.shape.Shape.{Shape}
use Rattle.head.specs.Reads.{body_in}
use Rattle.head.proofs.Rooms.{capacities-room}
use native.Mathlib.Omega.{arith}
use Rattle.head.proofs.read_body.Goals as goal

few : (g : Shape) → option_lines (dirs_of g.k g.dirs) ≤ 1
few g = option-few (dirs_of g.k g.dirs)

pub read_weights-requires : goal.read_weights-requires
read_weights-requires c =
    (c.requires.at_in_bounds.0, omega (arith, c.requires.at_in_bounds.1, few c.args.g))

pub all_layers-requires : goal.all_layers-requires
all_layers-requires c =
    let x = c.in_ok-weights.ensures.weights_hold.1 in
    record { at_in_bounds = (x.place, omega (arith, x.lines, c.requires.at_in_bounds.1, few c.args.g)); e_in_bounds = capacities-room c.args.g (length c.args.w.now) c.args.g.shaped c.requires.k_in_bounds }

pub nets_line-requires : goal.nets_line-requires
nets_line-requires c =
    let x = c.in_ok-weights.ensures.weights_hold.1 in
    let y = c.in_ok-e.ensures.list_in in
    (y.place, omega (arith, y.lines, x.lines, c.requires.at_in_bounds.1, few c.args.g, c.args.g.shaped.k_most))

pub returns-in_err-weights-clause-result_after : goal.returns-in_err-weights-clause-result_after
unfolding body_in
returns-in_err-weights-clause-result_after c =
    let p = err_from_is_err_and c.from_residual.result c.from_residual.ensures.1 in
    rw (p.1, p.2) (sym (rw (sym c.in_err-weights.ensures.result_value)))

pub returns-in_err-e-clause-result_after : goal.returns-in_err-e-clause-result_after
unfolding body_in
returns-in_err-e-clause-result_after c =
    let p = err_from_is_err_and c.from_residual-in_err-e.result c.from_residual-in_err-e.ensures.1 in
    rw (p.1, p.2) (sym (rw (sym c.in_ok-weights.ensures.result_value, sym c.in_err-e.ensures.result_after)))

pub returns-in_err-nets-clause-result_after : goal.returns-in_err-nets-clause-result_after
unfolding body_in
returns-in_err-nets-clause-result_after c =
    let p = err_from_is_err_and c.from_residual-in_err-nets.result c.from_residual-in_err-nets.ensures.1 in
    rw (p.1, p.2) (sym (rw (sym c.in_ok-weights.ensures.result_value, sym c.in_ok-e.ensures.result_after, sym c.in_err-nets.ensures.result_value)))

pub returns : goal.returns
unfolding body_in
returns c =
    let x = c.in_ok-weights.ensures.weights_hold in
    let y = c.in_ok-e.ensures.list_in in
    let z = c.in_ok-nets.ensures.nets_hold in record {
      result_after = sym (rw (sym c.in_ok-weights.ensures.result_value, sym c.in_ok-e.ensures.result_after, sym c.in_ok-nets.ensures.result_value));
      head_holds = record {
        shaped = c.args.g.shaped;
        alpha = x.0.alpha;
        beta = x.0.beta;
        gamma = x.0.gamma;
        nets = z.0;
        order = z.1;
        working = c.requires.k_in_bounds;
        place = z.2.place;
        lines = omega (arith, z.2.lines, y.lines, x.1.lines, c.requires.at_in_bounds.1);
        beyond = c.in_ok-e.ensures.beyond_of;
      };
      w_len_unchanged = c.all_layers.ensures.w_len_unchanged;
    }
