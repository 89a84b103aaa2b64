-- `edges_line` meets its contract: the tests through 8, and then the last.
-- Assumes nothing.
use Rattle.std.proofs.lemmas.Result.{err_from_is_err_and}
use Rattle.edges.proofs.Law.{line_refused, line-served, line-unserved}
use Rattle.edges.proofs.edges_line.Goals as goal

pub returns-in_err-e : goal.returns-in_err-e
returns-in_err-e c =
    let x = c.args in
    let p = err_from_is_err_and c.from_residual.result c.from_residual.ensures.1 in
    rw (p.1, p.2) (record { line_read = λ ps w₀ h r. line_refused x.g x.stamp x.s.now x.c ps w₀ c.joined_line.new.w c.joined_line.result (c.joined_line.ensures.joined_read ps w₀ h r) _ c.in_err-e.was; w_len_unchanged = c.joined_line.ensures.w_len_unchanged })

pub returns-then-not-served : goal.returns-then-not-served
returns-then-not-served c =
    let x = c.args in record {
      line_read = λ ps w₀ h r.
          line-unserved x.g x.stamp x.s.now x.c ps w₀ c.joined_line.new.w c.joined_line.result (c.joined_line.ensures.joined_read ps w₀ h r) c.in_ok-e.e c.in_ok-e.d c.in_ok-e.was
          c.served.result c.served.ensures c.if-not-served.true;
      w_len_unchanged = c.joined_line.ensures.w_len_unchanged;
    }

pub returns : goal.returns
returns c =
    let x = c.args in record {
      line_read = λ ps w₀ h r.
          line-served x.g x.stamp x.s.now x.c ps w₀ c.joined_line.new.w c.joined_line.result (c.joined_line.ensures.joined_read ps w₀ h r) c.in_ok-e.e c.in_ok-e.d c.in_ok-e.was
          c.served.result c.served.ensures c.if-not-served.false;
      w_len_unchanged = c.joined_line.ensures.w_len_unchanged;
    }
