-- `joined_line` meets its contract: the line is opened, and its entries are read from behind the key on.
-- Assumes nothing.
use mathlib.Core.Path.{refl, sym, ◌∙◌}
use Rattle.lines.specs.Opens.{expected-opening, expected-lacking}
use Rattle.lines.specs.Reads.{expected_of}
use Rattle.model.specs.Text.{bytes}
use Rattle.text.specs.declared.Fault.TheVariants.{Form}
use Rattle.text.specs.declared.Refusal.TheVariants.{Line}
use Rattle.edges.proofs.Law.{read-other, read-there}
use Rattle.edges.proofs.joined_line.Goals as goal

pub returns-in-Err : goal.returns-in-Err
returns-in-Err c =
    let x = c.args in
    let e = expected-lacking x.s.now x.c (bytes "edges=") c.in-Err.place (sym c.open_line.ensures ∙ c.in-Err.is) in
    record { joined_read = λ ps w₀ h r. read-other x.g x.stamp x.s.now x.c (expected_of x.s.now x.c (bytes "edges=")) refl ps w₀ x.w.now (Line Form c.in-Err.place.line) e; w_len_unchanged = refl }

pub returns : goal.returns
returns c =
    let x = c.args in
    let e = expected-opening x.s.now x.c (bytes "edges=") c.in-Ok.place (sym c.open_line.ensures ∙ c.in-Ok.is) in record {
      joined_read = λ ps w₀ h r.
          read-there x.g x.stamp x.s.now x.c (expected_of x.s.now x.c (bytes "edges=")) refl ps w₀ c.list.new.w c.requires.g_in_bounds.3 c.in-Ok.place e
          c.list.result (c.list.ensures.entries_read ps w₀ h r);
      w_len_unchanged = c.list.ensures.w_len_unchanged;
    }
