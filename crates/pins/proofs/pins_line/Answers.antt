-- `pins_line` meets its contract: the line is opened, and its entries are read from behind the key on.
-- Assumes nothing.
use mathlib.Core.Path.{refl, sym, ◌∙◌}
use lib.ListN.{length}
use Rattle.lines.specs.Opens.{expected-opening, expected-lacking}
use Rattle.lines.specs.Reads.{expected_of}
use Rattle.model.specs.Text.{bytes}
use Rattle.text.specs.declared.Fault.TheVariants.{Form}
use Rattle.text.specs.declared.Refusal.TheVariants.{Line}
use Rattle.pins.proofs.Law.{line_other, line-there, line-in}
use Rattle.pins.proofs.pins_line.Goals as goal

pub returns-in-Err : goal.returns-in-Err
returns-in-Err c =
    let x = c.args in
    let e = expected-lacking x.s.now x.c (bytes "pins=") c.in-Err.place (sym c.open_line.ensures ∙ c.in-Err.is) in record {
      result_after = line_other x.g c.args.g.shaped x.stamp x.a.now c.requires.older c.requires.t_in_bounds.0 x.s.now x.c (expected_of x.s.now x.c (bytes "pins=")) refl (Line Form c.in-Err.place.line) e;
      pins_in = tt;
      a_len_unchanged = refl;
    }

pub returns : goal.returns
returns c =
    let x = c.args in
    let e = expected-opening x.s.now x.c (bytes "pins=") c.in-Ok.place (sym c.open_line.ensures ∙ c.in-Ok.is) in record {
      result_after = c.entries.ensures.result_after ∙ line-there x.g c.args.g.shaped x.stamp x.a.now c.requires.older c.requires.t_in_bounds.0 x.s.now x.c (expected_of x.s.now x.c (bytes "pins=")) refl c.in-Ok.place e;
      pins_in = line-in x.g c.args.g.shaped x.stamp x.a.now c.requires.older c.requires.t_in_bounds.0 x.s.now x.c (expected_of x.s.now x.c (bytes "pins=")) refl c.in-Ok.place e (length x.s.now) c.entries.result c.entries.ensures.pins_in;
      a_len_unchanged = c.entries.ensures.a_len_unchanged;
    }
