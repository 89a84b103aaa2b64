-- `read_dirs` meets its contract: where the line is there, its letters are read from behind the key on; where it is not, nothing is read.
-- Assumes nothing.
use mathlib.Core.Path.{◌≡◌, sym, ap, ◌∙◌}
use Prim.Native.Nat.{ℕ}
use native.Mathlib.Omega.{arith}
use Rattle.std.specs.Prelude.{Option, Some, None}
use Rattle.std.specs.Option.{ok_or}
use Rattle.std.specs.Result.{result_ok}
use Rattle.std.proofs.lemmas.Result.{err_from_is_err_and}
use Rattle.model.specs.Read.{dirs_line}
use Rattle.text.specs.Refusals.{place_of}
use Rattle.text.specs.declared.Fault.TheVariants.{Form}
use Rattle.text.specs.declared.Refusal.TheVariants.{Line}
use Rattle.lines.specs.Opens.{place-within, opening-there, opening-other}
use Rattle.dirs.specs.Letters.{ways_told}
use Rattle.dirs.proofs.Keys.{key, dirs-there, dirs-none}
use Rattle.dirs.proofs.Lines.{letters_told}
use Rattle.dirs.proofs.read_dirs.Goals as goal
use Rattle.dirs.proofs.read_dirs.Goals.{After-letters}

-- the letters of the line are read
module _ (n : After-letters) where
  told : (w : Option (ℕ × ℕ)) → n.letters.result ≡ w → letters_told n.in-Ok.d.line (ways_told n.args.k n.args.s.now w) ≡ dirs_line n.args.k (place_of n.args.s.now n.args.c)
  told w h =
      let a = n.args in
      sym (dirs-there a.s.now a.c n.in-Ok.d (opening-there a.s.now a.c key n.in-Ok.d (sym n.open_line.ensures ∙ n.in-Ok.is)) a.k (omega (arith, n.requires.le_k.0))
      ∙ ap (letters_told n.in-Ok.d.line) (sym n.letters.ensures.result_value ∙ ap (ways_told a.k a.s.now) h))

pub returns-in_default-clause-result_value : goal.returns-in_default-clause-result_value
returns-in_default-clause-result_value c =
    sym (dirs-none c.args.s.now c.args.c (opening-other c.args.s.now c.args.c key _ (sym c.open_line.ensures ∙ c.in_default.is)).0 c.args.k)

pub letters-requires : goal.letters-requires
letters-requires c =
    (place-within c.args.s.now c.args.c key c.in-Ok.d (opening-there c.args.s.now c.args.c key c.in-Ok.d (sym c.open_line.ensures ∙ c.in-Ok.is)) c.requires.at_in_bounds.0, c.requires.le_k.1)

pub returns-in_err-north-clause-result_value : goal.returns-in_err-north-clause-result_value
returns-in_err-north-clause-result_value c =
    let p = err_from_is_err_and c.from_residual.result c.from_residual.ensures.1 in
    let n : c.letters.result ≡ None = c.ok_or.ensures.ok_part ∙ ap result_ok c.in_err-north.was in
    let e = sym c.in_err-north.was ∙ c.ok_or.ensures.value ∙ ap (λ (o : Option (ℕ × ℕ)). ok_or o (Line Form c.in-Ok.d.line)) n in
    let f : c.in_err-north.field-0.0 ≡ Line Form c.in-Ok.d.line = cc in
    rw (p.1, p.2, f) (told (goal.at.returns-in_err-north-clause-result_value c).After-letters None n)

pub returns-clause-result_value : goal.returns-clause-result_value
returns-clause-result_value c =
    told (goal.at.returns-clause-result_value c).After-letters (Some (c.in_ok-north.north, c.in_ok-north.at)) (c.ok_or.ensures.ok_part ∙ ap result_ok c.in_ok-north.was)
