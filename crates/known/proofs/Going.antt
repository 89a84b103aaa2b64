-- After an entry the others stand behind it, and are fewer.
-- Assumes nothing.
use Rattle.std.specs.Prelude.{Some, Bool, true, false, not, cond, ◌≡◌, refl, suc, ◌-◌, ◌<◌, length}
use Rattle.std.proofs.lemmas.Bool.{not-true}
use Rattle.std.proofs.Common.{arith}
use Rattle.net.specs.Left.{more_left, more-place}
use Rattle.text.specs.Entries.{edge_entry_at}
use Rattle.text.specs.declared.Entry.{Entry}
use Rattle.known.specs.Edges.{Standing}
use Rattle.known.specs.declared.Edges.{Edges}

module _ (t : Edges) (e : Entry) (here : Standing t.text.now t.at) (is : Some e ≡ edge_entry_at t.text.now t.at) where
  pub behind : e.last ≡ false → Standing t.text.now e.next
  behind h = record {
    grid = here.grid;
    shaped = here.shaped;
    line = here.line;
    so_far = _;
    left = more_left t.text.now here.grid.w here.grid.h here.line t.at here.so_far here.left e is h;
  }

  pub fewer : cond (not e.last) (suc (length t.text.now - e.next)) 0 < suc (length t.text.now - t.at)
  fewer = go e.last refl
    where
      go : (q : Bool) → e.last ≡ q → cond (not q) (suc (length t.text.now - e.next)) 0 < suc (length t.text.now - t.at)
      go true h = omega arith
      go false h = let p = more-place t.text.now here.grid.w here.grid.h here.line t.at here.so_far here.left e is h in omega (arith, p.0, p.1)

  pub still : not e.last ≡ true → Standing t.text.now e.next
  still k = behind (not-true e.last k)
