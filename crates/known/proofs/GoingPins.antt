-- After a pin the others stand behind it, and are fewer.
-- Assumes nothing.
use Rattle.std.specs.Prelude.{Some, Bool, true, false, not, cond, ◌≡◌, refl, suc, ◌-◌, ◌<◌, length}
use Rattle.std.proofs.lemmas.Bool.{not-true}
use Rattle.std.proofs.Common.{arith}
use Rattle.text.specs.Entries.{pin_entry_at}
use Rattle.text.specs.declared.Entry.{Entry}
use Rattle.known.specs.Pins.{Standing, pins-behind, behind-place}
use Rattle.known.specs.declared.Pins.{Pins}

module _ (t : Pins) (e : Entry) (here : Standing t.text.now t.at) (is : Some e ≡ pin_entry_at t.text.now t.at) where
  pub fewer : cond (not e.last) (suc (length t.text.now - e.next)) 0 < suc (length t.text.now - t.at)
  fewer = go e.last refl
    where
      go : (q : Bool) → e.last ≡ q → cond (not q) (suc (length t.text.now - e.next)) 0 < suc (length t.text.now - t.at)
      go true h = omega arith
      go false h = let p = behind-place here.left e is h in omega (arith, p.0, p.1)

  pub still : not e.last ≡ true → Standing t.text.now e.next
  still k = record { grid = here.grid; shaped = here.shaped; left = pins-behind here.left e is (not-true e.last k) }
