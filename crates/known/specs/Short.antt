-- How short the numbers of an entry are that is known to be right.
-- Assumes nothing.
use Rattle.std.specs.Prelude.{Option, Some, None, ◌<◌}
use Rattle.text.specs.declared.Entry.{Entry}
use Rattle.text.specs.declared.Numeral.{Numeral}

-- a number of one digit or two
abbrev pub ShortNumber : Option Numeral → Type 0
ShortNumber (Some n) = n.value < 100
ShortNumber None = ⊥

-- an entry whose coordinates have one digit or two, and whose third part has one
abbrev pub ShortEntry : Option Entry → Type 0
ShortEntry (Some e) = (e.x < 100) × (e.y < 100) × (e.third < 10)
ShortEntry None = ⊥
