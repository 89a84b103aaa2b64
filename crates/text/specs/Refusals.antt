-- The reading place and the refusals as the code has them, in the definitions' words.
-- Assumes nothing.
use Rattle.std.specs.Prelude.{List, ℕ, drop}
use Rattle.model.specs.Read.{Place}
use Rattle.text.specs.declared.Cursor.{Cursor}
use Rattle.text.specs.declared.Fault.{Fault}
use Rattle.text.specs.declared.Fault.TheVariants.{Form, Range, Turn, PinTwice, EdgeTwice, Apart, Closed, NoLayer}
use Rattle.text.specs.declared.Refusal.{Refusal}
use Rattle.text.specs.declared.Refusal.TheVariants.{TooLong, Line, Working, Order, Short}

-- the place of a cursor in the text s
abbrev pub place_of : List ℕ → Cursor → Place
place_of s c = record { line = c.line; rest = drop c.at s }

-- the papers' number for a fault of a line
abbrev pub fault_number : Fault → ℕ
fault_number Form = 2
fault_number Range = 3
fault_number Turn = 4
fault_number PinTwice = 5
fault_number EdgeTwice = 6
fault_number Apart = 8
fault_number Closed = 12
fault_number NoLayer = 13

-- the papers' number and line for each refusal
abbrev pub number_of : Refusal → ℕ
number_of TooLong = 1
number_of (Line f l) = fault_number f
number_of (Working l) = 9
number_of (Order l) = 10
number_of (Short l) = 11

abbrev pub line_of : Refusal → ℕ
line_of TooLong = 0
line_of (Line f l) = l
line_of (Working l) = l
line_of (Order l) = l
line_of (Short l) = l
