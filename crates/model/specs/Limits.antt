-- The limits that document 01 sets, by name.
-- Assumes nothing.
use Rattle.std.specs.Prelude.{ℕ}

-- "W = width and H = height, 1 to 64"
abbrev pub least_side : ℕ
least_side = 1

abbrev pub most_side : ℕ
most_side = 64

-- "Limits belong to the stack: K, the value of `layers`, is from 2 to 8."
abbrev pub least_layers : ℕ
least_layers = 2

abbrev pub most_layers : ℕ
most_layers = 8

-- "alpha, beta, gamma: 0 to 255"
abbrev pub most_weight : ℕ
most_weight = 255

-- Document 02, S-3: "Capacities run from 0 to 65,535."
abbrev pub most_capacity : ℕ
most_capacity = 65_535

-- "nets: N, 0 to 4,096"
abbrev pub most_nets : ℕ
most_nets = 4_096

-- "A number is one to five digits"
abbrev pub most_digits : ℕ
most_digits = 5

-- "text above 1,048,576 bytes"
abbrev pub most_text : ℕ
most_text = 1_048_576

-- "standard input of at most 65,536 bytes"
abbrev pub most_input : ℕ
most_input = 65_536
