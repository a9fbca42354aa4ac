-- The limits of document 01, each named once. Every other file says the name. Assumes nothing.
use Rattle.std.specs.Prelude.{ℕ, ◌*◌}

-- "Numbers of a job". Sheet length and width, piece length and width: 1 to ..
abbrev pub size_most : ℕ
size_most = 5_000

-- kerf: 0 to ..
abbrev pub kerf_most : ℕ
kerf_most = 20

-- piece types: 1 to ..
abbrev pub types_most : ℕ
types_most = 12

-- profit of one piece: 1 to ..
abbrev pub profit_most : ℕ
profit_most = 25_000_000

-- demand of a type: 1 to ..
abbrev pub demand_most : ℕ
demand_most = 50

-- "So a plan has at most 600 pieces."
abbrev pub pieces_most : ℕ
pieces_most = types_most * demand_most

-- "Planner's memory". The bytes of a record, and the most records of an arena.
abbrev pub record_bytes : ℕ
record_bytes = 32

abbrev pub records_most : ℕ
records_most = 65_535

-- the flat numbers of a placement: type, x, y
abbrev pub placement_numbers : ℕ
placement_numbers = 3

-- "Texts". The digits of a number: 1 to ..
abbrev pub digits_most : ℕ
digits_most = 8

-- refusal 11: the bytes of a program's input, and the records of a program's arena
abbrev pub input_most : ℕ
input_most = 32_768

abbrev pub program_records : ℕ
program_records = 2_000
