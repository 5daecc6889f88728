-- Document 01, "Numbers returned", and what document 02 adds to it: the one list of them, for every definition.
use Rattle.std.specs.Prelude.{ℕ}

abbrev pub done : ℕ
done = 0

-- ---- of a text

-- "text too long, or a table not of full size"
abbrev pub text_too_long : ℕ
text_too_long = 1

-- "place where no symbol begins, unfinished comment, or number lacking digits"
abbrev pub no_symbol : ℕ
no_symbol = 2

-- "symbol that no continuation allows"
abbrev pub symbol_not_allowed : ℕ
symbol_not_allowed = 3

-- "number out of range, too many places, or a point where whole is asked"
abbrev pub number_out_of_range : ℕ
number_out_of_range = 4

-- "one more item than allowed"
abbrev pub item_too_many : ℕ
item_too_many = 9

-- "name used twice in a kind"
abbrev pub name_twice : ℕ
name_twice = 5

-- "name not declared"
abbrev pub name_not_declared : ℕ
name_not_declared = 6

-- "interval or tone that depends on itself"
abbrev pub depends_on_itself : ℕ
depends_on_itself = 7

-- "interval, tone or tone system's period out of range"
abbrev pub value_out_of_range : ℕ
value_out_of_range = 8

-- document 02, request 1/13: "for a placeholder not named (without brackets none is), named twice, or a wrong count in a call"
abbrev pub placeholder_wrong : ℕ
placeholder_wrong = 24

-- ---- of a retuning

-- document 02, request 1/13: "at the call 25, before 10 to 14, for division by zero"
abbrev pub division_by_zero : ℕ
division_by_zero = 25

-- "anchor not 0 to 127"
abbrev pub anchor_out_of_range : ℕ
anchor_out_of_range = 10

-- "width not 1 to 60"
abbrev pub width_out_of_range : ℕ
width_out_of_range = 11

-- "period not in its range"
abbrev pub period_out_of_range : ℕ
period_out_of_range = 12

-- "t(0) muted, or key b (anchor) or a+v (width) silent"; document 02, 2/13: "13 narrows to r other than 0 with either end silent"
abbrev pub end_silent : ℕ
end_silent = 13

-- "a resulting tone not in its range"
abbrev pub tone_out_of_range : ℕ
tone_out_of_range = 14

-- ---- of a frame

-- document 02, request 6/13: "Below or above it, the key counts as unplayable."
abbrev pub key_unplayable : ℕ
key_unplayable = 15

-- document 02, request 5/13: "17 for a key already held in that house, 18 for one not held"
abbrev pub key_held : ℕ
key_held = 17

abbrev pub key_not_held : ℕ
key_not_held = 18

-- "answer buffer under 512 bytes"
abbrev pub buffer_too_small : ℕ
buffer_too_small = 19

-- "key asked is silent"
abbrev pub key_silent : ℕ
key_silent = 20

-- "letter bound to nothing"
abbrev pub letter_unbound : ℕ
letter_unbound = 21

-- "bad frame"
abbrev pub bad_frame : ℕ
bad_frame = 22

-- "a table's or state's number out of range, or a reference beyond its count"
abbrev pub table_damaged : ℕ
table_damaged = 23
