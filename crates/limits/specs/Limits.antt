-- Document 01's table "Numbers allowed", in its order, and then what a request allows.
use Rattle.std.specs.Prelude.{ℕ, ◌+◌}

-- "text | 0 to 32,768 bytes"
abbrev pub most_bytes : ℕ
most_bytes = 32_768

-- "ratio parts, radicand, frequency | 0.0001 to 429496.7295, at most four places": in ten-thousandths
abbrev pub least_part : ℕ
least_part = 1

abbrev pub most_part : ℕ
most_part = 429496_7295

abbrev pub most_places : ℕ
most_places = 4

-- "root degree | whole, 1 to 65,535"
abbrev pub least_degree : ℕ
least_degree = 1

abbrev pub most_degree : ℕ
most_degree = 65_535

-- "factor | whole, 0 to 999"
abbrev pub most_factor : ℕ
most_factor = 999

-- "anchor in a tone system | whole, 0 to 127"; 10: "anchor not 0 to 127"
abbrev pub most_anchor : ℕ
most_anchor = 127

-- "n in anchor and width retunings | whole, 0 to 9,999; after `/` from 1"
abbrev pub most_amount : ℕ
most_amount = 9_999

abbrev pub least_divisor : ℕ
least_divisor = 1

-- "terms in one sequence, tone or expression | 16"
abbrev pub most_terms : ℕ
most_terms = 16

-- "positions in one list | 60"; 11: "width not 1 to 60"
abbrev pub most_positions : ℕ
most_positions = 60

-- "intervals, tones | 256 each"
abbrev pub most_intervals : ℕ
most_intervals = 256

abbrev pub most_tone_names : ℕ
most_tone_names = 256

-- "tone systems, logics | 32 each"
abbrev pub most_systems : ℕ
most_systems = 32

abbrev pub most_logics : ℕ
most_logics = 32

-- "retunings | 128"
abbrev pub most_retunings : ℕ
most_retunings = 128

-- "orders in all logics together | 512"
abbrev pub most_orders : ℕ
most_orders = 512

-- "interval and tone values, tones of a state | -100,000,000 to 100,000,000"
abbrev pub farthest_tone : ℕ
farthest_tone = 100_000_000

-- "period | 0 to 12,000,000"
abbrev pub longest_period : ℕ
longest_period = 12_000_000

-- "a letter 41 to 5A"; "A letter is a one-letter name from a to z", as its capital
abbrev pub first_letter : ℕ
first_letter = 0x41

abbrev pub last_letter : ℕ
last_letter = 0x5A

-- ---- Document 02, 5/13: "by key numbers from 0 to 59 in braces"; "at most 64 harmonies of at most 60 keys"

abbrev pub most_harmonies : ℕ
most_harmonies = 64

abbrev pub most_harmony_keys : ℕ
most_harmony_keys = 60

abbrev pub most_harmony_key : ℕ
most_harmony_key = 59

-- ---- Document 02, 6/13: "A key answer shall give a pitch only from 0 to 12,799,999."

abbrev pub highest_pitch : ℕ
highest_pitch = 12_799_999

-- ---- so many declarations of all kinds

abbrev pub most_declarations : ℕ
most_declarations = most_intervals + most_tone_names + most_systems + most_retunings + most_logics + most_harmonies

-- ---- Document 02, 1/13: "one to four placeholder names in brackets"; "9 for a fifth name or number"

abbrev pub most_placeholders : ℕ
most_placeholders = 4

-- "calls from orders and logic starts": an order makes one call, a logic's start one
abbrev pub most_calls : ℕ
most_calls = most_orders + most_logics

-- so many rows has a program: one for each declaration, and one for each call, whose numbers may be written in
abbrev pub most_rows : ℕ
most_rows = most_declarations + most_calls
