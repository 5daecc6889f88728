-- What a text declares: document 01, "Declarations"; document 02, 5/13 and 1/13. The declarations are numbered 0, 1, 2, .. in the order of the text, and refer to each other by
-- these numbers; behind them stand the retunings that its calls fill in. Ratio parts, radicands and frequencies are in ten-thousandths.
use Rattle.std.specs.Prelude.{Bool, true, false, List, [], ◌∷◌, ℕ, Option, Some, None}
use Rattle.grammar.specs.declared.Form.{Form}
use Rattle.grammar.specs.declared.Form.TheVariants.{AnchorTo, AnchorUp, AnchorDown, WidthTo, WidthUp, WidthDown, WidthTimes, WidthOver}
use Rattle.grammar.specs.declared.Item.{Item}
use Rattle.names.specs.Parts as parts
use Rattle.names.specs.Parts.{Part, declares, gives, uses, says, part, Given, Use, Said}
use Rattle.placeholders.specs.declared.Seen.TheVariants.{Other, Declares, Names, Wants, Calls, Hands}
use Rattle.placeholders.specs.Placeholders.{seen}
use Rattle.tuning.specs.declared.Operator.TheVariants.{Plus, Minus, Times, Divide}
use Rattle.tuning.specs.declared.Amount.{Amount}
use Rattle.tuning.specs.declared.Amount.TheVariants.{Kept, Absolute, Relative}
use Rattle.values.specs.Values.{Term}
use Rattle.harmonies.specs.Harmonies.{HarmonyKey}

-- ---- declarations

-- a position of a tones retuning: "nothing, or `@` or a tone name, with signed terms"
pub data Position : Type 0 where
  mute : Position
  kept : List Term → Position
  named : ℕ → List Term → Position

-- what a logic or an order waits for: "`KEY letter`", as a capital; or a harmony, by the number of its declaration: "Its bare name is a trigger beside
-- `KEY letter`, in logics and orders"
pub data Trigger : Type 0 where
  by_letter by_harmony : ℕ → Trigger

-- "orders, if any, are each `KEY letter -> name`"
pub record Order : Type 0 where
  pub trigger : Trigger
  pub calls : ℕ

pub data Declaration : Type 0 where
  -- an interval: "`p : q`, or `A ROOT B`, or a sequence"
  ratio root : ℕ → ℕ → Declaration
  sequence : List Term → Declaration
  -- a tone: "a frequency in hertz, or a tone name followed by any number of signed terms"
  frequency : ℕ → Declaration
  from : ℕ → List Term → Declaration
  -- a tone system: "anchor key, positions, each a tone name or nothing, period as a sequence"
  system : ℕ → List (Option ℕ) → List Term → Declaration
  -- a retuning of one of the four kinds
  anchor width : Amount → Declaration
  fresh_period onward_period : List Term → Declaration
  tones : List Position → Declaration
  -- one whose n is a placeholder: a call of it calls a declaration of its own, the same retuning with the call's number written in
  pattern : Declaration
  -- a logic: its trigger, its start, its orders
  logic : Trigger → Option ℕ → List Order → Declaration
  -- a harmony: "by key numbers from 0 to 59 in braces; a star before a number means that it may be held or not"
  harmony : List HarmonyKey → Declaration

-- a declaration as triggers see it: a logic, with its trigger, its start and its orders, or none
pub data AsLogic : Type 0 where
  no_logic_holds : AsLogic
  a_logic : Trigger → Option ℕ → List Order → AsLogic

abbrev pub as_logic : Declaration → AsLogic
as_logic (ratio p q) = no_logic_holds
as_logic (root a b) = no_logic_holds
as_logic (sequence ts) = no_logic_holds
as_logic (frequency f) = no_logic_holds
as_logic (from k ts) = no_logic_holds
as_logic (system a l ts) = no_logic_holds
as_logic (anchor m) = no_logic_holds
as_logic (width m) = no_logic_holds
as_logic (fresh_period ts) = no_logic_holds
as_logic (onward_period ts) = no_logic_holds
as_logic (tones l) = no_logic_holds
as_logic pattern = no_logic_holds
as_logic (logic c s os) = a_logic c s os
as_logic (harmony ks) = no_logic_holds

-- and a harmony, with its keys, or none
pub data AsHarmony : Type 0 where
  no_harmony : AsHarmony
  a_harmony : List HarmonyKey → AsHarmony

abbrev pub as_harmony : Declaration → AsHarmony
as_harmony (ratio p q) = no_harmony
as_harmony (root a b) = no_harmony
as_harmony (sequence ts) = no_harmony
as_harmony (frequency f) = no_harmony
as_harmony (from k ts) = no_harmony
as_harmony (system a l ts) = no_harmony
as_harmony (anchor m) = no_harmony
as_harmony (width m) = no_harmony
as_harmony (fresh_period ts) = no_harmony
as_harmony (onward_period ts) = no_harmony
as_harmony (tones l) = no_harmony
as_harmony pattern = no_harmony
as_harmony (logic c s os) = no_harmony
as_harmony (harmony ks) = a_harmony ks

-- a declaration and the place of its name
pub record Placed : Type 0 where
  pub place : ℕ
  pub is : Declaration

abbrev pub Program : Type 0
Program = List Placed

-- ---- the parts of a declaration, in the order of the text

-- a part as the lists of a declaration see it: a term, a position, a start, a trigger, what an order calls, a key of a harmony, or none of these
pub data AsListed : Type 0 where
  unlisted : AsListed
  a_term : Term → AsListed
  muted_position kept_position : AsListed
  tone_position : ℕ → AsListed
  a_start : ℕ → AsListed
  a_trigger : Trigger → AsListed
  a_call : ℕ → AsListed
  a_key : HarmonyKey → AsListed

abbrev pub key_of : ℕ → Bool → HarmonyKey
key_of v star = record { key = v; starred = star }

abbrev pub given_listed : Given → ℕ → AsListed
given_listed parts.letter c = a_trigger (by_letter c)
given_listed parts.key v = a_key (key_of v false)
given_listed parts.starred_key v = a_key (key_of v true)
given_listed parts.ratio a = unlisted
given_listed parts.root a = unlisted
given_listed parts.frequency a = unlisted
given_listed parts.anchor_key a = unlisted
given_listed (parts.amount f) a = unlisted
given_listed (parts.wanting f) a = unlisted
given_listed parts.placeholder a = unlisted
given_listed parts.argument a = unlisted

abbrev pub use_listed : Use → ℕ → ℕ → AsListed
use_listed parts.add f n = a_term (record { minus = false; factor = f; of = n })
use_listed parts.subtract f n = a_term (record { minus = true; factor = f; of = n })
use_listed parts.base f n = unlisted
use_listed parts.position f n = tone_position n
use_listed parts.start f n = a_start n
use_listed parts.order f n = a_call n
use_listed parts.trigger f n = a_trigger (by_harmony n)

abbrev pub mark_listed : Said → AsListed
mark_listed parts.muted = muted_position
mark_listed parts.kept = kept_position
mark_listed parts.anchor_kept = unlisted
mark_listed parts.width_kept = unlisted
mark_listed parts.period = unlisted
mark_listed parts.onward = unlisted

abbrev pub as_listed : Part → AsListed
as_listed (declares k p) = unlisted
as_listed (gives g a b) = given_listed g a
as_listed (uses u a b) = use_listed u a b
as_listed (says m) = mark_listed m

-- "terms joined by `+` or `-`, each an optional whole factor and an interval name"
abbrev pub with_term : AsListed → List Term → List Term
with_term (a_term t) ts = t ∷ ts
with_term unlisted ts = ts
with_term muted_position ts = ts
with_term kept_position ts = ts
with_term (tone_position n) ts = ts
with_term (a_start n) ts = ts
with_term (a_trigger c) ts = ts
with_term (a_call n) ts = ts
with_term (a_key k) ts = ts

abbrev pub term_then : Part → List Term → List Term
term_then p ts = with_term (as_listed p) ts

unfoldable pub terms_of : List Item → List Term
terms_of [] = []
terms_of (i ∷ is) = term_then (part i) (terms_of is)

-- the positions of a tone system
abbrev pub with_system_position : AsListed → List (Option ℕ) → List (Option ℕ)
with_system_position muted_position l = None ∷ l
with_system_position (tone_position n) l = Some n ∷ l
with_system_position unlisted l = l
with_system_position (a_term t) l = l
with_system_position kept_position l = l
with_system_position (a_start n) l = l
with_system_position (a_trigger c) l = l
with_system_position (a_call n) l = l
with_system_position (a_key k) l = l

abbrev pub system_position_then : Part → List (Option ℕ) → List (Option ℕ)
system_position_then p l = with_system_position (as_listed p) l

unfoldable pub system_positions_of : List Item → List (Option ℕ)
system_positions_of [] = []
system_positions_of (i ∷ is) = system_position_then (part i) (system_positions_of is)

-- the positions of a tones retuning, each with the terms up to the next
pub record Grouped : Type 0 where
  pub before : List Term
  pub positions : List Position

abbrev pub with_group : AsListed → Grouped → Grouped
with_group (a_term t) g = record { before = t ∷ g.before; positions = g.positions }
with_group muted_position g = record { before = []; positions = mute ∷ g.positions }
with_group kept_position g = record { before = []; positions = kept g.before ∷ g.positions }
with_group (tone_position n) g = record { before = []; positions = named n g.before ∷ g.positions }
with_group unlisted g = g
with_group (a_start n) g = g
with_group (a_trigger c) g = g
with_group (a_call n) g = g
with_group (a_key k) g = g

abbrev pub group_then : Part → Grouped → Grouped
group_then p g = with_group (as_listed p) g

unfoldable pub grouped : List Item → Grouped
grouped [] = record { before = []; positions = [] }
grouped (i ∷ is) = group_then (part i) (grouped is)

-- the orders of a logic, from the end: what is called waits for its trigger, which stands right before it
pub record Ordered : Type 0 where
  pub call : Option ℕ
  pub orders : List Order

abbrev pub triggered_by : Trigger → Option ℕ → List Order → Ordered
triggered_by c None l = record { call = None; orders = l }
triggered_by c (Some n) l = record { call = None; orders = record { trigger = c; calls = n } ∷ l }

abbrev pub with_order : AsListed → Ordered → Ordered
with_order (a_trigger c) g = triggered_by c g.call g.orders
with_order (a_call n) g = record { call = Some n; orders = g.orders }
with_order unlisted g = record { call = None; orders = g.orders }
with_order (a_term t) g = record { call = None; orders = g.orders }
with_order muted_position g = record { call = None; orders = g.orders }
with_order kept_position g = record { call = None; orders = g.orders }
with_order (tone_position n) g = record { call = None; orders = g.orders }
with_order (a_start n) g = record { call = None; orders = g.orders }
with_order (a_key k) g = record { call = None; orders = g.orders }

abbrev pub order_then : Part → Ordered → Ordered
order_then p g = with_order (as_listed p) g

unfoldable pub ordered : List Item → Ordered
ordered [] = record { call = None; orders = [] }
ordered (i ∷ is) = order_then (part i) (ordered is)

abbrev pub orders_of : List Item → List Order
orders_of is = (ordered is).orders

-- what a logic's start calls
abbrev pub with_start : AsListed → Option ℕ → Option ℕ
with_start (a_start n) s = Some n
with_start unlisted s = s
with_start (a_term t) s = s
with_start muted_position s = s
with_start kept_position s = s
with_start (tone_position n) s = s
with_start (a_trigger c) s = s
with_start (a_call n) s = s
with_start (a_key k) s = s

abbrev pub start_then : Part → Option ℕ → Option ℕ
start_then p s = with_start (as_listed p) s

unfoldable pub start_of : List Item → Option ℕ
start_of [] = None
start_of (i ∷ is) = start_then (part i) (start_of is)

-- the keys of a harmony
abbrev pub with_key : AsListed → List HarmonyKey → List HarmonyKey
with_key (a_key k) ks = k ∷ ks
with_key unlisted ks = ks
with_key (a_term t) ks = ks
with_key muted_position ks = ks
with_key kept_position ks = ks
with_key (tone_position n) ks = ks
with_key (a_start n) ks = ks
with_key (a_trigger c) ks = ks
with_key (a_call n) ks = ks

abbrev pub key_then : Part → List HarmonyKey → List HarmonyKey
key_then p ks = with_key (as_listed p) ks

unfoldable pub keys_of : List Item → List HarmonyKey
keys_of [] = []
keys_of (i ∷ is) = key_then (part i) (keys_of is)

-- ---- a declaration from its parts, of which the first tells the form; `rest` are the parts after it

-- "Anchor: `n [ ]`, .. `@ + n [ ]`, `@ - n [ ]`. Width: `[ << n >> ]`, .. `@` with `+ - * /` and n inside."
abbrev pub asking : Form → ℕ → Declaration
asking AnchorTo n = anchor (Absolute n)
asking AnchorUp n = anchor (Relative Plus n)
asking AnchorDown n = anchor (Relative Minus n)
asking WidthTo n = width (Absolute n)
asking WidthUp n = width (Relative Plus n)
asking WidthDown n = width (Relative Minus n)
asking WidthTimes n = width (Relative Times n)
asking WidthOver n = width (Relative Divide n)

-- (no text gives a number to be handed without a call: any value serves there)
abbrev pub by_number : Given → ℕ → ℕ → List Item → Declaration
by_number parts.ratio a b rest = ratio a b
by_number parts.root a b rest = root a b
by_number parts.frequency a b rest = frequency a
by_number parts.anchor_key a b rest = system a (system_positions_of rest) (terms_of rest)
by_number (parts.amount f) a b rest = asking f b
by_number (parts.wanting f) a b rest = pattern
by_number parts.letter a b rest = logic (by_letter a) (start_of rest) (orders_of rest)
by_number parts.key a b rest = harmony (key_of a false ∷ keys_of rest)
by_number parts.starred_key a b rest = harmony (key_of a true ∷ keys_of rest)
by_number parts.placeholder a b rest = sequence []
by_number parts.argument a b rest = sequence []

-- (no text gives a start or an order without its logic, nor a declaration without a part: any value serves there)
abbrev pub by_use : Use → ℕ → ℕ → Item → List Item → Declaration
by_use parts.add f n i rest = sequence (terms_of (i ∷ rest))
by_use parts.subtract f n i rest = sequence (terms_of (i ∷ rest))
by_use parts.base f n i rest = from n (terms_of rest)
by_use parts.position f n i rest = tones (grouped (i ∷ rest)).positions
by_use parts.start f n i rest = sequence []
by_use parts.order f n i rest = sequence []
by_use parts.trigger f n i rest = logic (by_harmony n) (start_of rest) (orders_of rest)

-- `[ ]` and then a sequence, or `@` and then terms
abbrev pub period_by : Part → List Item → List Item → Declaration
period_by (declares k p) all rest = fresh_period (terms_of all)
period_by (gives g a b) all rest = fresh_period (terms_of all)
period_by (uses u a b) all rest = fresh_period (terms_of all)
period_by (says parts.muted) all rest = fresh_period (terms_of all)
period_by (says parts.kept) all rest = fresh_period (terms_of all)
period_by (says parts.anchor_kept) all rest = fresh_period (terms_of all)
period_by (says parts.width_kept) all rest = fresh_period (terms_of all)
period_by (says parts.period) all rest = fresh_period (terms_of all)
period_by (says parts.onward) all rest = onward_period (terms_of rest)

abbrev pub period_of : List Item → Declaration
period_of [] = fresh_period []
period_of (i ∷ rest) = period_by (part i) (i ∷ rest) rest

abbrev pub by_mark : Said → Item → List Item → Declaration
by_mark parts.muted i rest = tones (grouped (i ∷ rest)).positions
by_mark parts.kept i rest = tones (grouped (i ∷ rest)).positions
by_mark parts.anchor_kept i rest = anchor Kept
by_mark parts.width_kept i rest = width Kept
by_mark parts.period i rest = period_of rest
by_mark parts.onward i rest = onward_period (terms_of rest)

abbrev pub by_part : Part → Item → List Item → Declaration
by_part (declares k p) i rest = sequence []
by_part (gives g a b) i rest = by_number g a b rest
by_part (uses u f n) i rest = by_use u f n i rest
by_part (says m) i rest = by_mark m i rest

abbrev pub form_of : List Item → Declaration
form_of [] = sequence []
form_of (i ∷ rest) = by_part (part i) i rest

-- document 02, 1/13: "one to four placeholder names in brackets after any retuning's name"; the parts after them
abbrev pub unnamed : List Item → List Item
unnamed [] = []
unnamed (i ∷ is) =
    elim (seen i) [ Names p ↦ unnamed is | Other ↦ i ∷ is | Declares ↦ i ∷ is | Wants f p ↦ i ∷ is | Calls q k ↦ i ∷ is | Hands n ↦ i ∷ is ]

abbrev pub declaration_of : List Item → Declaration
declaration_of is = form_of (unnamed is)

-- ---- the whole text

-- the items up to the next declared name
abbrev pub up_to : Part → Item → List Item → List Item
up_to (declares k p) i is = []
up_to (gives g a b) i is = i ∷ is
up_to (uses u a b) i is = i ∷ is
up_to (says m) i is = i ∷ is

unfoldable pub parts_of : List Item → List Item
parts_of [] = []
parts_of (i ∷ is) = up_to (part i) i (parts_of is)

abbrev pub program_then : Part → List Item → Program → Program
program_then (declares k p) is ds = record { place = p; is = declaration_of (parts_of is) } ∷ ds
program_then (gives g a b) is ds = ds
program_then (uses u a b) is ds = ds
program_then (says m) is ds = ds

-- the declarations of the items of a text
unfoldable pub program_of : List Item → Program
program_of [] = []
program_of (i ∷ is) = program_then (part i) is (program_of is)
