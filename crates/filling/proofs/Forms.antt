-- The row of a declaration by its first item. Assumes nothing.
use mathlib.Core.Path.{◌≡◌, refl, sym, ◌∙◌, ap, subst}
use mathlib.Core.Bool.{true, false}
use mathlib.Core.List.{List, [], ◌∷◌}
use Rattle.std.specs.Prelude.{Option, Some, None}
use Prim.Native.Nat.{ℕ, ◌<◌, ◌^◌}
use types.Run.{OneOf, miss}
use native.Mathlib.Omega.{arith}
use lib.IntN.{ℤ, pos}
use lib.ListN.{length}
use Rattle.grammar.specs.declared.Form.{Form}
use Rattle.grammar.specs.declared.Form.TheVariants.{AnchorTo, AnchorUp, AnchorDown, WidthTo, WidthUp, WidthDown, WidthTimes, WidthOver}
use Rattle.grammar.specs.declared.Item.{Item}
use Rattle.grammar.specs.declared.Item.TheVariants as item
use Rattle.names.specs.Parts as parts
use Rattle.names.specs.Parts.{Part, declares, gives, uses, says, part}
use Rattle.values.specs.Values.{Term}
use Rattle.values.proofs.Cases.{clash}
use Rattle.tables.specs.Layout.{sounding_of, pitch_of, change_code, change_number}
use Rattle.tables.specs.declared.Counts.{Counts}
use Rattle.tables.specs.declared.Row.{Row}
use Rattle.tables.specs.declared.Row.TheVariants as row
use Rattle.program.specs.Program.{Declaration, asking, form_of, period_by, period_of, term_then, fresh_period, onward_period, terms_of, system, tones, logic, harmony, Position, Trigger, Order, as_listed, grouped, start_of, orders_of, keys_of}
use Rattle.harmonies.specs.Harmonies.{HarmonyKey}
use Rattle.filling.specs.Tables.{tones_of, changes_of, row_of}
use Rattle.filling.specs.Inner.{value_in, trigger_of, call_of, as_trigger, begins, Summable, FitParts, Stored, row_after, plain_row, Lists, listed, Rowed}
use Rattle.filling.proofs.Inside.{tag, Inside, add, subtract, muted, kept, tone, letter, start, order, trigger, key, starred, outside, no_begin, some_or_none, some_same}

-- ---- an anchor or width retuning with its n

asking_fits : (values : List ℤ) (f : Form) {n : ℕ} → FitParts values (asking f n) → n < 2 ^ 16
asking_fits values AnchorTo h = h
asking_fits values AnchorUp h = h
asking_fits values AnchorDown h = h
asking_fits values WidthTo h = h
asking_fits values WidthUp h = h
asking_fits values WidthDown h = h
asking_fits values WidthTimes h = h
asking_fits values WidthOver h = h

pub asking_small : (values : List ℤ) {i : Item} (f : Form) (n : ℕ) → i ≡ item.Amount f n → FitParts values (form_of (i ∷ [])) → n < 2 ^ 16
asking_small values f n e h = asking_fits values f (subst (λ (x : Item). FitParts values (form_of (x ∷ []))) e h)

-- it has no value
asking_plain : (y z : ℤ) (f : Form) (n : ℕ) → plain_row y (asking f n) ≡ plain_row z (asking f n)
asking_plain y z AnchorTo n = refl
asking_plain y z AnchorUp n = refl
asking_plain y z AnchorDown n = refl
asking_plain y z WidthTo n = refl
asking_plain y z WidthUp n = refl
asking_plain y z WidthDown n = refl
asking_plain y z WidthTimes n = refl
asking_plain y z WidthOver n = refl

pub as_asking : (z : ℤ) {i : Item} {r : Row} (f : Form) (n : ℕ) → i ≡ item.Amount f n → r ≡ plain_row (pos 0) (asking f n) → r ≡ plain_row z (form_of (i ∷ []))
as_asking z f n e h = h ∙ asking_plain (pos 0) z f n ∙ ap (λ (x : Item). plain_row z (form_of (x ∷ []))) (sym e)

-- what the items after the first do not matter for
pub record Plain (values : List ℤ) (used : Counts) (i : Item) (rest : List Item) : Type 0 where
  pub row : row_after (value_in values) used (form_of (i ∷ rest)) ≡ plain_row (value_in values used.rows) (form_of (i ∷ []))
  pub lists : (l : Lists) → listed (value_in values) used (form_of (i ∷ rest)) l ≡ l
  pub fit : FitParts values (form_of (i ∷ rest)) → FitParts values (form_of (i ∷ []))

-- ---- a first item that is not one of some variants

-- no tone, no anchor, no width and no pattern: the row is an interval's
abbrev pub intervals : List ℕ
intervals = 0 ∷ 1 ∷ 2 ∷ 3 ∷ 4 ∷ 7 ∷ 8 ∷ 9 ∷ 10 ∷ 14 ∷ 15 ∷ 16 ∷ 17 ∷ 18 ∷ 19 ∷ 20 ∷ 21 ∷ 23 ∷ 24 ∷ []

pub as_interval : (z : ℤ) (i : Item) → OneOf intervals (tag i) → row.Interval (record { 0 = z }) ≡ plain_row z (form_of (i ∷ []))
as_interval z (item.Declared a b) h = refl
as_interval z (item.Ratio a b) h = refl
as_interval z (item.Root a b) h = refl
as_interval z (item.Add a b) h = refl
as_interval z (item.Subtract a b) h = refl
as_interval z (item.Frequency a) h = absurd (miss intervals 5 tt h)
as_interval z (item.Base a) h = absurd (miss intervals 6 tt h)
as_interval z (item.AnchorKey a) h = refl
as_interval z item.MutedPosition h = refl
as_interval z item.KeptPosition h = refl
as_interval z (item.TonePosition a) h = refl
as_interval z item.AnchorKept h = absurd (miss intervals 11 tt h)
as_interval z (item.Amount f a) h = absurd (miss intervals 13 tt h)
as_interval z item.WidthKept h = absurd (miss intervals 12 tt h)
as_interval z item.Period h = refl
as_interval z item.Onward h = refl
as_interval z (item.Letter a) h = refl
as_interval z (item.Start a b) h = refl
as_interval z (item.Order a b) h = refl
as_interval z (item.Trigger a) h = refl
as_interval z (item.Key a) h = refl
as_interval z (item.StarredKey a) h = refl
as_interval z (item.AmountName f a) h = absurd (miss intervals 22 tt h)
as_interval z (item.Placeholder a) h = refl
as_interval z (item.Argument a) h = refl

-- `[ ]` and no `@`: the period is a new one
pub as_fresh : (i : Item) → (i ≡ item.Onward → ⊥) → (rest : List Item) → period_of (i ∷ rest) ≡ fresh_period (terms_of (i ∷ rest))
as_fresh (item.Declared a b) h rest = refl
as_fresh (item.Ratio a b) h rest = refl
as_fresh (item.Root a b) h rest = refl
as_fresh (item.Add a b) h rest = refl
as_fresh (item.Subtract a b) h rest = refl
as_fresh (item.Frequency a) h rest = refl
as_fresh (item.Base a) h rest = refl
as_fresh (item.AnchorKey a) h rest = refl
as_fresh item.MutedPosition h rest = refl
as_fresh item.KeptPosition h rest = refl
as_fresh (item.TonePosition a) h rest = refl
as_fresh item.AnchorKept h rest = refl
as_fresh (item.Amount f a) h rest = refl
as_fresh item.WidthKept h rest = refl
as_fresh item.Period h rest = refl
as_fresh item.Onward h rest = absurd (h refl)
as_fresh (item.Letter a) h rest = refl
as_fresh (item.Start a b) h rest = refl
as_fresh (item.Order a b) h rest = refl
as_fresh (item.Trigger a) h rest = refl
as_fresh (item.Key a) h rest = refl
as_fresh (item.StarredKey a) h rest = refl
as_fresh (item.AmountName f a) h rest = refl
as_fresh (item.Placeholder a) h rest = refl
as_fresh (item.Argument a) h rest = refl

-- no list and no sum, where it is no position and no trigger
abbrev pub plains : List ℕ
plains = 0 ∷ 1 ∷ 2 ∷ 3 ∷ 4 ∷ 5 ∷ 6 ∷ 8 ∷ 9 ∷ 10 ∷ 11 ∷ 12 ∷ 13 ∷ 16 ∷ 17 ∷ 18 ∷ 19 ∷ 22 ∷ 23 ∷ 24 ∷ []

pub as_plain : (values : List ℤ) (used : Counts) (i : Item) → OneOf plains (tag i) → begins (part i) ≡ false → as_trigger (as_listed (part i)) ≡ None → (rest : List Item)
    → Plain values used i rest
as_plain values used (item.Declared a b) h e n rest = record { row = refl; lists = λ l. refl; fit = λ f. f }
as_plain values used (item.Ratio a b) h e n rest = record { row = refl; lists = λ l. refl; fit = λ f. f }
as_plain values used (item.Root a b) h e n rest = record { row = refl; lists = λ l. refl; fit = λ f. f }
as_plain values used (item.Add a b) h e n rest = record { row = refl; lists = λ l. refl; fit = λ f. f }
as_plain values used (item.Subtract a b) h e n rest = record { row = refl; lists = λ l. refl; fit = λ f. f }
as_plain values used (item.Frequency a) h e n rest = record { row = refl; lists = λ l. refl; fit = λ f. f }
as_plain values used (item.Base a) h e n rest = record { row = refl; lists = λ l. refl; fit = λ f. f }
as_plain values used (item.AnchorKey a) h e n rest = absurd (miss plains 7 tt h)
as_plain values used item.MutedPosition h e n rest = absurd (clash refl e)
as_plain values used item.KeptPosition h e n rest = absurd (clash refl e)
as_plain values used (item.TonePosition a) h e n rest = absurd (clash refl e)
as_plain values used item.AnchorKept h e n rest = record { row = refl; lists = λ l. refl; fit = λ f. f }
as_plain values used (item.Amount AnchorTo a) h e n rest = record { row = refl; lists = λ l. refl; fit = λ f. f }
as_plain values used (item.Amount AnchorUp a) h e n rest = record { row = refl; lists = λ l. refl; fit = λ f. f }
as_plain values used (item.Amount AnchorDown a) h e n rest = record { row = refl; lists = λ l. refl; fit = λ f. f }
as_plain values used (item.Amount WidthTo a) h e n rest = record { row = refl; lists = λ l. refl; fit = λ f. f }
as_plain values used (item.Amount WidthUp a) h e n rest = record { row = refl; lists = λ l. refl; fit = λ f. f }
as_plain values used (item.Amount WidthDown a) h e n rest = record { row = refl; lists = λ l. refl; fit = λ f. f }
as_plain values used (item.Amount WidthTimes a) h e n rest = record { row = refl; lists = λ l. refl; fit = λ f. f }
as_plain values used (item.Amount WidthOver a) h e n rest = record { row = refl; lists = λ l. refl; fit = λ f. f }
as_plain values used item.WidthKept h e n rest = record { row = refl; lists = λ l. refl; fit = λ f. f }
as_plain values used item.Period h e n rest = absurd (miss plains 14 tt h)
as_plain values used item.Onward h e n rest = absurd (miss plains 15 tt h)
as_plain values used (item.Letter a) h e n rest = absurd (some_or_none n)
as_plain values used (item.Start a b) h e n rest = record { row = refl; lists = λ l. refl; fit = λ f. f }
as_plain values used (item.Order a b) h e n rest = record { row = refl; lists = λ l. refl; fit = λ f. f }
as_plain values used (item.Trigger a) h e n rest = absurd (some_or_none n)
as_plain values used (item.Key a) h e n rest = absurd (miss plains 20 tt h)
as_plain values used (item.StarredKey a) h e n rest = absurd (miss plains 21 tt h)
as_plain values used (item.AmountName f a) h e n rest = record { row = refl; lists = λ l. refl; fit = λ f. f }
as_plain values used (item.Placeholder a) h e n rest = record { row = refl; lists = λ l. refl; fit = λ f. f }
as_plain values used (item.Argument a) h e n rest = record { row = refl; lists = λ l. refl; fit = λ f. f }

-- ---- positions

pub as_tones : {i : Item} → Inside i → begins (part i) ≡ true → (rest : List Item) → form_of (i ∷ rest) ≡ tones (grouped (i ∷ rest)).positions
as_tones add e rest = absurd (clash e refl)
as_tones subtract e rest = absurd (clash e refl)
as_tones muted e rest = refl
as_tones kept e rest = refl
as_tones tone e rest = refl
as_tones start e rest = absurd (clash e refl)
as_tones letter e rest = absurd (clash e refl)
as_tones order e rest = absurd (clash e refl)
as_tones trigger e rest = absurd (clash e refl)
as_tones key e rest = absurd (clash e refl)
as_tones starred e rest = absurd (clash e refl)
as_tones {i} (outside o) e rest = absurd (clash e (no_begin i o))

-- ---- triggers

pub as_logic_holds : {i : Item} → Inside i → {x : Trigger} → as_trigger (as_listed (part i)) ≡ Some x → (rest : List Item)
    → form_of (i ∷ rest) ≡ logic x (start_of rest) (orders_of rest)
as_logic_holds add e rest = absurd (some_or_none (sym e))
as_logic_holds subtract e rest = absurd (some_or_none (sym e))
as_logic_holds muted e rest = absurd (some_or_none (sym e))
as_logic_holds kept e rest = absurd (some_or_none (sym e))
as_logic_holds tone e rest = absurd (some_or_none (sym e))
as_logic_holds letter e rest = ap (λ (y : Trigger). logic y (start_of rest) (orders_of rest)) (some_same e)
as_logic_holds start e rest = absurd (some_or_none (sym e))
as_logic_holds order e rest = absurd (some_or_none (sym e))
as_logic_holds trigger e rest = ap (λ (y : Trigger). logic y (start_of rest) (orders_of rest)) (some_same e)
as_logic_holds key e rest = absurd (some_or_none (sym e))
as_logic_holds starred e rest = absurd (some_or_none (sym e))
as_logic_holds (outside o) e rest = absurd (some_or_none (sym e ∙ ap as_trigger o))

-- ---- keys

pub plain_first : (v : ℕ) (rest : List Item) → form_of (item.Key v ∷ rest) ≡ harmony (keys_of (item.Key v ∷ rest))
unfolding keys_of
plain_first v rest = refl

pub starred_first : (v : ℕ) (rest : List Item) → form_of (item.StarredKey v ∷ rest) ≡ harmony (keys_of (item.StarredKey v ∷ rest))
unfolding keys_of
starred_first v rest = refl

-- ---- periods: a new one, or onto the old one, by the first item after `[ ]`

pub data PeriodForm (is : List Item) : Type 0 where
  fresh : period_of is ≡ fresh_period (terms_of is) → PeriodForm is
  onto : period_of is ≡ onward_period (terms_of is) → PeriodForm is

pub period_form_holds : (is : List Item) → PeriodForm is
unfolding terms_of
period_form_holds [] = fresh refl
period_form_holds (i ∷ rest) = go (part i) refl
  where
    by : {q : Part} → part i ≡ q → period_of (i ∷ rest) ≡ period_by q (i ∷ rest) rest
    by e = ap (λ (q : Part). period_by q (i ∷ rest) rest) e

    go : (q : Part) → part i ≡ q → PeriodForm (i ∷ rest)
    go (declares k p) e = fresh (by e)
    go (gives g a b) e = fresh (by e)
    go (uses u a b) e = fresh (by e)
    go (says parts.muted) e = fresh (by e)
    go (says parts.kept) e = fresh (by e)
    go (says parts.anchor_kept) e = fresh (by e)
    go (says parts.width_kept) e = fresh (by e)
    go (says parts.period) e = fresh (by e)
    go (says parts.onward) e = onto (by e ∙ ap (λ (q : Part). onward_period (term_then q (terms_of rest))) (sym e))

pub period_fit : (values : List ℤ) {is : List Item} → PeriodForm is → FitParts values (period_of is) → Summable values (terms_of is)
period_fit values (fresh e) h = rw e at h
period_fit values (onto e) h = rw e at h

pub period_none : (is : List Item) → length is ≡ 0 → period_of is ≡ fresh_period (terms_of is)
unfolding terms_of
period_none [] h = refl
period_none (i ∷ is) h = absurd (omega (arith, h))

pub period_onward : {is : List Item} {i : Item} {rest : List Item} → is ≡ i ∷ rest → i ≡ item.Onward → period_of is ≡ onward_period (terms_of is)
unfolding terms_of
period_onward e h = rw (e, h)

-- ---- the row with what belongs to it, stored in two of the tables

module _ {value : ℕ → ℤ} {used : Counts} {r : Row} {l : Lists} where
  -- what is shown of a declaration holds of an equal one
  pub rowed_as : {d e : Declaration} {after : Lists} → d ≡ e → Rowed value used e l r after → Rowed value used d l r after
  rowed_as {after} q h = subst (λ (d : Declaration). Rowed value used d l r after) (sym q) h

  pub system_rowed : {a : ℕ} {ps : List (Option ℕ)} {ts : List Term} {s : List ℕ} {t : List ℤ} → r ≡ row_after value used (system a ps ts)
      → Stored sounding_of pitch_of (tones_of value (system a ps ts)) used.tones l.sounding l.tones s t
      → Rowed value used (system a ps ts) l r (record { sounding = s; tones = t; kinds = l.kinds; changes = l.changes; triggers = l.triggers; calls = l.calls })
  system_rowed e h = record { row = e; lists = rw (h.first, h.second) }

  pub tones_rowed : {ps : List Position} {k : List ℕ} {c : List ℤ} → r ≡ row_after value used (tones ps)
      → Stored change_code change_number (changes_of value (tones ps)) used.changes l.kinds l.changes k c
      → Rowed value used (tones ps) l r (record { sounding = l.sounding; tones = l.tones; kinds = k; changes = c; triggers = l.triggers; calls = l.calls })
  tones_rowed e h = record { row = e; lists = rw (h.first, h.second) }

  pub logic_rowed : {c : Trigger} {s : Option ℕ} {os : List Order} {x y : List ℕ} → r ≡ row_after value used (logic c s os)
      → Stored trigger_of call_of os used.orders l.triggers l.calls x y
      → Rowed value used (logic c s os) l r (record { sounding = l.sounding; tones = l.tones; kinds = l.kinds; changes = l.changes; triggers = x; calls = y })
  logic_rowed e h = record { row = e; lists = rw (h.first, h.second) }

  pub harmony_rowed : {ks : List HarmonyKey} → r ≡ row_after value used (harmony ks) → Rowed value used (harmony ks) l r l
  harmony_rowed e = record { row = e; lists = refl }

  pub period_rowed : {is : List Item} → PeriodForm is → r ≡ row_of value 0 0 0 0 (period_of is) → Rowed value used (period_of is) l r l
  period_rowed (fresh q) e = record { row = e ∙ rw q; lists = rw q }
  period_rowed (onto q) e = record { row = e ∙ rw q; lists = rw q }
