-- The slices come back from the tables: no number and no code is left out, at any length. Assumes nothing.
use mathlib.Core.Path.{◌≡◌, refl, sym, ap, ◌∙◌}
use mathlib.Core.List.{List, [], ◌∷◌, ◌++◌}
use Prim.Native.Nat.{ℕ, ◌+◌}
use lib.ListN.{drop, take-append-drop}
use lib.Seq.{drop-drop}
use Rattle.tables.specs.Layout.{section, column, triggers_in, calls_in, tables_in, woven, NothingLeftOut, counts_size, most_tones, most_changes, tones_at, sounding_at, kinds_at, orders_at}

module _ {A : Type 0} where
  -- a section, and what follows it
  section_on : (at size : ℕ) (l rest : List A) → rest ≡ drop (at + size) l → section at size l ++ rest ≡ drop at l
  section_on at size l rest e = ap (λ (r : List A). section at size l ++ r) (e ∙ sym (drop-drop size at l)) ∙ take-append-drop size (drop at l)

-- the columns of orders
columns_whole : (l : List ℕ) → woven (triggers_in l) (calls_in l) ≡ l
unfolding column woven
columns_whole [] = refl
columns_whole (c ∷ []) = refl
columns_whole (c ∷ k ∷ l) = ap (λ (r : List ℕ). c ∷ k ∷ r) (columns_whole l)

pub nothing_left_out : NothingLeftOut
unfolding NothingLeftOut tables_in
nothing_left_out numbers codes = (
  section_on 0 tones_at numbers _ (section_on tones_at most_tones numbers _ refl),
  section_on 0 counts_size codes _ (section_on sounding_at most_tones codes _ (section_on kinds_at most_changes codes _ (columns_whole (drop orders_at codes)))),
)
