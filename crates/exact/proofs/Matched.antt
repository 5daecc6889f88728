-- The rows of an accepted text's tables call what its declarations call, on the desk and in the book.
use mathlib.Core.Path.{◌≡◌, refl, ◌∙◌, ap}
use mathlib.Core.Bool.{false}
use mathlib.Core.List.{List, [], ◌∷◌, map}
use Rattle.std.specs.Prelude.{Option, Some, None, Ok}
use Prim.Native.Nat.{ℕ, ◌≤◌, ◌<◌}
use native.Mathlib.Decide.{dec_lt}
use native.Mathlib.Omega.{arith}
use lib.IntN.{+ℤ_idl}
use lib.ListN.{length, length-map, get_or-eq_default}
use Rattle.values.specs.Values.{Term}
use Rattle.tuning.specs.Tuning.{Tuning, Action}
use Rattle.tuning.specs.Desk.{cents, any_beyond}
use Rattle.tuning.proofs.Held.{ValidTuning}
use Rattle.tuning.proofs.Laws.{ValidAction}
use Rattle.program.specs.Program as text
use Rattle.program.specs.Program.{Declaration, Placed, Program}
use Rattle.program.specs.Meaning.{nothing, declaration_at, value_of, valued}
use Rattle.program.specs.Allowed.{Each, FitSystemPosition, Fits, Allowed}
use Rattle.program.proofs.AcceptedText.{fits_at, value_tone, value_period}
use Rattle.filling.specs.Tables.{tables_of}
use Rattle.mutabor.proofs.Decoded.{past_decoded}
use Rattle.protocol.specs.Triggers.{action_at}
use Rattle.exact.specs.Book.{Declared, entries}
use Rattle.exact.specs.Actions.{total, system_position_of, action_of, declared_in, book_action, entry_of}
use Rattle.exact.specs.TextCalls.{desk_action}
use Rattle.exact.proofs.Measured.{measure_follows}
use Rattle.exact.proofs.Decoded.{action_decoded}
use Rattle.exact.proofs.Capped as Capped
use Rattle.exact.proofs.Capped.{SameCall, capped_same}
use Rattle.exact.proofs.Worked as Worked
use Rattle.exact.proofs.Worked.{CallBoth, action_follows}
use Rattle.exact.proofs.Declared.{value_at_step, interval_entered, tone_entered}
use Rattle.exact.proofs.Stream.{Matches, no_call_holds, one_call, AllMatch}

-- a call that keeps states valid, if there is one
abbrev Safe : Option (Action cents) → Type 0
Safe None = Unit
Safe (Some c) = ValidAction c

matched : {ds : List (Option Declared)} {s : Tuning cents} {x y : Option (Action cents)} {z : Option (Action entries)}
    → SameCall s x y → Safe y → CallBoth (measure_follows ds) z y → Matches ds s x z
matched Capped.no_call_holds v Worked.no_call_holds = no_call_holds
matched (Capped.same_call e) v (Worked.both_call k) = one_call e v k

module _ (p : Program) (allowed : Allowed p) (done : valued p ≡ Ok tt) where
  places_in_range : (l : List (Option ℕ)) → Each (FitSystemPosition p) l → any_beyond (map (system_position_of cents (value_of p) (value_of p)) l) ≡ false
  unfolding any_beyond
  places_in_range [] w = refl
  places_in_range (None ∷ l) w = places_in_range l w.1
  places_in_range (Some k ∷ l) w = rw (value_tone p done k w.0.within) (places_in_range l w.1)

  period_is : (i : ℕ) → i < length p → (a : ℕ) (l : List (Option ℕ)) (ts : List Term) → declaration_at p i ≡ text.system a l ts
      → value_of p i ≡ total cents (value_of p) (value_of p) ts
  period_is i h a l ts e = value_at_step p allowed done i h (text.system a l ts) e ∙ +ℤ_idl (total cents (value_of p) (value_of p) ts)

  safe : (i : ℕ) → i < length p → (d : Declaration) → declaration_at p i ≡ d → Fits p d → Safe (action_of cents (value_of p) (value_of p) d)
  safe i h (text.ratio a b) e w = tt
  safe i h (text.root a b) e w = tt
  safe i h (text.sequence ts) e w = tt
  safe i h (text.frequency f) e w = tt
  safe i h (text.from k ts) e w = tt
  safe i h (text.system a l ts) e w =
      let n = length-map l (system_position_of cents (value_of p) (value_of p)) in
      record {
        anchor = w.anchor;
        least = omega (arith, w.positions.some);
        most = omega (arith, w.positions.few);
        period = rw (← (period_is i h a l ts e)) (value_period p done i h e);
        tones = places_in_range l w.each;
      }
  safe i h (text.anchor m) e w = tt
  safe i h (text.width m) e w = tt
  safe i h (text.fresh_period ts) e w = tt
  safe i h (text.onward_period ts) e w = tt
  safe i h (text.tones l) e w = tt
  safe i h (text.logic c s os) e w = tt
  safe i h text.pattern e w = tt
  safe i h (text.harmony ks) e w = tt

  module _ (k : ℕ) (h : k < length p) where
    -- on a valid tuning the row of declaration k calls what the declaration says, with its sums as they are
    pub row_calls : (s : Tuning cents) → ValidTuning s → SameCall s (action_at (tables_of p) k) (desk_action p k)
    row_calls s v = rw (action_decoded p k h) (capped_same (value_of p) s v k (declaration_at p k) (period_is k h))

    -- and the book works it out alike, with entries
    pub book_calls : CallBoth (measure_follows (declared_in p)) (book_action p k) (desk_action p k)
    book_calls =
        action_follows (measure_follows (declared_in p)) (entry_of p) (entry_of p) (value_of p) (value_of p) p
        (interval_entered p allowed done) (tone_entered p allowed done) (declaration_at p k) (fits_at allowed k h)

  -- past the last declaration nothing is called
  past : (s : Tuning cents) (k : ℕ) → length p ≤ k → Matches (declared_in p) s (action_at (tables_of p) k) (book_action p k)
  past s k h =
      let none_in_book : book_action p k ≡ None =
      ap (λ (d : Placed). action_of entries (entry_of p) (entry_of p) d.is) (get_or-eq_default p nothing h) in
      rw (past_decoded p k h, none_in_book) no_call_holds

  pub matches : AllMatch (tables_of p) p
  matches s v k =
      elim (dec_lt k (length p)) [
        | yes h ↦ matched (row_calls k h s v) (safe k h (declaration_at p k) refl (fits_at allowed k h)) (book_calls k h)
        | no h ↦ past s k (omega arith)
      ]
