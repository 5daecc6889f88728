-- A call: the desk and the book that is fed the same call with its number agree after it.
use mathlib.Core.Path.{◌≡◌, refl, sym, subst}
use mathlib.Core.List.{List, [], ◌∷◌, ◌++◌}
use Rattle.std.specs.Prelude.{Option}
use Prim.Native.Nat.{ℕ, zero, suc}
use native.Mathlib.Omega.{arith}
use lib.IntN.{ℤ, ◌+ℤ◌, ◌-ℤ◌}
use Rattle.integers.specs.Parts.{up, dn}
use Rattle.integers.proofs.Signed.{signed, one, ◌⊕◌, ◌⊖◌, lin}
use Rattle.cents.specs.Measure.{pitch440}
use Rattle.cents.proofs.Near.{Close, close_weaker, close_lift, to_sharp}
use Rattle.tuning.specs.Scale.{Sound}
use Rattle.tuning.specs.Tuning.{Tuning, Action, done}
use Rattle.tuning.specs.Desk.{cents, if_taken, called}
use Rattle.exact.specs.Entry.{Entry, degrees, weight, u, v, Sharper}
use Rattle.exact.specs.Book.{Declared, Powers, entries, numbers_of, written, Made, book_from}
use Rattle.exact.specs.Agreement.{KeyAgrees, both_silent, both_sound, Agrees}
use Rattle.exact.proofs.Ranges.{AllInRange}
use Rattle.exact.proofs.EntryNear.{pitch, entry_near}
use Rattle.exact.proofs.Follows as F
use Rattle.exact.proofs.Follows.{Both, Agree, ActionBoth, same_length, sound_follows, done_follows}
use Rattle.exact.proofs.Measured.{MeasuredTone, measure_follows}
use Rattle.exact.proofs.Numbers.{written_good}

-- ---- from the invariant to the comparison

less_base : (z x : ℤ) → z ≡ pitch440 +ℤ x → x ≡ z -ℤ pitch440
less_base z x h = omega (signed, lin (one pitch440 ⊕ one x), lin (one z ⊖ one pitch440))

module _ {ds : List (Option Declared)} (a : AllInRange ds) where
  -- any weight from the entry's own on would do; a lesser one is refused here
  tone_sharper : {e : Powers} {z : ℤ} → MeasuredTone ds e z → Sharper (written (numbers_of ds) e) (z -ℤ pitch440)
  tone_sharper {e} {z} m =
      let l : Entry = written (numbers_of ds) e in
      let d : ℤ = z -ℤ pitch440 in
      let n : Close (degrees l) (weight l) (up d) (dn d) (u l) (v l) =
      subst (λ (y : ℤ). Close (degrees l) (weight l) (up y) (dn y) (u l) (v l)) (less_base z (pitch l) m.value) (entry_near l (written_good e a) m.power) in
      record { once = to_sharp d (close_weaker _ (omega arith) n); again = λ k. to_sharp d (close_weaker _ (omega arith) (close_lift k n)) }

  key_agrees : {x : Sound Powers} {y : Sound ℤ} → Both (MeasuredTone ds) x y → KeyAgrees Sharper ds x y
  key_agrees F.silent = both_silent
  key_agrees (F.heard h) = both_sound (tone_sharper h)

  pub agrees : (desk : Tuning cents) (book : Tuning entries) → Agree (measure_follows ds) book desk → Agrees Sharper ds desk book
  agrees desk book h = record {
    anchor = sym h.anchor;
    width = sym (same_length (MeasuredTone ds) h.tones);
    key = λ x. key_agrees (sound_follows entries cents (measure_follows ds) book desk h x);
  }

-- ---- a call

taken_agree : (ds : List (Option Declared)) (n : ℕ) (desk new : Tuning cents) (book anew : Tuning entries) → Agree (measure_follows ds) book desk → Agree (measure_follows ds) anew new
    → Agree (measure_follows ds) (if_taken n anew book) (if_taken n new desk)
taken_agree ds zero desk new book anew h k = k
taken_agree ds (suc n) desk new book anew h k = h

-- the invariant after a call, taken or not
pub call_follows : (ds : List (Option Declared)) (desk : Tuning cents) (book : Tuning entries) → Agree (measure_follows ds) book desk → {d : Action cents} {c : Action entries}
    → ActionBoth (measure_follows ds) c d → Agree (measure_follows ds) (book_from book (record { call = c; number = (called desk d).number } ∷ [])) (called desk d).state
unfolding book_from called
call_follows ds desk book h {d} {c} k =
    let n = (called desk d).number in
    taken_agree ds n desk (done cents desk d) book (done entries book c) h (done_follows entries cents (measure_follows ds) book desk h k)

-- what the book is fed in two parts
pub book_append : (b : Tuning entries) (l m : List Made) → book_from b (l ++ m) ≡ book_from (book_from b l) m
unfolding book_from
book_append b [] m = refl
book_append b (x ∷ l) m = book_append (if_taken x.number (done entries b x.call) b) l m
