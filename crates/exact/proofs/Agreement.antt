-- Where what is near by one comparison is near by a wider one, all that is claimed of streams by the one is claimed by the other.
use mathlib.Core.List.{List}
use Rattle.std.specs.Prelude.{Option}
use lib.IntN.{ℤ}
use Rattle.cents.proofs.Near.{suffices}
use Rattle.tuning.specs.Scale.{Sound}
use Rattle.tuning.specs.Tuning.{Tuning}
use Rattle.tuning.specs.Desk.{cents}
use Rattle.program.specs.Program.{Program}
use Rattle.answers.specs.Told.{KeyTold}
use Rattle.protocol.specs.Streams.{Lent}
use Rattle.exact.specs.Entry.{Entry, Nearness, Within, Sharper}
use Rattle.exact.specs.Book.{Declared, Powers, entries}
use Rattle.exact.specs.Agreement.{KeyAgrees, both_silent, both_sound, Agrees}
use Rattle.exact.specs.Claim.{AnswerNear, told_silent, told_unplayable, told_pitch, Demand3, Claimed}

-- document 02, 10/13: the tighter comparison suffices for document 01's
pub sharper_within : (l : Entry) (d : ℤ) → Sharper l d → Within l d
sharper_within l d h = record { once = suffices d h.once; again = λ k. suffices d (h.again k) }

module _ (near wider : Nearness) (by : (l : Entry) (d : ℤ) → near l d → wider l d) where
  key_by : {ds : List (Option Declared)} {x : Sound Powers} {y : Sound ℤ} → KeyAgrees near ds x y → KeyAgrees wider ds x y
  key_by both_silent = both_silent
  key_by (both_sound h) = both_sound (by _ _ h)

  pub agrees_by : {ds : List (Option Declared)} {desk : Tuning cents} {book : Tuning entries} → Agrees near ds desk book → Agrees wider ds desk book
  agrees_by h = record { anchor = h.anchor; width = h.width; key = λ x. key_by (h.key x) }

  answer_by : {ds : List (Option Declared)} {x : Sound Powers} {told : KeyTold} → AnswerNear near ds x told → AnswerNear wider ds x told
  answer_by (told_silent h) = told_silent (key_by h)
  answer_by (told_unplayable beyond h) = told_unplayable beyond (key_by h)
  answer_by (told_pitch within h) = told_pitch within (key_by h)

  demand_by : {p : Program} {stream : List Lent} → Demand3 near p stream → Demand3 wider p stream
  demand_by h = record {
    state = agrees_by h.state;
    answer = λ house key room a b c r. let s = h.answer house key room a b c r in record { told = s.told; line = s.line; agrees = answer_by s.agrees };
  }

  pub claimed_by : Claimed near → Claimed wider
  claimed_by h text p e stream = demand_by (h text p e stream)
