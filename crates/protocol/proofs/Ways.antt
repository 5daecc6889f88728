-- The ways through a frame. Assumes nothing.
use mathlib.Core.Path.{◌≡◌, refl, sym, ap, ◌∙◌, subst}
use mathlib.Core.Bool.{Bool, true, false, cond, ◌&&◌, false≢true}
use mathlib.Core.List.{List, [], ◌∷◌}
use Prim.Native.Nat.{ℕ, ◌≤◌, ◌<◌}
use native.Mathlib.Omega.{arith}
use borrow.Author.Tests.{lt-ltb, le-ltb, leb-true}
use types.Run.{OneOf, miss}
use denote.Enum.Declared.{tag_of}
use lib.Dec.{ltb}
use lib.ListN.{length}
use Rattle.status.specs.Status.{buffer_too_small, table_damaged}
use Rattle.tuning.specs.Desk.{playable}
use Rattle.tuning.specs.State.{heard, tone_of, valid_state}
use Rattle.tuning.specs.declared.Tone.{Tone}
use Rattle.tuning.proofs.Lists.{both}
use Rattle.tuning.proofs.Held.{heard_tone}
use Rattle.tables.specs.Layout.{Tables}
use Rattle.validity.specs.Valid.{valid_tables}
use Rattle.frames.specs.Frames.{Frame, bad, letter, key, dump, move, letter_row, frame_of, inside, is_house, is_key, last_key, decoded_as}
use Rattle.frames.specs.declared.Decoded.{Decoded}
use Rattle.frames.specs.declared.Decoded.TheVariants.{Bad, Letter, Key, Dump, Move, LetterRow}
use Rattle.frames.specs.contracts.Decoded as variants
use Rattle.cents.specs.declared.KeyNumber.{KeyNumber}
use Rattle.hexadecimal.specs.Lines.{line_of}
use Rattle.frames.specs.declared.Way.{Way}
use Rattle.frames.proofs.LetterRows.{no_row}
use Rattle.frames.proofs.Ranges.{move_ranges, row_ranges}
use Rattle.answers.specs.Answer.{key_bytes, smallest_buffer}
use Rattle.protocol.specs.declared.Desk.{Desk}
use Rattle.protocol.specs.declared.Answered.{Answered}
use Rattle.protocol.specs.declared.Told.{Told}
use Rattle.protocol.specs.Answers.{Outcome, sound_at, key_number, key_outcome, frame_outcome}
use Rattle.protocol.specs.Answers.{active_right, valid_desk, unchanged, answer_of, Gives}
use Rattle.protocol.specs.Inner.{Ready, FrameInside, may_change, told_outcome, Tells}

-- what gives an outcome gives an equal one
pub gives : {r : Answered} {before after : List ℕ} {o q : Outcome} → o ≡ q → Gives o r before after → Gives q r before after
gives {r} {before} {after} e g = subst (λ (x : Outcome). Gives x r before after) e g

-- ---- an answer: a buffer that is too small, tables or a desk that are damaged, or what the frame does

pub by_outcome : (t : Tables) (d : Desk) (frame : List ℕ) (room : ℕ) (P : Outcome → Type 0) → P (unchanged d buffer_too_small)
    → (valid_desk t d ≡ false → P (unchanged d table_damaged)) → (valid_desk t d ≡ true → P (frame_outcome t d (frame_of frame))) → P (answer_of t d frame room)
unfolding answer_of
by_outcome t d frame room P small damaged sound = by_room (ltb room smallest_buffer)
  where
    by_desk : (valid : Bool) → valid_desk t d ≡ valid → P (cond valid (frame_outcome t d (frame_of frame)) (unchanged d table_damaged))
    by_desk true e = sound e
    by_desk false e = damaged e

    by_room : (is : Bool)
        → P (cond is (unchanged d buffer_too_small) (cond (valid_desk t d) (frame_outcome t d (frame_of frame)) (unchanged d table_damaged)))
    by_room true = small
    by_room false = by_desk (valid_desk t d) refl

-- a refusal leaves the buffer
pub refusal : {r : Answered} {d : Desk} {n : ℕ} (buffer : List ℕ) → (r.desk ≡ d) × (r.number ≡ n) × (r.length ≡ 0)
    → Gives (unchanged d n) r buffer buffer
refusal buffer e = record { desk = e.0; number = e.1; size = e.2; buffer = refl }

-- ---- the test of the tables and the desk

module _ (t : Tables) (d : Desk) where
  pub desk_tables : valid_tables t ≡ false → false ≡ valid_desk t d
  desk_tables h = rw h

  pub desk_state : valid_tables t ≡ true → valid_state d.tuning ≡ false → false ≡ valid_desk t d
  desk_state h k = rw (h, k)

  pub desk_active : valid_tables t ≡ true → valid_state d.tuning ≡ true → active_right t d.active ≡ valid_desk t d
  desk_active h k = rw (h, k)

  pub desk_ready : (buffer : List ℕ) → valid_desk t d ≡ true → smallest_buffer ≤ length buffer → Ready t d buffer
  desk_ready buffer h l =
      let a = both (valid_tables t && valid_state d.tuning) (active_right t d.active) h in
      let b = both (valid_tables t) (valid_state d.tuning) a.0 in
      record { tables = b.0; state = b.1; active = a.1; room = l }

  pub ready_valid : {buffer : List ℕ} → Ready t d buffer → valid_desk t d ≡ true
  ready_valid r = rw (r.tables, r.state, r.active)

  pub state_right : valid_desk t d ≡ true → valid_state d.tuning ≡ true
  state_right h = (both (valid_tables t) (valid_state d.tuning) (both (valid_tables t && valid_state d.tuning) (active_right t d.active) h).0).1

  pub tables_right : valid_desk t d ≡ true → valid_tables t ≡ true
  tables_right h = (both (valid_tables t) (valid_state d.tuning) (both (valid_tables t && valid_state d.tuning) (active_right t d.active) h).0).0

-- ---- by the buffer, the tables and the desk

module _ (t : Tables) (d : Desk) (frame : List ℕ) (room : ℕ) where
  pub too_small : room < smallest_buffer → unchanged d buffer_too_small ≡ answer_of t d frame room
  unfolding answer_of
  too_small l = rw (lt-ltb room smallest_buffer l)

  pub damaged : {v : Bool} → smallest_buffer ≤ room → v ≡ valid_desk t d → v ≡ false
      → unchanged d table_damaged ≡ answer_of t d frame room
  unfolding answer_of
  damaged l e f = rw (le-ltb room smallest_buffer l, ← e, f)

  pub taken : {v : Bool} → smallest_buffer ≤ room → v ≡ valid_desk t d → v ≡ true
      → frame_outcome t d (frame_of frame) ≡ answer_of t d frame room
  unfolding answer_of
  taken l e f = rw (le-ltb room smallest_buffer l, ← e, f)

-- ---- by the frame

pub frame_inside : (f : Frame) {r : Decoded} → r ≡ decoded_as f → inside f ≡ true → FrameInside r
frame_inside f e h = subst FrameInside (sym e) (go f h)
  where
    go : (f : Frame) → inside f ≡ true → FrameInside (decoded_as f)
    go bad h = tt
    go (letter house c) h = tt
    go (key house k) h = leb-true k last_key (both (is_house house) (is_key k) h).1
    go (dump house) h = tt
    go (move way house k) h = let r = move_ranges way house k h in record { first = r.0; last = r.1; high = omega (arith, r.2) }
    go (letter_row house cs) h = (row_ranges house cs h).most

-- ---- what a frame is told that changes nothing

pub outcome_tells : {o q : Outcome} {r : Told} {before after : List ℕ} → o ≡ q → Tells o r before after → Tells q r before after
outcome_tells {r = r} {before = before} {after = after} e h = subst (λ (x : Outcome). Tells x r before after) e h

pub tells : (d : Desk) {f g : Decoded} {r : Told} {before after : List ℕ} → f ≡ g → Tells (told_outcome d g) r before after → Tells (told_outcome d f) r before after
tells d e h = outcome_tells (ap (told_outcome d) (sym e)) h

-- what is told is what the frame does
abbrev pub told_by : Desk → Told → Answered
told_by d r = record { desk = d; number = r.number; length = r.length }

pub told_gives : (t : Tables) (d : Desk) (f : Frame) {q : Decoded} {r : Told} {before after : List ℕ} → q ≡ decoded_as f → may_change q ≡ false
    → Tells (told_outcome d q) r before after → Gives (frame_outcome t d f) (told_by d r) before after
unfolding frame_outcome key_outcome
told_gives t d f {q} {r} {before} {after} e h g =
    go f (ap may_change (sym e) ∙ h) (subst (λ (x : Decoded). Tells (told_outcome d x) r before after) e g)
  where
    go : (f : Frame) → may_change (decoded_as f) ≡ false → Tells (told_outcome d (decoded_as f)) r before after → Gives (frame_outcome t d f) (told_by d r) before after
    go bad h g = record { desk = refl; number = g.number; size = g.size; buffer = g.buffer }
    go (letter house c) h g = absurd (false≢true (sym h))
    go (key house n) h g = record { desk = refl; number = g.number; size = g.size; buffer = g.buffer }
    go (dump house) h g = record { desk = refl; number = g.number; size = g.size; buffer = g.buffer }
    go (move way house n) h g = absurd (false≢true (sym h))
    go (letter_row house cs) h g = absurd (false≢true (sym h))

-- ---- a frame that may change the desk, and one that may not

-- the variants of a frame that is no letter, and of one that moves no key
abbrev pub no_letter : List ℕ
no_letter = 0 ∷ 2 ∷ 3 ∷ 4 ∷ 5 ∷ []

abbrev pub no_move : List ℕ
no_move = 0 ∷ 1 ∷ 2 ∷ 3 ∷ 5 ∷ []

-- what holds of those that are neither
pub of_other : (P : Decoded → Type 0) → P Bad → ((house : ℕ) (k : KeyNumber) → P (Key house k)) → ((house : ℕ) → P (Dump house))
    → ((house count : ℕ) → P (LetterRow house count)) → (f : Decoded)
    → OneOf no_letter (tag_of variants.the_type f) → OneOf no_move (tag_of variants.the_type f) → P f
of_other P b k d l Bad h m = b
of_other P b k d l (Letter house c) h m = absurd (miss no_letter 1 tt h)
of_other P b k d l (Key house x) h m = k house x
of_other P b k d l (Dump house) h m = d house
of_other P b k d l (Move way house x) h m = absurd (miss no_move 4 tt m)
of_other P b k d l (LetterRow house count) h m = l house count

-- what holds of every frame that is no row
pub of_no_row : (P : Decoded → Type 0) → P Bad → ((house c : ℕ) → P (Letter house c)) → ((house : ℕ) (k : KeyNumber) → P (Key house k)) → ((house : ℕ) → P (Dump house))
    → ((way : Way) (house : ℕ) (k : KeyNumber) → P (Move way house k)) → (f : Decoded) → OneOf no_row (tag_of variants.the_type f) → P f
of_no_row P b l k d m Bad h = b
of_no_row P b l k d m (Letter house c) h = l house c
of_no_row P b l k d m (Key house x) h = k house x
of_no_row P b l k d m (Dump house) h = d house
of_no_row P b l k d m (Move way house x) h = m way house x
of_no_row P b l k d m (LetterRow house count) h = absurd (miss no_row 5 tt h)

-- ---- a key

pub key_gives : (d : Desk) (house k : ℕ) (tone shown : Tone) (n : ℕ) → tone ≡ tone_of (sound_at d k) → n ≡ key_number (heard tone)
    → shown ≡ tone_of (playable (heard tone))
    → ◌≡◌ {A = Outcome} (record { desk = d; number = n; made = []; line = line_of (key_bytes house k n (heard shown)) }) (key_outcome d house k)
unfolding key_outcome
key_gives d house k tone shown n e f g =
    let z : heard tone ≡ sound_at d k = ap heard e ∙ heard_tone (sound_at d k) in
    let y : heard shown ≡ playable (heard tone) = ap heard g ∙ heard_tone (playable (heard tone)) in
    rw (y, f, z)
