-- The numbers of calls, presses and frames: what holds of each that can be given holds of the one that is. Assumes nothing.
use mathlib.Core.Path.{◌≡◌, refl, sym, subst}
use mathlib.Core.Bool.{Bool, true, false, cond}
use mathlib.Core.List.{List, [], ◌∷◌, get_last_d}
use Rattle.std.specs.Prelude.{Option, Some, None, Result, Ok, Err, IfErr}
use Prim.Native.Nat.{ℕ}
use lib.IntN.{ℤ}
use Rattle.status.specs.Status.{done, division_by_zero, anchor_out_of_range, width_out_of_range, period_out_of_range, end_silent, tone_out_of_range, key_unplayable, key_held, key_not_held, key_silent, letter_unbound, bad_frame}
use Rattle.tuning.specs.Tuning.{Tuning, Action, anchor_to, width_to, period_to, tones_to, system}
use Rattle.tuning.specs.Scale.{Sound, muted, sounds}
use Rattle.tuning.specs.Desk.{cents, is_playable, Check, first_failing, checks, called}
use Rattle.tuning.specs.State.{held}
use Rattle.tables.specs.Layout.{Tables}
use Rattle.keys.specs.declared.HeldKeys.{HeldKeys}
use Rattle.keys.specs.Keys.{is_held, with_key, without_key}
use Rattle.frames.specs.declared.Way.{Way}
use Rattle.frames.specs.declared.Way.TheVariants.{Down, Up}
use Rattle.frames.specs.Frames.{Frame, bad, letter, key, dump, move, letter_row}
use Rattle.protocol.specs.declared.Desk.{Desk}
use Rattle.protocol.specs.Triggers.{Sought, itself, matching, action_at, struck}
use Rattle.protocol.specs.Steps.{with_active, with_keys, by_action, call_on, made_from, last_number, triggered, letter_step, pressed_in_turn, chord_on, if_moved, key_moved, move_step}
use Rattle.protocol.specs.Answers.{letter_outcome, move_outcome, letter_row_outcome, sound_at, key_number, key_outcome, frame_outcome}
use Rattle.protocol.proofs.InTurn.{last_of}

-- ---- the numbers that can be given

pub record OfCalls (P : ℕ → Type 0) : Type 0 where
  pub taken : P done
  pub divided : P division_by_zero
  pub anchor : P anchor_out_of_range
  pub width : P width_out_of_range
  pub period : P period_out_of_range
  pub ends : P end_silent
  pub tone : P tone_out_of_range

-- of frames that ask no key
pub record OfFrames (P : ℕ → Type 0) : Type 0 where
  pub call : OfCalls P
  pub held : P key_held
  pub unheld : P key_not_held
  pub unbound : P letter_unbound
  pub bad : P bad_frame

module _ (P : ℕ → Type 0) where
  -- ---- a call

  unfoldable Each : List Check → Type 0
  Each [] = Unit
  Each (c ∷ cs) = P c.number × Each cs

  module _ (h : OfCalls P) where
    first_number : (cs : List Check) → Each cs → P (first_failing cs)
    unfolding first_failing Each
    first_number [] a = h.taken
    first_number (c ∷ cs) a = go c.fails a.0 (first_number cs a.1)
      where
        go : (b : Bool) → P c.number → P (first_failing cs) → P (elim b [ true ↦ c.number | false ↦ first_failing cs ])
        go true here later = here
        go false here later = later

    pub call_number_step : (s : Tuning cents) (c : Action cents) → P (called s c).number
    unfolding called Each
    call_number_step s c = first_number (checks s c) (known c)
      where
        known : (c : Action cents) → Each (checks s c)
        known (anchor_to m) = (h.anchor, (h.ends, (h.tone, tt)))
        known (width_to m) = (h.divided, (h.width, (h.ends, (h.tone, (h.period, tt)))))
        known (period_to m) = (h.period, tt)
        known (tones_to l) = (h.tone, tt)
        known (system y) = tt

    made_number : (t : Tables) (house : ℕ) (d : Desk) (ks : List ℕ) {unfound : ℕ} → P unfound → P (last_number unfound (made_from t house d ks))
    unfolding made_from call_on
    made_number t house d [] n = n
    made_number t house d (k ∷ ks) n = made_number t house (call_on t house d k).desk ks (go (action_at t k))
      where
        go : (o : Option (Action cents)) → P (by_action house d o).number
        go None = h.taken
        go (Some c) = call_number_step (held d.tuning) c

    pub step_number : (t : Tables) (house : ℕ) (d : Desk) (x : Sought) {unfound : ℕ} → P unfound → P (triggered t house d x unfound).number
    unfolding triggered
    step_number t house d x n = let z = struck t d.active x in made_number t house (with_active z.active d) z.calls n

  -- ---- a key asked

  pub asked_number : P key_silent → P key_unplayable → P done → (x : Sound ℤ) → P (key_number x)
  asked_number silent unplayable given muted = silent
  asked_number silent unplayable given (sounds z) = go (is_playable z)
    where
      go : (b : Bool) → P (cond b done key_unplayable)
      go true = given
      go false = unplayable

  -- ---- a press

  module _ (h : OfFrames P) where
    either : (is : Bool) (x y : Result HeldKeys ℕ) → IfErr x P → IfErr y P → IfErr (cond is x y) P
    either true x y p q = p
    either false x y p q = q

    moved_number : (way : Way) (ks : HeldKeys) (house k : ℕ) → IfErr (key_moved way ks house k) P
    moved_number Down ks house k = either (is_held ks house k) (Err key_held) (Ok (with_key ks house k)) h.held tt
    moved_number Up ks house k = either (is_held ks house k) (Ok (without_key ks house k)) (Err key_not_held) tt h.unheld

    pub move_number : (t : Tables) (way : Way) (house : ℕ) (d : Desk) (k : ℕ) → P (move_step t way house d k).number
    unfolding move_step
    move_number t way house d k = go (key_moved way d.keys house k) (moved_number way d.keys house k)
      where
        go : (m : Result HeldKeys ℕ) → IfErr m P → P (if_moved t house d m).number
        go (Ok ks) l = step_number h.call t house (with_keys ks d) (matching (chord_on (with_keys ks d))) h.call.taken
        go (Err _) l = l

    -- of the last press, and where there is none
    presses_number : (t : Tables) (house : ℕ) (d : Desk) (cs : List ℕ) {n : ℕ} → P n → P (get_last_d (pressed_in_turn t house d cs).numbers n)
    unfolding pressed_in_turn get_last_d
    presses_number t house d [] p = p
    presses_number t house d (c ∷ cs) {n} p =
        let s = letter_step t house d c in
        subst P (sym (last_of s.number (pressed_in_turn t house s.desk cs).numbers n))
        (presses_number t house s.desk cs (step_number h.call t house d (itself c) h.unbound))

    -- ---- a frame, where it holds of the number of each key asked

    pub frame_number : (t : Tables) (d : Desk) (f : Frame) → ((house k : ℕ) → f ≡ key house k → P (key_number (sound_at d k))) → P (frame_outcome t d f).number
    unfolding frame_outcome letter_outcome move_outcome letter_row_outcome key_outcome
    frame_number t d bad asked = h.bad
    frame_number t d (letter house c) asked = step_number h.call t house d (itself c) h.unbound
    frame_number t d (key house k) asked = asked house k refl
    frame_number t d (dump house) asked = h.call.taken
    frame_number t d (move way house k) asked = move_number t way house d k
    frame_number t d (letter_row house cs) asked = presses_number t house d cs h.call.taken
