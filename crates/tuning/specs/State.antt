-- The state as the code holds it, a struct with sixty places, and the tuning that it stands for; which states are valid.
use Rattle.std.specs.Prelude.{Bool, true, not, ◌&&◌, List, [], ◌∷◌, ◌++◌, map, ℕ, ◌-◌, ℤ, pos, length, take, drop, replicate}
use Rattle.tuning.specs.declared.Tone.{Tone}
use Rattle.tuning.specs.declared.Tone.TheVariants.{Muted, At}
use Rattle.tuning.specs.declared.State.{State}
use Rattle.tuning.specs.declared.Reply.{Reply}
use Rattle.tuning.specs.declared.PeriodChange.{PeriodChange}
use Rattle.tuning.specs.declared.PeriodChange.TheVariants.{Fresh, Onward}
use Rattle.tuning.specs.declared.ToneChange.{ToneChange}
use Rattle.tuning.specs.declared.ToneChange.TheVariants.{Mute, Move, Set}
use Rattle.tuning.specs.declared.ToneChanges.{ToneChanges}
use Rattle.tuning.specs.declared.Retuning.{Retuning}
use Rattle.tuning.specs.declared.Retuning.TheVariants.{Anchor, Width, Period, Tones}
use Rattle.limits.specs.Limits.{most_positions}
use Rattle.tuning.specs.Scale.{Sound, muted, sounds}
use Rattle.tuning.specs.Tuning.{Tuning, PeriodTo, fresh, onward, PositionTo, mute, move, set_to, Action, anchor_to, width_to, period_to, tones_to}
use Rattle.tuning.specs.Desk.{cents, is_anchor, is_width, is_period, is_muted, any_beyond, called}

-- the places of a state: "width not 1 to 60"
abbrev pub places : ℕ
places = most_positions

-- ---- what the code's values stand for

abbrev pub heard : Tone → Sound ℤ
heard Muted = muted
heard (At p) = sounds p.0

abbrev pub held : State → Tuning cents
held s = record { anchor = s.anchor.0; tones = map heard (take s.width s.tones); period = s.period.0 }

abbrev pub period_meant : PeriodChange → PeriodTo cents
period_meant (Fresh d) = fresh d.0
period_meant (Onward d) = onward d.0

abbrev pub tone_meant : ToneChange → PositionTo cents
tone_meant Mute = mute
tone_meant (Move d) = move d.0
tone_meant (Set p) = set_to p.0

abbrev pub tones_meant : ToneChanges → List (PositionTo cents)
tones_meant l = map tone_meant (take l.count l.positions)

abbrev pub meant : Retuning → ToneChanges → Action cents
meant (Anchor m) l = anchor_to m
meant (Width m) l = width_to m
meant (Period m) l = period_to (period_meant m)
meant Tones l = tones_to (tones_meant l)

-- ---- the code's values for them; unused places are muted, the zero of a tone

abbrev pub tone_of : Sound ℤ → Tone
tone_of muted = Muted
tone_of (sounds z) = At (record { 0 = z })

abbrev pub coded : Tuning cents → State
coded t = record {
  anchor = record { 0 = t.anchor };
  width = length t.tones;
  tones = map tone_of (t.tones ++ replicate (places - length t.tones) muted);
  period = record { 0 = t.period };
}

-- a call on a state: the state that it leaves, and its number
abbrev pub replied : State → Action cents → Reply
replied s c = let r = called (held s) c in record { state = coded r.state; number = r.number }

-- ---- "a .. state's number out of range", "Unused places of tables and states are zero, else 23"

unfoldable pub all_muted : List (Sound ℤ) → Bool
all_muted [] = true
all_muted (t ∷ ts) = is_muted t && all_muted ts

unfoldable pub valid_state : State → Bool
valid_state s =
    is_anchor (pos s.anchor.0) && (is_width (pos s.width) && (is_period s.period.0
    && (not (any_beyond (held s).tones) && all_muted (map heard (drop s.width s.tones)))))
