-- The tables of a program decode to the program's actions, with the sums that the tables hold. Assumes nothing.
use mathlib.Core.Path.{◌≡◌, refl, ap, ◌∙◌}
use mathlib.Core.List.{List, map, map-map, map_congr_left}
use Rattle.std.specs.Prelude.{Option, Some, None}
use Prim.Native.Nat.{ℕ, ◌+◌, ◌<◌}
use lib.IntN.{ℤ, ◌+ℤ◌}
use lib.ListN.{length}
use Rattle.tuning.specs.Scale.{Sound}
use Rattle.tuning.specs.Tuning.{fresh, onward, PositionTo, mute, move, set_to, Action, anchor_to, width_to, period_to, tones_to, system}
use Rattle.tuning.specs.Desk.{cents}
use Rattle.tuning.specs.State.{heard, tone_meant}
use Rattle.tables.specs.Layout.{changes_from}
use Rattle.tables.proofs.Systems.{listed_meant}
use Rattle.program.specs.Program as text
use Rattle.program.specs.Program.{Declaration, Position, Program}
use Rattle.program.specs.Meaning.{declaration_at, value_of}
use Rattle.tuning.specs.Capped.{capped}
use Rattle.filling.specs.Tables.{sum_of, sum, tone_of, change_of, row_of, tables_of}
use Rattle.mutabor.proofs.Filled.{tones_before, changes_before, orders_before}
use Rattle.mutabor.proofs.Decoded.{row_decoded, system_tones, retuning_changes}
use Rattle.protocol.specs.Triggers.{action_by, action_at}
use Rattle.exact.specs.Actions.{system_position_of}

-- ---- the actions that the tables hold

module _ (value : ℕ → ℤ) where
  abbrev pub capped_position : Position → PositionTo cents
  capped_position text.mute = mute
  capped_position (text.kept ts) = move (sum value ts)
  capped_position (text.named k ts) = set_to (capped (value k +ℤ sum_of value ts))

  -- the action of declaration i; a tone system's period is its value
  abbrev pub capped_of : ℕ → Declaration → Option (Action cents)
  capped_of i (text.ratio p q) = None
  capped_of i (text.root a b) = None
  capped_of i (text.sequence ts) = None
  capped_of i (text.frequency f) = None
  capped_of i (text.from k ts) = None
  capped_of i (text.system a l ts) = Some (system (record { anchor = a; tones = map (system_position_of cents value value) l; period = value i }))
  capped_of i (text.anchor m) = Some (anchor_to m)
  capped_of i (text.width m) = Some (width_to m)
  capped_of i (text.fresh_period ts) = Some (period_to (fresh (sum value ts)))
  capped_of i (text.onward_period ts) = Some (period_to (onward (sum value ts)))
  capped_of i (text.tones l) = Some (tones_to (map capped_position l))
  capped_of i (text.logic c s os) = None
  capped_of i text.pattern = None
  capped_of i (text.harmony ks) = None

  -- what is heard of the tones, and what the changes say
  tones_heard : (l : List (Option ℕ)) → map heard (map (tone_of value) l) ≡ map (system_position_of cents value value) l
  tones_heard l = map-map heard (tone_of value) l ∙ map_congr_left {l = l} (λ x m. one x)
    where
      one : (x : Option ℕ) → heard (tone_of value x) ≡ system_position_of cents value value x
      one None = refl
      one (Some k) = refl

  changes_said : (l : List Position) → map tone_meant (map (change_of value) l) ≡ map capped_position l
  changes_said l = map-map tone_meant (change_of value) l ∙ map_congr_left {l = l} (λ x m. one x)
    where
      one : (x : Position) → tone_meant (change_of value x) ≡ capped_position x
      one text.mute = refl
      one (text.kept ts) = refl
      one (text.named k ts) = refl

abbrev pub capped_action : Program → ℕ → Option (Action cents)
capped_action p k = capped_of (value_of p) k (declaration_at p k)

-- ---- decoding

pub action_decoded : (p : Program) (k : ℕ) → k < length p → action_at (tables_of p) k ≡ capped_action p k
action_decoded p k h = ap (action_by (tables_of p)) (row_decoded p k h) ∙ by_form (declaration_at p k) refl
  where
    by_form : (d : Declaration) → declaration_at p k ≡ d
        → action_by (tables_of p) (row_of (value_of p) k (tones_before p k) (changes_before p k) (orders_before p k) d) ≡ capped_of (value_of p) k d
    by_form (text.ratio a b) e = refl
    by_form (text.root a b) e = refl
    by_form (text.sequence ts) e = refl
    by_form (text.frequency f) e = refl
    by_form (text.from j ts) e = refl
    by_form (text.system a l ts) e =
        ap (λ (ys : List (Sound ℤ)). Some (system (record { anchor = a; tones = ys; period = value_of p k })))
        (ap (map heard) (system_tones p k h a l ts e) ∙ tones_heard (value_of p) l)
    by_form (text.anchor m) e = refl
    by_form (text.width m) e = refl
    by_form (text.fresh_period ts) e = refl
    by_form (text.onward_period ts) e = refl
    by_form (text.tones l) e =
        let cs = changes_from (tables_of p) (changes_before p k) (changes_before p k + length l) in
        ap (λ (ys : List (PositionTo cents)). Some (tones_to ys))
        (listed_meant cs ∙ ap (map tone_meant) (retuning_changes p k h l e) ∙ changes_said (value_of p) l)
    by_form (text.logic c s os) e = refl
    by_form text.pattern e = refl
    by_form (text.harmony ks) e = refl
