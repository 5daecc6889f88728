-- A declaration's call, worked out at two scales: alike on both, where what the declaration refers to is.
use mathlib.Core.Path.{refl, subst}
use mathlib.Core.List.{List, [], ◌∷◌, map}
use Rattle.std.specs.Prelude.{Option, Some, None}
use Prim.Native.Nat.{ℕ}
use Rattle.names.specs.Parts as parts
use Rattle.names.specs.Names.{meant}
use Rattle.values.specs.Values.{Term, weight}
use Rattle.values.specs.Inner.{Uses, here, there}
use Rattle.tuning.specs.Scale.{Scale}
use Rattle.tuning.specs.Tuning.{Action}
use Rattle.program.specs.Program as text
use Rattle.program.specs.Program.{Declaration, Program, Position}
use Rattle.program.specs.Allowed.{Refers, Each, FitTerm, Terms, FitSystemPosition, FitPosition, Fits}
use Rattle.exact.specs.Actions.{total, system_position_of, position_of, action_of}
use Rattle.exact.proofs.Follows.{Follows, silent, heard, AllBoth, empty, with}
use Rattle.exact.proofs.Follows.{PositionBoth, both_mute, both_move, both_set, PositionsBoth, no_positions_case, position}
use Rattle.exact.proofs.Follows.{ActionBoth, both_anchor, both_width, both_period, both_fresh, both_onward, both_tones, both_system}

-- no call on either side, or one that is worked out alike
pub data CallBoth {A B : Scale} (F : Follows A B) : Option (Action A) → Option (Action B) → Type 0 where
  no_call_holds : CallBoth F None None
  both_call : {c : Action A} {d : Action B} → ActionBoth F c d → CallBoth F (Some c) (Some d)

-- the terms of a sequence, tone or expression are intervals
pub terms_refer : (p : Program) (ts : List Term) → Each (FitTerm p) ts → {r : ℕ} → Uses (map (λ (t : Term). t.of) ts) r → Refers p (meant parts.add) r
terms_refer p [] w x = elim x [ ]
terms_refer p (t ∷ ts) w (here e) = subst (Refers p (meant parts.add)) e w.0.of
terms_refer p (t ∷ ts) w (there u) = terms_refer p ts w.1 u

module _ {A B : Scale} (F : Follows A B) (stepA : ℕ → A.Step) (toneA : ℕ → A.Tone) (stepB : ℕ → B.Step) (toneB : ℕ → B.Tone) where
  pub total_follows : (ts : List Term) → ((r : ℕ) → Uses (map (λ (t : Term). t.of) ts) r → F.step (stepA r) (stepB r))
      → F.step (total A stepA toneA ts) (total B stepB toneB ts)
  total_follows [] h = F.none
  total_follows (t ∷ ts) h = F.add (F.times (weight t) (h t.of (here refl))) (total_follows ts (λ r u. h r (there u)))

  module _ (p : Program) (steps : (r : ℕ) → Refers p (meant parts.add) r → F.step (stepA r) (stepB r))
      (tones : (r : ℕ) → Refers p (meant parts.position) r → F.tone (toneA r) (toneB r)) where
    terms_follow : (ts : List Term) → Terms p ts → F.step (total A stepA toneA ts) (total B stepB toneB ts)
    terms_follow ts w = total_follows ts (λ r u. steps r (terms_refer p ts w.each u))

    places_follow : (l : List (Option ℕ)) → Each (FitSystemPosition p) l → AllBoth F.tone (map (system_position_of A stepA toneA) l) (map (system_position_of B stepB toneB) l)
    places_follow [] w = empty
    places_follow (None ∷ l) w = with silent (places_follow l w.1)
    places_follow (Some k ∷ l) w = with (heard (tones k w.0)) (places_follow l w.1)

    position_follows : (x : Position) → FitPosition p x → PositionBoth F (position_of A stepA toneA x) (position_of B stepB toneB x)
    position_follows text.mute w = both_mute
    position_follows (text.kept ts) w = both_move (terms_follow ts w)
    position_follows (text.named k ts) w = both_set (F.shift (tones k w.0) (terms_follow ts w.1))

    positions_follow : (l : List Position) → Each (FitPosition p) l
        → PositionsBoth F (map (position_of A stepA toneA) l) (map (position_of B stepB toneB) l)
    positions_follow [] w = no_positions_case
    positions_follow (x ∷ l) w = position (position_follows x w.0) (positions_follow l w.1)

    pub action_follows : (d : Declaration) → Fits p d → CallBoth F (action_of A stepA toneA d) (action_of B stepB toneB d)
    action_follows (text.ratio a b) w = no_call_holds
    action_follows (text.root a b) w = no_call_holds
    action_follows (text.sequence ts) w = no_call_holds
    action_follows (text.frequency f) w = no_call_holds
    action_follows (text.from k ts) w = no_call_holds
    action_follows (text.system a l ts) w =
        both_call (both_system (record { anchor = refl; tones = places_follow l w.each; period = terms_follow ts w.period }))
    action_follows (text.anchor m) w = both_call (both_anchor m)
    action_follows (text.width m) w = both_call (both_width m)
    action_follows (text.fresh_period ts) w = both_call (both_period (both_fresh (terms_follow ts w)))
    action_follows (text.onward_period ts) w = both_call (both_period (both_onward (terms_follow ts w)))
    action_follows (text.tones l) w = both_call (both_tones (positions_follow l w.each))
    action_follows (text.logic c s os) w = no_call_holds
    action_follows text.pattern w = no_call_holds
    action_follows (text.harmony ks) w = no_call_holds
