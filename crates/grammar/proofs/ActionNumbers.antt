-- The numbers of actions: each leads back to its action.
use mathlib.Core.Path.{◌≡◌, refl}
use mathlib.Core.Bool.{true, false}
use Prim.Native.Nat.{◌+◌}
use Rattle.grammar.specs.declared.Kind.TheVariants.{Interval, Tone, System, Retuning, Logic, Order as AnOrder, Harmony}
use Rattle.grammar.specs.declared.Form.TheVariants.{AnchorTo, AnchorUp, AnchorDown, WidthTo, WidthUp, WidthDown, WidthTimes, WidthOver}
use Rattle.grammar.specs.declared.NumberUse.{NumberUse}
use Rattle.grammar.specs.declared.NumberUse.TheVariants.{RatioFirst, RatioSecond, Degree, Radicand, FirstFactor, Factor, Frequency, AnchorKey, Amount, Key, StarredKey, Argument}
use Rattle.grammar.specs.declared.NameUse.TheVariants.{Term, Base, Position, Start, Order, Trigger, CountedTrigger, Placeholder, Amount as NamedAmount}
use Rattle.grammar.specs.declared.MarkUse.TheVariants.{MutedPosition, KeptPosition, KeptAnchor, KeptWidth, Period, Onward, Star}
use Rattle.grammar.specs.declared.Action.{Action}
use Rattle.grammar.specs.declared.Action.TheVariants.{Pass, Declare, Hold, Held, Number, Sign, Name, Mark, Letter, CountOrder}
use Rattle.grammar.specs.Moves.{number_use_number, action_number, action_at}

-- a number's use, held or judged at once
uses : (u : NumberUse) → (action_at (64 + number_use_number u) ≡ Held u) × (action_at (96 + number_use_number u) ≡ Number u)
unfolding action_at
uses RatioFirst = (refl, refl)
uses RatioSecond = (refl, refl)
uses Degree = (refl, refl)
uses Radicand = (refl, refl)
uses FirstFactor = (refl, refl)
uses Factor = (refl, refl)
uses Frequency = (refl, refl)
uses AnchorKey = (refl, refl)
uses (Amount AnchorTo) = (refl, refl)
uses (Amount AnchorUp) = (refl, refl)
uses (Amount AnchorDown) = (refl, refl)
uses (Amount WidthTo) = (refl, refl)
uses (Amount WidthUp) = (refl, refl)
uses (Amount WidthDown) = (refl, refl)
uses (Amount WidthTimes) = (refl, refl)
uses (Amount WidthOver) = (refl, refl)
uses Key = (refl, refl)
uses StarredKey = (refl, refl)
uses Argument = (refl, refl)

pub action_back : (a : Action) → action_at (action_number a) ≡ a
unfolding action_at
action_back Pass = refl
action_back Hold = refl
action_back CountOrder = refl
action_back (Sign false) = refl
action_back (Sign true) = refl
action_back Letter = refl
action_back (Declare Interval) = refl
action_back (Declare Tone) = refl
action_back (Declare System) = refl
action_back (Declare Retuning) = refl
action_back (Declare Logic) = refl
action_back (Declare AnOrder) = refl
action_back (Declare Harmony) = refl
action_back (Held u) = (uses u).0
action_back (Number u) = (uses u).1
action_back (Name Term) = refl
action_back (Name Base) = refl
action_back (Name Position) = refl
action_back (Name Start) = refl
action_back (Name Order) = refl
action_back (Name Trigger) = refl
action_back (Name CountedTrigger) = refl
action_back (Name Placeholder) = refl
action_back (Name (NamedAmount AnchorTo)) = refl
action_back (Name (NamedAmount AnchorUp)) = refl
action_back (Name (NamedAmount AnchorDown)) = refl
action_back (Name (NamedAmount WidthTo)) = refl
action_back (Name (NamedAmount WidthUp)) = refl
action_back (Name (NamedAmount WidthDown)) = refl
action_back (Name (NamedAmount WidthTimes)) = refl
action_back (Name (NamedAmount WidthOver)) = refl
action_back (Mark MutedPosition) = refl
action_back (Mark KeptPosition) = refl
action_back (Mark KeptAnchor) = refl
action_back (Mark KeptWidth) = refl
action_back (Mark Period) = refl
action_back (Mark Onward) = refl
action_back (Mark Star) = refl
