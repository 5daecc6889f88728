-- Why an action refuses: 4 for a number, 9 for one item more, and 3 for a key number that the harmony under way has named.
-- Assumes nothing.
use mathlib.Core.Bool.{Bool, true, false, cond}
use mathlib.Core.List.{List}
use Rattle.std.specs.Prelude.{Option, Some, None, Ok, Err}
use mathlib.Core.Path.{◌≡◌, refl}
use Prim.Native.Nat.{ℕ}
use lib.Dec.{T, leb, eqb}
use lib.Seq.{slice}
use Rattle.status.specs.Status.{symbol_not_allowed, number_out_of_range, item_too_many}
use Rattle.limits.specs.Limits.{most_harmony_keys, most_placeholders}
use Rattle.sets.specs.Sets.{has}
use Rattle.grammar.specs.declared.Kind.TheVariants.{Order as AnOrder}
use Rattle.grammar.specs.declared.NumberUse.{NumberUse}
use Rattle.grammar.specs.declared.NumberUse.TheVariants.{RatioFirst, RatioSecond, Degree, Radicand, FirstFactor, Factor, Frequency, AnchorKey, Amount, Key, StarredKey, Argument}
use Rattle.grammar.specs.declared.NameUse.TheVariants.{Term, Base, Position, Start, Order, Trigger, CountedTrigger, Placeholder, Amount as NamedAmount}
use Rattle.grammar.specs.declared.MarkUse.TheVariants.{MutedPosition, KeptPosition, KeptAnchor, KeptWidth, Period, Onward, Star}
use Rattle.grammar.specs.declared.Action.{Action}
use Rattle.grammar.specs.declared.Action.TheVariants.{Pass, Declare, Hold, Held, Number, Sign, Name, Mark, Letter, CountOrder}
use Rattle.grammar.specs.declared.Item.{Item}
use Rattle.grammar.specs.declared.Progress.{Progress}
use Rattle.grammar.specs.declared.Span.{Span}
use Rattle.status.specs.declared.Reason.TheVariants.{SymbolNotAllowed, ItemTooMany}
use Rattle.status.specs.Reasons.{number_of}
use Rattle.grammar.specs.Syntax.{Terminal, Node, Rule, rules}
use Rattle.grammar.specs.Terminals.{picked}
use Rattle.grammar.specs.Moves.{action_number}
use Rattle.grammar.specs.Reading.{Outcome, refusal, most_terms, most_positions, judged, limit, so_far, unless_full, key_named, key_counted, with_key, used, if_allowed, numbered, acted}
use Rattle.grammar.specs.Live.{KeyUse, plain, starred}
use Rattle.grammar.proofs.Table.{both, both_left, both_right, each}
use Rattle.grammar.proofs.Diagrams.{at_each, picked_of}

-- no rule holds a key number to judge it later
no_held_key : Rule → Bool
no_held_key r =
    both (cond (eqb (action_number r.action) (action_number (Held Key))) false true) (cond (eqb (action_number r.action) (action_number (Held StarredKey))) false true)

all_no_held_key : Node → Bool
all_no_held_key q = each no_held_key (rules q)

pub held_no_key : (n : Node) (t : Terminal) {r : Rule} → picked (rules n) t ≡ Some r → {u : NumberUse} → KeyUse u → r.action ≡ Held u → ⊥
unfolding no_held_key all_no_held_key rules
held_no_key n t {r} e {u} k f = go u k f
  where
    p : T (no_held_key r)
    p = (picked_of no_held_key (rules n) t (at_each all_no_held_key tt tt n) e).0

    go : (v : NumberUse) → KeyUse v → r.action ≡ Held v → ⊥
    go _ plain q = let w = rw q at (both_left (cond (eqb (action_number r.action) (action_number (Held Key))) false true) _ p) in w
    go _ starred q = let w = rw q at (both_right (cond (eqb (action_number r.action) (action_number (Held Key))) false true) _ p) in w

module _ (text : List ℕ) (s : Progress) (x : Span) where
  pub data Why (a : Action) : ℕ → Type 0 where
    outside : Why a number_out_of_range
    full : Why a item_too_many
    again : {u : NumberUse} {v : ℕ} → KeyUse u → a ≡ Number u → judged u (slice x.start x.end text) ≡ Some v → has s.keys v ≡ true
        → Why a symbol_not_allowed
    held_key : {u : NumberUse} → KeyUse u → a ≡ Held u → Why a symbol_not_allowed

  abbrev pub Explained : Action → Outcome → Type 0
  Explained a (Err e) = Why a (number_of e.reason)
  Explained a (Ok kept) = Unit {0}

  full_why : (a : Action) (most n : ℕ) (o : Outcome) → Explained a o → Explained a (unless_full most n x o)
  full_why a most n o h = go (leb most n)
    where
      go : (b : Bool) → Explained a (cond b (Err (refusal ItemTooMany x.start)) o)
      go true = full
      go false = h

  -- a key number is explained by `k`, where it was named
  key_why : (a : Action) (v : ℕ) (i : Item) → (has s.keys v ≡ true → Why a symbol_not_allowed) → Explained a (key_named s v i x)
  key_why a v i k = go (has s.keys v) refl
    where
      go : (b : Bool) → has s.keys v ≡ b → Explained a (cond b (Err (refusal SymbolNotAllowed x.start)) (key_counted s x (Ok (with_key v s, Some i))))
      go true e = k e
      go false e = full_why a most_harmony_keys s.positions (Ok (with_key v s, Some i)) tt

  used_why : (a : Action) (u : NumberUse) (v : ℕ) → (KeyUse u → has s.keys v ≡ true → Why a symbol_not_allowed) → Explained a (used s u v x)
  used_why a RatioFirst v k = tt
  used_why a RatioSecond v k = tt
  used_why a Degree v k = tt
  used_why a Radicand v k = tt
  used_why a FirstFactor v k = tt
  used_why a Factor v k = tt
  used_why a Frequency v k = tt
  used_why a AnchorKey v k = tt
  used_why a (Amount f) v k = tt
  used_why a Key v k = key_why a v _ (k plain)
  used_why a StarredKey v k = key_why a v _ (k starred)
  used_why a Argument v k = full_why a most_placeholders s.bracketed _ tt

  numbered_why : (a : Action) (u : NumberUse) (from to : ℕ)
      → ((v : ℕ) → judged u (slice from to text) ≡ Some v → KeyUse u → has s.keys v ≡ true → Why a symbol_not_allowed) → Explained a (numbered text s u from to x)
  numbered_why a u from to k = go (judged u (slice from to text)) refl
    where
      go : (w : Option ℕ) → judged u (slice from to text) ≡ w → Explained a (if_allowed s u from x w)
      go None e = outside
      go (Some v) e = used_why a u v (k v e)

  pub acted_why : (a : Action) → Explained a (acted text s a x)
  unfolding acted
  acted_why Pass = tt
  acted_why (Declare k) = full_why (Declare k) (limit k) (so_far k s.counts) _ tt
  acted_why Hold = tt
  acted_why (Held u) = numbered_why (Held u) u s.first.start s.first.end (λ v e k h. held_key k refl)
  acted_why (Number u) = numbered_why (Number u) u x.start x.end (λ v e k h. again k refl e h)
  acted_why (Sign m) = full_why (Sign m) most_terms s.term.before _ tt
  acted_why (Name Term) = tt
  acted_why (Name Base) = tt
  acted_why (Name Position) = full_why (Name Position) most_positions s.positions _ tt
  acted_why (Name Start) = tt
  acted_why (Name Order) = tt
  acted_why (Name Trigger) = tt
  acted_why (Name Placeholder) = full_why (Name Placeholder) most_placeholders s.bracketed _ tt
  acted_why (Name (NamedAmount f)) = tt
  acted_why (Name CountedTrigger) = full_why (Name CountedTrigger) (limit AnOrder) (so_far AnOrder s.counts) _ tt
  acted_why (Mark MutedPosition) = full_why (Mark MutedPosition) most_positions s.positions _ tt
  acted_why (Mark KeptPosition) = full_why (Mark KeptPosition) most_positions s.positions _ tt
  acted_why (Mark KeptAnchor) = tt
  acted_why (Mark KeptWidth) = tt
  acted_why (Mark Period) = tt
  acted_why (Mark Onward) = tt
  acted_why (Mark Star) = full_why (Mark Star) most_harmony_keys s.positions _ tt
  acted_why Letter = tt
  acted_why CountOrder = full_why CountOrder (limit AnOrder) (so_far AnOrder s.counts) _ tt
