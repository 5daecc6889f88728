-- What a declaration calls, worked out at any scale: at thousandths of a cent for the desk, at entries for the exact book.
-- Document 01: "An entry gives a whole power to each of these ..; sequences and tones add entries, by factor and sign."
use Rattle.std.specs.Prelude.{List, [], ◌∷◌, map, ℕ, zero, suc, length, Option, Some, None}
use Rattle.values.specs.Values.{Term, weight}
use Rattle.tuning.specs.Scale.{Scale, Sound, muted, sounds}
use Rattle.tuning.specs.Tuning.{fresh, onward, PositionTo, mute, move, set_to, Action, anchor_to, width_to, period_to, tones_to, system}
use Rattle.program.specs.Program as text
use Rattle.program.specs.Program.{Declaration, Placed, Program, Position}
use Rattle.program.specs.Meaning.{declaration_at}
use Rattle.exact.specs.Book.{Declared, frequency, ratio, root, Powers, declared, once, entries}

module _ (S : Scale) (step : ℕ → S.Step) (tone : ℕ → S.Tone) where
  -- "Sequences add factor times measure": each term its factor, with its sign, times its interval
  abbrev pub total : List Term → S.Step
  total [] = S.none
  total (t ∷ ts) = S.add (S.times (weight t) (step t.of)) (total ts)

  -- the positions of a tone system
  abbrev pub system_position_of : Option ℕ → Sound S.Tone
  system_position_of None = muted
  system_position_of (Some k) = sounds (tone k)

  -- the positions of a tones retuning
  abbrev pub position_of : Position → PositionTo S
  position_of text.mute = mute
  position_of (text.kept ts) = move (total ts)
  position_of (text.named k ts) = set_to (S.shift (tone k) (total ts))

  -- the call of a tone system or retuning; the other declarations are not called so
  abbrev pub action_of : Declaration → Option (Action S)
  action_of (text.ratio p q) = None
  action_of (text.root a b) = None
  action_of (text.sequence ts) = None
  action_of (text.frequency f) = None
  action_of (text.from k ts) = None
  action_of (text.system a l ts) = Some (system (record { anchor = a; tones = map system_position_of l; period = total ts }))
  action_of (text.anchor m) = Some (anchor_to m)
  action_of (text.width m) = Some (width_to m)
  action_of (text.fresh_period ts) = Some (period_to (fresh (total ts)))
  action_of (text.onward_period ts) = Some (period_to (onward (total ts)))
  action_of (text.tones l) = Some (tones_to (map position_of l))
  action_of (text.logic c s os) = None
  action_of text.pattern = None
  action_of (text.harmony ks) = None

-- ---- the book's: with the entries of the declarations

-- "A declared number is one declaration's frequency, `p : q` or `A ROOT B`."
abbrev pub declared_by : Declaration → Option Declared
declared_by (text.ratio p q) = Some (ratio p q)
declared_by (text.root a b) = Some (root a b)
declared_by (text.sequence ts) = None
declared_by (text.frequency f) = Some (frequency f)
declared_by (text.from k ts) = None
declared_by (text.system a l ts) = None
declared_by (text.anchor m) = None
declared_by (text.width m) = None
declared_by (text.fresh_period ts) = None
declared_by (text.onward_period ts) = None
declared_by (text.tones l) = None
declared_by (text.logic c s os) = None
declared_by text.pattern = None
declared_by (text.harmony ks) = None

abbrev pub declared_in : Program → List (Option Declared)
declared_in p = map (λ (d : Placed). declared_by d.is) p

-- the entry of declaration i, from those that it uses: a declared number once, or the sum of its terms
abbrev pub entry_by : (ℕ → Powers) → ℕ → Declaration → Powers
entry_by of i (text.ratio p q) = once (declared i)
entry_by of i (text.root a b) = once (declared i)
entry_by of i (text.sequence ts) = total entries of of ts
entry_by of i (text.frequency f) = once (declared i)
entry_by of i (text.from k ts) = entries.shift (of k) (total entries of of ts)
entry_by of i (text.system a l ts) = entries.none
entry_by of i (text.anchor m) = entries.none
entry_by of i (text.width m) = entries.none
entry_by of i (text.fresh_period ts) = entries.none
entry_by of i (text.onward_period ts) = entries.none
entry_by of i (text.tones l) = entries.none
entry_by of i (text.logic c s os) = entries.none
entry_by of i text.pattern = entries.none
entry_by of i (text.harmony ks) = entries.none

-- references are followed as long as there are declarations that the chain has not visited
unfoldable pub entry_within : Program → ℕ → ℕ → Powers
entry_within p zero i = entries.none
entry_within p (suc left) i = entry_by (entry_within p left) i (declaration_at p i)

abbrev pub entry_of : Program → ℕ → Powers
entry_of p i = entry_within p (length p) i

abbrev pub book_action : Program → ℕ → Option (Action entries)
book_action p k = action_of entries (entry_of p) (entry_of p) (declaration_at p k)
