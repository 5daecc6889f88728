-- What a trigger calls, by the declarations of the text. Document 01, "Frames": "Letter: logics are tried in declared order; the first with this letter
-- becomes active and its start is called, and the search ends. Else the active logic's orders in declared order, the first with it being called; a called
-- logic becomes active, its start called." Document 02, 5/13: a harmony's "bare name is a trigger beside `KEY letter`, in logics and orders; triggers are tried
-- in declared order, logics first".
use Rattle.std.specs.Prelude.{◌≡◌, Bool, true, false, List, [], ◌∷◌, ℕ, suc, eqb, Option, Some, None}
use Rattle.harmonies.specs.Harmonies.{matches, harmony_of}
use Rattle.program.specs.Program.{Trigger, by_letter, by_harmony, Order, AsLogic, no_logic_holds, a_logic, as_logic, AsHarmony, no_harmony, a_harmony, as_harmony, Program}
use Rattle.program.specs.Meaning.{declaration_at}
use Rattle.program.specs.Allowed.{Letter}
use Rattle.program.specs.Text.{accepted, read_text}
use Rattle.filling.specs.Tables.{tables_of}
use Rattle.frames.specs.Frames.{letter, letter_row, frame_of}
use Rattle.protocol.specs.declared.Chord.{Chord}
use Rattle.protocol.specs.Triggers.{Sought, itself, matching, Struck, struck}

-- ---- which triggers of the text answer: those with the letter that is pressed, or those that name a harmony which matches the chord of the held keys

-- "A harmony matches when exactly its numbers are held, starred ones apart; one naming a number at or above the width, starred or not, never matches."
-- (`Matching` of harmonies/specs/Meaning.antt)
abbrev pub harmony_matches : Chord → AsHarmony → Bool
harmony_matches x no_harmony = false
harmony_matches x (a_harmony ks) = matches x.positions x.width (harmony_of ks)

abbrev pub sought_by : Program → Sought → Trigger → Bool
sought_by p (itself l) (by_letter c) = eqb c l
sought_by p (itself l) (by_harmony k) = false
sought_by p (matching x) (by_letter c) = false
sought_by p (matching x) (by_harmony k) = harmony_matches x (as_harmony (declaration_at p k))

-- ---- what is called, by a test of the triggers

-- "logics are tried in declared order": the first whose trigger passes the test, of declarations that are numbered from i on
abbrev pub passes : (Trigger → Bool) → AsLogic → Bool
passes q no_logic_holds = false
passes q (a_logic c s os) = q c

unfoldable pub logic_in : (Trigger → Bool) → ℕ → Program → Option ℕ
logic_in q i [] = None
logic_in q i (d ∷ ds) = elim (passes q (as_logic d.is)) [ true ↦ Some i | false ↦ logic_in q (suc i) ds ]

-- "Else the active logic's orders in declared order, the first with it being called"
unfoldable pub order_in : (Trigger → Bool) → List Order → Option ℕ
order_in q [] = None
order_in q (o ∷ os) = elim (q o.trigger) [ true ↦ Some o.calls | false ↦ order_in q os ]

abbrev pub order_by : (Trigger → Bool) → AsLogic → Option ℕ
order_by q no_logic_holds = None
order_by q (a_logic c s os) = order_in q os

abbrev pub active_order : Program → (Trigger → Bool) → Option ℕ → Option ℕ
active_order p q None = None
active_order p q (Some i) = order_by q (as_logic (declaration_at p i))

abbrev pub else_active : Program → Option ℕ → (Trigger → Bool) → Option ℕ → Option ℕ
else_active p a q None = active_order p q a
else_active p a q (Some i) = Some i

-- "a called logic becomes active, its start called", or with no start itself, which does nothing; what is no logic is called itself
abbrev pub start_of : ℕ → Option ℕ → List ℕ
start_of k None = k ∷ []
start_of k (Some j) = j ∷ []

abbrev pub calls_in : Option ℕ → ℕ → AsLogic → Struck
calls_in a k no_logic_holds = record { active = a; calls = k ∷ [] }
calls_in a k (a_logic c s os) = record { active = Some k; calls = start_of k s }

-- nothing is called where nothing is found
abbrev pub unless_none : Program → Option ℕ → Option ℕ → Struck
unless_none p a None = record { active = a; calls = [] }
unless_none p a (Some k) = calls_in a k (as_logic (declaration_at p k))

unfoldable pub struck_in : Program → Option ℕ → (Trigger → Bool) → Struck
struck_in p a q = unless_none p a (else_active p a q (logic_in q 0 p))

-- ---- what the tables of an accepted text call for a letter or for a chord is what its declarations say

-- what a frame looks for: a letter from A to Z, or any chord
abbrev pub Asked : Sought → Type 0
Asked (itself c) = Letter c
Asked (matching x) = Unit

-- of a row each letter
abbrev pub AllAsked : List ℕ → Type 0
AllAsked [] = Unit
AllAsked (c ∷ cs) = Asked (itself c) × AllAsked cs

pub record LineAsks (line : List ℕ) : Type 0 where
  pub one : (house c : ℕ) → frame_of line ≡ letter house c → Asked (itself c)
  pub row : (house : ℕ) (cs : List ℕ) → frame_of line ≡ letter_row house cs → AllAsked cs

unfoldable pub FramesAsk : Type 0
FramesAsk = (line : List ℕ) → LineAsks line

unfoldable pub LettersOfText : Type 0
LettersOfText =
    (text : List ℕ) (p : Program) → read_text text ≡ accepted p → (a : Option ℕ) (x : Sought) → Asked x
    → struck (tables_of p) a x ≡ struck_in p a (sought_by p x)
