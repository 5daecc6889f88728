-- "symbol that no continuation allows": 3 is given for such a symbol and, document 02, 5/13, for "a number named twice" in a harmony, and for no other
-- (`three_exactly` of proofs/Live.antt); and which number a refused symbol gets (`lower_number`).
use Rattle.std.specs.Prelude.{true, false, List, [], ◌∷◌, ◌++◌, map, ◌↔◌, ◌⊎◌, ◌≡◌, ℕ, Option, Some, None}
use Rattle.std.proofs.Math.Seq.{slice}
use Rattle.status.specs.Status.{no_symbol, symbol_not_allowed, number_out_of_range, item_too_many}
use Rattle.sets.specs.Sets.{has}
use Rattle.symbols.specs.declared.Symbol.{Symbol}
use Rattle.grammar.specs.declared.NumberUse.{NumberUse}
use Rattle.grammar.specs.declared.NumberUse.TheVariants.{Key, StarredKey}
use Rattle.grammar.specs.declared.Action.TheVariants.{Number}
use Rattle.grammar.specs.Syntax.{Terminal, Node, Begin, Finish, Rule, rules}
use Rattle.grammar.specs.Terminals.{terminal_of, start_of, end_of, is_nothing, picked}
use Rattle.grammar.specs.Reading.{judged, Standing, refuse, go, give, stepped, begun}

-- the node that symbols lead to along the diagrams, if each of them may follow
unfoldable pub walked : Node → List Terminal → Option Node
walked n [] = Some n
walked n (t ∷ ts) = elim (picked (rules n) t) [ None ↦ None | Some r ↦ walked r.next ts ]

-- the symbols of a whole text, its end the last of them
abbrev pub Whole : List Terminal → Type 0
Whole ts = walked Begin ts ≡ Some Finish

-- no continuation makes these the symbols of a whole text
abbrev pub NoContinuation : List Terminal → Type 0
NoContinuation ts = (more : List Terminal) → Whole (ts ++ more) → ⊥

-- where symbols lead to, if none of them is refused
unfoldable pub reached : List ℕ → Standing → List Symbol → Option Standing
reached text s [] = Some s
reached text s (y ∷ ys) = elim (stepped text s y) [ refuse n p ↦ None | go t ↦ reached text t ys | give t i ↦ reached text t ys ]

-- a key number of a harmony, with its star or without
pub data KeyUse : NumberUse → Type 0 where
  plain : KeyUse Key
  starred : KeyUse StarredKey

-- "a number named twice": a continuation allows a key number, and the harmony under way has named this one
pub record NamedTwice (text : List ℕ) (s : Standing) (y : Symbol) : Type 0 where
  pub rule : Rule
  pub picks : picked (rules s.node) (terminal_of text y) ≡ Some rule
  pub purpose : NumberUse
  pub key : KeyUse purpose
  pub reads : rule.action ≡ Number purpose
  pub value : ℕ
  pub is : judged purpose (slice (start_of y) (end_of y) text) ≡ Some value
  pub named : has s.kept.keys value ≡ true

-- a number "out of range, too many places, or a point where whole is asked": a continuation allows a number, and not this one
pub record UnfitNumber (text : List ℕ) (s : Standing) (y : Symbol) : Type 0 where
  pub rule : Rule
  pub picks : picked (rules s.node) (terminal_of text y) ≡ Some rule
  pub purpose : NumberUse
  pub reads : rule.action ≡ Number purpose
  pub outside : judged purpose (slice (start_of y) (end_of y) text) ≡ None

-- after symbols of which none is refused, a further symbol y is refused with 3, at its place, just where with it there is no continuation, or it names a
-- number twice
abbrev pub ThreeExactly : Type 0
ThreeExactly =
    (text : List ℕ) (ys : List Symbol) (y : Symbol) (s : Standing) → reached text begun ys ≡ Some s → is_nothing (terminal_of text y) ≡ false
    → (stepped text s y ≡ refuse symbol_not_allowed (start_of y)) ↔ (NoContinuation (map (terminal_of text) (ys ++ y ∷ [])) ⊎ NamedTwice text s y)

-- "at one place the lower number": the number of a further symbol that is refused. 2 where no symbol begins there, 3 where no continuation allows it or it
-- names a number twice; 4 and 9 only where neither is so, and 9 only where the symbol is no number that 4 is for (as a fifth number of a call may be, document
-- 02, 1/13)
pub data Refused (text : List ℕ) (ys : List Symbol) (s : Standing) (y : Symbol) : ℕ → Type 0 where
  two : is_nothing (terminal_of text y) ≡ true → Refused text ys s y no_symbol
  three : is_nothing (terminal_of text y) ≡ false → NoContinuation (map (terminal_of text) (ys ++ y ∷ [])) ⊎ NamedTwice text s y
      → Refused text ys s y symbol_not_allowed
  four : is_nothing (terminal_of text y) ≡ false → (NoContinuation (map (terminal_of text) (ys ++ y ∷ [])) ⊎ NamedTwice text s y → ⊥)
      → Refused text ys s y number_out_of_range
  nine : is_nothing (terminal_of text y) ≡ false → (NoContinuation (map (terminal_of text) (ys ++ y ∷ [])) ⊎ NamedTwice text s y → ⊥)
      → (UnfitNumber text s y → ⊥) → Refused text ys s y item_too_many

unfoldable pub LowerNumber : Type 0
LowerNumber =
    (text : List ℕ) (ys : List Symbol) (y : Symbol) (s : Standing) → reached text begun ys ≡ Some s → (n p : ℕ) → stepped text s y ≡ refuse n p
    → Refused text ys s y n
