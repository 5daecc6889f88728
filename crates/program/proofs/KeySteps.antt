-- What the actions of harmonies lead to, from stage to stage.
-- Assumes nothing.
use mathlib.Core.Bool.{Bool, true, false, cond, ◌||◌}
use mathlib.Core.List.{List, ◌∷◌}
use mathlib.Core.Path.{◌≡◌, refl, sym, ◌∙◌}
use Prim.Native.Nat.{ℕ, zero, suc, ◌+◌, ◌-◌, ◌≤◌, ◌<◌}
use native.Mathlib.Nat.{le_of_suc-le-suc}
use native.Mathlib.Omega.{arith}
use lib.Dec.{eqb}
use Rattle.std.specs.Prelude.{Some, Ok, Err}
use Rattle.status.specs.declared.Reason.TheVariants.{SymbolNotAllowed}
use Rattle.limits.specs.Limits.{most_harmony_keys}
use Rattle.sets.specs.Sets.{has, added}
use Rattle.sets.proofs.Members.{has_added, has_zero}
use Rattle.grammar.specs.declared.Kind.TheVariants.{Harmony}
use Rattle.grammar.specs.declared.NumberUse.TheVariants.{Key, StarredKey}
use Rattle.grammar.specs.declared.MarkUse.TheVariants.{Star}
use Rattle.grammar.specs.declared.Action.TheVariants.{Pass, Number, Mark}
use Rattle.grammar.specs.declared.Item.{Item}
use Rattle.grammar.specs.declared.Item.TheVariants as item
use Rattle.grammar.specs.declared.Progress.{Progress}
use Rattle.grammar.specs.declared.Span.{Span}
use Rattle.grammar.specs.declared.terminals.Terminal.{Terminal}
use Rattle.grammar.specs.Terminals.{span_of}
use Rattle.grammar.specs.Reading.{refusal, with_key, key_counted, key_named, acted}
use Rattle.program.proofs.Formed.{KeyItems, no_key, plain_key, starred_key_case, something, a_harmony}
use Rattle.program.proofs.Ahead.{body, key, keys, SomeKeys, keys_left, Leads, refused, passed, given, Move}
use Rattle.program.proofs.Steps.{full, passing, numbering, Ending}

-- ---- keys that none of a set is are keys that none of a smaller set is

or_right : (a b : Bool) → (a || b) ≡ false → b ≡ false
or_right false b e = e
or_right true b e = let z : ◌≡◌ {A = ℕ} 0 1 = cc in absurd (omega arith)

or_again : (a b c : Bool) → (b ≡ false → c ≡ false) → (a || b) ≡ false → (a || c) ≡ false
or_again false b c h e = h e
or_again true b c h e = e

Smaller : ℕ → ℕ → Type 0
Smaller few many = (v : ℕ) → has many v ≡ false → has few v ≡ false

smaller_added : (few many v : ℕ) → Smaller few many → Smaller (added few v) (added many v)
unfolding Smaller
smaller_added few many v h w e =
    has_added few v w ∙ or_again (eqb w v) (has many w) (has few w) (h w) (sym (has_added many v w) ∙ e)

more_keys : {few many n m : ℕ} {is : List Item} → Smaller few many → n ≤ m → KeyItems many n is → KeyItems few m is
unfolding Smaller
more_keys s h no_key = no_key
more_keys {m = zero} s h (plain_key l e ks) = absurd (omega arith)
more_keys {few} {many} {m = suc m} s h (plain_key {v = v} l e ks) =
    plain_key l (s v e) (more_keys {few = added few v} {many = added many v} (smaller_added few many v s) (le_of_suc-le-suc h) ks)
more_keys {m = zero} s h (starred_key_case l e ks) = absurd (omega arith)
more_keys {few} {many} {m = suc m} s h (starred_key_case {v = v} l e ks) =
    starred_key_case l (s v e) (more_keys {few = added few v} {many = added many v} (smaller_added few many v s) (le_of_suc-le-suc h) ks)

alike : (set : ℕ) → Smaller set set
unfolding Smaller
alike set v e = e

least : (many : ℕ) → Smaller 0 many
unfolding Smaller
least many v e = has_zero v

-- ---- the steps

-- a number is refused where it is named, and a key else
named : (s : Progress) (x : Span) (v : ℕ) (i : Item)
    → ((is : List Item) → has s.keys v ≡ false → s.positions < most_harmony_keys → KeyItems (added s.keys v) (most_harmony_keys - (s.positions + 1)) is
    → SomeKeys s.keys (keys_left s) (i ∷ is))
    → Leads key keys s (key_named s v i x)
named s x v i h = go (has s.keys v) refl
  where
    go : (b : Bool) → has s.keys v ≡ b → Leads key keys s (cond b (Err (refusal SymbolNotAllowed x.start)) (key_counted s x (Ok (with_key v s, Some i))))
    go true e = refused (refusal SymbolNotAllowed x.start)
    go false e = full s most_harmony_keys s.positions x _ (λ l. given (λ f. f) (λ is f ks. h is e l ks))

module _ {t : Terminal} where
  -- the keys begin, in braces
  pub harmony_opens : Move t (body Harmony) Pass key
  harmony_opens = passing (λ s is c. a_harmony (more_keys (least s.keys) (omega arith) c.keys) c.some)

  pub star : Move t key (Mark Star) key
  unfolding acted
  star = record { leads = λ text s y e. full s most_harmony_keys s.positions (span_of y) _ (λ h. passed (λ f. f) (λ is c. c)) }

  pub plain : Move t key (Number Key) keys
  plain = numbering (λ s x v r. named s x v (item.Key v) (λ is e l ks.
      record { keys = more_keys (alike s.keys) (omega arith) (plain_key r.1 e ks); some = something }))

  pub starred : Move t key (Number StarredKey) keys
  starred = numbering (λ s x v r. named s x v (item.StarredKey v) (λ is e l ks.
      record { keys = more_keys (alike s.keys) (omega arith) (starred_key_case r.1 e ks); some = something }))

  -- a comma, and then a key
  pub next_key : Move t keys Pass key
  next_key = passing (λ s is c. c.keys)

pub no_more_keys : Ending keys
no_more_keys s = no_key
