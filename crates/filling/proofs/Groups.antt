-- Where the terms end that stand before the next position. Assumes nothing.
use mathlib.Core.Path.{◌≡◌, refl, sym, ◌∙◌, ap}
use mathlib.Core.Bool.{Bool, true, false, cond, not}
use mathlib.Core.List.{List, [], ◌∷◌, ◌++◌}
use Prim.Native.Nat.{◌+◌}
use native.Mathlib.Numerals.{one-add}
use lib.Dec.{ltb}
use lib.ListN.{length, take}
use Rattle.std.specs.List.{position_or_len}
use Rattle.grammar.specs.declared.Item.{Item}
use Rattle.names.specs.Parts.{part}
use Rattle.values.specs.Values.{Term}
use Rattle.values.proofs.Cases.{clash}
use Rattle.program.specs.Program.{Grouped, AsListed, unlisted, a_term, muted_position, kept_position, tone_position, a_start, a_trigger, a_call, a_key, as_listed, with_term, term_then, terms_of, with_group, group_then, grouped}
use Rattle.filling.specs.Inner.{begins}
use Rattle.filling.proofs.Items.{term_first}

-- whether a position begins with a part
abbrev begins_at : AsListed → Bool
begins_at q = ltb 0 (length (with_group q (record { before = []; positions = [] })).positions)

before_none : (q : AsListed) (g : Grouped) → begins_at q ≡ true → (with_group q g).before ≡ []
before_none unlisted g e = absurd (clash e refl)
before_none (a_term t) g e = absurd (clash e refl)
before_none muted_position g e = refl
before_none kept_position g e = refl
before_none (tone_position n) g e = refl
before_none (a_start n) g e = absurd (clash e refl)
before_none (a_trigger x) g e = absurd (clash e refl)
before_none (a_call n) g e = absurd (clash e refl)
before_none (a_key k) g e = absurd (clash e refl)

before_first : (q : AsListed) (g : Grouped) → begins_at q ≡ false → (with_group q g).before ≡ with_term q [] ++ g.before
before_first unlisted g e = refl
before_first (a_term t) g e = refl
before_first muted_position g e = absurd (clash refl e)
before_first kept_position g e = absurd (clash refl e)
before_first (tone_position n) g e = absurd (clash refl e)
before_first (a_start n) g e = refl
before_first (a_trigger x) g e = refl
before_first (a_call n) g e = refl
before_first (a_key k) g e = refl

-- the terms of the items in front of the first at which a position begins
pub group_here : (is : List Item) → terms_of (take (position_or_len (λ i. begins (part i)) is) is) ≡ (grouped is).before
unfolding terms_of grouped
group_here [] = refl
group_here (i ∷ is) = go (begins (part i)) refl (group_here is)
  where
    go : (b : Bool) → begins (part i) ≡ b → terms_of (take (position_or_len (λ i. begins (part i)) is) is) ≡ (grouped is).before
        → terms_of (take (cond (not b) (1 + position_or_len (λ i. begins (part i)) is) 0) (i ∷ is)) ≡ (group_then (part i) (grouped is)).before
    go true e h = sym (before_none (as_listed (part i)) (grouped is) e)
    go false e h =
        rw one-add (term_first (as_listed (part i)) (terms_of (take (position_or_len (λ i. begins (part i)) is) is))
        ∙ ap (λ (ts : List Term). term_then (part i) [] ++ ts) h ∙ sym (before_first (as_listed (part i)) (grouped is) e))
