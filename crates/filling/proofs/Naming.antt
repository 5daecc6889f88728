-- Naming the keys of a harmony one by one, and how large its sets grow. Assumes nothing.
use mathlib.Core.Path.{◌≡◌, refl, sym, ◌∙◌, ap, subst}
use mathlib.Core.Bool.{Bool, true, false, cond}
use mathlib.Core.List.{List, [], ◌∷◌, ◌++◌}
use Prim.Native.Nat.{ℕ, ◌+◌, ◌≤◌, ◌<◌}
use native.Mathlib.Omega.{arith}
use lib.ListN.{length, get_or, drop}
use Rattle.limits.specs.Limits.{most_harmony_key}
use Rattle.sets.specs.Sets.{added}
use Rattle.sets.proofs.Members.{added_below}
use Rattle.harmonies.specs.declared.Harmony.{Harmony}
use Rattle.harmonies.specs.Harmonies.{HarmonyKey, naming, naming_all, nothing_named, harmony_of}
use Rattle.grammar.specs.declared.Item.{Item}
use Rattle.names.specs.Parts.{part}
use Rattle.tables.specs.Layout.{all_sets}
use Rattle.program.specs.Program.{key_then, keys_of}
use Rattle.program.specs.Allowed.{Each}
use Rattle.filling.specs.Inner.{FitKey}
use Rattle.filling.proofs.Each.{each_append}
use Rattle.filling.proofs.Items.{keys_end, keys_next}

-- ---- sets of key numbers to 59

pub record Small (y : Harmony) : Type 0 where
  pub needed : y.needed < all_sets
  pub named : y.named < all_sets

naming_small : {y : Harmony} → Small y → (k : HarmonyKey) → FitKey k → Small (naming y k)
naming_small {y} s k h = record { needed = go k.starred; named = added_below (most_harmony_key + 1) y.named k.key s.named (omega arith) }
  where
    go : (starred : Bool) → cond starred y.needed (added y.needed k.key) < all_sets
    go true = s.needed
    go false = added_below (most_harmony_key + 1) y.needed k.key s.needed (omega arith)

all_small : {y : Harmony} → Small y → (ks : List HarmonyKey) → Each FitKey ks → Small (naming_all y ks)
all_small s [] h = s
all_small {y} s (k ∷ ks) h = all_small {y = naming y k} (naming_small s k h.0) ks h.1

pub harmony_small : (ks : List HarmonyKey) → Each FitKey ks → Small (harmony_of ks)
harmony_small ks h = all_small (record { needed = omega arith; named = omega arith }) ks h

-- ---- the keys of items: the harmony of those in front of the i-th, and what is left

naming_append : (y : Harmony) (ks ls : List HarmonyKey) → naming_all y (ks ++ ls) ≡ naming_all (naming_all y ks) ls
naming_append y [] ls = refl
naming_append y (k ∷ ks) ls = naming_append (naming y k) ks ls

pub record Naming (l : List Item) (i : ℕ) (y : Harmony) : Type 0 where
  pub each : Each FitKey (keys_of (drop i l))
  pub whole : naming_all y (keys_of (drop i l)) ≡ harmony_of (keys_of l)

pub naming_none : (l : List Item) → Each FitKey (keys_of l) → Naming l 0 nothing_named
naming_none l h = record { each = h; whole = refl }

module _ {l : List Item} {i : ℕ} {y : Harmony} (h : Naming l i y) where
  pub naming_all_step : length l ≤ i → y ≡ harmony_of (keys_of l)
  naming_all_step k = ap (naming_all y) (sym (keys_end l i k)) ∙ h.whole

  -- the key of the present item
  module _ (k : i < length l) (none : Item) where
    abbrev x : Item
    x = get_or l i none

    split : keys_of (drop i l) ≡ key_then (part x) [] ++ keys_of (drop (i + 1) l)
    split = keys_next l i k none

    fit : Each FitKey (key_then (part x) []) × Each FitKey (keys_of (drop (i + 1) l))
    fit = each_append FitKey (key_then (part x) []) (keys_of (drop (i + 1) l)) (subst (Each FitKey) split h.each)

    pub naming_now : Each FitKey (key_then (part x) [])
    naming_now = fit.0

    pub naming_next : {z : Harmony} → z ≡ naming_all y (key_then (part x) []) → Naming l (i + 1) z
    naming_next q = record {
      each = fit.1;
      whole =
          ap (λ (w : Harmony). naming_all w (keys_of (drop (i + 1) l))) q
          ∙ sym (naming_append y (key_then (part x) []) (keys_of (drop (i + 1) l)))
          ∙ ap (naming_all y) (sym split)
          ∙ h.whole;
    }
