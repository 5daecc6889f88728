-- An item is told by its part, where it declares or uses a name.
-- Assumes nothing.
use Prim.Native.Nat.{ℕ}
use mathlib.Core.Path.{◌≡◌, refl, sym, subst}
use Rattle.grammar.specs.declared.Kind.{Kind}
use Rattle.grammar.specs.declared.Item.{Item}
use Rattle.grammar.specs.declared.Item.TheVariants as item
use Rattle.names.specs.Parts.{Part, declares, gives, uses, says, part, Use}
use Rattle.names.specs.Names.{numbered}

Rebuilt : Part → Item → Type 0
Rebuilt (declares k p) x = item.Declared k p ≡ x
Rebuilt (gives g a b) x = Unit
Rebuilt (uses u a p) x = numbered u a p ≡ x
Rebuilt (says m) x = Unit

rebuilt : (x : Item) → Rebuilt (part x) x
unfolding Rebuilt
rebuilt (item.Declared a b) = refl
rebuilt (item.Ratio a b) = tt
rebuilt (item.Root a b) = tt
rebuilt (item.Add a b) = refl
rebuilt (item.Subtract a b) = refl
rebuilt (item.Frequency a) = tt
rebuilt (item.Base a) = refl
rebuilt (item.AnchorKey a) = tt
rebuilt item.MutedPosition = tt
rebuilt item.KeptPosition = tt
rebuilt (item.TonePosition a) = refl
rebuilt item.AnchorKept = tt
rebuilt (item.Amount a b) = tt
rebuilt item.WidthKept = tt
rebuilt item.Period = tt
rebuilt item.Onward = tt
rebuilt (item.Letter a) = tt
rebuilt (item.Start a b) = refl
rebuilt (item.Order a b) = refl
rebuilt (item.Trigger a) = refl
rebuilt (item.Key a) = tt
rebuilt (item.StarredKey a) = tt
rebuilt (item.AmountName a b) = tt
rebuilt (item.Placeholder a) = tt
rebuilt (item.Argument a) = tt

pub numbered_part : (x : Item) {u : Use} {a p : ℕ} → part x ≡ uses u a p → numbered u a p ≡ x
unfolding Rebuilt
numbered_part x e = subst (λ q. Rebuilt q x) e (rebuilt x)

pub declared_part : (x : Item) {k : Kind} {p : ℕ} → part x ≡ declares k p → x ≡ item.Declared k p
unfolding Rebuilt
declared_part x e = sym (subst (λ q. Rebuilt q x) e (rebuilt x))
