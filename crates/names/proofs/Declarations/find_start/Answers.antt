-- The retuning of that name, or else what the search for a tone system finds.
use mathlib.Core.Path.{sym, ◌∙◌}
use mathlib.Core.List.{[], ◌∷◌}
use Rattle.grammar.specs.declared.Kind.TheVariants.{Retuning, System}
use Rattle.names.proofs.Searching.{called_one, called_here, called_on}
use Rattle.names.proofs.Declarations.find_start.Goals as goal

pub returns-in-None : goal.returns-in-None
returns-in-None c =
    c.find-in-None.ensures
    ∙ called_one _ _ _ _
    ∙ sym (called_on _ _ _ (Retuning ∷ []) (System ∷ []) (sym (called_one _ _ _ _) ∙ sym c.find.ensures ∙ c.in-None.is))

pub returns-in-Some : goal.returns-in-Some
returns-in-Some c = sym (called_here _ _ _ (Retuning ∷ []) (System ∷ []) (sym (called_one _ _ _ _) ∙ sym c.find.ensures ∙ c.in-Some.is))
