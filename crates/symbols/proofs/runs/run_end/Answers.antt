-- The run ends at the first byte that the closure does not take.
use Prim.Native.Nat.{ℕ, ◌+◌}
use mathlib.Core.Path.{◌∙◌, ap}
use mathlib.Core.Bool.{not}
use borrow.Author.Rules.{rules}
use Rattle.std.proofs.lemmas.Iterator.{YieldsList-from_slice}
use Rattle.std.proofs.lemmas.Iterator.Search.{position_from_yields_List}
use Rattle.symbols.specs.Symbols.{run_end}
use Rattle.symbols.proofs.Scan.{run_found}
use Rattle.symbols.proofs.runs.run_end.Goals as goal

pub returns : goal.returns
returns g c p told =
    ap (λ (k : ℕ). c.args.at + k) c.unwrap_or.ensures
    ∙ run_found p _ _ (position_from_yields_List (λ b. not (p b)) _ _ _ c.position.ensures.ran (YieldsList-from_slice _ cc) (λ x b q k. (search rules, search (rules, told) parts 8)))
    ∙ ap (run_end p c.args.at) c.rest-rest.ensures
