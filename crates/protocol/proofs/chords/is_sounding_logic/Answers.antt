-- By the row's trigger.
use mathlib.Core.Path.{◌≡◌, sym, ap, ◌∙◌}
use Rattle.tables.specs.Layout.{read_at}
use Rattle.protocol.specs.Inner.{sounds_in, logic_trigger}
use Rattle.protocol.proofs.Index.{passes_trigger, triggered}
use Rattle.protocol.proofs.Audible.{audible_trigger}
use Rattle.protocol.proofs.chords.is_sounding_logic.Goals.{After-logic_trigger}
use Rattle.protocol.proofs.chords.is_sounding_logic.Goals as goal

read : (c : goal.After-logic_trigger) → c.logic_trigger.result ≡ logic_trigger (read_at c.args.rows.now c.args.i)
read c = c.logic_trigger.ensures ∙ ap logic_trigger c.numbers_at.ensures

pub is_sounding-requires-clause-audible : goal.is_sounding-requires-clause-audible
is_sounding-requires-clause-audible c =
    audible_trigger c.args.rows.now (read_at c.args.rows.now c.args.i) (sym (read (goal.at.is_sounding-requires-clause-audible c).After-logic_trigger) ∙ c.in-Some.is) c.requires.audible_logic

pub returns-in-Some : goal.returns-in-Some
returns-in-Some c =
    let p = sounds_in c.args.rows.now c.args.chord in
    c.is_sounding.ensures
    ∙ ap (passes_trigger p) (sym c.in-Some.is ∙ read (goal.at.returns-in-Some c).After-logic_trigger)
    ∙ triggered p (read_at c.args.rows.now c.args.i)

pub returns-in-None : goal.returns-in-None
returns-in-None c =
    let p = sounds_in c.args.rows.now c.args.chord in
    ap (passes_trigger p) (sym c.in-None.is ∙ read (goal.at.returns-in-None c).After-logic_trigger)
    ∙ triggered p (read_at c.args.rows.now c.args.i)
