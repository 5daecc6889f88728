-- The first order with the trigger that was found is the first that the chord matches.
use mathlib.Core.Path.{sym, ap, ◌∙◌}
use Rattle.tables.specs.Layout.{triggers_in, calls_in}
use Rattle.protocol.specs.Inner.{called_in, sounds_in}
use Rattle.protocol.proofs.Audible.{none_passes, same_order}
use Rattle.protocol.proofs.chords.find_order.Goals as goal

pub returns-in_err-code : goal.returns-in_err-code
returns-in_err-code c =
    let os = c.args.orders.now in
    c.from_residual.ensures
    ∙ ap (called_in c.args.rows.now) (none_passes (sounds_in c.args.rows.now c.args.chord) (triggers_in os) (calls_in os) (sym c.find_sounding.ensures ∙ c.in_err-code.was))

pub returns : goal.returns
returns c =
    let os = c.args.orders.now in
    c.find_order.ensures
    ∙ ap (called_in c.args.rows.now) (same_order (sounds_in c.args.rows.now c.args.chord) (triggers_in os) (calls_in os) (sym c.find_sounding.ensures ∙ c.in_ok-code.was))
