-- `protocol::chords::is_sounding` meets its contract: the trigger is a letter, or its row decides. Assumes nothing.
use mathlib.Core.Path.{sym, ap, ◌∙◌, subst}
use borrow.Author.Tests.{lt-leb, le-leb}
use Rattle.tables.specs.declared.Numbers.{Numbers}
use Rattle.tables.specs.Layout.{row_of, harmony_base, as_harmony}
use Rattle.protocol.specs.Triggers.{matches_as}
use Rattle.protocol.specs.Inner.{SetsFit}
use Rattle.protocol.proofs.chords.is_sounding.Goals as goal

pub returns-then-trigger : goal.returns-then-trigger
returns-then-trigger c = rw (lt-leb harmony_base c.args.trigger c.if-trigger.true)

pub is_matched-requires : goal.is_matched-requires
is_matched-requires c =
    record { sets_fit = subst (λ (n : Numbers). SetsFit (as_harmony (row_of n))) (sym c.numbers_at.ensures) (c.requires.audible c.if-trigger.false); chord_fits = c.requires.chord_fits }

pub returns : goal.returns
returns c =
    c.is_matched.ensures
    ∙ ap (λ (n : Numbers). matches_as c.args.chord (as_harmony (row_of n))) c.numbers_at.ensures
    ∙ rw (le-leb harmony_base c.args.trigger c.if-trigger.false)
