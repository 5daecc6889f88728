-- Each scope has its search.
use mathlib.Core.Path.{◌∙◌}
use Rattle.names.proofs.Searching.{called_one}
use Rattle.names.proofs.Declarations.find_meaning.Goals as goal

pub returns-in-Intervals : goal.returns-in-Intervals
returns-in-Intervals c = rw c.in-Intervals.is (c.find.ensures ∙ called_one _ _ _ _)

pub returns-in-Tones : goal.returns-in-Tones
returns-in-Tones c = rw c.in-Tones.is (c.find-in-Tones.ensures ∙ called_one _ _ _ _)

pub returns-in-Starts : goal.returns-in-Starts
returns-in-Starts c = rw c.in-Starts.is c.find_start.ensures

pub returns-in-Orders : goal.returns-in-Orders
returns-in-Orders c = rw c.in-Orders.is c.find_order.ensures

pub returns-in-Harmonies : goal.returns-in-Harmonies
returns-in-Harmonies c = rw c.in-Harmonies.is (c.find-in-Harmonies.ensures ∙ called_one _ _ _ _)
