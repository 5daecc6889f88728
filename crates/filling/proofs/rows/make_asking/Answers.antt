-- By the form.
use Rattle.filling.proofs.rows.make_asking.Goals as goal

pub returns-in-AnchorTo : goal.returns-in-AnchorTo
returns-in-AnchorTo c =
    simp (
      ← c.make_retuning.ensures,
      c.in-AnchorTo.is,
    )

pub returns-in-AnchorUp : goal.returns-in-AnchorUp
returns-in-AnchorUp c =
    simp (
      ← c.make_retuning-in-AnchorUp.ensures,
      c.in-AnchorUp.is,
    )

pub returns-in-AnchorDown : goal.returns-in-AnchorDown
returns-in-AnchorDown c =
    simp (
      ← c.make_retuning-in-AnchorDown.ensures,
      c.in-AnchorDown.is,
    )

pub returns-in-WidthTo : goal.returns-in-WidthTo
returns-in-WidthTo c =
    simp (
      ← c.make_retuning-in-WidthTo.ensures,
      c.in-WidthTo.is,
    )

pub returns-in-WidthUp : goal.returns-in-WidthUp
returns-in-WidthUp c =
    simp (
      ← c.make_retuning-in-WidthUp.ensures,
      c.in-WidthUp.is,
    )

pub returns-in-WidthDown : goal.returns-in-WidthDown
returns-in-WidthDown c =
    simp (
      ← c.make_retuning-in-WidthDown.ensures,
      c.in-WidthDown.is,
    )

pub returns-in-WidthTimes : goal.returns-in-WidthTimes
returns-in-WidthTimes c =
    simp (
      ← c.make_retuning-in-WidthTimes.ensures,
      c.in-WidthTimes.is,
    )

pub returns-in-WidthOver : goal.returns-in-WidthOver
returns-in-WidthOver c =
    simp (
      ← c.make_retuning-in-WidthOver.ensures,
      c.in-WidthOver.is,
    )
