-- By the item; every other one begins an interval.
use borrow.Enum.Refused.{opened}
use mathlib.Core.Path.{◌∙◌, ap}
use lib.IntN.{ℤ}
use Rattle.tables.specs.declared.Row.TheVariants.{Interval, Tone}
use Rattle.filling.proofs.Forms.{asking_small, as_asking, as_interval}
use Rattle.filling.proofs.rows.make_plain.Goals as goal

pub overflow_cast-n : goal.overflow_cast-n
overflow_cast-n c =
    record { fits = asking_small c.args.values.now c.in-Amount.form c.in-Amount.n c.in-Amount.is c.requires.fit_parts }

pub returns-in-Frequency : goal.returns-in-Frequency
returns-in-Frequency c =
    rw c.in-Frequency.is (ap (λ (z : ℤ). Tone (record { 0 = z })) c.pitch_at.ensures)

pub returns-in-Base : goal.returns-in-Base
returns-in-Base c =
    rw c.in-Base.is (ap (λ (z : ℤ). Tone (record { 0 = z })) c.pitch_at-in-Base.ensures)

pub returns-in-AnchorKept : goal.returns-in-AnchorKept
returns-in-AnchorKept c = rw c.in-AnchorKept.is c.make_retuning.ensures

pub returns-in-WidthKept : goal.returns-in-WidthKept
returns-in-WidthKept c = rw c.in-WidthKept.is c.make_retuning-in-WidthKept.ensures

pub returns-in-Amount : goal.returns-in-Amount
returns-in-Amount c = as_asking _ c.in-Amount.form c.in-Amount.n c.in-Amount.is c.make_asking.ensures

pub returns-in-AmountName : goal.returns-in-AmountName
returns-in-AmountName c = rw c.in-AmountName.is

pub returns-in_default : goal.returns-in_default
returns-in_default c =
    ap (λ (z : ℤ). Interval (record { 0 = z })) c.interval_at.ensures ∙ as_interval _ c.args.item (opened c.in_default.in_default-own.keys7)
