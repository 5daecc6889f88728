-- `protocol::chords::is_matched` meets its contract: by its form the row is no harmony, or the one that its numbers are. Assumes nothing.
use mathlib.Core.Path.{◌≡◌, sym, ap, ap₂, ◌∙◌, subst}
use mathlib.Core.Bool.{Bool, cond}
use Prim.Native.Nat.{ℕ, ◌+◌, ◌*◌}
use borrow.Author.Rules.{rules}
use borrow.Author.Tests.{eq-eqb, ne_eqb}
use mir.Facts.{to_z-of_z}
use mir.Syntax.{w32}
use mir.Val.{SFits}
use Rattle.integers.specs.Parts.{up}
use Rattle.tables.specs.declared.Numbers.{Numbers}
use Rattle.tables.specs.Layout.{row_of, no_harmony, a_harmony, as_harmony, harmony_form, half_set}
use Rattle.protocol.specs.Triggers.{matches_as}
use Rattle.protocol.specs.Inner.{SetsFit}
use Rattle.protocol.proofs.Forms.{harmony, harmony_by}
use Rattle.protocol.proofs.chords.is_matched.Goals.{After-set_of-named}
use Rattle.protocol.proofs.chords.is_matched.Goals as goal

-- by the form
is_harmony_holds : (n : Numbers) → n.form ≡ harmony_form → harmony n ≡ as_harmony (row_of n)
is_harmony_holds n e = sym (ap (λ (b : Bool). cond b (harmony n) no_harmony) (eq-eqb n.form harmony_form e)) ∙ harmony_by n

-- the sets that are read are those of the row
module _ (c : goal.After-set_of-named) where
  abbrev row : Numbers
  row = c.args.n

  first_fits : SFits w32 row.first
  first_fits = search rules

  second_fits : SFits w32 row.second
  second_fits = search rules

  first_natural : c.natural.result ≡ up row.first
  first_natural = let f = first_fits in simp to_z-of_z at c.natural.ensures

  second_natural : c.natural-2.result ≡ up row.second
  second_natural = let f = second_fits in simp to_z-of_z at c.natural-2.ensures

  needed : c.set_of-needed.result ≡ up row.first + up row.second * half_set
  needed = c.set_of-needed.ensures ∙ ap₂ (λ (a b : ℕ). a + b * half_set) first_natural second_natural

  read : a_harmony c.set_of-needed.result c.set_of-named.result ≡ as_harmony (row_of row)
  read = ap₂ a_harmony needed c.set_of-named.ensures ∙ is_harmony_holds row c.if-n-ne-HARMONY_FORM.false

pub returns-then-n-ne-HARMONY_FORM : goal.returns-then-n-ne-HARMONY_FORM
returns-then-n-ne-HARMONY_FORM c =
    let a = c.args in
    ap (matches_as a.chord) (sym (ap (λ (b : Bool). cond b (harmony a.n) no_harmony) (ne_eqb a.n.form harmony_form c.if-n-ne-HARMONY_FORM.true)) ∙ harmony_by a.n)

pub matches_chord-requires : goal.matches_chord-requires
matches_chord-requires c =
    let fit = subst SetsFit (sym (read c)) c.requires.sets_fit in
    (c.requires.chord_fits.positions, fit.0, fit.1, c.requires.chord_fits.width)

pub returns : goal.returns
returns c = c.matches_chord.ensures ∙ ap (matches_as c.args.chord) (read (goal.at.returns c).After-set_of-named)
