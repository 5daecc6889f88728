-- The loop's invariant: the tones before this one are written.
use mathlib.Core.Path.{sym, ap, ◌∙◌, subst}
use native.Mathlib.Omega.{arith}
use lib.ListN.{take, length-map, length-take, get_or-map}
use Rattle.tuning.specs.State.{held, heard}
use Rattle.answers.specs.Answer.{bits_of}
use Rattle.answers.specs.Inner.{Adds}
use Rattle.answers.proofs.Lines.{tones_none, length_tones, fits_places, adds_none, adds_tone}
use Rattle.answers.proofs.Line.put_tones.Goals as goal

pub loop-tone-init : goal.loop-tone-init
loop-tone-init c = subst (Adds c.args.self.now c.args.self.now) (sym tones_none) (adds_none _)

pub put_four-requires : goal.put_four-requires
put_four-requires c =
    let s = c.args.s in
    let i = c.loop-tone.tone-index in
    let tones = (held s).tones in
    let used = take s.width s.tones in
    omega (
      arith,
      c.loop-tone.invariant.bytes,
      length_tones (take i tones),
      length-take i tones,
      length-map used heard,
      length-take s.width s.tones,
      c.loop-tone-test.true,
      fits_places s c.requires.1,
      c.requires.0,
    )

pub loop-tone-preserved : goal.loop-tone-preserved
loop-tone-preserved c =
    let s = c.args.s in
    let used = take s.width s.tones in
    adds_tone (held s).tones c.loop-tone.tone-index _ (omega (arith, c.loop-tone-test.true, length-map used heard)) c.loop-tone.invariant
    c.put_four.ensures
    (c.sound_bits.ensures ∙ ap bits_of (sym (get_or-map heard used c.loop-tone.tone-index _)))
