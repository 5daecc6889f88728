-- `protocol::tell` meets its contract, by the frame's kind. Assumes nothing.
use mathlib.Core.Path.{refl, subst}
use native.Mathlib.Omega.{arith}
use Rattle.protocol.specs.Inner.{FrameInside}
use Rattle.protocol.proofs.Ways.{tells, outcome_tells, key_gives}
use Rattle.protocol.proofs.tell.Goals as goal

pub sound_of-tone-requires : goal.sound_of-tone-requires
sound_of-tone-requires c = let within = subst FrameInside c.in-Key.is c.requires.2 in (c.requires.0, omega arith)

pub returns-in-Bad : goal.returns-in-Bad
returns-in-Bad c = let r = c.answer_bad.ensures in tells _ c.in-Bad.is (record { number = refl; size = r.0; buffer = r.1 })

pub returns-in-Key : goal.returns-in-Key
returns-in-Key c =
    let r = c.answer_key-length.ensures in
    let sounding = c.sound_of-tone.ensures.0 in
    let numbered = c.key_number-number.ensures in
    let shown = c.playable-shown.ensures in
    tells c.args.desk c.in-Key.is
    (outcome_tells (key_gives _ _ _ _ _ _ sounding numbered shown) (record { number = refl; size = r.0; buffer = r.1 }))

pub returns-in-Dump : goal.returns-in-Dump
returns-in-Dump c = let r = c.answer_dump.ensures in tells _ c.in-Dump.is (record { number = refl; size = r.0; buffer = r.1 })
