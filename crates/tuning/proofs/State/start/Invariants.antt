-- The first i places hold the start's tones.
use mathlib.Core.Path.{◌≡◌}
use Prim.Native.Nat.{ℕ, ◌+◌, ◌*◌}
use lib.IntN.{pos}
use lib.ListN.{replicate}
use Rattle.tuning.specs.State.{places}
use Rattle.tuning.specs.declared.Tone.{Tone}
use Rattle.tuning.specs.declared.Tone.TheVariants.{At}
use Rattle.tuning.proofs.Part.{part}
use Rattle.tuning.proofs.Valid.{none}
use Rattle.tuning.proofs.State.start.Given as goal

-- t(i) = 6,000,000 + 100,000·i
abbrev pub started : ℕ → Tone → Tone
started i t = At (record { 0 = pos (6_000_000 + i * 100_000) })

abbrev pub invariant-loop-i : goal.invariant-loop-i
invariant-loop-i l = l.tones ≡ part started l.i (replicate places none)
