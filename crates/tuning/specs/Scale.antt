-- What can be done with tones and with the steps between them, whether they are held as whole thousandths of a cent or as exact entries.
use Rattle.std.specs.Prelude.{ℤ}

-- "each a pitch or muted"
pub data Sound (A : Type 0) : Type 0 where
  muted : Sound A
  sounds : A → Sound A

-- "a pitch is a place, an interval a distance": a tone is shifted by a step, one tone lies a step above another, steps add up
-- and are taken several times. The start's 440 hertz and twelfth root of 2 have a value.
pub record Scale : Type 1 where
  pub Tone : Type 0
  pub Step : Type 0
  pub shift : Tone → Step → Tone
  pub distance : Tone → Tone → Step
  pub none : Step
  pub add : Step → Step → Step
  pub times : ℤ → Step → Step
  pub start440 : Tone
  pub start_root : Step
