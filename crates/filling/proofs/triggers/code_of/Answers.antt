-- By the trigger; its code fits, as is required.
use native.Mathlib.Omega.{arith}
use Rattle.filling.proofs.triggers.code_of.Goals as goal

pub overflow_cast-result : goal.overflow_cast-result
overflow_cast-result c = let fit = rw c.in-Letter.is at c.requires in record { fits = fit }

pub overflow_cast-result-in-Harmony : goal.overflow_cast-result-in-Harmony
overflow_cast-result-in-Harmony c = let fit = rw c.in-Harmony.is at c.requires in record { fits = omega arith }

pub overflow_add-result : goal.overflow_add-result
overflow_add-result c = let fit = rw c.in-Harmony.is at c.requires in omega arith

pub returns-in-Letter : goal.returns-in-Letter
returns-in-Letter c = rw c.in-Letter.is

pub returns-in-Harmony : goal.returns-in-Harmony
returns-in-Harmony c = rw c.in-Harmony.is
