-- The forms of rows one by one, and the numbers that no row has as its form. Assumes nothing.
use mathlib.Core.Path.{◌≡◌}
use mathlib.Core.Bool.{cond}
use Prim.Native.Nat.{ℕ, zero, suc, ◌<◌}
use native.Mathlib.Omega.{arith}
use borrow.Author.Tests.{ne_eqb}
use lib.Dec.{eqb}
use lib.IntN.{ℤ}
use Rattle.tables.specs.declared.Row.TheVariants.{Unused}
use Rattle.tables.specs.Layout.{numbers, row_of, interval_form, tone_form, system_form, anchor_form, width_form, period_form, tones_form, logic_form, harmony_form, pattern_form}

-- what holds of each form, and of the numbers beyond, holds of every number
pub by_form : (P : ℕ → Type 0) → P 0 → P 1 → P 2 → P 3 → P 4 → P 5 → P 6 → P 7 → P 8 → P 9 → P 10 → ((f : ℕ) → pattern_form < f → P f) → (f : ℕ) → P f
by_form P p₀ p₁ p₂ p₃ p₄ p₅ p₆ p₇ p₈ p₉ p₁₀ other zero = p₀
by_form P p₀ p₁ p₂ p₃ p₄ p₅ p₆ p₇ p₈ p₉ p₁₀ other (suc zero) = p₁
by_form P p₀ p₁ p₂ p₃ p₄ p₅ p₆ p₇ p₈ p₉ p₁₀ other (suc (suc zero)) = p₂
by_form P p₀ p₁ p₂ p₃ p₄ p₅ p₆ p₇ p₈ p₉ p₁₀ other (suc (suc (suc zero))) = p₃
by_form P p₀ p₁ p₂ p₃ p₄ p₅ p₆ p₇ p₈ p₉ p₁₀ other (suc (suc (suc (suc zero)))) = p₄
by_form P p₀ p₁ p₂ p₃ p₄ p₅ p₆ p₇ p₈ p₉ p₁₀ other (suc (suc (suc (suc (suc zero))))) = p₅
by_form P p₀ p₁ p₂ p₃ p₄ p₅ p₆ p₇ p₈ p₉ p₁₀ other (suc (suc (suc (suc (suc (suc zero)))))) = p₆
by_form P p₀ p₁ p₂ p₃ p₄ p₅ p₆ p₇ p₈ p₉ p₁₀ other (suc (suc (suc (suc (suc (suc (suc zero))))))) = p₇
by_form P p₀ p₁ p₂ p₃ p₄ p₅ p₆ p₇ p₈ p₉ p₁₀ other (suc (suc (suc (suc (suc (suc (suc (suc zero)))))))) = p₈
by_form P p₀ p₁ p₂ p₃ p₄ p₅ p₆ p₇ p₈ p₉ p₁₀ other (suc (suc (suc (suc (suc (suc (suc (suc (suc zero))))))))) = p₉
by_form P p₀ p₁ p₂ p₃ p₄ p₅ p₆ p₇ p₈ p₉ p₁₀ other (suc (suc (suc (suc (suc (suc (suc (suc (suc (suc zero)))))))))) = p₁₀
by_form P p₀ p₁ p₂ p₃ p₄ p₅ p₆ p₇ p₈ p₉ p₁₀ other (suc (suc (suc (suc (suc (suc (suc (suc (suc (suc (suc f))))))))))) =
    other (suc (suc (suc (suc (suc (suc (suc (suc (suc (suc (suc f))))))))))) (omega arith)

-- a choice by the form comes to its last where the number is no form
pub past_forms : {A : Type 0} (f : ℕ) → pattern_form < f → (a b c d e g h i j k last : A)
    → cond (eqb f interval_form) a (cond (eqb f tone_form) b (cond (eqb f system_form) c (cond (eqb f anchor_form) d
    (cond (eqb f width_form) e (cond (eqb f period_form) g (cond (eqb f tones_form) h (cond (eqb f logic_form) i (cond (eqb f harmony_form) j
    (cond (eqb f pattern_form) k last)))))))))
    ≡ last
past_forms f past a b c d e g h i j k last =
    simp (
      ne_eqb f interval_form (omega arith),
      ne_eqb f tone_form (omega arith),
      ne_eqb f system_form (omega arith),
      ne_eqb f anchor_form (omega arith),
      ne_eqb f width_form (omega arith),
      ne_eqb f period_form (omega arith),
      ne_eqb f tones_form (omega arith),
      ne_eqb f logic_form (omega arith),
      ne_eqb f harmony_form (omega arith),
      ne_eqb f pattern_form (omega arith),
    )

pub no_row_holds : (f : ℕ) (a b : ℤ) (m n : ℕ) → pattern_form < f → row_of (numbers f a b m n) ≡ Unused
unfolding row_of
no_row_holds f a b m n h = past_forms f h _ _ _ _ _ _ _ _ _ _ _
