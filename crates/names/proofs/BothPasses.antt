-- Laws of both passes together.
-- Assumes nothing.
use Prim.Native.Nat.{ℕ, ◌≤◌}
use mathlib.Core.Path.{◌≡◌, refl, sym, ◌∙◌, ap, subst}
use mathlib.Core.List.{List, [], map}
use native.Mathlib.Omega.{arith}
use lib.ListN.{length, take}
use lib.Seq.{take-length}
use Rattle.std.specs.Prelude.{Result, Ok, Err}
use Rattle.status.specs.declared.Refusal.{Refusal}
use Rattle.status.specs.Reasons.{number_of}
use Rattle.status.specs.Status.{done, name_twice}
use Rattle.status.proofs.ReasonNumbers.{never_done}
use Rattle.grammar.specs.declared.Item.{Item}
use Rattle.grammar.specs.declared.Stopped.{Stopped}
use Rattle.names.specs.Names.{declared, Repeat, no_repeat, repeat_at, twice_from, resolved, unless_missing, Meant, meanings}
use Rattle.names.specs.Inner.{named_of, packed, Kept, begun_with, distinct, rewritten, left_items, number_if, place_if, Declarable, most_declarations, FirstPass, SecondPass, BothPasses}
use Rattle.names.proofs.Marks.{kept_names, kept_now}
use Rattle.names.proofs.FirstPass.{distinct_few, distinct_all, distinct_once}

module _ (text : List ℕ) (is : List Item) where
  -- a name stands twice in a kind
  module _ {p : ℕ} (t : twice_from text [] (declared is) ≡ repeat_at p) where
    twice_number : (meanings text is).number ≡ name_twice
    unfolding meanings
    twice_number = rw t

    twice_place : (meanings text is).place ≡ p
    unfolding meanings
    twice_place = rw t

    twice_left : left_items text is ≡ is
    twice_left = rw t

  -- none does
  module _ (t : twice_from text [] (declared is) ≡ no_repeat) where
    once : meanings text is ≡ unless_missing (resolved text (declared is) is)
    unfolding meanings
    once = rw t

    once_left : left_items text is ≡ rewritten text (declared is) is
    once_left = rw t

  -- the first pass tells which
  once_done : number_if name_twice (twice_from text [] (declared is)) ≡ done → twice_from text [] (declared is) ≡ no_repeat
  once_done z = go (twice_from text [] (declared is)) z
    where
      go : (f : Repeat) → number_if name_twice f ≡ done → f ≡ no_repeat
      go no_repeat q = refl
      go (repeat_at p) q = absurd (omega arith)

  -- what the first pass keeps
  module _ {names starts : List ℕ} {n : ℕ} {names' starts' : List ℕ} (first : FirstPass text is names starts (Ok n) names' starts') where
    first_kept : names' ≡ begun_with n (map (packed text) (declared is)) names
    first_kept = first.kept ∙ ap (λ m. begun_with m (map (packed text) (declared is)) names) (sym first.count)

    within : n ≤ length (declared is)
    within = omega (arith, first.count, distinct_few text [] (declared is))

    pub first_few : Declarable is → n ≤ most_declarations
    first_few h = omega (arith, within, h.few)

    pub first_found : Kept text (take n names')
    first_found =
        kept_now text (declared is) names n within first_kept
        (distinct_once text [] (declared is) n (omega (arith, first.count)))

  module _ (names starts : List ℕ) where
    pub both_stop : {e : Stopped} {names' starts' : List ℕ} → FirstPass text is names starts (Err e) names' starts'
        → BothPasses text is names starts (Err e) is names' starts'
    both_stop {e} {names'} {starts'} first = go _ refl
      where
        go : (f : Repeat) → twice_from text [] (declared is) ≡ f
            → BothPasses text is names starts (Err e) is names' starts'
        go no_repeat t = absurd (never_done e.refusal.reason (sym first.told.0 ∙ ap (number_if name_twice) t))
        go (repeat_at p) t =
            record {
              told = (twice_number t ∙ sym (ap (number_if name_twice) t) ∙ first.told.0, twice_place t ∙ sym (ap place_if t) ∙ first.told.1);
              count = first.count;
              left = sym (twice_left t);
              kept = first.kept;
              begun = first.begun;
            }

    -- the second pass refuses, or is done
    module _ {n : ℕ} {names' starts' : List ℕ} (first : FirstPass text is names starts (Ok n) names' starts')
        {q : Result Unit Refusal} {is' : List Item} (second : SecondPass text (named_of (take n names')) is q is') where
      none_twice : twice_from text [] (declared is) ≡ no_repeat
      none_twice = once_done first.told.0

      all_kept : distinct text is ≡ length (declared is)
      all_kept = distinct_all text [] (declared is) none_twice

      on_declared : SecondPass text (declared is) is q is'
      on_declared =
          let ds = declared is in
          let d : named_of (take n names') ≡ ds =
          kept_names text ds names n (within first) (first_kept first) ∙ ap (λ m. take m ds) (first.count ∙ all_kept) ∙ take-length ds in
          subst (λ es. SecondPass text es is q is') d second

      left_now : is' ≡ left_items text is
      left_now = on_declared.left ∙ sym (once_left none_twice)

      meant_now : unless_missing (resolved text (declared is) is) ≡ meanings text is
      meant_now = sym (once none_twice)

    pub both_missing : {n : ℕ} {names' starts' : List ℕ} (first : FirstPass text is names starts (Ok n) names' starts')
        → {e : Refusal} {is' : List Item} → SecondPass text (named_of (take n names')) is (Err e) is'
        → BothPasses text is names starts (Err (record { refusal = e; count = n })) is' names' starts'
    both_missing first {e} second =
        record {
          told = subst (λ (m : Meant). (m.number ≡ number_of e.reason) × (m.place ≡ e.place)) (meant_now first second) (on_declared first second).told;
          count = first.count;
          left = left_now first second;
          kept = first.kept;
          begun = first.begun;
        }

    pub both_done : {n : ℕ} {names' starts' : List ℕ} (first : FirstPass text is names starts (Ok n) names' starts')
        → {is' : List Item} → SecondPass text (named_of (take n names')) is (Ok tt) is'
        → BothPasses text is names starts (Ok n) is' names' starts'
    both_done first second =
        record {
          told = subst (λ (m : Meant). (m.number ≡ done) × (m.place ≡ 0)) (meant_now first second) (on_declared first second).told;
          count = first.count;
          left = left_now first second;
          kept = first.kept;
          begun = first.begun;
        }
