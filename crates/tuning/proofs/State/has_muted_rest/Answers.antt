-- The places past the width are tested one by one.
use mathlib.Core.Path.{◌≡◌, refl, sym, ap, ◌∙◌}
use mathlib.Core.Bool.{Bool, ◌&&◌, and-true, and_assoc}
use mathlib.Core.List.{List, [], ◌∷◌, ◌++◌}
use Prim.Native.Nat.{◌-◌}
use native.Mathlib.Omega.{arith}
use lib.ListN.{length, length-drop, drop}
use lib.Seq.{take_all}
use Rattle.std.specs.List.{list_all}
use Rattle.std.proofs.Common.{rules, tests}
use Rattle.std.proofs.lemmas.Fn.{fold_over, slice_gives, fronts}
use Rattle.tuning.specs.declared.Tone.{Tone}
use Rattle.tuning.proofs.Lists.{length_mapped}
use Rattle.tuning.proofs.Valid.{is_free, all_free}
use Rattle.tuning.proofs.State.has_muted_rest.Goals as goal

all_push : (p : Tone → Bool) (l : List Tone) (x : Tone) → list_all p (l ++ x ∷ []) ≡ list_all p l && p x
all_push p [] x = and-true (p x)
all_push p (y ∷ l) x = ap (λ (b : Bool). p y && b) (all_push p l x) ∙ sym (and_assoc (p y) (list_all p l) (p x))

pub returns : goal.returns
returns c =
    let s = c.args.self.now in
    let l = drop s.width s.tones in
    let long : length s.tones ≡ 60 = search length_mapped in
    let rest = c.iter.ensures.rest ∙ take_all (60 - s.width) l (omega (arith, length-drop s.width s.tones)) in
    fold_over fronts (λ y. y.now) _ (λ ys b. b ≡ list_all is_free ys) _ (λ ys a x b f' j k. let more = all_push is_free ys x.now in search (rules, tests))
    _ _ _ _ (slice_gives c.iter.result) refl c.fold.ensures.ran
    ∙ ap (list_all is_free) rest ∙ sym (all_free l)
