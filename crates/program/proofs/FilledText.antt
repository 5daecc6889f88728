-- What the calls of a text fill in: behind its items stand whole retunings, no more than there are calls, and each call names a declaration that is there.
-- Assumes nothing.
use mathlib.Core.Path.{◌≡◌, refl, sym, ◌∙◌, ap, subst}
use mathlib.Core.Bool.{Bool, true, false}
use mathlib.Core.Logic.{⊎_elim}
use mathlib.Core.List.{List, [], ◌∷◌, ◌++◌, append_assoc, Memᴰ}
use Prim.Native.Nat.{ℕ, zero, suc, ◌+◌, ◌-◌, ◌≤◌, ◌<◌}
use native.Mathlib.Omega.{arith}
use Rattle.std.specs.Prelude.{Option, Some, None}
use Rattle.std.proofs.lemmas.Option.{same_Some, none-some}
use lib.Dec.{eqb}
use lib.ListN.{length, get_or, length-append, get_or-append}
use lib.Seq.{get_or-append-add}
use Rattle.limits.specs.Limits.{most_amount}
use Rattle.symbols.specs.Bytes.{same}
use Rattle.symbols.specs.Names.{name_at}
use Rattle.grammar.specs.declared.Kind.{Kind}
use Rattle.grammar.specs.declared.Kind.TheVariants.{Retuning, Logic}
use Rattle.grammar.specs.declared.Form.{Form}
use Rattle.grammar.specs.declared.Item.{Item}
use Rattle.grammar.specs.declared.Item.TheVariants as item
use Rattle.grammar.specs.Moves.{kind_number}
use Rattle.names.specs.Parts as parts
use Rattle.names.specs.Parts.{Part, declares, gives, uses, says, part}
use Rattle.names.specs.Names.{Named, named_by, declared}
use Rattle.names.proofs.Searching.{OfKinds}
use Rattle.names.proofs.Meanings.{Means, AllMean}
use Rattle.placeholders.specs.declared.Seen.{Seen}
use Rattle.placeholders.specs.declared.Seen.TheVariants.{Other, Declares, Names, Wants, Calls, Hands}
use Rattle.placeholders.specs.declared.Wanted.{Wanted}
use Rattle.placeholders.specs.declared.writing.WrittenCall.{WrittenCall}
use Rattle.placeholders.specs.Placeholders.{seen, named, handed}
use Rattle.placeholders.specs.Filling.{wanted_by, given, renamed, filled_from}
use Rattle.placeholders.proofs.FilledLaws.{if_wanted, written_by, written_in, filled_by, call_is, written_call, filled_step, fillings, calls_in}
use Rattle.program.specs.Program.{Declaration, ratio, root, sequence, frequency, from, system, anchor, width, fresh_period, onward_period, tones, pattern, logic, harmony, Program}
use Rattle.program.specs.Meaning.{declaration_at}
use Rattle.program.specs.Allowed.{Each, kind_of, is_pattern, if_kind, count_of}
use Rattle.program.proofs.Formed.{Formed, no_more, declaration, an_amount, order_part, order_items, start_items, some_start, start_count, starts_in}
use Rattle.program.proofs.Declares.{Plain, Inside, no_item, plain, one_order, one_start, declares_fit}

-- ---- the numbers that calls give are allowed

abbrev pub Small : ℕ → Type 0
Small n = n ≤ most_amount

abbrev pub HandyBy : Seen → Type 0
HandyBy (Hands n) = Small n
HandyBy Other = Unit
HandyBy Declares = Unit
HandyBy (Names p) = Unit
HandyBy (Wants f p) = Unit
HandyBy (Calls q k) = Unit

abbrev pub Handy : Item → Type 0
Handy i = HandyBy (seen i)

plain_handy : (i : Item) → Plain (part i) → Handy i
plain_handy (item.Argument v) h = h
plain_handy (item.Declared k p) h = tt
plain_handy (item.Ratio p q) h = tt
plain_handy (item.Root a b) h = tt
plain_handy (item.Add f p) h = tt
plain_handy (item.Subtract f p) h = tt
plain_handy (item.Frequency f) h = tt
plain_handy (item.Base p) h = tt
plain_handy (item.AnchorKey n) h = tt
plain_handy item.MutedPosition h = tt
plain_handy item.KeptPosition h = tt
plain_handy (item.TonePosition p) h = tt
plain_handy item.AnchorKept h = tt
plain_handy item.WidthKept h = tt
plain_handy (item.Amount f n) h = tt
plain_handy item.Period h = tt
plain_handy item.Onward h = tt
plain_handy (item.Letter c) h = tt
plain_handy (item.Start q k) h = tt
plain_handy (item.Order q k) h = tt
plain_handy (item.Trigger p) h = tt
plain_handy (item.Key v) h = tt
plain_handy (item.StarredKey v) h = tt
plain_handy (item.AmountName f p) h = tt
plain_handy (item.Placeholder p) h = tt

inside_handy : {n m : ℕ} {is : List Item} (rest : List Item) → Inside n m is → Each Handy rest → Each Handy (is ++ rest)
inside_handy rest no_item w = w
inside_handy rest (plain {i = i} h v) w = (plain_handy i h, inside_handy rest v w)
inside_handy rest (one_order v) w = (tt, inside_handy rest v w)
inside_handy rest (one_start v) w = (tt, inside_handy rest v w)

pub formed_handy : {is : List Item} → Formed is → Each Handy is
formed_handy no_more = tt
formed_handy (declaration {rest = rest} b w) = (tt, inside_handy rest (declares_fit [] b).inside (formed_handy w))

pub handed_small : (is : List Item) → Each Handy is → Each Small (handed is)
unfolding handed
handed_small [] h = tt
handed_small (i ∷ is) h = go (seen i) h.0 (handed_small is h.1)
  where
    go : (s : Seen) → HandyBy s → Each Small (handed is)
        → Each Small (elim s [ Hands n ↦ n ∷ handed is | Other ↦ [] | Declares ↦ [] | Names p ↦ [] | Wants f p ↦ [] | Calls q k ↦ [] ])
    go (Hands n) a w = (a, w)
    go Other a w = tt
    go Declares a w = tt
    go (Names p) a w = tt
    go (Wants f p) a w = tt
    go (Calls q k) a w = tt

given_small : (text ps ns name : List ℕ) → Each Small ns → given text ps ns name ≤ most_amount
unfolding given
given_small text [] ns name h = omega arith
given_small text (p ∷ ps) [] name h = omega arith
given_small text (p ∷ ps) (n ∷ ns) name h = either (same (name_at text p) name) h.0 (given_small text ps ns name h.1)
  where
    either : (b : Bool) {v : ℕ} → n ≤ most_amount → v ≤ most_amount → elim b [ true ↦ n | false ↦ v ] ≤ most_amount
    either true a c = a
    either false a c = c

-- ---- what is filled in: n retunings

pub data Fillings : ℕ → List Item → Type 0 where
  none_filled : Fillings 0 []
  one_filled : {n q v : ℕ} {f : Form} {is : List Item} → Small v → Fillings n is → Fillings (suc n) (item.Declared Retuning q ∷ item.Amount f v ∷ is)

pub fillings_formed : {n : ℕ} {is : List Item} → Fillings n is → Formed is
fillings_formed none_filled = no_more
fillings_formed (one_filled h w) = declaration (an_amount h) (fillings_formed w)

pub formed_both : {is js : List Item} → Formed is → Formed js → Formed (is ++ js)
formed_both no_more v = v
formed_both {js} (declaration {body = body} {rest = rest} b w) v = rw (append_assoc body rest js) (declaration b (formed_both w v))

pub fillings_orders : {n : ℕ} {is : List Item} → Fillings n is → order_items is ≡ 0
unfolding order_items
fillings_orders none_filled = refl
fillings_orders (one_filled h w) = fillings_orders w

pub fillings_declared : {n : ℕ} {is : List Item} → Fillings n is → length (declared is) ≡ n
unfolding declared
fillings_declared none_filled = refl
fillings_declared (one_filled h w) = ap suc (fillings_declared w)

pub fillings_kind : {n : ℕ} {is : List Item} → Fillings n is → (j : ℕ) (d : Named) → j < n → (get_or (declared is) j d).kind ≡ Retuning
unfolding declared
fillings_kind none_filled j d h = absurd (omega arith)
fillings_kind (one_filled a w) zero d h = refl
fillings_kind (one_filled a w) (suc j) d h = fillings_kind w j d (omega arith)

module _ (text : List ℕ) (body : ℕ → List Item) where
  pub written_small : (i : Item) (is : List Item) {y : WrittenCall} → Each Small (handed is) → written_in text body i is ≡ Some y → y.number ≤ most_amount
  written_small i is {y} h e = go (seen i) e
    where
      wanted : (b : List Item) (a : ℕ) (w : Option Wanted) → if_wanted text b a (handed is) w ≡ Some y → y.number ≤ most_amount
      wanted b a None e = absurd (none-some y e)
      wanted b a (Some w) e =
          let z : given text (named b) (handed is) (name_at text w.name) ≡ y.number = ap (λ (c : WrittenCall). c.number) (same_Some _ y e) in
          omega (arith, given_small text (named b) (handed is) (name_at text w.name) h)

      go : (s : Seen) → written_by text body s is ≡ Some y → y.number ≤ most_amount
      go (Calls a k) e = wanted (body k) a (wanted_by (body k)) e
      go Other e = absurd (none-some y e)
      go Declares e = absurd (none-some y e)
      go (Names p) e = absurd (none-some y e)
      go (Wants g p) e = absurd (none-some y e)
      go (Hands n) e = absurd (none-some y e)

  pub fillings_from : (n : ℕ) (is : List Item) → Each Handy is → Fillings (fillings text body is) (filled_from text body n is).more
  unfolding filled_from fillings
  fillings_from n [] h = none_filled
  fillings_from n (i ∷ is) h = rw (filled_step text body n i is) (go (written_in text body i is) refl (λ m. fillings_from m is h.1))
    where
      go : (w : Option WrittenCall) → written_in text body i is ≡ w → ((m : ℕ) → Fillings (fillings text body is) (filled_from text body m is).more)
          → Fillings (elim w [ None ↦ fillings text body is | Some w ↦ suc (fillings text body is) ])
          (filled_by w i n (filled_from text body n is) (filled_from text body (suc n) is)).more
      go None e rest = rest n
      go (Some y) e rest = one_filled (written_small i is (handed_small is h.1) e) (rest (suc n))

-- ---- declared names, one list after the other

pub declared_both : (is js : List Item) → declared (is ++ js) ≡ declared is ++ declared js
unfolding declared
declared_both [] js = refl
declared_both (i ∷ is) js = go (part i) (declared_both is js)
  where
    go : (q : Part) → declared (is ++ js) ≡ declared is ++ declared js → named_by q (declared (is ++ js)) ≡ named_by q (declared is) ++ declared js
    go (declares k p) e = ap (λ (l : List Named). record { kind = k; place = p } ∷ l) e
    go (gives g a b) e = e
    go (uses u a p) e = e
    go (says m) e = e

pub orders_both : (is js : List Item) → order_items (is ++ js) ≡ order_items is + order_items js
unfolding order_items
orders_both [] js = omega arith
orders_both (i ∷ is) js = go (part i) (orders_both is js)
  where
    go : (q : Part) → order_items (is ++ js) ≡ order_items is + order_items js → order_part q (order_items (is ++ js)) ≡ order_part q (order_items is) + order_items js
    go (declares k p) e = e
    go (gives g a b) e = e
    go (says m) e = e
    go (uses parts.add a p) e = e
    go (uses parts.subtract a p) e = e
    go (uses parts.base a p) e = e
    go (uses parts.position a p) e = e
    go (uses parts.start a p) e = e
    go (uses parts.order a p) e = omega arith
    go (uses parts.trigger a p) e = e

-- ---- what calls name

module _ (ds es : List Named) where
  still : {ks : List Kind} {n : ℕ} → OfKinds ds ks n → OfKinds (ds ++ es) ks n
  still {ks = ks} {n = n} w =
      record {
        below = omega (arith, w.below, length-append ds es);
        kind = λ d. subst (λ (x : Named). Memᴰ x.kind ks) (sym (get_or-append ds es d n w.below)) (w.kind d);
      }

  means_still : (q : Part) → Means ds q → Means (ds ++ es) q
  means_still (declares k p) w = tt
  means_still (gives g a b) w = tt
  means_still (uses u a n) w = still w
  means_still (says m) w = tt

  pub all_still : (is : List Item) → AllMean ds is → AllMean (ds ++ es) is
  all_still [] w = tt
  all_still (i ∷ is) w = (means_still (part i) w.0, all_still is w.1)

  -- of the new ones each is a retuning
  pub fresh : {ks : List Kind} (n : ℕ) → ((j : ℕ) (d : Named) → j < length es → (get_or es j d).kind ≡ Retuning) → length ds ≤ n → n < length ds + length es
      → OfKinds (ds ++ es) (Retuning ∷ ks) n
  fresh n h l m =
      let e : length ds + (n - length ds) ≡ n = omega arith in
      record {
        below = omega (arith, length-append ds es);
        kind = λ d. Memᴰ.head (ap (λ (j : ℕ). (get_or (ds ++ es) j d).kind) (sym e) ∙ ap (λ (x : Named). x.kind) (get_or-append-add ds es (n - length ds) d)
            ∙ h (n - length ds) d (omega arith));
      }

pub means_both : (ds : List Named) (is js : List Item) → AllMean ds is → AllMean ds js → AllMean ds (is ++ js)
means_both ds [] js v w = w
means_both ds (i ∷ is) js v w = (v.0, means_both ds is js v.1 w)

pub fillings_mean : (ds : List Named) {n : ℕ} {is : List Item} → Fillings n is → AllMean ds is
fillings_mean ds none_filled = tt
fillings_mean ds (one_filled h w) = (tt, (tt, fillings_mean ds w))

widened : {k j : Kind} {ks : List Kind} → Memᴰ k (Retuning ∷ []) → Memᴰ k (Retuning ∷ j ∷ ks)
widened (Memᴰ.tail x) = elim x [ ]
widened (Memᴰ.head e) = Memᴰ.head e

-- `top` is one more than the last number, from `low` on each is a retuning's
module _ (text : List ℕ) (body : ℕ → List Item) (ds : List Named) (low top : ℕ) (new : (n : ℕ) → low ≤ n → n < top → OfKinds ds (Retuning ∷ []) n) where
  wider : {j : Kind} {ks : List Kind} {n : ℕ} → OfKinds ds (Retuning ∷ []) n → OfKinds ds (Retuning ∷ j ∷ ks) n
  wider w = record { below = w.below; kind = λ d. widened (w.kind d) }

  renamed_means : (n : ℕ) (i : Item) {q k : ℕ} → seen i ≡ Calls q k → low ≤ n → n < top → Means ds (part (renamed n i))
  renamed_means n i e l m = ⊎_elim (λ h. rw h (wider (new n l m))) (λ h. rw h (wider (new n l m))) (call_is i e)

  pub filled_mean : (n : ℕ) (is : List Item) → AllMean ds is → low ≤ n → n + fillings text body is ≤ top → AllMean ds (filled_from text body n is).items
  unfolding filled_from fillings
  filled_mean n [] w l m = tt
  filled_mean n (i ∷ is) w l m = rw (filled_step text body n i is) (go (written_in text body i is) refl m (λ k. filled_mean k is w.1))
    where
      go : (x : Option WrittenCall) → written_in text body i is ≡ x
          → n + elim x [ None ↦ fillings text body is | Some w ↦ suc (fillings text body is) ] ≤ top
          → ((k : ℕ) → low ≤ k → k + fillings text body is ≤ top → AllMean ds (filled_from text body k is).items)
          → AllMean ds (filled_by x i n (filled_from text body n is) (filled_from text body (suc n) is)).items
      go None e m rest = (w.0, rest n l m)
      go (Some y) e m rest = (renamed_means n i (written_call text body i is e).1 l (omega arith), rest (suc n) (omega arith) (omega arith))

-- ---- what is called has no placeholder left

abbrev pub Whole : Program → Part → Type 0
Whole p (uses parts.start a n) = is_pattern (declaration_at p n) ≡ false
Whole p (uses parts.order a n) = is_pattern (declaration_at p n) ≡ false
Whole p (uses parts.add a n) = Unit
Whole p (uses parts.subtract a n) = Unit
Whole p (uses parts.base a n) = Unit
Whole p (uses parts.position a n) = Unit
Whole p (uses parts.trigger a n) = Unit
Whole p (declares k q) = Unit
Whole p (gives g a b) = Unit
Whole p (says m) = Unit

abbrev pub AllWhole : Program → List Item → Type 0
AllWhole p is = Each (λ (i : Item). Whole p (part i)) is

pub whole_both : (p : Program) (is js : List Item) → AllWhole p is → AllWhole p js → AllWhole p (is ++ js)
whole_both p [] js v w = w
whole_both p (i ∷ is) js v w = (v.0, whole_both p is js v.1 w)

pub fillings_calls : (p : Program) {n : ℕ} {is : List Item} → Fillings n is → AllWhole p is
fillings_calls p none_filled = tt
fillings_calls p (one_filled h w) = (tt, (tt, fillings_calls p w))

-- calls name declarations below n
abbrev pub BelowBy : ℕ → Seen → Type 0
BelowBy n (Calls q k) = k < n
BelowBy n Other = Unit
BelowBy n Declares = Unit
BelowBy n (Names p) = Unit
BelowBy n (Wants f p) = Unit
BelowBy n (Hands v) = Unit

abbrev pub Below : ℕ → List Item → Type 0
Below n is = Each (λ (i : Item). BelowBy n (seen i)) is

pub calls_below : (ds : List Named) (is : List Item) → AllMean ds is → Below (length ds) is
calls_below ds [] m = tt
calls_below ds (item.Start q k ∷ is) m = (m.0.below, calls_below ds is m.1)
calls_below ds (item.Order q k ∷ is) m = (m.0.below, calls_below ds is m.1)
calls_below ds (item.Declared k p ∷ is) m = (tt, calls_below ds is m.1)
calls_below ds (item.Ratio p q ∷ is) m = (tt, calls_below ds is m.1)
calls_below ds (item.Root a b ∷ is) m = (tt, calls_below ds is m.1)
calls_below ds (item.Add f p ∷ is) m = (tt, calls_below ds is m.1)
calls_below ds (item.Subtract f p ∷ is) m = (tt, calls_below ds is m.1)
calls_below ds (item.Frequency f ∷ is) m = (tt, calls_below ds is m.1)
calls_below ds (item.Base p ∷ is) m = (tt, calls_below ds is m.1)
calls_below ds (item.AnchorKey n ∷ is) m = (tt, calls_below ds is m.1)
calls_below ds (item.MutedPosition ∷ is) m = (tt, calls_below ds is m.1)
calls_below ds (item.KeptPosition ∷ is) m = (tt, calls_below ds is m.1)
calls_below ds (item.TonePosition p ∷ is) m = (tt, calls_below ds is m.1)
calls_below ds (item.AnchorKept ∷ is) m = (tt, calls_below ds is m.1)
calls_below ds (item.WidthKept ∷ is) m = (tt, calls_below ds is m.1)
calls_below ds (item.Amount f n ∷ is) m = (tt, calls_below ds is m.1)
calls_below ds (item.Period ∷ is) m = (tt, calls_below ds is m.1)
calls_below ds (item.Onward ∷ is) m = (tt, calls_below ds is m.1)
calls_below ds (item.Letter c ∷ is) m = (tt, calls_below ds is m.1)
calls_below ds (item.Trigger p ∷ is) m = (tt, calls_below ds is m.1)
calls_below ds (item.Key v ∷ is) m = (tt, calls_below ds is m.1)
calls_below ds (item.StarredKey v ∷ is) m = (tt, calls_below ds is m.1)
calls_below ds (item.AmountName f p ∷ is) m = (tt, calls_below ds is m.1)
calls_below ds (item.Placeholder p ∷ is) m = (tt, calls_below ds is m.1)
calls_below ds (item.Argument v ∷ is) m = (tt, calls_below ds is m.1)

module _ (text : List ℕ) (body : ℕ → List Item) (p : Program) (low top : ℕ)
    (old : (k : ℕ) → k < low → wanted_by (body k) ≡ None → is_pattern (declaration_at p k) ≡ false)
    (new : (n : ℕ) → low ≤ n → n < top → is_pattern (declaration_at p n) ≡ false) where
  unwritten : (ns : List ℕ) (b : List Item) (q : ℕ) (w : Option Wanted) → if_wanted text b q ns w ≡ None → w ≡ None
  unwritten ns b q None e = refl
  unwritten ns b q (Some w) e = absurd (none-some _ (sym e))

  -- a call that stays as it is
  kept_whole : (i : Item) (is : List Item) → BelowBy low (seen i) → written_in text body i is ≡ None → Whole p (part i)
  kept_whole (item.Start q k) is h e = old k h (unwritten (handed is) (body k) q (wanted_by (body k)) e)
  kept_whole (item.Order q k) is h e = old k h (unwritten (handed is) (body k) q (wanted_by (body k)) e)
  kept_whole (item.Declared k p) is h e = tt
  kept_whole (item.Ratio p q) is h e = tt
  kept_whole (item.Root a b) is h e = tt
  kept_whole (item.Add f p) is h e = tt
  kept_whole (item.Subtract f p) is h e = tt
  kept_whole (item.Frequency f) is h e = tt
  kept_whole (item.Base p) is h e = tt
  kept_whole (item.AnchorKey n) is h e = tt
  kept_whole item.MutedPosition is h e = tt
  kept_whole item.KeptPosition is h e = tt
  kept_whole (item.TonePosition p) is h e = tt
  kept_whole item.AnchorKept is h e = tt
  kept_whole item.WidthKept is h e = tt
  kept_whole (item.Amount f n) is h e = tt
  kept_whole item.Period is h e = tt
  kept_whole item.Onward is h e = tt
  kept_whole (item.Letter c) is h e = tt
  kept_whole (item.Trigger p) is h e = tt
  kept_whole (item.Key v) is h e = tt
  kept_whole (item.StarredKey v) is h e = tt
  kept_whole (item.AmountName f p) is h e = tt
  kept_whole (item.Placeholder p) is h e = tt
  kept_whole (item.Argument v) is h e = tt

  renamed_whole : (n : ℕ) (i : Item) {q k : ℕ} → seen i ≡ Calls q k → low ≤ n → n < top → Whole p (part (renamed n i))
  renamed_whole n i e l m = ⊎_elim (λ h. rw h (new n l m)) (λ h. rw h (new n l m)) (call_is i e)

  pub filled_whole : (n : ℕ) (is : List Item) → Below low is → low ≤ n → n + fillings text body is ≤ top → AllWhole p (filled_from text body n is).items
  unfolding filled_from fillings
  filled_whole n [] w l m = tt
  filled_whole n (i ∷ is) w l m = rw (filled_step text body n i is) (go (written_in text body i is) refl m (λ k. filled_whole k is w.1))
    where
      go : (x : Option WrittenCall) → written_in text body i is ≡ x
          → n + elim x [ None ↦ fillings text body is | Some w ↦ suc (fillings text body is) ] ≤ top
          → ((k : ℕ) → low ≤ k → k + fillings text body is ≤ top → AllWhole p (filled_from text body k is).items)
          → AllWhole p (filled_by x i n (filled_from text body n is) (filled_from text body (suc n) is)).items
      go None e m rest = (kept_whole i is w.0 e, rest n l m)
      go (Some y) e m rest = (renamed_whole n i (written_call text body i is e).1 l (omega arith), rest (suc n) (omega arith) (omega arith))

-- ---- how many calls there are: an order makes one, a start one

pub calls_are : (is : List Item) → calls_in is ≡ order_items is + start_items is
unfolding calls_in order_items start_items
calls_are [] = refl
calls_are (item.Start q k ∷ is) = omega (arith, calls_are is)
calls_are (item.Order q k ∷ is) = omega (arith, calls_are is)
calls_are (item.Declared k p ∷ is) = calls_are is
calls_are (item.Ratio p q ∷ is) = calls_are is
calls_are (item.Root a b ∷ is) = calls_are is
calls_are (item.Add f p ∷ is) = calls_are is
calls_are (item.Subtract f p ∷ is) = calls_are is
calls_are (item.Frequency f ∷ is) = calls_are is
calls_are (item.Base p ∷ is) = calls_are is
calls_are (item.AnchorKey n ∷ is) = calls_are is
calls_are (item.MutedPosition ∷ is) = calls_are is
calls_are (item.KeptPosition ∷ is) = calls_are is
calls_are (item.TonePosition p ∷ is) = calls_are is
calls_are (item.AnchorKept ∷ is) = calls_are is
calls_are (item.WidthKept ∷ is) = calls_are is
calls_are (item.Amount f n ∷ is) = calls_are is
calls_are (item.Period ∷ is) = calls_are is
calls_are (item.Onward ∷ is) = calls_are is
calls_are (item.Letter c ∷ is) = calls_are is
calls_are (item.Trigger p ∷ is) = calls_are is
calls_are (item.Key v ∷ is) = calls_are is
calls_are (item.StarredKey v ∷ is) = calls_are is
calls_are (item.AmountName f p ∷ is) = calls_are is
calls_are (item.Placeholder p ∷ is) = calls_are is
calls_are (item.Argument v ∷ is) = calls_are is

-- a logic has at most one start
pub few_starts : (p : Program) → starts_in p ≤ count_of Logic p
unfolding starts_in count_of
few_starts [] = omega arith
few_starts (d ∷ p) = go d.is (few_starts p)
  where
    counted : Declaration → ℕ
    counted c = if_kind (eqb (kind_number (kind_of c)) (kind_number Logic)) (count_of Logic p)

    one : (s : Option ℕ) → starts_in p ≤ count_of Logic p → some_start s + starts_in p ≤ suc (count_of Logic p)
    one None h = omega arith
    one (Some k) h = omega arith

    go : (c : Declaration) → starts_in p ≤ count_of Logic p → start_count c + starts_in p ≤ counted c
    go (ratio a b) h = omega arith
    go (root a b) h = omega arith
    go (sequence ts) h = omega arith
    go (frequency f) h = omega arith
    go (from k ts) h = omega arith
    go (system a l ts) h = omega arith
    go (anchor m) h = omega arith
    go (width m) h = omega arith
    go (fresh_period ts) h = omega arith
    go (onward_period ts) h = omega arith
    go (tones l) h = omega arith
    go pattern h = omega arith
    go (harmony ks) h = omega arith
    go (logic c t os) h = one t h
