-- Laws of calls with their numbers written in.
-- Assumes nothing.
use mathlib.Core.Path.{◌≡◌, refl, ◌∙◌, ap, subst}
use mathlib.Core.Logic.{◌⊎◌, inl, inr, ⊎_elim}
use mathlib.Core.List.{List, [], ◌∷◌, ◌++◌}
use Prim.Native.Nat.{ℕ, suc, ◌+◌, ◌*◌, ◌≤◌}
use native.Mathlib.Omega.{arith}
use lib.ListN.{length, length-append}
use Rattle.status.specs.Status.{done}
use Rattle.grammar.specs.declared.Item.{Item}
use Rattle.grammar.specs.declared.Item.TheVariants as item
use Rattle.names.specs.Names.{declared}
use Rattle.names.specs.Inner.{beginnings_from, beginnings}
use Rattle.placeholders.specs.declared.Seen.{Seen}
use Rattle.placeholders.specs.declared.Seen.TheVariants.{Other, Declares, Names, Wants, Calls, Hands}
use Rattle.std.specs.Prelude.{Option, Some, None}
use Rattle.std.proofs.lemmas.Option.{same_Some, none-some}
use Rattle.placeholders.specs.declared.Wanted.{Wanted}
use Rattle.placeholders.specs.declared.writing.WrittenCall.{WrittenCall}
use Rattle.placeholders.specs.Placeholders.{seen, after, handed, fault_of}
use Rattle.placeholders.specs.Filling.{wanted_by, written_for, renamed, Filled, kept, filled, filled_from, filled_in, unless_faulty, settled}
use Rattle.placeholders.proofs.Alike.{Alike, none, same, start, order, alike_length, alike_beginnings}
use Rattle.placeholders.proofs.Beginnings.{as_many, beginnings_append}

-- ---- the first of some items

-- what is written in for it: `wanted_at` of specs/Inner.antt, where `body k` are the items after the name of declaration k
abbrev pub if_wanted : List ℕ → List Item → ℕ → List ℕ → Option Wanted → Option WrittenCall
if_wanted text body q ns w = elim w [ None ↦ None | Some w ↦ Some (record { place = q; form = w.form; number = written_for text body ns w.name }) ]

abbrev pub written_by : List ℕ → (ℕ → List Item) → Seen → List Item → Option WrittenCall
written_by text body s is =
    elim s [
      | Calls q k ↦ if_wanted text (body k) q (handed is) (wanted_by (body k))
      | Other ↦ None
      | Declares ↦ None
      | Names p ↦ None
      | Wants f p ↦ None
      | Hands n ↦ None
    ]

abbrev pub written_in : List ℕ → (ℕ → List Item) → Item → List Item → Option WrittenCall
written_in text body i is = written_by text body (seen i) is

abbrev pub filled_by : Option WrittenCall → Item → ℕ → Filled → Filled → Filled
filled_by None i n r s = kept i r
filled_by (Some y) i n r s = filled i y.place n y.form y.number s

-- the items of a call
AsSeen : Seen → Item → Type 0
AsSeen (Calls q k) i = (i ≡ item.Start q k) ⊎ (i ≡ item.Order q k)
AsSeen Other i = Unit
AsSeen Declares i = Unit
AsSeen (Names p) i = Unit
AsSeen (Wants f p) i = Unit
AsSeen (Hands n) i = Unit

as_seen : (i : Item) → AsSeen (seen i) i
unfolding AsSeen
as_seen (item.Start q k) = inl refl
as_seen (item.Order q k) = inr refl
as_seen (item.Declared k p) = tt
as_seen (item.Ratio p q) = tt
as_seen (item.Root a b) = tt
as_seen (item.Add f p) = tt
as_seen (item.Subtract f p) = tt
as_seen (item.Frequency f) = tt
as_seen (item.Base p) = tt
as_seen (item.AnchorKey n) = tt
as_seen item.MutedPosition = tt
as_seen item.KeptPosition = tt
as_seen (item.TonePosition p) = tt
as_seen item.AnchorKept = tt
as_seen item.WidthKept = tt
as_seen (item.Amount f n) = tt
as_seen item.Period = tt
as_seen item.Onward = tt
as_seen (item.Letter c) = tt
as_seen (item.Trigger p) = tt
as_seen (item.Key v) = tt
as_seen (item.StarredKey v) = tt
as_seen (item.AmountName f p) = tt
as_seen (item.Placeholder p) = tt
as_seen (item.Argument n) = tt

pub call_is : (i : Item) {q k : ℕ} → seen i ≡ Calls q k → (i ≡ item.Start q k) ⊎ (i ≡ item.Order q k)
unfolding AsSeen
call_is i e = subst (λ (s : Seen). AsSeen s i) e (as_seen i)

-- a call that names another declaration
pub alike_renamed : (n : ℕ) (i : Item) {q k : ℕ} → seen i ≡ Calls q k → {is js : List Item} → Alike is js → Alike (i ∷ is) (renamed n i ∷ js)
alike_renamed n i e a = ⊎_elim (λ h. rw h (start a)) (λ h. rw h (order a)) (call_is i e)

-- how many calls there are
unfoldable pub calls_in : List Item → ℕ
calls_in [] = 0
calls_in (i ∷ is) =
    elim (seen i) [ Calls q k ↦ suc (calls_in is) | Other ↦ calls_in is | Declares ↦ calls_in is | Names p ↦ calls_in is | Wants f p ↦ calls_in is | Hands n ↦ calls_in is ]

module _ (text : List ℕ) (body : ℕ → List Item) where
  -- where something is written in, it is a call
  pub written_call : (i : Item) (is : List Item) {y : WrittenCall} → written_in text body i is ≡ Some y → (k : ℕ) × (seen i ≡ Calls y.place k)
  written_call i is {y} e = go (seen i) e
    where
      wanted : (b : List Item) (a : ℕ) (w : Option Wanted) → if_wanted text b a (handed is) w ≡ Some y → a ≡ y.place
      wanted b a None e = absurd (none-some y e)
      wanted b a (Some w) e = ap (λ (c : WrittenCall). c.place) (same_Some _ y e)

      go : (s : Seen) → written_by text body s is ≡ Some y → (k : ℕ) × (s ≡ Calls y.place k)
      go (Calls a k) e = (k, ap (λ (x : ℕ). Calls x k) (wanted (body k) a (wanted_by (body k)) e))
      go Other e = absurd (none-some y e)
      go Declares e = absurd (none-some y e)
      go (Names p) e = absurd (none-some y e)
      go (Wants g p) e = absurd (none-some y e)
      go (Hands n) e = absurd (none-some y e)

  pub filled_step : (n : ℕ) (i : Item) (is : List Item)
      → filled_from text body n (i ∷ is) ≡ filled_by (written_in text body i is) i n (filled_from text body n is) (filled_from text body (suc n) is)
  unfolding filled_from
  filled_step n i is = go (filled_from text body n is) (filled_from text body (suc n) is) (seen i)
    where
      wanted : (r t : Filled) (b : List Item) (q : ℕ) (w : Option Wanted)
          → ◌≡◌ {A = Filled} (elim w [ None ↦ kept i r | Some w ↦ filled i q n w.form (written_for text b (handed is) w.name) t ])
          (filled_by (if_wanted text b q (handed is) w) i n r t)
      wanted r t b q None = refl
      wanted r t b q (Some w) = refl

      go : (r t : Filled) (s : Seen)
          → ◌≡◌ {A = Filled} (elim s [
            | Calls q k ↦ elim (wanted_by (body k)) [ None ↦ kept i r | Some w ↦ filled i q n w.form (written_for text (body k) (handed is) w.name) t ]
            | Other ↦ kept i r
            | Declares ↦ kept i r
            | Names p ↦ kept i r
            | Wants f p ↦ kept i r
            | Hands v ↦ kept i r
          ]) (filled_by (written_by text body s is) i n r t)
      go r t (Calls q k) = wanted r t (body k) q (wanted_by (body k))
      go r t Other = refl
      go r t Declares = refl
      go r t (Names p) = refl
      go r t (Wants f p) = refl
      go r t (Hands v) = refl

  -- ---- the items stay as many, and alike

  pub filled_alike : (n : ℕ) (is : List Item) → Alike is (filled_from text body n is).items
  unfolding filled_from
  filled_alike n [] = none
  filled_alike n (i ∷ is) = rw (filled_step n i is) (go (written_in text body i is) refl (λ m. filled_alike m is))
    where
      go : (w : Option WrittenCall) → written_in text body i is ≡ w → ((m : ℕ) → Alike is (filled_from text body m is).items)
          → Alike (i ∷ is) (filled_by w i n (filled_from text body n is) (filled_from text body (suc n) is)).items
      go None e rest = same (rest n)
      go (Some y) e rest = alike_renamed n i (written_call i is e).1 (rest (suc n))

  pub filled_length : (n : ℕ) (is : List Item) → length (filled_from text body n is).items ≡ length is
  filled_length n is = alike_length (filled_alike n is)

  -- ---- each call that is written in has two items behind

  -- how many are
  unfoldable pub fillings : List Item → ℕ
  fillings [] = 0
  fillings (i ∷ is) = elim (written_in text body i is) [ None ↦ fillings is | Some w ↦ suc (fillings is) ]

  pub more_even : (n : ℕ) (is : List Item) → length (filled_from text body n is).more ≡ 2 * fillings is
  unfolding filled_from fillings
  more_even n [] = refl
  more_even n (i ∷ is) = rw (filled_step n i is) (go (written_in text body i is) (λ m. more_even m is))
    where
      go : (w : Option WrittenCall) → ((m : ℕ) → length (filled_from text body m is).more ≡ 2 * fillings is)
          → length (filled_by w i n (filled_from text body n is) (filled_from text body (suc n) is)).more
          ≡ 2 * elim w [ None ↦ fillings is | Some w ↦ suc (fillings is) ]
      go None rest = rest n
      go (Some y) rest = let e = rest (suc n) in omega arith

  -- the first of them declares a name
  pub more_begun : (n k : ℕ) (is : List Item) → length (beginnings_from k (filled_from text body n is).more) ≡ fillings is
  unfolding filled_from fillings beginnings_from
  more_begun n k [] = refl
  more_begun n k (i ∷ is) = rw (filled_step n i is) (go (written_in text body i is) (λ m l. more_begun m l is))
    where
      go : (w : Option WrittenCall) → ((m l : ℕ) → length (beginnings_from l (filled_from text body m is).more) ≡ fillings is)
          → length (beginnings_from k (filled_by w i n (filled_from text body n is) (filled_from text body (suc n) is)).more)
          ≡ elim w [ None ↦ fillings is | Some w ↦ suc (fillings is) ]
      go None rest = rest n k
      go (Some y) rest = ap suc (rest (suc n) (suc (suc k)))

  -- no more than there are calls
  pub fillings_few : (is : List Item) → fillings is ≤ calls_in is
  unfolding fillings calls_in
  fillings_few [] = omega arith
  fillings_few (i ∷ is) = go (seen i) (fillings_few is)
    where
      called : (w : Option WrittenCall) → fillings is ≤ calls_in is → elim w [ None ↦ fillings is | Some w ↦ suc (fillings is) ] ≤ suc (calls_in is)
      called None h = omega arith
      called (Some y) h = omega arith

      go : (s : Seen) → fillings is ≤ calls_in is
          → elim (written_by text body s is) [ None ↦ fillings is | Some w ↦ suc (fillings is) ]
          ≤ elim s [ Calls q k ↦ suc (calls_in is) | Other ↦ calls_in is | Declares ↦ calls_in is | Names p ↦ calls_in is | Wants f p ↦ calls_in is | Hands n ↦ calls_in is ]
      go (Calls q k) h = called (if_wanted text (body k) q (handed is) (wanted_by (body k))) h
      go Other h = h
      go Declares h = h
      go (Names p) h = h
      go (Wants f p) h = h
      go (Hands n) h = h

  pub more_few : (n : ℕ) (is : List Item) → length (filled_from text body n is).more ≤ 2 * calls_in is
  more_few n is = omega (arith, more_even n is, fillings_few is)

-- ---- those of a whole text

abbrev pub whole : List ℕ → List Item → Filled
whole text is = filled_from text (after is) (length (declared is)) is

module _ (text : List ℕ) (is : List Item) where
  pub whole_alike : Alike is (whole text is).items
  whole_alike = filled_alike text (after is) (length (declared is)) is

  pub whole_length : length (whole text is).items ≡ length is
  whole_length = filled_length text (after is) (length (declared is)) is

  pub whole_count : length (filled_in text is) ≡ length is + length (whole text is).more
  unfolding filled_in
  whole_count = length-append (whole text is).items (whole text is).more ∙ ap (λ (m : ℕ). m + length (whole text is).more) whole_length

  pub whole_begun : beginnings (filled_in text is) ≡ beginnings is ++ beginnings_from (length is) (whole text is).more
  unfolding filled_in
  whole_begun =
      let e : 0 + length (whole text is).items ≡ length is = omega (arith, whole_length) in
      beginnings_append 0 (whole text is).items (whole text is).more
      ∙ ap (λ (xs : List ℕ). xs ++ beginnings_from (0 + length (whole text is).items) (whole text is).more) (alike_beginnings 0 whole_alike)
      ∙ ap (λ (m : ℕ). beginnings is ++ beginnings_from m (whole text is).more) e

  -- there are two items and one declaration more for each call that is written in
  pub filled_items : length (filled_in text is) ≡ length is + 2 * fillings text (after is) is
  filled_items = omega (arith, whole_count, more_even text (after is) (length (declared is)) is)

  pub filled_declarations : length (beginnings (filled_in text is)) ≡ length (declared is) + fillings text (after is) is
  filled_declarations =
      omega (arith, simp length-append at (ap length whole_begun), as_many 0 is, more_begun text (after is) (length (declared is)) (length is) is)

-- ---- the number is 0

pub settled_done : (text : List ℕ) (is : List Item) → (settled text is).number ≡ done → (fault_of text is ≡ None) × ((settled text is).items ≡ filled_in text is)
unfolding settled
settled_done text is e = go (fault_of text is) e
  where
    go : (f : Option ℕ) → (unless_faulty f (filled_in text is)).number ≡ done → (f ≡ None) × ((unless_faulty f (filled_in text is)).items ≡ filled_in text is)
    go None z = (refl, refl)
    go (Some p) z = absurd (omega arith)
