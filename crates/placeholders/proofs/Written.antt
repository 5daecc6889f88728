-- The loop that writes numbers in: what has become of the items in front of the present one, and what stands behind them all.
-- Assumes nothing.
use mathlib.Core.Path.{◌≡◌, refl, sym, ◌∙◌, ap}
use mathlib.Core.Logic.{⊎_elim}
use mathlib.Core.List.{List, [], ◌∷◌, ◌++◌, append-nil, append_assoc}
use Prim.Native.Nat.{ℕ, suc, ◌+◌, ◌≤◌, ◌<◌}
use native.Mathlib.Numerals.{add-one}
use native.Mathlib.Omega.{arith}
use lib.ListN.{take-append-drop, get_or-append, length, get_or, take, drop, set, length-append, length-drop, length-set, drop_of_length-le}
use lib.Seq.{drop-drop, take_at, drop_at, take_all, take-add, take-take, take-suc-set, length-take-le, set-append_left}
use Rattle.std.proofs.lemmas.List.{get_or_default}
use Rattle.grammar.specs.declared.Kind.TheVariants.{Retuning}
use Rattle.grammar.specs.declared.Item.{Item}
use Rattle.grammar.specs.declared.Item.TheVariants as item
use Rattle.grammar.specs.Items.{most_items, holding, with_place}
use Rattle.grammar.proofs.Rows.{holding_more}
use Rattle.names.specs.Names.{declared}
use Rattle.names.specs.Inner.{beginnings_from, beginnings, begun_with}
use Rattle.names.proofs.Lists.{here, head_at, head_rest, begun_set, begun_same, begun_all, begun_at, begun_length}
use Rattle.placeholders.specs.declared.Seen.{Seen}
use Rattle.placeholders.specs.declared.Seen.TheVariants.{Other, Declares, Names, Wants, Calls, Hands}
use Rattle.placeholders.specs.declared.Wanted.{Wanted}
use Rattle.placeholders.specs.declared.writing.WrittenCall.{WrittenCall}
use Rattle.std.specs.Prelude.{Option, Some, None}
use Rattle.placeholders.specs.Placeholders.{seen, after, handed}
use Rattle.placeholders.specs.Filling.{wanted_by, renamed, Filled, filled_from, filled_in}
use Rattle.placeholders.specs.Inner.{wanted_at, Begun, Roomy, Fills}
use Rattle.placeholders.proofs.Alike.{Alike, alike_drop, alike_begun, alike_named, alike_wanted}
use Rattle.placeholders.proofs.Beginnings.{as_many, beginnings_few, beginnings_append}
use Rattle.placeholders.proofs.Wrong.{part, part_end}
use Rattle.placeholders.proofs.FilledLaws.{if_wanted, written_by, written_in, call_is, written_call, filled_by, filled_step, whole, whole_alike, whole_length, whole_count, whole_begun}

-- ---- a call that names another declaration

called : (n : ℕ) (i : Item) {q k : ℕ} → seen i ≡ Calls q k → with_place i n ≡ renamed n i
called n i e = ⊎_elim (λ h. rw h) (λ h. rw h) (call_is i e)

-- ---- what is written in, of items that are alike

written_alike : (text : List ℕ) {was body : ℕ → List Item} → ((k : ℕ) → Alike (was k) (body k)) → (s : Seen) (is : List Item)
    → written_by text body s is ≡ written_by text was s is
written_alike text {was} {body} a (Calls q k) is =
    ap (if_wanted text (body k) q (handed is)) (alike_wanted (a k)) ∙ go (wanted_by (was k))
  where
    go : (w : Option Wanted) → if_wanted text (body k) q (handed is) w ≡ if_wanted text (was k) q (handed is) w
    go None = refl
    go (Some w) = rw (alike_named (a k))
written_alike text a Other is = refl
written_alike text a Declares is = refl
written_alike text a (Names p) is = refl
written_alike text a (Wants f p) is = refl
written_alike text a (Hands n) is = refl

-- ---- room for two more items, and one more declaration

pub record Room (starts : List ℕ) (end next : ℕ) : Type 0 where
  pub items_fit : end + 2 ≤ most_items
  pub start_fits : next < length starts
  pub few : next < most_items

-- ---- the loop

module _ (text : List ℕ) (is : List Item) where
  abbrev pub all : Filled
  all = whole text is

  -- the items of a slice now, before the i-th, and the first m of those behind
  abbrev pub those : ℕ → List Item
  those i = begun_with i all.items is

  abbrev pub behind : ℕ → List Item
  behind m = take m all.more

  module _ (items₀ : List Item) (starts₀ : List ℕ) where
    pub record Writing (items : List Item) (starts : List ℕ) (end next i : ℕ) : Type 0 where
      pub within : i ≤ length is
      pub added : ℕ
      pub few : added ≤ length all.more
      pub ends : end ≡ length is + added
      pub items_left : drop i all.items ≡ (filled_from text (after is) next (drop i is)).items
      pub more_left : drop added all.more ≡ (filled_from text (after is) next (drop i is)).more
      pub held : items ≡ holding (those i ++ behind added) items₀
      pub room : length items ≡ length items₀
      pub space : length starts ≡ length starts₀
      pub fits : next ≤ length starts
      pub begun : take next starts ≡ beginnings is ++ beginnings_from (length is) (behind added)

    own : {n : ℕ} → Begun is starts₀ n → n ≡ length (beginnings is)
    own {n} b = sym (length-take-le n starts₀ b.within) ∙ ap length b.begun

    pub writing_none : {count n : ℕ} → count ≡ length is → items₀ ≡ holding is items₀ → Begun is starts₀ n → Writing items₀ starts₀ count n 0
    unfolding beginnings_from
    writing_none {count} {n} e h b =
        let m : length (declared is) ≡ n = sym (own b ∙ as_many 0 is) in
        record {
          within = omega arith;
          added = 0;
          few = omega arith;
          ends = omega (arith, e);
          items_left = ap (λ (k : ℕ). (filled_from text (after is) k is).items) m;
          more_left = ap (λ (k : ℕ). (filled_from text (after is) k is).more) m;
          held = h ∙ ap (λ (xs : List Item). holding xs items₀) (sym (append-nil is));
          room = refl;
          space = refl;
          fits = b.within;
          begun = b.begun ∙ sym (append-nil (beginnings is));
        }

    module _ {items : List Item} {starts : List ℕ} {end next i : ℕ} (p : Writing items starts end next i) where
      those_length : length (those i) ≡ length is
      those_length = begun_length all.items is i (omega (arith, whole_length text is, p.within)) p.within

      behind_length : length (behind p.added) ≡ p.added
      behind_length = length-take-le p.added all.more p.few

      next_is : next ≡ length (beginnings is) + length (beginnings_from (length is) (behind p.added))
      next_is = sym (length-take-le next starts p.fits) ∙ ap length p.begun ∙ length-append (beginnings is) (beginnings_from (length is) (behind p.added))

      -- the loop ends
      pub writing_all : length is ≤ i → Fills text is items₀ (record { items = end; declarations = next }) items starts
      unfolding filled_from filled_in
      writing_all h =
          let n : drop i is ≡ [] = drop_of_length-le is h in
          let z : drop p.added all.more ≡ [] = p.more_left ∙ ap (λ (xs : List Item). (filled_from text (after is) next xs).more) n in
          let l : length all.more ≤ p.added = omega (arith, simp length-drop at (ap length z)) in
          let b : behind p.added ≡ all.more = take_all p.added all.more l in
          let t : those i ++ behind p.added ≡ all.items ++ all.more =
          ap (λ (xs : List Item). xs ++ behind p.added) (begun_all all.items is i (omega (arith, whole_length text is)) h)
          ∙ ap (λ (xs : List Item). all.items ++ xs) b in
          record {
            count = omega (arith, whole_count text is, p.ends, p.few);
            left = p.held ∙ ap (λ (xs : List Item). holding xs items₀) t;
            begun =
                record {
                  within = p.fits;
                  begun = p.begun ∙ ap (λ (xs : List Item). beginnings is ++ beginnings_from (length is) xs) b ∙ sym (whole_begun text is);
                };
          }

      -- the slices begin as the items do
      module _ (count : ℕ) {n : ℕ} (e : count ≡ length is) (b : Begun is starts₀ n) where
        items_now : take count items ≡ those i
        items_now =
            let c : length (those i) ≡ count = omega (arith, e, those_length) in
            ap (take count) (p.held ∙ append_assoc (those i) (behind p.added) (drop (length (those i ++ behind p.added)) items₀))
            ∙ take_at (those i) (behind p.added ++ drop (length (those i ++ behind p.added)) items₀) count c

        starts_now : take n starts ≡ beginnings is
        starts_now =
            sym (take-take n next starts (omega (arith, own b, next_is))) ∙ ap (take n) p.begun
            ∙ take_at (beginnings is) (beginnings_from (length is) (behind p.added)) n (sym (own b))

        -- the present item, and those after it
        module _ (h : i < length is) where
          abbrev present : Item
          present = get_or is i item.MutedPosition

          abbrev later : List Item
          later = drop (i + 1) is

          written_here : wanted_at text (take n starts) (take count items) (part i (length (take count items)) (take count items)) ≡ written_in text (after is) present later
          written_here =
              let d : part i (length (take count items)) (take count items) ≡ present ∷ later =
              part_end i (take count items) ∙ ap (drop i) items_now
              ∙ drop_at (take i all.items) (drop i is) i (length-take-le i all.items (omega (arith, whole_length text is)))
              ∙ here is i item.MutedPosition h in
              ap (λ (bs : List ℕ). wanted_at text bs (take count items) (part i (length (take count items)) (take count items))) starts_now
              ∙ ap (λ (xs : List Item). wanted_at text (beginnings is) xs (part i (length (take count items)) (take count items))) items_now
              ∙ ap (wanted_at text (beginnings is) (those i)) d
              ∙ written_alike text (λ k. alike_drop (suc (get_or (beginnings is) k 0)) (alike_begun i (whole_alike text is))) (seen present) later

          -- w is written in for it
          module _ {w : Option WrittenCall} (r : w ≡ wanted_at text (take n starts) (take count items) (part i (length (take count items)) (take count items))) where
            filled_here : filled_from text (after is) next (drop i is)
                ≡ filled_by w present next (filled_from text (after is) next later) (filled_from text (after is) (suc next) later)
            filled_here =
                ap (filled_from text (after is) next) (here is i item.MutedPosition h) ∙ filled_step text (after is) next present later
                ∙ ap (λ (v : Option WrittenCall). filled_by v present next (filled_from text (after is) next later) (filled_from text (after is) (suc next) later)) (sym (r ∙ written_here))

            items_here : {v : Option WrittenCall} → w ≡ v
                → drop i all.items ≡ (filled_by v present next (filled_from text (after is) next later) (filled_from text (after is) (suc next) later)).items
            items_here z =
                p.items_left ∙ ap (λ (m : Filled). m.items) filled_here
                ∙ ap (λ (v : Option WrittenCall). (filled_by v present next (filled_from text (after is) next later) (filled_from text (after is) (suc next) later)).items) z

            more_here : {v : Option WrittenCall} → w ≡ v
                → drop p.added all.more ≡ (filled_by v present next (filled_from text (after is) next later) (filled_from text (after is) (suc next) later)).more
            more_here z =
                p.more_left ∙ ap (λ (m : Filled). m.more) filled_here
                ∙ ap (λ (v : Option WrittenCall). (filled_by v present next (filled_from text (after is) next later) (filled_from text (after is) (suc next) later)).more) z

            -- nothing is
            pub writing_on : w ≡ None → Writing items starts end next (i + 1)
            writing_on z =
                record {
                  within = omega arith;
                  added = p.added;
                  few = p.few;
                  ends = p.ends;
                  items_left = head_rest all.items i (items_here z);
                  more_left = more_here z;
                  held =
                      p.held
                      ∙ ap (λ (xs : List Item). holding (xs ++ behind p.added) items₀)
                      (begun_same all.items is i (items_here z) h (head_at is i (here is i item.MutedPosition h) present));
                  room = p.room;
                  space = p.space;
                  fits = p.fits;
                  begun = p.begun;
                }

            -- a number is
            module _ {y : WrittenCall} (z : w ≡ Some y) where
              abbrev new : List Item
              new = item.Declared Retuning y.place ∷ item.Amount y.form y.number ∷ []

              call_here : with_place present next ≡ renamed next present
              call_here = called next present (written_call text (after is) present later (sym (r ∙ written_here) ∙ z)).1

              -- there is room
              some_more : p.added + 2 ≤ length all.more
              some_more = omega (arith, simp length-drop at (ap length (more_here z)))

              behind_more : behind (p.added + 2) ≡ behind p.added ++ new
              behind_more = take-add p.added 2 all.more ∙ ap (λ (xs : List Item). behind p.added ++ take 2 xs) (more_here z)

              begun_more : beginnings_from (length is) (behind (p.added + 2)) ≡ beginnings_from (length is) (behind p.added) ++ end ∷ []
              unfolding beginnings_from
              begun_more =
                  let e : length is + length (behind p.added) ≡ end = omega (arith, p.ends, behind_length) in
                  ap (beginnings_from (length is)) behind_more ∙ beginnings_append (length is) (behind p.added) new
                  ∙ ap (λ (m : ℕ). beginnings_from (length is) (behind p.added) ++ m ∷ []) e

              module _ (m : Roomy text is starts₀) where
                begun_fits : next + 1 ≤ length (beginnings (filled_in text is))
                begun_fits =
                    let k = p.added + 2 in
                    let e : length (beginnings_from (length is) (behind k)) ≡ length (beginnings_from (length is) (behind p.added)) + 1 =
                    ap length begun_more ∙ length-append (beginnings_from (length is) (behind p.added)) (end ∷ []) in
                    let a : beginnings_from (length is) all.more ≡ beginnings_from (length is) (behind k) ++ beginnings_from (length is + length (behind k)) (drop k all.more) =
                    ap (beginnings_from (length is)) (sym (take-append-drop k all.more)) ∙ beginnings_append (length is) (behind k) (drop k all.more) in
                    omega (arith, next_is, simp length-append at (ap length a), simp length-append at (ap length (whole_begun text is)))

                pub room_here : Room starts end next
                room_here =
                    record {
                      items_fit = omega (arith, m.fits_items, whole_count text is, p.ends, some_more);
                      start_fits = omega (arith, begun_fits, m.fits_starts, p.space);
                      few = omega (arith, begun_fits, beginnings_few 0 (filled_in text is), m.fits_items);
                    }

                module _ (size : length items₀ ≡ most_items) where
                  -- the present item stands there
                  item_there : (d : Item) → get_or items i d ≡ present
                  item_there d =
                      let l : i < length (those i) = omega (arith, those_length) in
                      let g = behind p.added ++ drop (length (those i ++ behind p.added)) items₀ in
                      ap (λ (xs : List Item). get_or xs i d) (p.held ∙ append_assoc (those i) (behind p.added) (drop (length (those i ++ behind p.added)) items₀))
                      ∙ get_or-append (those i) g d i l
                      ∙ begun_at all.items is i d (omega (arith, whole_length text is)) h
                      ∙ get_or_default is i d item.MutedPosition h

                  -- the items, the call of which names the next declaration
                  renamed_here : (d : Item) → set items i (with_place (get_or items i d) next) ≡ holding (those (i + 1) ++ behind p.added) items₀
                  renamed_here d =
                      let t = behind p.added in
                      let rest = drop (length (those i ++ t)) items₀ in
                      let j = renamed next present in
                      let l : i < length (those i) = omega (arith, those_length) in
                      let n : length (those i ++ t) ≡ length (those (i + 1) ++ t) =
                      omega (arith, length-append (those i) t, length-append (those (i + 1)) t, those_length, begun_length all.items is (i + 1) (omega (arith, whole_length text is)) (omega arith)) in
                      ap (λ (x : Item). set items i (with_place x next)) (item_there d)
                      ∙ ap (set items i) call_here
                      ∙ ap (λ (xs : List Item). set xs i j) (p.held ∙ append_assoc (those i) t rest)
                      ∙ set-append_left (those i) (t ++ rest) i j l
                      ∙ ap (λ (xs : List Item). xs ++ (t ++ rest)) (begun_set all.items is i (items_here z) h)
                      ∙ sym (append_assoc (those (i + 1)) t rest)
                      ∙ ap (λ (k : ℕ). (those (i + 1) ++ t) ++ drop k items₀) n

                  pub writing_more : (none : Item) {l₁ l₂ l₃ : List Item} {starts' : List ℕ} → l₁ ≡ set items i (with_place (get_or items i none) next)
                      → l₂ ≡ set l₁ end (item.Declared Retuning y.place) → l₃ ≡ set l₂ (end + 1) (item.Amount y.form y.number)
                      → starts' ≡ set starts next end → Writing l₃ starts' (end + 2) (next + 1) (i + 1)
                  writing_more none {l₁} {l₂} {l₃} {starts'} e₁ e₂ e₃ s =
                      let t = those (i + 1) ++ behind p.added in
                      let d = item.Declared Retuning y.place in
                      let a = item.Amount y.form y.number in
                      let n₁ : length t ≡ end =
                      omega (arith, length-append (those (i + 1)) (behind p.added), begun_length all.items is (i + 1) (omega (arith, whole_length text is)) (omega arith), behind_length, p.ends) in
                      let n₂ : length (t ++ d ∷ []) ≡ end + 1 = omega (arith, length-append t (d ∷ [])) in
                      let h₂ : l₂ ≡ holding (t ++ d ∷ []) items₀ =
                      e₂ ∙ ap (λ (xs : List Item). set xs end d) (e₁ ∙ renamed_here none)
                      ∙ ap (λ (k : ℕ). set (holding t items₀) k d) (sym n₁)
                      ∙ holding_more t d items₀ (omega (arith, size, room_here.items_fit)) in
                      let h₃ : l₃ ≡ holding ((t ++ d ∷ []) ++ a ∷ []) items₀ =
                      e₃ ∙ ap (λ (xs : List Item). set xs (end + 1) a) h₂
                      ∙ ap (λ (k : ℕ). set (holding (t ++ d ∷ []) items₀) k a) (sym n₂)
                      ∙ holding_more (t ++ d ∷ []) a items₀ (omega (arith, size, room_here.items_fit)) in
                      let g : (t ++ d ∷ []) ++ a ∷ [] ≡ those (i + 1) ++ behind (p.added + 2) =
                      append_assoc t (d ∷ []) (a ∷ []) ∙ append_assoc (those (i + 1)) (behind p.added) new
                      ∙ ap (λ (xs : List Item). those (i + 1) ++ xs) (sym behind_more) in
                      record {
                        within = omega arith;
                        added = p.added + 2;
                        few = some_more;
                        ends = omega (arith, p.ends);
                        items_left =
                            head_rest all.items i (items_here z)
                            ∙ ap (λ (k : ℕ). (filled_from text (after is) k later).items) (sym (add-one next));
                        more_left =
                            sym (drop-drop 2 p.added all.more) ∙ ap (drop 2) (more_here z)
                            ∙ ap (λ (k : ℕ). (filled_from text (after is) k later).more) (sym (add-one next));
                        held = h₃ ∙ ap (λ (xs : List Item). holding xs items₀) g;
                        room =
                            ap length e₃ ∙ length-set l₂ (end + 1) a ∙ ap length e₂ ∙ length-set l₁ end d
                            ∙ ap length e₁ ∙ length-set items i (with_place (get_or items i none) next) ∙ p.room;
                        space = ap length s ∙ length-set starts next end ∙ p.space;
                        fits = omega (arith, room_here.start_fits, length-set starts next end, ap length s);
                        begun =
                            ap (take (next + 1)) s ∙ ap (λ (k : ℕ). take k (set starts next end)) (add-one next) ∙ take-suc-set starts next end room_here.start_fits
                            ∙ ap (λ (xs : List ℕ). xs ++ end ∷ []) p.begun
                            ∙ append_assoc (beginnings is) (beginnings_from (length is) (behind p.added)) (end ∷ [])
                            ∙ ap (λ (xs : List ℕ). beginnings is ++ xs) (sym begun_more);
                      }
