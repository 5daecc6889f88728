-- The program of an accepted text keeps "Numbers allowed".
use mathlib.Core.Path.{◌≡◌, refl, sym, ◌∙◌, ap, subst}
use mathlib.Core.Bool.{Bool, true, false}
use mathlib.Core.List.Memᴰ
use mathlib.Core.List.{List, [], ◌∷◌, ◌++◌, map, append_assoc, Memᴰ}
use Prim.Native.Nat.{ℕ, zero, suc, ◌+◌, ◌-◌, ◌*◌, ◌≤◌, ◌<◌}
use native.Mathlib.Omega.{arith}
use borrow.Author.Tests.{eq-eqb}
use lib.Dec.{eqb}
use lib.ListN.{length, get_or, drop, length-map, length-append, get_or-map, get_or-append}
use lib.Seq.{get_or-append-add}
use Rattle.std.specs.Prelude.{None}
use Rattle.status.specs.Status.{done}
use Rattle.grammar.specs.declared.Kind.{Kind}
use Rattle.grammar.specs.declared.Kind.TheVariants.{Interval, Tone, System, Retuning, Logic, Order as AnOrder, Harmony}
use Rattle.grammar.specs.declared.Form.{Form}
use Rattle.grammar.specs.declared.Form.TheVariants.{AnchorTo, AnchorUp, AnchorDown, WidthTo, WidthUp, WidthDown, WidthTimes, WidthOver}
use Rattle.grammar.specs.declared.Item.{Item}
use Rattle.grammar.specs.Moves.{kind_number}
use Rattle.limits.specs.Limits.{most_declarations, most_calls}
use Rattle.grammar.specs.Reading.{limit, read_items}
use Rattle.names.specs.Parts as parts
use Rattle.names.specs.Parts.{Part, declares, gives, uses, says, part}
use Rattle.names.specs.Names.{Named, declared, meanings}
use Rattle.names.specs.Inner.{beginnings}
use Rattle.names.proofs.Searching.{OfKinds}
use Rattle.names.proofs.Meanings.{Means, AllMean, accepted as meant-well}
use Rattle.values.proofs.Cases.{or_right}
use Rattle.program.specs.Program.{Declaration, ratio, root, sequence, frequency, from, system, anchor, width, fresh_period, onward_period, tones, pattern, logic, harmony, asking, Placed, Program, program_of}
use Rattle.program.specs.Meaning.{nothing, declaration_at}
use Rattle.program.specs.Allowed.{kind_of, is_kind, is_pattern, Refers, Each, Fits, if_kind, count_of, orders_in, tones_count, tones_in, most_of, Allowed}
use Rattle.program.specs.Text.{accepted, read_text}
use Rattle.program.proofs.Formed.{an_amount, Formed, no_more, declaration, names_of, order_items, start_items, starts_in, FormedText}
use Rattle.placeholders.specs.Placeholders.{after}
use Rattle.placeholders.specs.Filling.{wanted_by, Filled, filled_from, filled_in}
use Rattle.placeholders.proofs.Alike.{Alike, alike_length, alike_drop, alike_wanted, alike_declared, alike_beginnings}
use Rattle.placeholders.proofs.FilledLaws.{filled_alike, fillings, more_even, fillings_few, settled_done}
use Rattle.program.proofs.AlikeItems.{formed_alike, orders_alike_count}
use Rattle.program.proofs.FilledText.{formed_handy, Fillings, none_filled, one_filled, fillings_formed, formed_both, fillings_orders, fillings_declared, fillings_kind, fillings_from, declared_both, orders_both, all_still, fresh, means_both, fillings_mean, filled_mean, Whole, AllWhole, whole_both, calls_below, filled_whole, fillings_calls, calls_are, few_starts}
use Rattle.program.proofs.AcceptedText.{steps, counts_add}
use Rattle.program.proofs.ReadFormed.{read_formed}
use Rattle.program.proofs.Numbered.{formed_meant}
use Rattle.program.proofs.Standing.{parts_whole, stands, asking_whole, unwanted}
use Rattle.program.proofs.Declares.{passed, Refer, AllRefer, both, declares_fit}

abbrev kind_here : Placed → Kind
kind_here d = kind_of d.is

abbrev kind_named : Named → Kind
kind_named d = d.kind

-- the declarations run along with the declared names, kind by kind
record Along (is : List Item) : Type 0 where
  kinds : map kind_here (program_of is) ≡ map kind_named (declared is)
  counts : (k : Kind) → count_of k (program_of is) ≡ names_of k (declared is)
  orders : orders_in (program_of is) ≡ order_items is
  starts : starts_in (program_of is) ≡ start_items is

module _ (p : Program) where
  along : {is : List Item} → Formed is → Along is
  unfolding program_of declared count_of names_of orders_in order_items starts_in start_items
  along no_more = record { kinds = refl; counts = λ k. refl; orders = refl; starts = refl }
  along (declaration {k} {rest} b w) =
      let d = declares_fit p b in
      let v = passed rest d.inside in
      let a = along w in
      record {
        kinds = rw (parts_whole b w, v.program, v.names, d.kind) (ap (λ ks. k ∷ ks) a.kinds);
        counts = λ j. rw (parts_whole b w, v.program, v.names, d.kind) (ap (if_kind (eqb (kind_number k) (kind_number j))) (a.counts j));
        orders = rw (parts_whole b w, v.program, v.orders, a.orders);
        starts = rw (parts_whole b w, v.program, v.starts, a.starts);
      }

  -- each fits
  fitting : {is : List Item} → Formed is → AllRefer p is → Each (λ (d : Placed). Fits p d.is) (program_of is)
  unfolding program_of
  fitting no_more r = tt
  fitting (declaration {body = is} {rest} b w) r =
      let d = declares_fit p b in
      let v = both p is rest r.1 in
      rw (parts_whole b w, (passed rest d.inside).program) (d.fits v.0, fitting w v.1)

-- ---- one list of declarations after the other

module _ (p : Program) where
  pub program_both : {is js : List Item} → Formed is → Formed js → program_of (is ++ js) ≡ program_of is ++ program_of js
  unfolding program_of
  program_both no_more v = refl
  program_both {js} (declaration {body = body} {rest = rest} b w) v =
      let d = (declares_fit p b).inside in
      rw (append_assoc body rest js, parts_whole b (formed_both w v), parts_whole b w, (passed (rest ++ js) d).program, (passed rest d).program, program_both w v)

tones_both : (ps qs : Program) → tones_in (ps ++ qs) ≡ tones_in ps + tones_in qs
unfolding tones_in
tones_both [] qs = omega arith
tones_both (d ∷ ps) qs = omega (arith, tones_both ps qs)

-- each is a retuning
tones_few : (p : Program) → tones_in p ≤ count_of Retuning p
unfolding tones_in count_of
tones_few [] = omega arith
tones_few (d ∷ p) = go d.is (tones_few p)
  where
    go : (c : Declaration) → tones_in p ≤ count_of Retuning p → tones_count c + tones_in p ≤ if_kind (eqb (kind_number (kind_of c)) (kind_number Retuning)) (count_of Retuning p)
    go (ratio p q) h = omega arith
    go (root a b) h = omega arith
    go (sequence ts) h = omega arith
    go (frequency f) h = omega arith
    go (from k ts) h = omega arith
    go (system a l ts) h = omega arith
    go (anchor m) h = omega arith
    go (width m) h = omega arith
    go (fresh_period ts) h = omega arith
    go (onward_period ts) h = omega arith
    go (tones l) h = omega arith
    go pattern h = omega arith
    go (logic c s os) h = omega arith
    go (harmony ks) h = omega arith

-- and none is filled in
asking_lists : (f : Form) (v : ℕ) → tones_count (asking f v) ≡ 0
asking_lists AnchorTo v = refl
asking_lists AnchorUp v = refl
asking_lists AnchorDown v = refl
asking_lists WidthTo v = refl
asking_lists WidthUp v = refl
asking_lists WidthDown v = refl
asking_lists WidthTimes v = refl
asking_lists WidthOver v = refl

fillings_lists : {n : ℕ} {is : List Item} → Fillings n is → tones_in (program_of is) ≡ 0
unfolding tones_in program_of
fillings_lists none_filled = refl
fillings_lists (one_filled {v = v} {f = f} h w) =
    rw (parts_whole (an_amount {f = f} h) (fillings_formed w)) (omega (arith, asking_lists f v, fillings_lists w))

-- what is filled in is no pattern
fillings_whole : {n : ℕ} {is : List Item} → Fillings n is → (k : ℕ) → k < n → is_pattern (declaration_at (program_of is) k) ≡ false
unfolding program_of
fillings_whole none_filled k h = absurd (omega arith)
fillings_whole (one_filled {v = v} {f = f} l w) zero h = rw (parts_whole (an_amount {f = f} l) (fillings_formed w)) (asking_whole f v)
fillings_whole (one_filled l w) (suc k) h = fillings_whole w k (omega arith)

-- ---- a number that means a declared name refers to its declaration

is_kind_holds : {k : Kind} {ks : List Kind} → Memᴰ k ks → is_kind k ks ≡ true
is_kind_holds {k} (Memᴰ.head {x = j} e) = rw (eq-eqb (kind_number k) (kind_number j) (ap kind_number e))
is_kind_holds {k} (Memᴰ.tail {x = j} w) = or_right (eqb (kind_number k) (kind_number j)) (is_kind_holds w)

-- of the kind that `nothing` has
abbrev unnamed : Named
unnamed = record { kind = Interval; place = 0 }

module _ (p : Program) (ds : List Named) (e : map kind_here p ≡ map kind_named ds) where
  kind_at : (n : ℕ) → kind_of (declaration_at p n) ≡ (get_or ds n unnamed).kind
  kind_at n = sym (get_or-map kind_here p n nothing) ∙ ap (λ ks. get_or ks n Interval) e ∙ get_or-map kind_named ds n unnamed

  refers : (ks : List Kind) (n : ℕ) → OfKinds ds ks n → Refers p ks n
  refers ks n w =
      let l : length p ≡ length ds = sym (length-map p kind_here) ∙ ap length e ∙ length-map ds kind_named in
      let b = w.below in
      record { within = omega arith; kind = is_kind_holds (Memᴰ.cast (kind_at n) (w.kind unnamed)) }

  refer_one : (q : Part) → Means ds q → Whole p q → Refer p q
  refer_one (declares k n) w h = tt
  refer_one (gives g a b) w h = tt
  refer_one (uses parts.add a n) w h = refers _ n w
  refer_one (uses parts.subtract a n) w h = refers _ n w
  refer_one (uses parts.base a n) w h = refers _ n w
  refer_one (uses parts.position a n) w h = refers _ n w
  refer_one (uses parts.start a n) w h = record { refers = refers _ n w; whole = h }
  refer_one (uses parts.order a n) w h = record { refers = refers _ n w; whole = h }
  refer_one (uses parts.trigger a n) w h = refers _ n w
  refer_one (says m) w h = tt

  refer_all : (is : List Item) → AllMean ds is → AllWhole p is → AllRefer p is
  refer_all [] w h = tt
  refer_all (i ∷ is) w h = (refer_one (part i) w.0 h.0, refer_all is w.1 h.1)

-- ---- with the calls filled in

names_both : (k : Kind) (ds es : List Named) → names_of k (ds ++ es) ≡ names_of k ds + names_of k es
unfolding names_of
names_both k [] es = omega arith
names_both k (d ∷ ds) es = go (eqb (kind_number d.kind) (kind_number k)) (names_both k ds es)
  where
    go : (b : Bool) → names_of k (ds ++ es) ≡ names_of k ds + names_of k es → if_kind b (names_of k (ds ++ es)) ≡ if_kind b (names_of k ds) + names_of k es
    go true e = omega arith
    go false e = e

-- of what is filled in all are retunings
abbrev filled_of : Kind → ℕ → ℕ
filled_of Interval n = 0
filled_of Tone n = 0
filled_of System n = 0
filled_of Retuning n = n
filled_of Logic n = 0
filled_of AnOrder n = 0
filled_of Harmony n = 0

filled_names : (k : Kind) {n : ℕ} {is : List Item} → Fillings n is → names_of k (declared is) ≡ filled_of k n
unfolding names_of declared
filled_names Interval none_filled = refl
filled_names Interval (one_filled h w) = filled_names Interval w
filled_names Tone none_filled = refl
filled_names Tone (one_filled h w) = filled_names Tone w
filled_names System none_filled = refl
filled_names System (one_filled h w) = filled_names System w
filled_names Retuning none_filled = refl
filled_names Retuning (one_filled h w) = ap suc (filled_names Retuning w)
filled_names Logic none_filled = refl
filled_names Logic (one_filled h w) = filled_names Logic w
filled_names AnOrder none_filled = refl
filled_names AnOrder (one_filled h w) = filled_names AnOrder w
filled_names Harmony none_filled = refl
filled_names Harmony (one_filled h w) = filled_names Harmony w

within_most : (k : Kind) {m n : ℕ} → m ≤ limit k → n ≤ most_calls → m + filled_of k n ≤ most_of k
within_most Interval h l = omega arith
within_most Tone h l = omega arith
within_most System h l = omega arith
within_most Retuning h l = omega arith
within_most Logic h l = omega arith
within_most AnOrder h l = omega arith
within_most Harmony h l = omega arith

-- js are the items of a text whose names are resolved
module _ (text : List ℕ) (js : List Item) (v : FormedText js) where
  abbrev pub filling : Filled
  filling = filled_from text (after js) (length (declared js)) js

  abbrev pub filled : ℕ
  filled = fillings text (after js) js

  pub fills : Fillings filled filling.more
  fills = fillings_from text (after js) (length (declared js)) js (formed_handy v.formed)

  pub alike : Alike js filling.items
  alike = filled_alike text (after js) (length (declared js)) js

  known : Along js
  known = along [] v.formed

  -- no more than there are calls
  pub few_filled : filled ≤ most_calls
  few_filled =
      omega (arith, fillings_few text (after js) js, calls_are js, v.orders, known.starts, few_starts (program_of js), known.counts Logic, v.few Logic)

  names_filled : declared (filled_in text js) ≡ declared js ++ declared filling.more
  unfolding filled_in
  names_filled = declared_both filling.items filling.more ∙ ap (λ (ds : List Named). ds ++ declared filling.more) (alike_declared alike)

  pub declared_few : length (declared js) ≤ most_declarations
  declared_few =
      let c = known.counts in
      let l : length (program_of js) ≡ length (declared js) =
      sym (length-map (program_of js) kind_here) ∙ ap length known.kinds ∙ length-map (declared js) kind_named in
      omega (
        arith,
        counts_add (program_of js),
        c Interval,
        c Tone,
        c System,
        c Retuning,
        c Logic,
        c Harmony,
        v.few Interval,
        v.few Tone,
        v.few System,
        v.few Retuning,
        v.few Logic,
        v.few Harmony,
      )

  pub filled_declared : length (declared (filled_in text js)) ≡ length (declared js) + filled
  filled_declared = ap length names_filled ∙ length-append (declared js) (declared filling.more) ∙ ap (λ (n : ℕ). length (declared js) + n) (fillings_declared fills)

  pub filled_items : length (filled_in text js) ≡ length js + 2 * filled
  unfolding filled_in
  filled_items = length-append filling.items filling.more ∙ omega (arith, alike_length alike, more_even text (after js) (length (declared js)) js)

  formed_filled : Formed (filled_in text js)
  unfolding filled_in
  formed_filled = formed_both (formed_alike v.formed alike) (fillings_formed fills)

  lists_filled : tones_in (program_of (filled_in text js)) ≤ limit Retuning
  unfolding filled_in
  lists_filled =
      let f = formed_alike v.formed alike in
      let p = program_of filling.items in
      let q = program_of filling.more in
      let e : tones_in (program_of (filling.items ++ filling.more)) ≡ tones_in p + tones_in q =
      ap tones_in (program_both [] f (fillings_formed fills)) ∙ tones_both p q in
      omega (arith, e, fillings_lists fills, tones_few p, (along [] f).counts Retuning, ap (names_of Retuning) (alike_declared alike), v.few Retuning)

  orders_filled : order_items (filled_in text js) ≡ order_items js
  unfolding filled_in
  orders_filled = orders_both filling.items filling.more ∙ omega (arith, orders_alike_count alike, fillings_orders fills)

  means_filled : AllMean (declared js) js → AllMean (declared (filled_in text js)) (filled_in text js)
  unfolding filled_in
  means_filled m =
      let ds = declared js in
      let es = declared filling.more in
      let l = fillings_declared fills in
      let low = filled_mean text (after js) (ds ++ es) (length ds) (length ds + filled)
      (λ n h k. fresh ds es n (λ j d q. fillings_kind fills j d (omega arith)) h (omega arith)) (length ds) js (all_still ds es js m) (omega arith) (omega arith) in
      subst (λ (x : List Named). AllMean x (filling.items ++ filling.more)) (sym names_filled)
      (means_both (ds ++ es) filling.items filling.more low (fillings_mean (ds ++ es) fills))

  -- what is called has no placeholder left
  pub program_filled : program_of (filled_in text js) ≡ program_of filling.items ++ program_of filling.more
  unfolding filled_in
  program_filled = program_both [] (formed_alike v.formed alike) (fillings_formed fills)

  pub items_program : length (program_of filling.items) ≡ length (declared js)
  items_program =
      let a = along [] (formed_alike v.formed alike) in
      sym (length-map (program_of filling.items) kind_here) ∙ ap length a.kinds ∙ length-map (declared filling.items) kind_named ∙ ap length (alike_declared alike)

  old_whole : (k : ℕ) → k < length (declared js) → wanted_by (after js k) ≡ None → is_pattern (declaration_at (program_of (filled_in text js)) k) ≡ false
  old_whole k h e =
      let f = formed_alike v.formed alike in
      let s = stands f k (omega (arith, ap length (alike_declared alike))) in
      let b : beginnings filling.items ≡ beginnings js = alike_beginnings 0 alike in
      let w : wanted_by (after filling.items k) ≡ None =
      ap (λ (l : List ℕ). wanted_by (drop (suc (get_or l k 0)) filling.items)) b ∙ alike_wanted (alike_drop (suc (get_or (beginnings js) k 0)) alike) ∙ e in
      ap (λ (p : Program). is_pattern (declaration_at p k)) program_filled
      ∙ ap (λ (d : Placed). is_pattern d.is) (get_or-append (program_of filling.items) (program_of filling.more) nothing k (omega (arith, items_program)))
      ∙ ap is_pattern s.declares ∙ unwanted s.rest s.shape (sym (ap wanted_by s.items) ∙ w)

  new_whole : (n : ℕ) → length (declared js) ≤ n → n < length (declared js) + filled → is_pattern (declaration_at (program_of (filled_in text js)) n) ≡ false
  new_whole n h l =
      let ps = program_of filling.items in
      let e : length ps + (n - length ps) ≡ n = omega (arith, items_program) in
      ap (λ (p : Program). is_pattern (declaration_at p n)) program_filled ∙ ap (λ (k : ℕ). is_pattern (declaration_at (ps ++ program_of filling.more) k)) (sym e)
      ∙ ap (λ (d : Placed). is_pattern d.is) (get_or-append-add ps (program_of filling.more) (n - length ps) nothing)
      ∙ fillings_whole fills (n - length ps) (omega (arith, items_program))

  calls_whole : AllMean (declared js) js → AllWhole (program_of (filled_in text js)) (filled_in text js)
  unfolding filled_in
  calls_whole m =
      let p = program_of (filled_in text js) in
      whole_both p filling.items filling.more
      (filled_whole text (after js) p (length (declared js)) (length (declared js) + filled) old_whole new_whole (length (declared js)) js (calls_below (declared js) js m) (omega arith) (omega arith))
      (fillings_calls p fills)

  pub filled_allowed : AllMean (declared js) js → Allowed (program_of (filled_in text js))
  filled_allowed m =
      let fs = filled_in text js in
      let p = program_of fs in
      let a = along p formed_filled in
      record {
        few = λ k. rw (a.counts k, names_filled, names_both k (declared js) (declared filling.more), filled_names k fills) (within_most k (v.few k) few_filled);
        orders = rw (a.orders, orders_filled) v.orders;
        listed = lists_filled;
        each = fitting p formed_filled (refer_all p (declared fs) a.kinds fs (means_filled m) (calls_whole m));
      }

pub formed_allowed : (text : List ℕ) (is : List Item) → FormedText is → (meanings text is).number ≡ done
    → Allowed (program_of (filled_in text (meanings text is).items))
formed_allowed text is w e =
    let js = (meanings text is).items in
    let s = (meant-well text is e).settles in
    filled_allowed text js (formed_meant text is w e) (subst (λ ds. AllMean ds js) (sym s.same_names) s.means)

-- the program of an accepted text keeps document 01's limits
pub accepted_allowed : (text : List ℕ) (p : Program) → read_text text ≡ accepted p → Allowed p
accepted_allowed text p e =
    let s = steps text p e in
    let is = (read_items text).items in
    let f = (settled_done text (meanings text is).items s.filled).1 in
    subst Allowed (ap program_of (sym f) ∙ s.program) (formed_allowed text is (read_formed text s.read) s.meant)
