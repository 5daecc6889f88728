-- Where each declaration's body stands among the items of a text, and which bodies are left with a placeholder.
-- Assumes nothing.
use mathlib.Core.Path.{◌≡◌, refl, sym, ◌∙◌, ap}
use mathlib.Core.Bool.{false}
use mathlib.Core.List.{List, [], ◌∷◌, ◌++◌, append-nil, append_assoc}
use Prim.Native.Nat.{ℕ, zero, suc, ◌+◌, ◌<◌}
use native.Mathlib.Omega.{arith}
use lib.ListN.{length, get_or, drop}
use lib.Seq.{drop-append-add}
use Rattle.std.specs.Prelude.{None}
use Rattle.grammar.specs.declared.Kind.{Kind}
use Rattle.grammar.specs.declared.Form.{Form}
use Rattle.grammar.specs.declared.Form.TheVariants.{AnchorTo, AnchorUp, AnchorDown, WidthTo, WidthUp, WidthDown, WidthTimes, WidthOver}
use Rattle.grammar.specs.declared.Item.{Item}
use Rattle.grammar.specs.declared.Item.TheVariants as item
use Rattle.names.specs.Parts.{Part, declares, gives, uses, says, part}
use Rattle.names.specs.Names.{Named, named_by, declared}
use Rattle.names.specs.Inner.{beginning_by, beginnings_from, beginnings}
use Rattle.placeholders.specs.Placeholders.{after}
use Rattle.placeholders.specs.Filling.{wanted_by}
use Rattle.placeholders.proofs.Beginnings.{beginnings_append}
use Rattle.values.proofs.Cases.{impossible}
use Rattle.program.specs.Program.{asking, declaration_of, parts_of, Program, program_of}
use Rattle.program.specs.Meaning.{declaration_at}
use Rattle.program.specs.Allowed.{is_pattern, order_count}
use Rattle.program.proofs.Formed.{Body, a_ratio, a_root, a_sequence, a_frequency, from_tone, a_system, a_tones, a_logic, a_harmony, by_letter_case, by_harmony_case, Formed, no_more, declaration}
use Rattle.program.proofs.Formed.{start_count, anchor_kept_case, width_kept_case, an_amount, an_amount_name, after_names, fresh_period_case, onward_period_case, NameItems, no_name_case, a_name}
use Rattle.program.proofs.Declares.{sequence_of, tones_of_holds, harmony_of_holds, period_of_holds, names_past, Plain, Inside, no_item, plain, one_order, one_start, Passed, passed, declares_fit}

-- ---- the parts of a declaration end where the next begins

nothing_left : {is : List Item} → Formed is → parts_of is ≡ []
unfolding parts_of
nothing_left no_more = refl
nothing_left (declaration b w) = refl

pub parts_whole : {k : Kind} {is rest : List Item} → Body k is → Formed rest → parts_of (is ++ rest) ≡ is
parts_whole {is} {rest} b w = (passed rest (declares_fit [] b).inside).these ∙ ap (λ xs. is ++ xs) (nothing_left w) ∙ append-nil is

-- ---- where declarations begin

none_by : (q : Part) → Plain q → (k : ℕ) (l : List ℕ) → beginning_by k q l ≡ l
none_by (declares x y) h k l = absurd h
none_by (gives g a b) h k l = refl
none_by (uses u a p) h k l = refl
none_by (says m) h k l = refl

no_beginnings : {n m : ℕ} {is : List Item} → Inside n m is → (k : ℕ) → beginnings_from k is ≡ []
unfolding beginnings_from
no_beginnings no_item k = refl
no_beginnings (plain {i = i} h w) k = none_by (part i) h k _ ∙ no_beginnings w (suc k)
no_beginnings (one_order w) k = no_beginnings w (suc k)
no_beginnings (one_start w) k = no_beginnings w (suc k)

-- counted from m more
later_at : (m j : ℕ) (is : List Item) (k : ℕ) → k < length (declared is) → get_or (beginnings_from (m + j) is) k 0 ≡ m + get_or (beginnings_from j is) k 0
unfolding beginnings_from declared
later_at m j [] k h = absurd (omega arith)
later_at m j (i ∷ is) k h = go (part i) k h (λ n l. ap (λ (x : ℕ). get_or (beginnings_from x is) n 0) next ∙ later_at m (suc j) is n l)
  where
    next : suc (m + j) ≡ m + suc j
    next = omega arith

    go : (q : Part) (n : ℕ) → n < length (named_by q (declared is))
        → ((n : ℕ) → n < length (declared is) → get_or (beginnings_from (suc (m + j)) is) n 0 ≡ m + get_or (beginnings_from (suc j) is) n 0)
        → get_or (beginning_by (m + j) q (beginnings_from (suc (m + j)) is)) n 0 ≡ m + get_or (beginning_by j q (beginnings_from (suc j) is)) n 0
    go (declares x y) zero l rest = refl
    go (declares x y) (suc n) l rest = rest n (omega arith)
    go (gives g a b) n l rest = rest n l
    go (uses u a p) n l rest = rest n l
    go (says x) n l rest = rest n l

pub record Stands (is : List Item) (k : ℕ) : Type 0 where
  pub kind : Kind
  pub body : List Item
  pub rest : List Item
  pub shape : Body kind body
  pub formed : Formed rest
  pub items : after is k ≡ body ++ rest
  pub declares : declaration_at (program_of is) k ≡ declaration_of body
  pub named : (d : Named) → (get_or (declared is) k d).kind ≡ kind

module _ {kind : Kind} {body : List Item} (p : ℕ) (rest : List Item) (b : Body kind body) where
  abbrev whole : List Item
  whole = item.Declared kind p ∷ body ++ rest

  inner : Passed (order_count (declaration_of body)) (start_count (declaration_of body)) body rest
  inner = passed rest (declares_fit [] b).inside

  begun : beginnings whole ≡ 0 ∷ beginnings_from (suc (length body) + 0) rest
  unfolding beginnings_from
  begun =
      let e : 1 + length body ≡ suc (length body) + 0 = omega arith in
      ap (λ (l : List ℕ). 0 ∷ l) (beginnings_append 1 body rest ∙ ap (λ (l : List ℕ). l ++ beginnings_from (1 + length body) rest) (no_beginnings (declares_fit [] b).inside 1)
      ∙ ap (λ (n : ℕ). beginnings_from n rest) e)

  after_next : (k : ℕ) → k < length (declared rest) → after whole (suc k) ≡ after rest k
  after_next k h =
      let e : get_or (beginnings whole) (suc k) 0 ≡ suc (length body + get_or (beginnings rest) k 0) =
      ap (λ (l : List ℕ). get_or l (suc k) 0) begun ∙ later_at (suc (length body)) 0 rest k h ∙ omega arith in
      let f : length body + suc (get_or (beginnings rest) k 0) ≡ suc (length body + get_or (beginnings rest) k 0) = omega arith in
      ap (λ (n : ℕ). drop (suc n) whole) e ∙ ap (λ (n : ℕ). drop n (body ++ rest)) (sym f) ∙ drop-append-add body rest (suc (get_or (beginnings rest) k 0))

  stands_first : Formed rest → Stands whole 0
  unfolding program_of declared
  stands_first w =
      record {
        kind = kind;
        body = body;
        rest = rest;
        shape = b;
        formed = w;
        items = ap (λ (l : List ℕ). drop (suc (get_or l 0 0)) whole) begun;
        declares = ap declaration_of (parts_whole b w);
        named = λ d. refl;
      }

  stands_next : (k : ℕ) → k < length (declared rest) → Stands rest k → Stands whole (suc k)
  unfolding program_of declared
  stands_next k h s =
      record {
        kind = s.kind;
        body = s.body;
        rest = s.rest;
        shape = s.shape;
        formed = s.formed;
        items = after_next k h ∙ s.items;
        declares = ap (λ (q : Program). declaration_at q k) inner.program ∙ s.declares;
        named = λ d. ap (λ (l : List Named). (get_or l k d).kind) inner.names ∙ s.named d;
      }

pub stands : {is : List Item} → Formed is → (k : ℕ) → k < length (declared is) → Stands is k
unfolding declared
stands no_more k h = absurd (omega arith)
stands (declaration {p = p} {rest = rest} b w) zero h = stands_first p rest b w
stands (declaration {p = p} {rest = rest} b w) (suc k) h =
    let l : k < length (declared rest) = omega (arith, ap length (inner p rest b).names) in
    stands_next p rest b k l (stands w k l)

-- ---- only where a placeholder stands for n is a retuning left with one

pub asking_whole : (f : Form) (n : ℕ) → is_pattern (asking f n) ≡ false
asking_whole AnchorTo n = refl
asking_whole AnchorUp n = refl
asking_whole AnchorDown n = refl
asking_whole WidthTo n = refl
asking_whole WidthUp n = refl
asking_whole WidthDown n = refl
asking_whole WidthTimes n = refl
asking_whole WidthOver n = refl

pub names_wanted : {n : ℕ} {ns : List Item} (is : List Item) → NameItems n ns → wanted_by (ns ++ is) ≡ wanted_by is
unfolding wanted_by
names_wanted is no_name_case = refl
names_wanted is (a_name w) = names_wanted is w

pub unwanted : {k : Kind} {body : List Item} (rest : List Item) → Body k body → wanted_by (body ++ rest) ≡ None → is_pattern (declaration_of body) ≡ false
unfolding wanted_by
unwanted rest (a_ratio p q) e = refl
unwanted rest (a_root a b) e = refl
unwanted rest (a_sequence w) e = ap is_pattern (sequence_of w)
unwanted rest (a_frequency f) e = refl
unwanted rest (from_tone w) e = refl
unwanted rest (a_system h w s t) e = refl
unwanted rest anchor_kept_case e = refl
unwanted rest width_kept_case e = refl
unwanted rest (an_amount {f = f} {n = n} h) e = asking_whole f n
unwanted rest an_amount_name e = impossible (cc)
unwanted rest (fresh_period_case w) e = ap is_pattern (period_of_holds w)
unwanted rest (onward_period_case w) e = refl
unwanted rest (a_tones w s) e = ap is_pattern (tones_of_holds w s)
unwanted rest (after_names {ns = ns} {is = is} w b) e =
    ap is_pattern (names_past is w) ∙ unwanted rest b (sym (ap wanted_by (append_assoc ns is rest) ∙ names_wanted (is ++ rest) w) ∙ e)
unwanted rest (a_logic (by_letter_case c) s w) e = refl
unwanted rest (a_logic by_harmony_case s w) e = refl
unwanted rest (a_harmony w s) e = ap is_pattern (harmony_of_holds w s)
