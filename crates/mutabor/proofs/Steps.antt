-- The steps of reading a text: each step's result is a part of `reading`.
-- Assumes nothing.
use mathlib.Core.Path.{◌≡◌, refl, sym, ◌∙◌, ap, subst}
use mathlib.Core.Bool.{Bool, true, false, not}
use mathlib.Core.List.{List}
use Prim.Native.Nat.{ℕ, zero, suc, ◌*◌}
use lib.IntN.{pos}
use lib.ListN.{length, replicate, length-replicate}
use Rattle.std.specs.Prelude.{Result, Err}
use Rattle.status.specs.declared.Reason.TheVariants.{TextTooLong}
use Rattle.status.specs.declared.Refusal.{Refusal}
use Rattle.status.specs.Reasons.{number_of}
use Rattle.status.proofs.ReasonNumbers.{never_done}
use Rattle.tables.specs.Layout.{Tables, full_size, row_width, most_rows, most_tones, most_changes, most_orders, counts_size}
use Rattle.tables.proofs.Sections.{same_tables}
use Rattle.validity.proofs.Sizes.{sizes_of}
use Rattle.grammar.specs.Reading.{read_items}
use Rattle.names.specs.Names.{meanings}
use Rattle.program.specs.Text.{Verdict, refused, accepted, if_zero, by_meaning, read_text}
use Rattle.filling.specs.Inner.{blank}
use Rattle.mutabor.specs.Reading.{Left, zeroed, by_verdict, reading, Leaves}
use Rattle.mutabor.specs.Inner.{Cleared}

-- ---- tables that are cleared

-- a table keeps its size
size_kept : (t : Tables) → full_size (zeroed t) ≡ full_size t
size_kept t = simp length-replicate refl

-- tables of full size are blank once they are cleared
cleared_blank : (t : Tables) → full_size t ≡ true → zeroed t ≡ blank
cleared_blank t h =
    let s = sizes_of t h in
    same_tables (rw s.rows) (rw s.sounding) (rw s.tones) (rw s.kinds) (rw s.changes) (rw s.triggers) (rw s.calls) (rw s.counts)

-- blank tables stay as they are where a text is refused
again : {A : Type 0} (n : ℕ) (x : A) → replicate (length (replicate n x)) x ≡ replicate n x
again n x = ap (λ (k : ℕ). replicate k x) (length-replicate n x)

blank_zeroed : zeroed blank ≡ blank
blank_zeroed =
    same_tables (again (row_width * most_rows) (pos 0)) (again most_tones 0) (again most_tones (pos 0)) (again most_changes 0) (again most_changes (pos 0)) (again most_orders 0)
    (again most_orders 0) (again counts_size 0)

same_verdict : (t : Tables) → zeroed t ≡ blank → (v : Verdict) → by_verdict t v ≡ by_verdict blank v
same_verdict t e (refused n p) = ap (λ (s : Tables). record { number = n; place = p; tables = s }) (e ∙ sym blank_zeroed)
same_verdict t e (accepted p) = refl

-- ---- what is left where a text is refused

pub refuses : (n p : ℕ) {e : Refusal} {after : Tables} → n ≡ number_of e.reason → p ≡ e.place → after ≡ blank → Leaves (by_verdict blank (refused n p)) (Err e) after
refuses n p f g h = record { told = (f, g); tables = h ∙ sym blank_zeroed }

-- ---- the tables' sizes, and then the text

not_true : (b : Bool) → not b ≡ true → b ≡ false
not_true true h = sym h
not_true false h = refl

not_false : (b : Bool) → not b ≡ false → b ≡ true
not_false true h = refl
not_false false h = sym h

pub too_small : (text : List ℕ) {t : Tables} {now : Tables} {b : Bool} → Cleared t now → b ≡ full_size now → not b ≡ true
    → Leaves (reading text t) (Err (record { reason = TextTooLong; place = 0 })) now
unfolding reading
too_small text {t} {b = b} w f g =
    let e = w.zeros in
    let s : full_size t ≡ false = sym (ap full_size e ∙ size_kept t) ∙ sym f ∙ not_true b g in
    rw s (record { told = (refl, refl); tables = e })

pub large_enough : {t now : Tables} {b : Bool} → Cleared t now → b ≡ full_size now → not b ≡ false → full_size t ≡ true
large_enough {t} {b = b} w f g = sym (ap full_size w.zeros ∙ size_kept t) ∙ sym f ∙ not_false b g

pub now_blank : {t now : Tables} → Cleared t now → full_size t ≡ true → now ≡ blank
now_blank {t} w h = w.zeros ∙ cleared_blank t h

pub goes_on : (text : List ℕ) (t : Tables) {r : Result Unit Refusal} {after : Tables} → full_size t ≡ true → Leaves (by_verdict blank (read_text text)) r after → Leaves (reading text t) r after
unfolding reading
goes_on text t {r} {after} h w = rw h (subst (λ (o : Left). Leaves o r after) (sym (same_verdict t (cleared_blank t h) (read_text text))) w)

-- ---- the numbers of the parts

if_not_zero : (n p : ℕ) (v : Verdict) → (n ≡ 0 → ⊥) → if_zero n p v ≡ refused n p
if_not_zero zero p v h = absurd (h refl)
if_not_zero (suc n) p v h = refl

pub if_zero_holds : (n p : ℕ) (v : Verdict) → n ≡ 0 → if_zero n p v ≡ v
if_zero_holds n p v h = rw h

-- the number and the place of a part that refuses
pub part_refused : (n p : ℕ) (v : Verdict) {e : Refusal} {after : Tables} → n ≡ number_of e.reason → p ≡ e.place → after ≡ blank
    → Leaves (by_verdict blank (if_zero n p v)) (Err e) after
part_refused n p v {e} {after} f g h =
    subst (λ (x : Verdict). Leaves (by_verdict blank x) (Err e) after) (sym (if_not_zero n p v (λ z. never_done e.reason (sym f ∙ z)))) (refuses n p f g h)

-- 2, 3, 4 and 9
pub items_refused : (text : List ℕ) {e : Refusal} {after : Tables} → (read_items text).number ≡ number_of e.reason → (read_items text).place ≡ e.place
    → after ≡ blank → Leaves (by_verdict blank (read_text text)) (Err e) after
unfolding read_text
items_refused text f g h = part_refused (read_items text).number (read_items text).place (by_meaning text (meanings text (read_items text).items)) f g h

pub items_read : (text : List ℕ) {r : Result Unit Refusal} {after : Tables} → (read_items text).number ≡ 0
    → Leaves (by_verdict blank (by_meaning text (meanings text (read_items text).items))) r after → Leaves (by_verdict blank (read_text text)) r after
unfolding read_text
items_read text {r} {after} h w =
    subst (λ (v : Verdict). Leaves (by_verdict blank v) r after) (sym (if_zero_holds (read_items text).number (read_items text).place (by_meaning text (meanings text (read_items text).items)) h)) w
