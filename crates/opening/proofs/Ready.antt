-- A text whose number is 0 was accepted, so that its tables are valid, and with the start's desk over them no frame is answered 23. Assumes nothing.
use mathlib.Core.Path.{◌≡◌, refl, sym, ap, ◌∙◌, subst}
use mathlib.Core.Bool.{Bool, true, false, cond}
use mathlib.Core.List.{List, []}
use Prim.Native.Nat.{ℕ, zero, suc, ◌≤◌, ◌<◌}
use native.Mathlib.Omega.{arith}
use borrow.Author.Tests.{lt-ltb, le-ltb, eq-eqb, ne_eqb}
use lib.Dec.{ltb, eqb}
use lib.ListN.{length}
use Rattle.status.specs.Status.{done, text_too_long, buffer_too_small}
use Rattle.std.specs.Prelude.{Result, Ok, Err}
use Rattle.values.specs.declared.Fault.{Fault}
use Rattle.values.specs.declared.Fault.TheVariants.{Circular, OutOfRange}
use Rattle.tables.specs.Layout.{Tables, full_size}
use Rattle.grammar.specs.Reading.{read_items}
use Rattle.names.specs.Names.{Meant, meanings}
use Rattle.placeholders.specs.Filling.{settled}
use Rattle.program.specs.Program.{Program, program_of}
use Rattle.program.specs.Meaning.{valued}
use Rattle.program.specs.Text.{Verdict, refused, accepted, by_value, if_zero, by_settling, by_meaning, read_text}
use Rattle.program.proofs.AllowedText.{accepted_allowed}
use Rattle.filling.specs.Tables.{tables_of}
use Rattle.hexadecimal.specs.Digits.{hexes}
use Rattle.hexadecimal.specs.Numbers.{four_of}
use Rattle.hexadecimal.specs.Lines.{line_of}
use Rattle.answers.specs.Answer.{refusal_bytes, smallest_buffer}
use Rattle.mutabor.specs.Reading.{Left, by_verdict, reading}
use Rattle.mutabor.proofs.ValidTables.{accepted_valid}
use Rattle.protocol.specs.Answers.{start_desk, valid_desk}
use Rattle.protocol.proofs.Stays.{right_valid, start_right}
use Rattle.opening.specs.Opening.{Opening, refusal_line, opened_by, opening, opened, Opens}
use Rattle.protocol.specs.declared.Desk.{Desk}
use Rattle.opening.specs.declared.Refused.{Refused}

-- a refusal has a number
abbrev numbered : Verdict → Type 0
numbered (refused n p) = (n ≡ done → ⊥)
numbered (accepted p) = Unit

if_zero_holds : (n place : ℕ) (v : Verdict) → numbered v → numbered (if_zero n place v)
if_zero_holds zero place v h = h
if_zero_holds (suc n) place v h = λ e. omega arith

by_value_holds : (p : Program) (o : Result Unit Fault) → numbered (by_value p o)
by_value_holds p (Err (Circular i)) = λ e. omega arith
by_value_holds p (Err (OutOfRange i)) = λ e. omega arith
by_value_holds p (Ok u) = tt

by_settling_holds : (m : Meant) → numbered (by_settling m)
by_settling_holds m = if_zero_holds m.number m.place _ (by_value_holds (program_of m.items) (valued (program_of m.items)))

by_meaning_holds : (text : List ℕ) (m : Meant) → numbered (by_meaning text m)
by_meaning_holds text m = if_zero_holds m.number m.place _ (by_settling_holds (settled text m.items))

text_numbered : (text : List ℕ) → numbered (read_text text)
unfolding read_text
text_numbered text =
    let r = read_items text in
    if_zero_holds r.number r.place _ (by_meaning_holds text (meanings text r.items))

-- number 0: the tables are those of an accepted text
pub ready : (text : List ℕ) (t : Tables) → (reading text t).number ≡ done → valid_desk (reading text t).tables start_desk ≡ true
unfolding reading
ready text t h = sized (full_size t) h
  where
    verdict : (v : Verdict) → read_text text ≡ v → numbered v → (by_verdict t v).number ≡ done → valid_desk (by_verdict t v).tables start_desk ≡ true
    verdict (refused n p) e k h = absurd (k h)
    verdict (accepted p) e k h =
        let v = accepted_valid text p (accepted_allowed text p e) e in
        right_valid (tables_of p) v start_desk (start_right (tables_of p) v)

    sized : (b : Bool) → (by_verdict t (cond b (read_text text) (refused text_too_long 0))).number ≡ done
        → valid_desk (by_verdict t (cond b (read_text text) (refused text_too_long 0))).tables start_desk ≡ true
    sized true h = verdict (read_text text) refl (text_numbered text) h
    sized false h = absurd (omega (arith, h))

-- ---- the ways through a call

pub opens : {o q : Opening} {r : Result Desk Refused} {lent : Tables} {before after : List ℕ} → o ≡ q → Opens o r lent before after → Opens q r lent before after
opens {r = r} {lent = lent} {before = before} {after = after} e h = subst (λ (x : Opening). Opens x r lent before after) e h

module _ (text : List ℕ) (t : Tables) (room : ℕ) where
  pub opens_small : room < smallest_buffer → record { number = buffer_too_small; line = []; tables = t } ≡ opening text t room
  unfolding opening
  opens_small h = rw (lt-ltb room smallest_buffer h)

  pub opens_read : smallest_buffer ≤ room → opened_by (reading text t) ≡ opening text t room
  unfolding opening
  opens_read h = rw (le-ltb room smallest_buffer h)

pub accepted_line : (l : Left) → l.number ≡ done → refusal_line l.number l.place ≡ []
accepted_line l e = rw e

pub accepted_desk : (l : Left) → l.number ≡ done → ◌≡◌ {A = Result Desk Refused} (Ok start_desk) (opened (opened_by l))
accepted_desk l e = rw (eq-eqb l.number done e)

pub refused_desk : (l : Left) → (l.number ≡ done → ⊥)
    → ◌≡◌ {A = Result Desk Refused} (Err (record { number = l.number; desk = start_desk; length = length (refusal_line l.number l.place) })) (opened (opened_by l))
refused_desk l e = rw (ne_eqb l.number done e)

pub refused_line : (l : Left) → (l.number ≡ done → ⊥) → refusal_line l.number l.place ≡ line_of (refusal_bytes l.number l.place)
refused_line l e = rw (ne_eqb l.number done e)

-- ---- the line of a refusal is short

refusal_length : (number place : ℕ) → length (line_of (refusal_bytes number place)) ≡ 13
unfolding hexes four_of
refusal_length number place = refl

-- every line that a text gets fits a buffer that is long enough for any answer
line_fits : (text : List ℕ) (t : Tables) (room : ℕ) → length (opening text t room).line ≤ smallest_buffer
unfolding opening
line_fits text t room = small (ltb room smallest_buffer)
  where
    l : Left
    l = reading text t

    told : (b : Bool) → length (cond b [] (line_of (refusal_bytes l.number l.place))) ≤ smallest_buffer
    told true = omega arith
    told false = omega (arith, refusal_length l.number l.place)

    small : (b : Bool) → length (cond b (record { number = buffer_too_small; line = []; tables = t }) (opened_by l)).line ≤ smallest_buffer
    small true = omega arith
    small false = told (eqb l.number done)

abbrev length_of : Result Desk Refused → ℕ
length_of (Ok d) = 0
length_of (Err x) = x.length

pub opened_fits : (text : List ℕ) (t : Tables) (room : ℕ) {r : Result Desk Refused} {lent : Tables} {before after : List ℕ} → Opens (opening text t room) r lent before after
    → {x : Refused} → r ≡ Err x → x.length ≤ smallest_buffer
opened_fits text t room {r} g {x} e =
    let o = opening text t room in
    omega (arith, ap length_of (sym e ∙ g.result), fits (eqb o.number done) o.number (length o.line) (line_fits text t room))
  where
    fits : (b : Bool) (n l : ℕ) → l ≤ smallest_buffer → length_of (cond b (Ok start_desk) (Err (record { number = n; desk = start_desk; length = l }))) ≤ smallest_buffer
    fits true n l h = omega arith
    fits false n l h = h
