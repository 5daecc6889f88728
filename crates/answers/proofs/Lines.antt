-- How many bytes an answer has, its tones one after the other, and the end of its line.
use Prim.Native.Nat.{ℕ, ◌+◌, ◌*◌, ◌≤◌, ◌<◌}
use mathlib.Core.Path.{◌≡◌, refl, sym, ◌∙◌, ap, subst}
use mathlib.Core.Bool.{true}
use mathlib.Core.List.{List, [], ◌∷◌, ◌++◌, append_assoc, append-nil}
use native.Mathlib.Numerals.{add-one}
use native.Mathlib.Omega.{arith}
use lib.IntN.{ℤ}
use lib.ListN.{length, take, get_or, length-append}
use lib.Seq.{take-suc}
use Rattle.tuning.specs.declared.State.{State}
use Rattle.tuning.specs.Scale.{Sound, muted}
use Rattle.tuning.specs.State.{places, valid_state}
use Rattle.tuning.proofs.Valid.{valid_of}
use Rattle.hexadecimal.specs.Numbers.{four_of}
use Rattle.hexadecimal.specs.Lines.{written, line_of, begun_with}
use Rattle.hexadecimal.proofs.Written.{written_none, written_then, line_written, length_line}
use Rattle.answers.specs.declared.Line.{Line}
use Rattle.answers.specs.Inner.{Begins, Adds, Ends}
use Rattle.answers.specs.Answer.{bits_of, sound_bytes, tones_bytes}

pub length_four : (n : ℕ) → length (four_of n) ≡ 4
unfolding four_of
length_four n = refl

pub length_tones : (l : List (Sound ℤ)) → length (tones_bytes l) ≡ 4 * length l
unfolding tones_bytes
length_tones [] = refl
length_tones (t ∷ l) = simp length-append (omega (arith, length_four (bits_of t), length_tones l))

pub tones_none : tones_bytes [] ≡ []
unfolding tones_bytes
tones_none = refl

tones_append : (l m : List (Sound ℤ)) → tones_bytes (l ++ m) ≡ tones_bytes l ++ tones_bytes m
unfolding tones_bytes
tones_append [] m = refl
tones_append (t ∷ l) m = rw (tones_append l m) (sym (append_assoc (sound_bytes t) (tones_bytes l) (tones_bytes m)))

-- one tone more
tones_next : (l : List (Sound ℤ)) (i : ℕ) → i < length l
    → tones_bytes (take (i + 1) l) ≡ tones_bytes (take i l) ++ sound_bytes (get_or l i muted)
unfolding tones_bytes
tones_next l i h =
    rw (add-one i, take-suc l i muted h)
    (tones_append (take i l) (get_or l i muted ∷ []) ∙ rw (append-nil (sound_bytes (get_or l i muted))))

-- a state is no wider than it has places
pub fits_places : (s : State) → valid_state s ≡ true → s.width ≤ places
fits_places s v = (valid_of s v).most

-- ---- a line

-- nothing more is written
pub adds_none : (a : Line) → Adds a a []
adds_none a = record { same = refl; bytes = omega arith; buffer = sym (written_none _ _) }

-- bytes behind bytes are all of them
pub adds_then : {a b c : Line} {xs ys : List ℕ} → Adds a b xs → Adds b c ys → Adds a c (xs ++ ys)
adds_then {a} {b} {c} {xs} {ys} h k = record {
  same = k.same ∙ h.same;
  bytes = omega (arith, h.bytes, k.bytes, length-append xs ys);
  buffer = written_then _ _ _ _ _ h.buffer k.buffer h.bytes;
}

-- and a tone behind those before it
pub adds_tone : {a b c : Line} (l : List (Sound ℤ)) (i n : ℕ) → i < length l → Adds a b (tones_bytes (take i l)) → Adds b c (four_of n) → n ≡ bits_of (get_or l i muted)
    → Adds a c (tones_bytes (take (i + 1) l))
adds_tone {a} {b} {c} l i n h e f g = subst (Adds a c) (ap (λ (m : ℕ). tones_bytes (take i l) ++ four_of m) g ∙ sym (tones_next l i h)) (adds_then e f)

-- an answer that is written and ended: how long its line is, and the buffer
pub ended : {a b : Line} {lent after : List ℕ} {total : ℕ} (bs : List ℕ) → Begins a lent → Adds a b bs → Ends b total after → 2 * length bs < length lent
    → (total ≡ length (line_of bs)) × (after ≡ begun_with (line_of bs) lent)
ended {a} {b} {lent} {after} {total} bs f h e k =
    let n : b.bytes ≡ length bs = omega (arith, f.bytes, h.bytes) in
    let all : b.buf.now ≡ written lent 0 bs = h.buffer ∙ ap (λ (l : List ℕ). written l a.bytes bs) f.buffer ∙ ap (λ (m : ℕ). written lent m bs) f.bytes in
    (omega (arith, n, e.whole, length_line bs), line_written lent bs (2 * b.bytes) all e.buffer (omega (arith, n)) (omega (arith, n, k)))
