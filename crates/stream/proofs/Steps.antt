-- One byte further in a stream: a byte that is held, and a line that is answered.
use Prim.Native.Nat.{ℕ, suc, ◌+◌, ◌≤◌, ◌<◌}
use mathlib.Core.Path.{◌≡◌, refl, sym, ap, ◌∙◌, subst}
use mathlib.Core.Bool.{Bool, true, false, cond}
use mathlib.Core.List.{List, [], ◌∷◌, ◌++◌, append_assoc, append-nil}
use native.Mathlib.Numerals.{add-one}
use native.Mathlib.Omega.{arith}
use borrow.Author.Tests.{le-ltb}
use lib.Dec.{eqb}
use lib.ListN.{length, take, drop, take-append-drop, length-append, length-drop}
use lib.Seq.{take_at, drop_at, drop-drop, drop-append-le, length-take-le}
use Rattle.std.proofs.lemmas.Option.{none-some, same_Some}
use Rattle.hexadecimal.specs.Lines.{line_feed}
use Rattle.frames.specs.Frames.{frame_of, decoded_as, enough}
use Rattle.frames.specs.declared.Decoded.{Decoded}
use Rattle.answers.specs.Answer.{smallest_buffer}
use Rattle.tables.specs.Layout.{Tables}
use Rattle.protocol.specs.declared.Desk.{Desk}
use Rattle.protocol.specs.declared.Answered.{Answered}
use Rattle.protocol.specs.declared.Told.{Told}
use Rattle.protocol.specs.Answers.{Outcome, frame_outcome, valid_desk, answer_of, Gives}
use Rattle.protocol.specs.Inner.{may_change, told_outcome, Tells}
use Rattle.protocol.proofs.Ways.{gives, damaged, taken, told_by, told_gives}
use Rattle.stream.specs.Feed.{Fed, feed, line_ended, fed_byte, fed, finished, streamed, SameStream}
use Rattle.std.specs.Prelude.{Some, None}
use Rattle.std.specs.List.{position_from}
use Rattle.stream.proofs.Whole.{ended_long, enough_held}

-- at the end of a stream a line feed behind a line that is not empty changes nothing
pub last_line_holds : (t : Tables) (d : Desk) (b : ℕ) (line out : List ℕ)
    → streamed t (feed d (b ∷ line) out) (line_feed ∷ []) ≡ streamed t (feed d (b ∷ line) out) []
unfolding fed fed_byte finished
last_line_holds t d b line out = refl

-- ---- the answers that are written

-- a longer buffer gets the same answer
room_law : (t : Tables) (d : Desk) (line : List ℕ) (room : ℕ) → smallest_buffer ≤ room → answer_of t d line room ≡ answer_of t d line smallest_buffer
unfolding answer_of
room_law t d line room k = rw (le-ltb room smallest_buffer k)

-- what stands before the next answer, once this one is written
out_law : (out after line rest post : List ℕ) (used n : ℕ) → used ≤ length out → after ≡ line ++ rest → n ≡ length line
    → take (used + n) (take used out ++ (after ++ post)) ≡ take used out ++ line
out_law out after line rest post used n h e k =
    let shape : take used out ++ ((line ++ rest) ++ post) ≡ (take used out ++ line) ++ (rest ++ post) = simp append_assoc in
    rw (e, k, shape)
    (take_at (take used out ++ line) (rest ++ post) (used + length line)
    (length-append (take used out) line ∙ ap (λ (m : ℕ). m + length line) (length-take-le used out h)))

-- an answer is no longer than its buffer, which keeps its length
pub answer_fits : {o : Outcome} {r : Answered} {before after : List ℕ} → Gives o r before after → length after ≡ length before
    → r.length ≤ length before
answer_fits {o} {r} {before} {after} g e =
    let n = o.line in
    omega (arith, e, g.size, ap length g.buffer, length-append n (drop (length n) before), length-drop (length n) before)

-- lists that are the same from a place on are the same from a later place on
pub drop_more : (n m : ℕ) (xs ys : List ℕ) → drop m xs ≡ drop m ys → drop (m + n) xs ≡ drop (m + n) ys
drop_more n m xs ys e = sym (drop-drop n m xs) ∙ ap (drop n) e ∙ drop-drop n m ys

-- what stands behind an answer is as it was
pub rest_kept : {o : Outcome} {r : Answered} {after : List ℕ} (out : List ℕ) (used k : ℕ) → used ≤ length out
    → Gives o r (take k (drop used out)) after → length after ≡ length (take k (drop used out))
    → drop (used + r.length) (take used out ++ (after ++ drop k (drop used out))) ≡ drop (used + r.length) out
rest_kept {o} {r} {after} out used k h g e =
    let n = r.length in
    let rest = drop used out in
    let fits = answer_fits g e in
    let line = drop_at o.line (drop (length o.line) (take k rest)) n (sym g.size) in
    sym (drop-drop n used (take used out ++ (after ++ drop k rest)))
    ∙ ap (drop n) (drop_at (take used out) (after ++ drop k rest) used (length-take-le used out h))
    ∙ drop-append-le n after (drop k rest) (omega arith)
    ∙ ap (λ (w : List ℕ). w ++ drop k rest) (ap (drop n) g.buffer ∙ line ∙ ap (λ (m : ℕ). drop m (take k rest)) (sym g.size))
    ∙ sym (drop-append-le n (take k rest) (drop k rest) fits)
    ∙ ap (drop n) (take-append-drop k rest)
    ∙ drop-drop n used out

-- ---- the lines of a chunk

abbrev pub is_feed : ℕ → Bool
is_feed b = eqb b line_feed

-- bytes of which none is a line feed belong to the line
pub no_feed : (t : Tables) (d : Desk) (l out rest more : List ℕ) (i : ℕ) → position_from is_feed i rest ≡ None
    → fed t (feed d l out) (rest ++ more) ≡ fed t (feed d (l ++ rest) out) more
unfolding fed fed_byte
no_feed t d l out [] more i e = ap (λ (k : List ℕ). fed t (feed d k out) more) (sym (append-nil l))
no_feed t d l out (b ∷ rest) more i e = go (is_feed b) (no_feed t d (l ++ b ∷ []) out rest more (i + 1)) e
  where
    go : (x : Bool) → (position_from is_feed (i + 1) rest ≡ None → fed t (feed d (l ++ b ∷ []) out) (rest ++ more) ≡ fed t (feed d ((l ++ b ∷ []) ++ rest) out) more)
        → cond x (Some i) (position_from is_feed (i + 1) rest) ≡ None
        → fed t (cond x (line_ended t (feed d l out)) (feed d (l ++ b ∷ []) out)) (rest ++ more) ≡ fed t (feed d (l ++ b ∷ rest) out) more
    go true later q = absurd (none-some i (sym q))
    go false later q = later q ∙ ap (λ (k : List ℕ). fed t (feed d k out) more) (append_assoc l (b ∷ []) rest)

-- the line that ends first
pub record Ended (t : Tables) (d : Desk) (l out rest : List ℕ) (k : ℕ) : Type 0 where
  pub within : k < length rest
  pub on : (more : List ℕ) → fed t (feed d l out) (rest ++ more) ≡ fed t (line_ended t (feed d (l ++ take k rest) out)) (drop (suc k) rest ++ more)

ended_at : (t : Tables) (d : Desk) (l out rest : List ℕ) (i m : ℕ) → position_from is_feed i rest ≡ Some m → (k : ℕ) × (m ≡ i + k) × Ended t d l out rest k
unfolding fed fed_byte
ended_at t d l out [] i m e = absurd (none-some m e)
ended_at t d l out (b ∷ rest) i m e = go (is_feed b) refl (ended_at t d (l ++ b ∷ []) out rest (i + 1) m) e
  where
    go : (x : Bool) → is_feed b ≡ x → (position_from is_feed (i + 1) rest ≡ Some m → (k : ℕ) × (m ≡ i + 1 + k) × Ended t d (l ++ b ∷ []) out rest k)
        → cond x (Some i) (position_from is_feed (i + 1) rest) ≡ Some m → (k : ℕ) × (m ≡ i + k) × Ended t d l out (b ∷ rest) k
    go true h later q = (
      0,
      omega (arith, same_Some i m q),
      record {
        within = omega arith;
        on = λ more. ap (λ (x : Bool). fed t (cond x (line_ended t (feed d l out)) (feed d (l ++ b ∷ []) out)) (rest ++ more)) h
            ∙ ap (λ (k : List ℕ). fed t (line_ended t (feed d k out)) (rest ++ more)) (sym (append-nil l));
      },
    )
    go false h later q =
        let w = later q in (
          suc w.0,
          omega (arith, w.1),
          record {
            within = omega (arith, w.2.within);
            on = λ more. ap (λ (x : Bool). fed t (cond x (line_ended t (feed d l out)) (feed d (l ++ b ∷ []) out)) (rest ++ more)) h
                ∙ w.2.on more
                ∙ ap (λ (k : List ℕ). fed t (line_ended t (feed d k out)) (drop (suc w.0) rest ++ more)) (append_assoc l (b ∷ []) (take w.0 rest));
          },
        )

pub ended_first : (t : Tables) (d : Desk) (l out rest : List ℕ) {k : ℕ} → position_from is_feed 0 rest ≡ Some k → Ended t d l out rest k
ended_first t d l out rest {k} e = let w = ended_at t d l out rest 0 k e in subst (Ended t d l out rest) (omega (arith, w.1)) w.2

-- an answered line behind the answers before it
pub on_line : (t : Tables) (d : Desk) (line out post : List ℕ) (used room : ℕ) {r : Answered} {before after : List ℕ} → smallest_buffer ≤ room → used ≤ length out
    → Gives (answer_of t d line room) r before after
    → feed r.desk [] (take (used + r.length) (take used out ++ (after ++ post))) ≡ line_ended t (feed d line (take used out))
on_line t d line out post used room {r} {before} {after} m u g =
    let o = answer_of t d line room in
    (λ x. feed (g.desk x) [] (out_law out after o.line (drop (length o.line) before) post used r.length u g.buffer g.size x))
    ∙ ap (λ (q : Outcome). feed q.desk [] (take used out ++ q.line)) (room_law t d line room m)

-- a line gets no answer where the tables or the desk are damaged
pub on_skip : (t : Tables) (d : Desk) → valid_desk t d ≡ false → (line out : List ℕ) → line_ended t (feed d line out) ≡ feed d [] out
on_skip t d v line out =
    sym (ap (λ (o : Outcome). feed o.desk [] (out ++ o.line)) (damaged t d line smallest_buffer (omega arith) refl v))
    ∙ ap (feed d []) (append-nil out)

module _ (t : Tables) (d : Desk) (l out rest : List ℕ) where
  -- no line ends: what of it matters is held
  pub same_held : {held : List ℕ} → position_from is_feed 0 rest ≡ None → held ≡ take enough (l ++ rest) → SameStream t (feed d l out) rest (feed d held out) []
  same_held {held} e h more =
      ap (λ (k : List ℕ). streamed t (feed d k out) more) h
      ∙ enough_held t d (l ++ rest) out more
      ∙ sym (ap (finished t) (no_feed t d l out rest more 0 e))

  -- a line ends, and comes to this
  pub same_ended : {k : ℕ} {held : List ℕ} {f : Fed} → position_from is_feed 0 rest ≡ Some k → held ≡ take enough (l ++ take k rest) → f ≡ line_ended t (feed d held out)
      → SameStream t (feed d l out) rest f (drop (k + 1) rest)
  same_ended {k} {held} {f} e h q more =
      let w = ended_first t d l out rest e in
      let line = l ++ take k rest in
      ap (λ (g : Fed). streamed t g (drop (k + 1) rest ++ more)) (q ∙ ap (λ (x : List ℕ). line_ended t (feed d x out)) h ∙ ended_long t d line out)
      ∙ ap (λ (n : ℕ). streamed t (line_ended t (feed d line out)) (drop n rest ++ more)) (add-one k)
      ∙ sym (ap (finished t) (w.on more))

-- ---- the answer to a frame, whether it may change the desk or not

module _ (line : List ℕ) {f : Decoded} (e : f ≡ decoded_as (frame_of line)) (t : Tables) (d : Desk) (room : ℕ) (m : smallest_buffer ≤ room) (v : valid_desk t d ≡ true) where
  pub change_answered : {r : Answered} {before after : List ℕ} → Gives (frame_outcome t d (frame_of line)) r before after → Gives (answer_of t d line room) r before after
  change_answered g = gives (taken t d line room m refl v) g

  pub told_answered : {r : Told} {before after : List ℕ} → may_change f ≡ false → Tells (told_outcome d f) r before after → Gives (answer_of t d line room) (told_by d r) before after
  told_answered h r = gives (taken t d line room m refl v) (told_gives t d (frame_of line) e h r)
