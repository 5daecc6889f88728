-- Of a row, what is read are its letters.
use Prim.Native.Nat.{ℕ, ◌≤◌}
use mathlib.Core.Path.{◌≡◌, refl, sym, ap, ◌∙◌, subst}
use mathlib.Core.List.{List}
use native.Mathlib.Omega.{arith}
use borrow.Author.Rules.{rules}
use lib.ListN.{length, take, length-drop}
use Rattle.std.specs.Prelude.{Option, None, Some, option_map, IsSome}
use Rattle.std.proofs.lemmas.Option.{none-some, same_Some}
use Rattle.frames.specs.Frames.{Frame, bad, letter, key, dump, move, letter_row, frame_of, decoded_as}
use Rattle.frames.specs.declared.Decoded.{Decoded}
use Rattle.frames.specs.declared.Decoded.TheVariants.{LetterRow}
use Rattle.frames.specs.Inner.{capitals_only, HasLetters}
use Rattle.frames.proofs.Lines.{behind_head}
use Rattle.frames.proofs.LetterRows.{RowThere, row_there}
use Rattle.frames.proofs.letters_of.Goals.{In-LetterRow, After-read_letters}
use Rattle.frames.proofs.letters_of.Goals as goal

-- a row, as the line has it
there : (k : goal.In-LetterRow) → RowThere k.args.line.now k.in-LetterRow.house k.in-LetterRow.count
there k = row_there k.args.line.now (sym k.in-LetterRow.is ∙ k.requires)

-- its letters are read
read : (k : goal.After-read_letters) → option_map (take k.in-LetterRow.count) k.read_letters.result ≡ Some (there (goal.at.unwrap-requires k).In-LetterRow).letters
read k = k.read_letters.ensures ∙ ap capitals_only (behind_head k.args.line.now) ∙ (there (goal.at.unwrap-requires k).In-LetterRow).behind

some : (n : ℕ) (o : Option (List ℕ)) (cs : List ℕ) → option_map (take n) o ≡ Some cs → IsSome o
some n None cs e = absurd (none-some cs e)
some n (Some x) cs e = refl

-- of a frame that is no row, zeros will do
none : (f : Frame) (l : List ℕ) {q : Decoded} → q ≡ decoded_as f → ((house count : ℕ) → q ≡ LetterRow house count → ⊥) → HasLetters l f
none bad l e h = tt
none (letter of c) l e h = tt
none (key of k) l e h = tt
none (dump of) l e h = tt
none (move way of k) l e h = tt
none (letter_row of cs) l e h = absurd (h of (length cs) e)

pub returns-in_default : goal.returns-in_default
returns-in_default c = none (frame_of c.args.line.now) _ c.requires c.in_default.not-LetterRow

pub slice_bounds-read_letters-count : goal.slice_bounds-read_letters-count
slice_bounds-read_letters-count c = omega (arith, (there c).digits)

pub slice_bounds-read_letters-start : goal.slice_bounds-read_letters-start
slice_bounds-read_letters-start c = let h : 6 ≤ length c.args.line.now = omega (arith, (there c).digits) in search rules

pub read_letters-requires : goal.read_letters-requires
read_letters-requires c =
    let t = there (goal.at.read_letters-requires c).In-LetterRow in
    let l = c.args.line.now in
    (ap length (behind_head l) ∙ omega (arith, t.digits, length-drop 6 l), omega (arith, t.ranges.most, t.size))

pub unwrap-requires : goal.unwrap-requires
unwrap-requires c = some _ _ _ (read c)

pub returns : goal.returns
returns c =
    let t = there (goal.at.returns c).In-LetterRow in
    let e = rw c.unwrap.ensures at (read (goal.at.returns c).After-read_letters) in
    subst (HasLetters c.unwrap.result) (sym t.same) (ap (λ (n : ℕ). take n c.unwrap.result) t.size ∙ same_Some _ _ e)
