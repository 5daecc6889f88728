-- The table of reserved words is right, by equations that antt computes; so a name is the word of its row, or plain.
-- Assumes nothing.
use Prim.Native.Nat.{ℕ, ◌+◌, ◌-◌, ◌*◌, ◌%◌, ◌<◌, ◌≤◌}
use Prim.Native.String.{String}
use mathlib.Core.Path.{◌≡◌, refl, sym, ◌∙◌, ap}
use mathlib.Core.Logic.{◌↔◌}
use mathlib.Core.List.{List, [], ◌∷◌, map}
use mathlib.Core.Bool.{Bool, true, false, cond, ◌&&◌, and-eq-true_iff, false≢true}
use lib.ListN.{length, get_or, get_or-map, get_or-eq_default, length-map}
use denote.Ref.{Bor}
use Rattle.std.specs.Bool.{IsTrue}
use Rattle.std.specs.Char.{to_ascii_lowercase}
use Rattle.std.proofs.lemmas.List.{get_or_default}
use Rattle.symbols.specs.declared.words.Word.{Word}
use Rattle.symbols.specs.declared.words.Word.TheVariants.{Plain}
use Rattle.ascii.specs.Ascii.{bytes}
use Rattle.symbols.specs.Bytes.{is_capital, small, same}
use Rattle.symbols.specs.Names.{spelled}
use Rattle.symbols.specs.Words.{words, word_in, word_of}
use Rattle.symbols.specs.Inner.{rows, row_of}
use Rattle.symbols.proofs.Letters.{same_true, same_lower, small_lower}
use Rattle.symbols.proofs.Table.{each}

-- the spelled words, and what they are, in rows
unfoldable pub spellings : List (List ℕ)
spellings = map (λ w. spelled (bytes w.0)) words

unfoldable pub kinds : List Word
kinds = map (λ w. w.1) words

-- the word of a row: none past the last
pub row_word : ℕ → List ℕ
row_word row = get_or spellings row []

pub row_kind : ℕ → Word
row_kind row = get_or kinds row Plain

-- the word of a row is what the row says
row_right : (row : ℕ) → row < 25 → word_of (row_word row) ≡ row_kind row
unfolding row_word row_kind spellings kinds words spelled small is_capital word_of word_in same
row_right row h = each 25 (λ k. word_of (row_word k)) row_kind refl row h

-- it is spelled already
row_small : (row : ℕ) → row < 25 → spelled (row_word row) ≡ row_word row
unfolding row_word spellings words spelled small is_capital
row_small row h = each 25 (λ k. spelled (row_word k)) row_word refl row h

-- each word stands in the row that its letters lead to
abbrev found : List (String × Word) → Bool
found [] = true
found (w ∷ more) = same (row_word (row_of (spelled (bytes w.0)))) (spelled (bytes w.0)) && found more

all_found : found words ≡ true
unfolding row_word spellings words row_of rows spelled small is_capital same
all_found = refl

-- a name that is not the word of its row is plain
none_in : (name : List ℕ) → same (row_word (row_of name)) name ≡ false → (ws : List (String × Word)) → found ws ≡ true → Plain ≡ word_in ws name
unfolding word_in
none_in name n [] t = refl
none_in name n (w ∷ more) t =
    let h = (and-eq-true_iff (same (row_word (row_of (spelled (bytes w.0)))) (spelled (bytes w.0))) (found more)).0 t in
    go (same (spelled (bytes w.0)) name) refl h.0 (none_in name n more h.1)
  where
    word : List ℕ
    word = spelled (bytes w.0)

    go : (b : Bool) → same word name ≡ b → same (row_word (row_of word)) word ≡ true → Plain ≡ word_in more name
        → Plain ≡ cond b w.1 (word_in more name)
    go false q f r = r
    go true q f r =
        let e = same_true word name q in
        absurd (false≢true (sym n ∙ rw e at f))

word_none : (name : List ℕ) {row : ℕ} → row ≡ row_of name → same (row_word row) name ≡ false → Plain ≡ word_of name
unfolding word_of
word_none name e n = none_in name (rw e at n) words all_found

-- a row of the code's table: its words, and what they are, are those of `words`
abbrev pub Row : Type 0
Row = Bor (List ℕ) × Word

pub spelling_at : (table : List Row) (row : ℕ) (d : Row) → (get_or table row d).0.now ≡ get_or (map (λ (r : Row). r.0.now) table) row d.0.now
spelling_at table row d = sym (get_or-map (λ (r : Row). r.0.now) table row d)

pub meaning_at : (table : List Row) (row : ℕ) (d : Row) → (get_or table row d).1 ≡ get_or (map (λ (r : Row). r.1) table) row d.1
meaning_at table row d = sym (get_or-map (λ (r : Row). r.1) table row d)

module _ {row : ℕ} (h : row < 25) where
  pub row_spelled : (d : List ℕ) → get_or spellings row d ≡ row_word row
  unfolding row_word spellings words
  row_spelled d = get_or_default spellings row d [] h

  pub row_meant : (d : Word) → get_or kinds row d ≡ row_kind row
  unfolding row_kind kinds words
  row_meant d = get_or_default kinds row d Plain h

  -- the row's word has been compared with a name
  module _ {word : List ℕ} (is : word ≡ row_word row) (name : List ℕ) {b : Bool}
      (told : IsTrue b ↔ (map to_ascii_lowercase word ≡ map to_ascii_lowercase name)) where
    row_compared : b ≡ same (row_word row) (spelled name)
    row_compared =
        same_lower b word name told ∙ ap (λ (l : List ℕ). same l (spelled name)) (ap spelled is ∙ row_small row h)

    pub word_same : b ≡ true → row_kind row ≡ word_of (spelled name)
    word_same q = sym (row_right row h) ∙ ap word_of (same_true (row_word row) (spelled name) (sym row_compared ∙ q))

    pub word_differs : row ≡ row_of (spelled name) → b ≡ false → Plain ≡ word_of (spelled name)
    word_differs f q = word_none (spelled name) f (sym row_compared ∙ q)

-- past the rows
past_none : (row : ℕ) → 25 ≤ row → row_word row ≡ []
unfolding row_word spellings words
past_none row h = get_or-eq_default spellings [] h

past_differs : (b : ℕ) (rest : List ℕ) → same [] (spelled (b ∷ rest)) ≡ false
unfolding same spelled
past_differs b rest = refl

empty_plain : Plain ≡ word_of (spelled [])
unfolding word_of word_in words spelled same
empty_plain = refl

pub word_past : (name : List ℕ) {row : ℕ} → row ≡ row_of (spelled name) → 25 ≤ row → Plain ≡ word_of (spelled name)
word_past [] e h = empty_plain
word_past (b ∷ rest) {row} e h =
    word_none (spelled (b ∷ rest)) e (ap (λ (l : List ℕ). same l (spelled (b ∷ rest))) (past_none row h) ∙ past_differs b rest)

spelled_length : (name : List ℕ) → length (spelled name) ≡ length name
unfolding spelled
spelled_length name = length-map name small

spelled_at : (name : List ℕ) (i : ℕ) → get_or (spelled name) i 0 ≡ small (get_or name i 0)
unfolding spelled small is_capital
spelled_at name i = get_or-map small name i 0

-- the row of a name, by its first byte and its last
pub row_of_name : (name : List ℕ) {f l : ℕ} → f ≡ to_ascii_lowercase (get_or name 0 0)
    → l ≡ to_ascii_lowercase (get_or name (length name - 1) 0)
    → get_or rows ((8 * f + 2 * l + length name % 64) % 64) 0 ≡ row_of (spelled name)
unfolding row_of
row_of_name name p q =
    rw (
      p ∙ sym (small_lower (get_or name 0 0)),
      q ∙ sym (small_lower (get_or name (length name - 1) 0)),
      spelled_length name,
      spelled_at name 0,
      spelled_at name (length name - 1),
    )
