-- Reserved words (document 01: "All words of both tables of reserved words in 001 are reserved, with HARMONY (house)").
use Rattle.std.specs.Prelude.{ℕ, List, [], ◌∷◌, cond}
use Prim.Native.String.{String}
use Rattle.symbols.specs.declared.words.Word.{Word}
use Rattle.symbols.specs.declared.words.Word.TheVariants.{Plain, Interval, Tone, ToneSystem, Retuning, Logic, Key, Root, Harmony, Unused}
use Rattle.ascii.specs.Ascii.{bytes}
use Rattle.symbols.specs.Bytes.{same}
use Rattle.symbols.specs.Names.{spelled}

-- "The ones used here", and then those of no use here; document 02, 5/13: "A harmony is declared, as `HARMONY C = { 0, 4, *7 }` (or HARMONIE)"
unfoldable pub words : List (String × Word)
words =
    ("INTERVAL", Interval)
    ∷ ("INTERVALL", Interval)
    ∷ ("TONE", Tone)
    ∷ ("TON", Tone)
    ∷ ("TONESYSTEM", ToneSystem)
    ∷ ("TONSYSTEM", ToneSystem)
    ∷ ("RETUNING", Retuning)
    ∷ ("UMSTIMMUNG", Retuning)
    ∷ ("LOGIC", Logic)
    ∷ ("LOGIK", Logic)
    ∷ ("KEY", Key)
    ∷ ("TASTE", Key)
    ∷ ("ROOT", Root)
    ∷ ("WURZEL", Root)
    ∷ ("ELSE", Unused)
    ∷ ("ANSONSTEN", Unused)
    ∷ ("SHIFTED", Unused)
    ∷ ("PATTERN", Unused)
    ∷ ("FORM", Unused)
    ∷ ("HARMONY", Harmony)
    ∷ ("HARMONIE", Harmony)
    ∷ ("MIDIIN", Unused)
    ∷ ("MIDIOUT", Unused)
    ∷ ("MIDICHANNEL", Unused)
    ∷ ("MIDIKANAL", Unused)
    ∷ []

-- what a name is by a list of words: one of them, or plain
unfoldable pub word_in : List (String × Word) → List ℕ → Word
word_in [] name = Plain
word_in (w ∷ more) name = cond (same (spelled (bytes w.0)) name) w.1 (word_in more name)

-- what a spelled name is
unfoldable pub word_of : List ℕ → Word
word_of name = word_in words name
