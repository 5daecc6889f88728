-- Numbers written in: document 02, 1/13, of a call that gives numbers: "So called it must act as the same retuning with those numbers written in". A call of a
-- retuning whose n is a placeholder calls a declaration of its own, which stands behind those of the text: that retuning, with the number for the placeholder.
use Rattle.std.specs.Prelude.{true, false, List, [], ◌∷◌, ◌++◌, ℕ, suc, length, Option, Some, None}
use Rattle.status.specs.Status.{done, placeholder_wrong}
use Rattle.symbols.specs.Bytes.{same}
use Rattle.symbols.specs.Names.{name_at}
use Rattle.grammar.specs.declared.Kind.TheVariants.{Retuning}
use Rattle.grammar.specs.declared.Form.{Form}
use Rattle.grammar.specs.declared.Item.{Item}
use Rattle.grammar.specs.declared.Item.TheVariants as item
use Rattle.names.specs.Parts.{Part, declares, gives, uses, says, part}
use Rattle.names.specs.Names.{declared, numbered, Meant}
use Rattle.placeholders.specs.declared.Seen.TheVariants.{Other, Declares, Names, Wants, Calls, Hands}
use Rattle.placeholders.specs.declared.Wanted.{Wanted}
use Rattle.placeholders.specs.Placeholders.{seen, after, named, handed, fault_of}

-- what a retuning wants, by the items after its name: if a placeholder stands for its n, the form of that n and the place of the placeholder's name
unfoldable pub wanted_by : List Item → Option Wanted
wanted_by [] = None
wanted_by (i ∷ is) =
    elim (seen i) [
      | Names p ↦ wanted_by is
      | Wants f p ↦ Some (record { form = f; name = p })
      | Other ↦ None
      | Declares ↦ None
      | Calls q k ↦ None
      | Hands n ↦ None
    ]

-- the number that is given for a name: the brackets' names and the call's numbers go along with each other
unfoldable pub given : List ℕ → List ℕ → List ℕ → List ℕ → ℕ
given text [] ns name = 0
given text (p ∷ ps) [] name = 0
given text (p ∷ ps) (n ∷ ns) name = elim (same (name_at text p) name) [ true ↦ n | false ↦ given text ps ns name ]

-- "with those numbers written in": the number for a placeholder's name; `body` are the items after the retuning's name
abbrev pub written_for : List ℕ → List Item → List ℕ → ℕ → ℕ
written_for text body ns p = given text (named body) ns (name_at text p)

-- a call of declaration n in place of another
abbrev pub renamed_by : Part → ℕ → Item → Item
renamed_by (uses u q k) n i = numbered u q n
renamed_by (declares k p) n i = i
renamed_by (gives g a b) n i = i
renamed_by (says m) n i = i

abbrev pub renamed : ℕ → Item → Item
renamed n i = renamed_by (part i) n i

-- the items of a text, in which such calls name declarations of their own, and the items of those
pub record Filled : Type 0 where
  pub items : List Item
  pub more : List Item

abbrev pub kept : Item → Filled → Filled
kept i r = record { items = i ∷ r.items; more = r.more }

-- a call at the place q, which now names declaration n: a retuning whose n is written
abbrev pub filled : Item → ℕ → ℕ → Form → ℕ → Filled → Filled
filled i q n f v r = record { items = renamed n i ∷ r.items; more = item.Declared Retuning q ∷ item.Amount f v ∷ r.more }

-- of the items from here on, the next declaration being number n; `body k` are the items after the name of declaration k
unfoldable pub filled_from : List ℕ → (ℕ → List Item) → ℕ → List Item → Filled
filled_from text body n [] = record { items = []; more = [] }
filled_from text body n (i ∷ is) =
    elim (seen i) [
      | Calls q k ↦ elim (wanted_by (body k)) [
        | None ↦ kept i (filled_from text body n is)
        | Some w ↦ filled i q n w.form (written_for text (body k) (handed is) w.name) (filled_from text body (suc n) is)
      ]
      | Other ↦ kept i (filled_from text body n is)
      | Declares ↦ kept i (filled_from text body n is)
      | Names p ↦ kept i (filled_from text body n is)
      | Wants f p ↦ kept i (filled_from text body n is)
      | Hands v ↦ kept i (filled_from text body n is)
    ]

-- those of a whole text: its own, and behind them the retunings that its calls fill in, in the order of the text
unfoldable pub filled_in : List ℕ → List Item → List Item
filled_in text is = let r = filled_from text (after is) (length (declared is)) is in r.items ++ r.more

-- ---- "24, after 6 and before 7": the items of a text whose names are resolved, or the first fault

abbrev pub unless_faulty : Option ℕ → List Item → Meant
unless_faulty None is = record { items = is; number = done; place = 0 }
unless_faulty (Some p) is = record { items = []; number = placeholder_wrong; place = p }

unfoldable pub settled : List ℕ → List Item → Meant
settled text is = unless_faulty (fault_of text is) (filled_in text is)
