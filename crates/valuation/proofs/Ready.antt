-- What `Ready` says of each declaration: where its items stand, and that they are those of the program's declaration.
-- Assumes nothing.
use Prim.Native.Nat.{ℕ, suc, ◌+◌, ◌≤◌, ◌<◌}
use mathlib.Core.Path.{◌≡◌, sym, ◌∙◌, ap}
use mathlib.Core.List.{List}
use native.Mathlib.Omega.{arith}
use lib.ListN.{length, get_or}
use lib.Seq.{slice}
use Rattle.grammar.specs.declared.Item.{Item}
use Rattle.names.specs.Inner.{beginnings}
use Rattle.limits.specs.Limits.{most_rows}
use Rattle.program.specs.Program.{unnamed, declaration_of, program_of}
use Rattle.program.specs.Meaning.{declaration_at}
use Rattle.program.specs.Allowed.{Fits}
use Rattle.program.proofs.Bodies.{program_length, body_ordered, body_within, body_at}
use Rattle.program.proofs.AcceptedText.{fits_at, few_declarations}
use Rattle.valuation.specs.Inner.{body_from, body_to, Ready, Gatherable}
use Rattle.valuation.proofs.Contents.{gatherable}

module _ {is : List Item} {starts : List ℕ} (r : Ready is starts) where
  pub ready_number : length starts ≡ length (program_of is)
  ready_number = ap length r.begun ∙ sym (program_length is)

  pub ready_few : length (program_of is) ≤ most_rows
  ready_few = few_declarations r.allowed

  module _ (d : ℕ) (h : d < length starts) where
    within : d < length (beginnings is)
    within = omega (arith, ap length r.begun)

    pub ready_fits : Fits (program_of is) (declaration_at (program_of is) d)
    ready_fits = fits_at r.allowed d (rw ready_number at h)

    -- where its items stand
    pub ready_from : get_or starts d 0 + 1 ≡ body_from is d
    ready_from = ap (λ l. get_or l d 0 + 1) r.begun

    pub ready_to : get_or starts (suc d) (length is) ≡ body_to is d
    ready_to = ap (λ l. get_or l (suc d) (length is)) r.begun

    pub ready_ordered : body_from is d ≤ body_to is d
    ready_ordered = body_ordered is d within

    pub ready_within : body_to is d ≤ length is
    ready_within = body_within is d within

    pub ready_body : declaration_of (slice (body_from is d) (body_to is d) is) ≡ declaration_at (program_of is) d
    ready_body = sym (body_at is d within)

    -- a body of which it is the declaration can be gathered
    pub ready_gatherable : (body : List Item) → declaration_of body ≡ declaration_at (program_of is) d → Gatherable (unnamed body)
    ready_gatherable body e = gatherable (program_of is) ready_few (unnamed body) (rw e ready_fits)
