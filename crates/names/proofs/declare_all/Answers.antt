-- The invariant: what is kept of the declarations in front of the present item (`Passed`), and their chains. The measure is the items that are left.
use Prim.Native.Nat.{ℕ, ◌<◌}
use mathlib.Core.Path.{◌≡◌}
use mathlib.Core.List.{List}
use native.Mathlib.Nat.{le_refl}
use native.Mathlib.Omega.{arith}
use lib.ListN.{length, get_or, length-set}
use lib.Seq.{take-set-le}
use Rattle.grammar.specs.declared.Kind.{Kind}
use Rattle.grammar.specs.declared.Item.{Item}
use Rattle.grammar.specs.declared.Item.TheVariants.{Declared}
use Rattle.names.specs.Inner.{most_declarations, Declarable, Room}
use Rattle.names.proofs.FirstPass.{Passed, passed_none, passed_kept, passed_all, passed_on, place_near, one_more_holds, passed_stop, passed_more}
use Rattle.names.proofs.declare_all.Goals as goal

-- room for one declaration more
record Here (l m : List ℕ) (n : ℕ) : Type 0 where
  few : n < most_declarations
  in_names : n < length l
  in_starts : n < length m

room_here : {text : List ℕ} {is : List Item} {names₀ starts₀ l m : List ℕ} {n i : ℕ} → Declarable is → Room names₀ starts₀ → Passed text is names₀ starts₀ l m n i → i < length is
    → (none : Item) {k : Kind} {q : ℕ} → get_or is i none ≡ Declared k q → Here l m n
room_here {n = n} d room p h none g =
    let f : n < most_declarations = omega (arith, d.few, one_more_holds _ _ _ _ p h none g) in
    record { few = f; in_names = omega (arith, p.room, room.names); in_starts = omega (arith, p.space, room.starts) }

pub loop-i-init : goal.loop-i-init
loop-i-init c =
    (passed_none _ _ _ _ c.requires.declarable.in_text, c.requires.chained)

pub loop-i-preserved-in_default : goal.loop-i-preserved-in_default
loop-i-preserved-in_default c =
    (passed_on _ _ _ _ c.loop-i.invariant.0 c.loop-i-test.true _ c.in_default.not-Declared, c.loop-i.invariant.1)

pub slice_bounds-before-end : goal.slice_bounds-before-end
slice_bounds-before-end c =
    let r = room_here c.requires.declarable c.requires.room c.loop-i.invariant.0 c.loop-i-test.true _ c.in-Declared.is in
    omega (arith, r.in_names)

pub invariant_of-before : goal.invariant_of-before
invariant_of-before c =
    record { of_text = passed_kept _ _ _ _ c.loop-i.invariant.0; chained = c.loop-i.invariant.1 }

pub returns-in-Some-clause-first_pass : goal.returns-in-Some-clause-first_pass
returns-in-Some-clause-first_pass c =
    passed_stop _ _ _ _ c.loop-i.invariant.0 c.loop-i-test.true _ c.in-Declared.is c.find.ensures c.in-Some.is

pub pack-requires : goal.pack-requires
pack-requires c =
    place_near _ _ _ _ c.loop-i.invariant.0 c.loop-i-test.true _ c.in-Declared.is

pub bounds-declared-n : goal.bounds-declared-n
bounds-declared-n c =
    let r = room_here c.requires.declarable c.requires.room c.loop-i.invariant.0 c.loop-i-test.true _ c.in-Declared.is in
    r.in_names

pub overflow_cast-starts : goal.overflow_cast-starts
overflow_cast-starts c =
    omega (arith, c.requires.fits)

pub bounds-starts-n : goal.bounds-starts-n
bounds-starts-n c =
    let r = room_here c.requires.declarable c.requires.room c.loop-i.invariant.0 c.loop-i-test.true _ c.in-Declared.is in
    r.in_starts

pub chain_row-requires : goal.chain_row-requires
chain_row-requires c =
    let r = room_here c.requires.declarable c.requires.room c.loop-i.invariant.0 c.loop-i-test.true _ c.in-Declared.is in
    record {
      n_in_bounds = simp length-set r.in_names;
      n_lt_most_declarations = r.few;
      chained = rw (take-set-le _ _ _ _ (le_refl c.loop-i.n)) c.loop-i.invariant.1;
    }

pub overflow_add-n : goal.overflow_add-n
overflow_add-n c =
    let r = room_here c.requires.declarable c.requires.room c.loop-i.invariant.0 c.loop-i-test.true _ c.in-Declared.is in
    omega (arith, r.few)

pub loop-i-preserved : goal.loop-i-preserved
loop-i-preserved c =
    let r = room_here c.requires.declarable c.requires.room c.loop-i.invariant.0 c.loop-i-test.true _ c.in-Declared.is in
    (passed_more _ _ _ _ c.loop-i.invariant.0 c.loop-i-test.true _ c.in-Declared.is c.find.ensures c.in_default-find.is c.pack.ensures r.in_names r.in_starts, c.chain_row.ensures)

pub returns : goal.returns
returns c =
    record { first_pass = passed_all _ _ _ _ c.loop-i.invariant.0 c.loop-i-test.false; chained_2 = c.loop-i.invariant.1 }
