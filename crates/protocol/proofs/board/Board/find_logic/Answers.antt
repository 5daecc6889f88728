-- One logic of the chain after the other.
use mathlib.Core.Path.{◌≡◌, sym, ap, ◌∙◌, subst}
use mathlib.Core.Bool.{Bool, false}
use mathlib.Core.List.{List}
use Rattle.std.specs.Prelude.{Some, None}
use Prim.Native.Nat.{ℕ, ◌+◌, ◌<◌, ◌≤◌}
use native.Mathlib.Omega.{arith}
use native.Mathlib.Nat.{sub-zero}
use lib.IntN.{ℤ}
use lib.ListN.{get_or}
use Rattle.tables.specs.Layout.{row_count, most_rows, row_of, read_at, as_logic}
use Rattle.validity.proofs.Laws.{valid_of}
use Rattle.protocol.specs.declared.Chord.{Chord}
use Rattle.protocol.specs.Triggers.{first_logic, passes}
use Rattle.protocol.specs.Inner.{is_harmonic, sounds_in, AudibleLogic}
use Rattle.protocol.specs.OnBoard.{tables_on}
use Rattle.protocol.proofs.Searches.{logic_here}
use Rattle.protocol.proofs.Index.{Seeking, left_less, seek, seek_on}
use Rattle.protocol.proofs.Audible.{audible_rows}
use Rattle.protocol.proofs.board.Board.find_logic.Goals.{In-Some, After-is_sounding_logic}
use Rattle.protocol.proofs.board.Board.find_logic.Goals as goal

-- a chord matches harmonies alone
harmonies_only : (rows : List ℤ) (x : Chord) (c : ℕ) → is_harmonic c ≡ false → sounds_in rows x c ≡ false
harmonies_only rows x c h = rw h

-- the logic that is tried
module _ (c : goal.In-Some) where
  within : c.in-Some.i < row_count (tables_on c.args.self.now)
  within = c.loop-next.invariant.within c.in-Some.i c.in-Some.is

  most : row_count (tables_on c.args.self.now) ≤ most_rows
  most = (valid_of (tables_on c.args.self.now) c.args.self.now.right).room.rows

-- whether it is one that the chord matches
module _ (c : goal.After-is_sounding_logic) where
  abbrev test : ℕ → Bool
  test = sounds_in (tables_on c.args.self.now).rows c.args.chord

  told : c.is_sounding_logic.result ≡ passes test (as_logic (row_of (read_at (tables_on c.args.self.now).rows c.in-Some.i)))
  told = c.is_sounding_logic.ensures ∙ ap (λ (rows : List ℤ). passes (sounds_in rows c.args.chord) (as_logic (row_of (read_at rows c.in-Some.i)))) c.rows-rows.ensures

-- from the row behind it on
sought : (c : goal.After-is_sounding_logic) → c.is_sounding_logic.result ≡ false → let t = tables_on c.args.self.now in let next = get_or c.args.self.now.index.chords (c.in-Some.i + 1) None in
    Seeking t.rows (sounds_in t.rows c.args.chord) (row_count t) next × ((k : ℕ) → next ≡ Some k → c.in-Some.i + 1 ≤ k)
sought c f =
    let t = tables_on c.args.self.now in
    let i = c.in-Some.i in
    let q = sounds_in t.rows c.args.chord in
    let only = harmonies_only t.rows c.args.chord in
    let l = c.loop-next.invariant.within i c.in-Some.is in
    seek t.rows q only (row_count t) (i + 1) _ (omega (arith, l)) (c.args.self.now.indexed.chord (i + 1) (omega (arith, l)))
    (seek_on t.rows q only (row_count t) i l (told c) f (c.loop-next.invariant.rest i c.in-Some.is))

pub loop-next-init : goal.loop-next-init
loop-next-init c =
    let t = tables_on c.args.self.now in
    let q = sounds_in t.rows c.args.chord in
    (seek t.rows q (harmonies_only t.rows c.args.chord) (row_count t) 0 _ (omega arith) (c.args.self.now.indexed.chord 0 (omega arith)) (ap (first_logic t.rows q 0) (sub-zero (row_count t)))).0

pub is_sounding_logic-requires-clause-audible_logic : goal.is_sounding_logic-requires-clause-audible_logic
is_sounding_logic-requires-clause-audible_logic c =
    subst (λ (rows : List ℤ). AudibleLogic rows (as_logic (row_of (read_at rows c.in-Some.i)))) (sym c.rows-rows.ensures)
    (audible_rows (tables_on c.args.self.now) c.args.self.now.right c.in-Some.i (within (goal.at.is_sounding_logic-requires-clause-audible_logic c).In-Some))

pub returns-then-is_sounding_logic : goal.returns-then-is_sounding_logic
returns-then-is_sounding_logic c =
    let t = tables_on c.args.self.now in
    logic_here t.rows (sounds_in t.rows c.args.chord) c.in-Some.i (row_count t) (within (goal.at.returns-then-is_sounding_logic c).In-Some) (told (goal.at.returns-then-is_sounding_logic c).After-is_sounding_logic)
    c.if-is_sounding_logic.true
    ∙ c.loop-next.invariant.rest c.in-Some.i c.in-Some.is

pub bounds-self-i : goal.bounds-self-i
bounds-self-i c = omega (arith, within (goal.at.bounds-self-i c).In-Some, most (goal.at.bounds-self-i c).In-Some)

pub loop-next-smaller : goal.loop-next-smaller
loop-next-smaller c =
    let r = sought (goal.at.loop-next-smaller c).After-is_sounding_logic c.if-is_sounding_logic.false in
    left_less (row_count (tables_on c.args.self.now)) _ c.loop-next.next c.in-Some.is (within (goal.at.loop-next-smaller c).In-Some) (λ k e. let l = r.1 k e in omega arith)

pub loop-next-preserved : goal.loop-next-preserved
loop-next-preserved c = (sought (goal.at.loop-next-preserved c).After-is_sounding_logic c.if-is_sounding_logic.false).0

pub returns : goal.returns
returns c = c.loop-next.invariant.ended c.in_default.is
