-- A key that could not move finds nothing, else its chord is looked for.
use mathlib.Core.Path.{◌≡◌, ap, ◌∙◌}
use lib.ListN.{length}
use Rattle.status.specs.Status.{done}
use Rattle.tuning.proofs.Lists.{length_mapped}
use Rattle.std.specs.Prelude.{ℕ, Result}
use Rattle.keys.specs.declared.HeldKeys.{HeldKeys}
use Rattle.protocol.specs.declared.Chord.{Chord}
use Rattle.protocol.specs.declared.Stepped.{Stepped}
use Rattle.protocol.specs.Triggers.{matching}
use Rattle.protocol.specs.Steps.{with_keys, chord_on, if_moved, move_step}
use Rattle.protocol.specs.Inner.{called_by, step_leaves}
use Rattle.protocol.specs.OnBoard.{tables_on}
use Rattle.protocol.proofs.Struck.{found_within, found_step}
use Rattle.protocol.proofs.Stays.{desk_within}
use Rattle.protocol.proofs.board.Board.search_key.Goals.{Start}
use Rattle.protocol.proofs.board.Board.search_key.Goals as goal

long : (a : goal.Start) → length a.args.desk.tuning.tones ≡ 60
long a = search length_mapped

-- what the step leaves, by what became of the keys
abbrev left : goal.Start → Result HeldKeys ℕ → Stepped
left a m = step_leaves (if_moved (tables_on a.args.self.now) a.args.house a.args.desk m)

pub returns-in-Err : goal.returns-in-Err
unfolding move_step
returns-in-Err c = record { within = tt; leaves = ap (left (goal.at.returns-in-Err c).Start) c.in-Err.ensures }

pub returns-in-Ok : goal.returns-in-Ok
unfolding move_step
returns-in-Ok c =
    let t = tables_on c.args.self.now in
    let start = (goal.at.returns-in-Ok c).Start in
    let active = c.args.desk.active in
    let d = with_keys c.in-Ok.keys c.args.desk in
    let x = matching (chord_on d) in
    let found : c.find_called-found.result ≡ called_by t active x =
    c.find_called-found.ensures ∙ ap (λ (y : Chord). called_by t active (matching y)) (c.chord_of-chord.ensures.0 ∙ ap chord_on c.with_keys.ensures) in
    rw c.ok_or.ensures.value (record {
      within = found_within t c.args.house d x done found (desk_within t c.args.desk c.requires.desk_value (long start) x);
      leaves = found_step t c.args.house d x done found ∙ ap (left start) c.in-Ok.ensures;
    })
