-- The declarations are valued; the text is refused at the name of one, or its tables are written.
use mathlib.Core.Path.{refl, sym, ◌∙◌, ap}
use Rattle.std.specs.Prelude.{Err}
use Rattle.program.specs.Program.{program_of}
use Rattle.program.specs.Text.{place_of}
use Rattle.mutabor.proofs.Valuing.{circular_within, beyond_within, values_known, circular_refused, beyond_refused, all_done}
use Rattle.mutabor.proofs.take_declarations.Goals as goal

pub place_of-requires : goal.place_of-requires
place_of-requires c =
    let e = c.in-Err-Circular.is ∙ ap Err c.in-Err-Circular.field-0-is in
    record { ready = c.requires.ready; d_in_bounds = rw c.in-Err-Circular.d-is (circular_within c.requires.ready c.value_declarations.ensures e) }

pub place_of-requires-in-Err-OutOfRange : goal.place_of-requires-in-Err-OutOfRange
place_of-requires-in-Err-OutOfRange c =
    let e = c.in-Err-OutOfRange.is ∙ ap Err c.in-Err-OutOfRange.field-0-is in
    record { ready = c.requires.ready; d_in_bounds = rw c.in-Err-OutOfRange.d-is (beyond_within c.requires.ready c.value_declarations.ensures e) }

pub write_tables-requires : goal.write_tables-requires
write_tables-requires c =
    record { ready = c.requires.ready; valued = values_known c.requires.ready c.value_declarations.ensures c.in-Ok.is c.value_declarations.auto.values; codes_value = c.requires.codes_value }

pub returns-in-Err-Circular : goal.returns-in-Err-Circular
returns-in-Err-Circular c =
    let e = c.in-Err-Circular.is ∙ ap Err c.in-Err-Circular.field-0-is in
    circular_refused c.requires.ready c.value_declarations.ensures e refl (sym (c.place_of.ensures ∙ ap (place_of (program_of c.args.items.now)) c.in-Err-Circular.d-is)) c.requires.codes_value

pub returns-in-Err-OutOfRange : goal.returns-in-Err-OutOfRange
returns-in-Err-OutOfRange c =
    let e = c.in-Err-OutOfRange.is ∙ ap Err c.in-Err-OutOfRange.field-0-is in
    beyond_refused c.requires.ready c.value_declarations.ensures e refl (sym (c.place_of-in-Err-OutOfRange.ensures ∙ ap (place_of (program_of c.args.items.now)) c.in-Err-OutOfRange.d-is))
    c.requires.codes_value

pub returns-in-Ok : goal.returns-in-Ok
returns-in-Ok c = all_done c.requires.ready c.value_declarations.ensures c.in-Ok.is c.write_tables.ensures
