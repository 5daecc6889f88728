-- The names are resolved; the text is refused at one of them, or its declarations are taken.
use Prim.Native.Nat.{ℕ, ◌≤◌}
use mathlib.Core.List.{List}
use mathlib.Core.Path.{◌≡◌, subst, ◌∙◌}
use native.Mathlib.Omega.{arith}
use lib.ListN.{length, take, drop, length-append, length-drop}
use lib.Seq.{length-take-le, take_at}
use Rattle.grammar.specs.declared.Item.{Item}
use Rattle.names.specs.Inner.{Declarable}
use Rattle.names.proofs.Limits.{read_declarable}
use Rattle.mutabor.proofs.Steps.{part_refused}
use Rattle.mutabor.proofs.Named.{resolved_now, names_resolved}
use Rattle.mutabor.proofs.take_items.Goals as goal

pub resolve_names-requires : goal.resolve_names-requires
resolve_names-requires c =
    record {
      fits = omega (arith, length-take-le c.args.count c.args.items.now c.requires.counted, c.requires.counted, c.requires.size);
      declarable = subst Declarable c.requires.text_value.0 (read_declarable _);
      room = record { names = omega arith; starts = omega arith };
    }

pub returns-in-Err : goal.returns-in-Err
returns-in-Err c =
    let w = c.in-Err.ensures.told in
    part_refused _ _ _ w.0 w.1 c.requires.codes_value

-- as many items as before, and the others behind them
size_now : {count : ℕ} (items new : List Item) → count ≤ length items → length new ≡ length (take count items) → length new ≡ count
size_now {count} items new h n = n ∙ length-take-le count items h

pub take_names-requires : goal.take_names-requires
take_names-requires c =
    let n = size_now c.args.items.now c.resolve_names.new.items c.requires.counted c.resolve_names.auto.items in
    let rest = drop c.args.count c.args.items.now in
    record {
      counted = simp length-append (omega (arith, n));
      size = simp length-append (omega (arith, n, length-drop c.args.count c.args.items.now, c.requires.counted, c.requires.size));
      resolved = rw (take_at c.resolve_names.new.items rest c.args.count n)
          (resolved_now _ _ c.in-Ok.ensures c.requires.text_value.0 c.requires.text_value.1 (omega (arith, c.resolve_names.auto.starts)));
      codes_value = c.requires.codes_value;
    }

pub returns : goal.returns
returns c =
    let n = size_now c.args.items.now c.resolve_names.new.items c.requires.counted c.resolve_names.auto.items in
    names_resolved _ _ c.in-Ok.ensures c.requires.text_value.0 c.requires.text_value.1
    (rw (take_at c.resolve_names.new.items (drop c.args.count c.args.items.now) c.args.count n) at c.take_names.ensures)
