-- The invariant: the declarations in front of the present one are written (`Filling`). The measure is the declarations that are left.
use mathlib.Core.Path.{sym, ◌∙◌, ap}
use native.Mathlib.Omega.{arith}
use borrow.Rule.Slice.PartMut.{same_len_mid}
use lib.ListN.{length}
use Rattle.tables.specs.Layout.{counts_size}
use Rattle.tables.proofs.Sections.{counts_back}
use Rattle.filling.proofs.Written.{written_none, written_few, written_all_step, written_fits, written_next}
use Rattle.filling.proofs.Slices.{blank_slices}
use borrow.Author.Rules.{rules}
use Rattle.filling.proofs.write_tables.Goals as goal

pub loop-d-init : goal.loop-d-init
loop-d-init c = (blank_slices c.args.numbers.now c.args.codes.now c.requires.codes_value, written_none _ _ c.requires.codes_value)

pub write_declaration-used-requires : goal.write_declaration-used-requires
write_declaration-used-requires c = record { slices = c.loop-d.invariant.0; writable = written_fits c.requires.ready c.requires.valued c.loop-d.invariant.1 c.loop-d-test.true c.body_at-body.result.now c.body_at-body.ensures }

pub overflow_step-d : goal.overflow_step-d
overflow_step-d c = omega (arith, c.loop-d-test.true)

pub loop-d-preserved : goal.loop-d-preserved
loop-d-preserved c = let w = c.write_declaration-used in
    let s = c.loop-d.invariant.0 in (
      record { all_numbers_case = w.auto.numbers ∙ s.all_numbers_case; all_codes_case = w.auto.codes ∙ s.all_codes_case },
      written_next c.requires.ready c.requires.valued c.loop-d.invariant.1 c.loop-d-test.true c.body_at-body.result.now c.body_at-body.ensures w.ensures,
    )

pub slice_bounds-store_counts-end : goal.slice_bounds-store_counts-end
slice_bounds-store_counts-end c = omega (arith, c.loop-d.invariant.0.all_codes_case)

pub store_counts-requires : goal.store_counts-requires
store_counts-requires c = record { counts_len = search rules; counts_fit = written_few c.requires.ready c.requires.valued c.loop-d.invariant.1 }

pub shape_of-numbers : goal.shape_of-numbers
shape_of-numbers c = c.loop-d.invariant.0.all_numbers_case ∙ sym (blank_slices c.args.numbers.now c.args.codes.now c.requires.codes_value).all_numbers_case

pub shape_of-codes : goal.shape_of-codes
shape_of-codes c = same_len_mid 0 counts_size c.loop-d.codes c.store_counts.new.counts c.store_counts.auto.counts
    ∙ c.loop-d.invariant.0.all_codes_case ∙ sym (blank_slices c.args.numbers.now c.args.codes.now c.requires.codes_value).all_codes_case

pub returns : goal.returns
returns c = let told = c.store_counts.ensures in
    counts_back c.loop-d.invariant.0 c.store_counts.new.counts (ap length told)
    ∙ written_all_step c.requires.ready c.requires.valued c.loop-d.invariant.1 c.loop-d-test.false told
