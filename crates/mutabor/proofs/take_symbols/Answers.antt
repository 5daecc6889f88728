-- The text is refused at a symbol, or its items are taken.
use Rattle.mutabor.proofs.ItemsRead.{all_read, same_items, count_within, not_read, names_meant}
use Rattle.mutabor.proofs.take_symbols.Goals as goal

pub returns-in-Err : goal.returns-in-Err
returns-in-Err c = not_read _ _ c.in-Err.ensures.answered c.requires

pub take_items-requires : goal.take_items-requires
take_items-requires c =
    let w = c.in-Ok.ensures.answered in
    let h = c.in-Ok.ensures.items in
    record {
      counted = count_within _ _ w h;
      size = c.read_items.auto.items;
      text_value = (same_items _ _ w h, all_read _ _ w h);
      codes_value = c.requires;
    }

pub returns : goal.returns
returns c = names_meant _ _ c.in-Ok.ensures.answered c.in-Ok.ensures.items c.take_items.ensures
