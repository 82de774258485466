use Rattle.gw_ask_sets.specs.AskText.{item_text}
use Rattle.gw_ask_sets.proofs.shapes_lemmas.Listing.{flat_end, flat_step}
use Rattle.gw_ask_sets.proofs.ask_text.put_items.Goals as goal

pub loop-field-preserved : goal.loop-field-preserved
loop-field-preserved c =
    flat_step (item_text c.args.ask.now) c.args.fields.now c.loop-field.field-index _ c.args.out.now.items c.loop-field.out.items _ c.loop-field-test.true
    c.loop-field.invariant c.in_ok-put_item.ensures

pub returns : goal.returns
returns c =
    flat_end (item_text c.args.ask.now) c.args.fields.now c.loop-field.field-index c.args.out.now.items _ c.loop-field-test.false c.loop-field.invariant
