use Rattle.std.proofs.Common.{◌≡◌, ◌∙◌, ap, arith, length, take}
use Rattle.std.proofs.lemmas.Result.{on_ok_weaker}
use Rattle.gw_objects.specs.Table.{read_of}
use Rattle.gw_codecs.specs.tags.Object.{object_view}
use Rattle.gw_device.proofs.PropertyLemmas.{item_fault, item_value, longer_after}
use Rattle.gw_device.proofs.piece.put_item.Goals as goal

pub returns-in-Ok-clause-octets : goal.returns-in-Ok-clause-octets
returns-in-Ok-clause-octets c =
    let due = read_of c.args.objects.now (object_view c.args.of.object) c.args.of.property c.args.of.index in
    on_ok_weaker c.write_value_item_tail.result (λ written.
    item_value c.in-Ok.field-0 c.args.of.property c.args.of.index due c.args.out.now.items c.write_value_item_head.new.out.items
    c.read.new.out.items c.write_value_item_tail.new.out.items c.in_ok-write_value_item_head.ensures.ok c.in-Ok.ensures.answer written)
    c.write_value_item_tail.ensures.ok

pub returns-in_ok-why-in-Err-clause-octets : goal.returns-in_ok-why-in-Err-clause-octets
returns-in_ok-why-in-Err-clause-octets c =
    let due = read_of c.args.objects.now (object_view c.args.of.object) c.args.of.property c.args.of.index in
    let count : c.len-len.result ≡ length c.args.out.now.items = omega (arith, c.args.out.now.ok.0, c.len-len.ensures) in
    let cut : c.truncate.new.self.items ≡ take (length c.args.out.now.items) c.read.new.out.items =
    c.truncate.ensures.items ∙ ap (λ n. take n c.read.new.out.items) count in
    on_ok_weaker c.write_error_item.result (λ written.
    item_fault c.in-Err.fault c.in_ok-why-in-Err.why c.args.of.property c.args.of.index due c.args.out.now.items _ c.write_value_item_head.new.out.items
    c.read.new.out.items c.truncate.new.self.items c.write_error_item.new.out.items (c.in-Err.ensures.err ∙ c.in_ok-write_value_item_head.ensures.ok) c.in-Err.ensures.answer
    c.in_ok-why-in-Err.ensures.due c.in_ok-why-in-Err.ensures.error cut written)
    c.write_error_item.ensures.ok

pub returns-in_ok-why-in-Err-clause-longer : goal.returns-in_ok-why-in-Err-clause-longer
returns-in_ok-why-in-Err-clause-longer c =
    let count : c.len-len.result ≡ length c.args.out.now.items = omega (arith, c.args.out.now.ok.0, c.len-len.ensures) in
    let cut : c.truncate.new.self.items ≡ take (length c.args.out.now.items) c.read.new.out.items =
    c.truncate.ensures.items ∙ ap (λ n. take n c.read.new.out.items) count in
    longer_after c.write_error_item.result _ _ c.args.out.now c.read.new.out c.truncate.new.self c.write_error_item.new.out
    (c.in-Err.ensures.err ∙ c.in_ok-write_value_item_head.ensures.ok) cut c.write_error_item.ensures.ok c.write_error_item.ensures.err
