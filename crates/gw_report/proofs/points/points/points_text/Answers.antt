use Rattle.gw_report.proofs.points_lemmas.Rows.{list_put}
use Rattle.gw_report.proofs.points.points.points_text.Goals as goal

pub returns : goal.returns
returns c =
    list_put c.args.config.now c.device-device.result.now c.objects.result.now c.get.result c.new-text.result.items c.put_header.new.out.items c.put_device.new.out.items c.put_objects.new.out.items
    c.new-text.ensures.items c.device-device.ensures.device c.objects.ensures.objects c.get.ensures.value
    c.in_ok-put_header.ensures c.in_ok-put_device.ensures c.in_ok-put_objects.ensures
