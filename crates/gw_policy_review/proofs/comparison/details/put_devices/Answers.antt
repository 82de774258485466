use Rattle.gw_policy_review.proofs.comparison.details.put_devices.Goals as goal

pub returns : goal.returns
returns c =
    let put = c.put_device.ensures in
    rw (c.device.ensures.device, c.device-2.ensures.device) at put
