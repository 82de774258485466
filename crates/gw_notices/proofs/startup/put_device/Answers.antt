use Rattle.std.proofs.Common.{◌≡◌, ◌++◌, codes, decimal, subst, ℕ, OnOk}
use Rattle.gw_notices.proofs.StartupLemmas.{two_more}
use Rattle.gw_notices.proofs.startup.put_device.Goals as goal

pub returns : goal.returns
returns c =
    let out = c.args.out.now.items in
    let next = c.put_text_number.new.out.items in
    let last = c.put_text_number-2.new.out.items in
    two_more c.put_text_number-2.result out next last (codes "device ") (decimal c.args.device.now.instance) (codes " on network ")
    (decimal c.args.device.now.network)
    (subst (λ (n : ℕ). next ≡ (out ++ codes "device ") ++ decimal n) c.get.ensures.value c.in_ok-put_text_number.ensures)
    (subst (λ (n : ℕ). OnOk c.put_text_number-2.result (last ≡ (next ++ codes " on network ") ++ decimal n)) c.get-2.ensures.value c.put_text_number-2.ensures)
