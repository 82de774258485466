use Rattle.std.proofs.Common.{ℕ, Ok, add-one, length, subst}
use Rattle.std.specs.declared.alloc.AllocError.{AllocError}
use Rattle.gw_addr.specs.Appending.{IsAppended}
use Rattle.gw_addr.proofs.Appended.{then_put}
use Rattle.gw_codecs.specs.tags.Tag.{canonical}
use Rattle.gw_codecs.specs.tags.Value.{application}
use Rattle.gw_codecs.proofs.tags.value_writing.put_prefixed.Goals as goal

pub returns : goal.returns
returns c =
    then_put (subst (λ (n : ℕ). IsAppended {F = AllocError} (canonical (application c.args.number n)) c.args.out.now c.put_header.new.out (Ok c.in_ok-put_header.field-0)) (add-one (length c.args.others.now)) c.in_ok-put_header.ensures)
    (then_put c.in_ok-put_octet.ensures c.put_slice.ensures)
