use Rattle.std.proofs.Common.{◌++◌, codes, decimal}
use Rattle.gw_policy_review.specs.permissions.Permissions.{object_words, reads_words}
use Rattle.gw_policy_review.proofs.warnings_lemmas.Pieces.{pair, three}
use Rattle.gw_policy_review.proofs.permissions.objects.Reader.put_reads.Goals as goal

pub returns : goal.returns
returns c =
    let reader = c.args.self.now in
    three c.put_reads_words.result c.args.out.now.items c.put.new.out.items c.put_text_number.new.out.items c.put_reads_words.new.out.items
    (object_words reader.at.number reader.at.object.now) (codes ": network " ++ decimal reader.network) (reads_words c.args.found.now)
    c.in_ok-put.ensures
    (pair c.put.new.out.items c.put_text_number.new.out.items (codes ": network ") (decimal reader.network) c.in_ok-put_text_number.ensures)
    c.put_reads_words.ensures
