use Rattle.std.proofs.Common.{length}
use Rattle.gw_json.specs.Document.{line_of}
use Rattle.gw_json.specs.Results.{paired_value, pairs_lines}
use Rattle.gw_policy_review.proofs.comparison_lemmas.Appending.{two}
use Rattle.gw_json.proofs.results.put_by_pairs.Goals as goal

pub returns : goal.returns
returns c =
    let listing = c.args.listing.now in
    let found = c.args.found.now in
    two c.put_paired.result c.args.out.now.items c.put_pairs.new.out.items c.put_paired.new.out.items
    (pairs_lines listing.old.now listing.new.now listing.most found) (line_of (paired_value (length found) c.args.steps))
    c.in_ok-put_pairs.ensures c.put_paired.ensures.ok
