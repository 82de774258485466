use Rattle.std.proofs.Common.{eqb, sym, ap, ◌∙◌, arith, w8}
use lib.Count.{count_trailing_zeros}
use lib.Lanes.{chunk}
use Rattle.std.proofs.lemmas.Simd.{length-chunk, bitmask_splat, leading_from_mask_l, trailing_mask_l}
use Rattle.gw_script.proofs.finding.octets_before.Goals as goal

pub returns-then-found-eq0 : goal.returns-then-found-eq0
returns-then-found-eq0 c =
    let lanes = chunk c.args.start 16 c.args.text.now in
    let long = length-chunk c.args.start 16 c.args.text.now c.requires in
    let mask = bitmask_splat w8 eqb lanes 16 c.args.wanted long (omega arith) in
    sym (leading_from_mask_l (λ x. eqb x c.args.wanted) lanes (sym mask ∙ c.if-found-eq0.true) ∙ long)

pub returns-else-found-eq0 : goal.returns-else-found-eq0
returns-else-found-eq0 c =
    let lanes = chunk c.args.start 16 c.args.text.now in
    let long = length-chunk c.args.start 16 c.args.text.now c.requires in
    let mask = bitmask_splat w8 eqb lanes 16 c.args.wanted long (omega arith) in
    ap (count_trailing_zeros 64) mask ∙ trailing_mask_l (λ x. eqb x c.args.wanted) 64 lanes (omega arith) (omega arith)
