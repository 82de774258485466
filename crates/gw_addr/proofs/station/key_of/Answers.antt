use Rattle.std.proofs.Common.{◌<◌, ◌≤◌, length, Some, ap, ◌∙◌, arith}
use Rattle.gw_addr.proofs.Keys.{keyed_1, keyed_2, keyed_3, keyed_4, keyed_5, keyed_6, keyed_7}
use Rattle.gw_addr.proofs.station.key_of.Goals as goal
use Rattle.gw_addr.proofs.station.key_of.Goals.{in-len1, in-len2, in-len3, in-len4, in-len5, in-len6, in-len7}

pub returns : goal.returns
returns c =
    let xs = c.args.octets.now in
    let from = ap Some c.from_be_bytes.ensures in
    elim c.if-octets-lt2.branch [
      | in-len1 w ↦ from ∙ keyed_1 xs c.if-octets-lt2.keyed (omega (arith, w.in-len1.len_at_least, w.in-len1.len_below)) w.keyed-is
      | in-len2 w ↦ from ∙ keyed_2 xs c.if-octets-lt2.keyed (omega (arith, w.in-len2.len_at_least, w.in-len2.len_below)) w.keyed-is
      | in-len3 w ↦ from ∙ keyed_3 xs c.if-octets-lt2.keyed (omega (arith, w.in-len3.len_at_least, w.in-len3.len_below)) w.keyed-is
      | in-len4 w ↦ from ∙ keyed_4 xs c.if-octets-lt2.keyed (omega (arith, w.in-len4.len_at_least, w.in-len4.len_below)) w.keyed-is
      | in-len5 w ↦ from ∙ keyed_5 xs c.if-octets-lt2.keyed (omega (arith, w.in-len5.len_at_least, w.in-len5.len_below)) w.keyed-is
      | in-len6 w ↦ from ∙ keyed_6 xs c.if-octets-lt2.keyed (omega (arith, w.in-len6.len_at_least, w.in-len6.len_below)) w.keyed-is
      | in-len7 w ↦ from ∙ keyed_7 xs c.if-octets-lt2.keyed (omega (arith, w.in-len7.len_at_least, w.in-len7.len_below)) w.keyed-is
    ]
