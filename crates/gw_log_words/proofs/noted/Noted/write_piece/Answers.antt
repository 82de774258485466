use Rattle.std.proofs.Common.{◌≡◌, ◌∙◌, ◌-◌, ◌<◌, suc, sym, length, arith}
use Rattle.gw_log_words.proofs.NotedLemmas.{may_come, piece_comes}
use Rattle.gw_log_words.proofs.noted.Noted.write_piece.Goals as goal

pub returns-clause-octets : goal.returns-clause-octets
returns-clause-octets g c =
    let n = c.in_ok-count.count in
    let piece = c.args.piece.now in
    let some = c.in_ok-count.ensures.some c.requires.some in
    let last : n ≡ suc (n - 1) = omega (arith, some) in
    let within : n - 1 < length piece = omega (arith, some, c.in_ok-count.ensures.bound) in
    let may = may_come c.args.self.now.place _ c.requires.other (sym c.begins_note.ensures ∙ c.if-begins_note.false) in
    piece_comes (g.S.OctetSink.held c.args.self.now.sink) (g.S.OctetSink.held c.write_octets.new.self) c.args.self.now.place c.place_of-self.result piece n
    (n - 1) may c.requires.ends c.in_ok-count.ensures.octets last within c.place_of-self.ensures
