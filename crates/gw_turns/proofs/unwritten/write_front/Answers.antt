use Rattle.std.proofs.Common.{◌≡◌, ◌∙◌, ◌+◌, ◌-◌, ◌++◌, List, ℕ, arith, ap, drop, length, subst, sym, take}
use Rattle.std.proofs.KnownBytes.{Appends-trans}
use Rattle.std.proofs.Math.Seq.{take-add}
use Rattle.std.proofs.lemmas.List.{length-drop}
use Rattle.std.specs.Io.KnownBytes.{Appends}
use Rattle.gw_script.proofs.SearchLemmas.{tail_whole}
use Rattle.gw_turns.proofs.unwritten.write_front.Goals as goal

pub loop-written-preserved : goal.loop-written-preserved
loop-written-preserved g c =
    let held = g.L.OctetSink.held in
    let text = c.args.text.now in
    let at = c.loop-written.written in
    let n = c.in-Ok.count in
    let rest = take (length text - at) (drop at text) in
    let here : rest ≡ drop at text = tail_whole at text in
    let so_far = c.loop-written.invariant in
    let more : take at text ++ take n rest ≡ take (at + n) text =
    ap (λ (l : List ℕ). take at text ++ take n l) here ∙ sym (take-add at n text) in
    record {
      most = omega (arith, c.in-Ok.ensures.bound, ap length here, length-drop at text, so_far.most);
      front = subst (λ (l : List ℕ). Appends (held c.args.log.now) (held c.write_octets.new.self) l) more
          (Appends-trans (held c.args.log.now) (held c.loop-written.log) (held c.write_octets.new.self) (take at text) (take n rest)
          so_far.front c.in-Ok.ensures.octets);
      lasts = λ sure. c.write_octets.ensures.lasts (so_far.lasts sure);
    }
