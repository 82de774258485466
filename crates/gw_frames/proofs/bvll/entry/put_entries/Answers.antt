use Rattle.std.proofs.Common.{◌≡◌, ℕ, List, ◌++◌, ◌+◌, suc, [], ◌∷◌, take, length, sym, ap, ap₂, subst, ◌∙◌, append_assoc, arith}
use Rattle.std.proofs.Math.Seq.{take-suc}
use Rattle.std.proofs.lemmas.Grind.{common_steps}
use Rattle.std.proofs.lemmas.List.{length-append, length-take}
use Rattle.std.specs.List.{flat_map, AllByRecursion}
use Rattle.gw_addr.specs.Reading.{Keeps}
use Rattle.gw_addr.proofs.Writing.{Keeps-front}
use Rattle.gw_frames.proofs.bvll_lemmas.EntryLists.{length-encodings, encodings-more, all_more}
use Rattle.gw_frames.proofs.bvll.entry.put_entries.Goals as goal

pub returns-in_err-put_slice-clause-front : goal.returns-in_err-put_slice-clause-front
returns-in_err-put_slice-clause-front g c =
    let out = c.put_slice.new.out.items in
    let written = flat_map g.E.Entry.encoding (take c.loop-entry.entry-index c.args.entries.now) in
    Keeps-front c.args.out.now.items written out (subst (λ (x : List ℕ). Keeps x out) c.loop-entry.invariant.0 c.in_err-put_slice.ensures.front)

pub returns-in_err-put_slice-clause-room : goal.returns-in_err-put_slice-clause-room
returns-in_err-put_slice-clause-room g c = λ enough.
    let entries = c.args.entries.now in
    let so_far = take c.loop-entry.entry-index entries in
    let stands = ap length c.loop-entry.invariant.0 ∙ length-append c.args.out.now.items (flat_map g.E.Entry.encoding so_far) in
    let written = length-encodings g.E.Entry.encoding g.E.Entry.entry_of g.E.Entry.IsEntry g.met.E.Entry.reads so_far c.loop-entry.invariant.1 in
    let count = length-take c.loop-entry.entry-index entries in
    let ten = ap length c.octets.ensures.encoded ∙ g.met.E.Entry.reads.len _ c.octets.ensures.fits in
    let wider = c.loop-entry.invariant.2 in
    let no_room = c.in_err-put_slice.ensures.room in
    grind (arith, common_steps, enough, stands, written, count, ten, wider, no_room, c.loop-entry-test.true)

pub loop-entry-preserved : goal.loop-entry-preserved
loop-entry-preserved g c =
    let encoding = g.E.Entry.encoding in
    let entries = c.args.entries.now in
    let i = c.loop-entry.entry-index in
    let entry = c.entry-item.result in
    let before = take i entries in
    let old = c.args.out.now.items in
    let next : i + 1 ≡ suc i = omega arith in
    let taken : take (i + 1) entries ≡ before ++ entry ∷ [] = ap (λ (n : ℕ). take n entries) next ∙ take-suc entries i entry c.loop-entry-test.true ∙ ap (λ e. before ++ e ∷ []) (sym c.entry-item.is) in
    let text : flat_map encoding (take (i + 1) entries) ≡ flat_map encoding before ++ encoding entry = ap (flat_map encoding) taken ∙ encodings-more encoding before entry in
    let written : c.put_slice.new.out.items ≡ (old ++ flat_map encoding before) ++ encoding entry = c.in_ok-put_slice.ensures.ok ∙ ap₂ ◌++◌ c.loop-entry.invariant.0 c.octets.ensures.encoded in (
      written ∙ append_assoc old (flat_map encoding before) (encoding entry) ∙ ap (λ (t : List ℕ). old ++ t) (sym text),
      subst (AllByRecursion g.E.Entry.IsEntry) (sym taken) (all_more g.E.Entry.IsEntry before entry c.loop-entry.invariant.1 c.octets.ensures.fits),
      omega (arith, c.loop-entry.invariant.2, c.in_ok-put_slice.ensures.capacity),
    )
