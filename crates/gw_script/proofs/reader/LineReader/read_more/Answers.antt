use Rattle.std.proofs.Common.{◌≡◌, ◌≤◌, ◌-◌, ◌++◌, List, ℕ, length, take, slice_range, subst, sym, ap, ◌∙◌, arith}
use Rattle.std.proofs.lemmas.List.{append-nil}
use Rattle.std.specs.Io.KnownBytes.{Keeps, prepend_known}
use Rattle.gw_script.specs.Reader.{Reading}
use Rattle.gw_script.proofs.UnreadLemmas.{grown, put_back, length_unread, keeps_read, keeps_prepended, take_none}
use Rattle.gw_script.proofs.reader.LineReader.read_more.Goals as goal

pub returns-clause-text : goal.returns-clause-text
returns-clause-text g c =
    let octets = c.move_to_front.new.octets in
    let len = c.self.inside.end - c.self.inside.start in
    let n = c.in_ok-count.count in
    let more = take n c.read_octets.new.buffer in
    let kept = slice_range octets 0 len in
    let moved : kept ≡ c.args.self.now.unread = c.move_to_front.ensures ∙ ap (λ (r : Reading). r.unread) c.self.view_is in
    let left = g.S.OctetSource.left in
    let read = keeps_read _ _ kept more c.in_ok-count.ensures.octets.0 in
    let whole = grown octets c.read_octets.new.buffer 0 len _ n (omega arith) (omega (arith, c.self.invariant.1)) c.in_ok-count.ensures.bound in
    subst (λ (t : List ℕ). Keeps (prepend_known c.args.self.now.unread (left c.args.source.now)) (prepend_known t (left c.read_octets.new.self))) (sym whole)
    (subst (λ (t : List ℕ). Keeps (prepend_known t (left c.args.source.now)) (prepend_known (kept ++ more) (left c.read_octets.new.self))) moved read)

pub returns-clause-end : goal.returns-clause-end
returns-clause-end g c = λ none.
    let octets = c.move_to_front.new.octets in
    let len = c.self.inside.end - c.self.inside.start in
    let n = c.in_ok-count.count in
    let kept = slice_range octets 0 len in
    let moved : kept ≡ c.args.self.now.unread = c.move_to_front.ensures ∙ ap (λ (r : Reading). r.unread) c.self.view_is in
    let within : len ≤ length octets = omega (arith, c.self.invariant.1) in
    let size : length kept ≡ len = omega (arith, length_unread octets 0 len (omega arith) within) in
    let few : len ≤ 4096 = omega (arith, c.requires.few, ap length moved, size) in
    let whole = grown octets c.read_octets.new.buffer 0 len _ n (omega arith) (omega (arith, c.self.invariant.1)) c.in_ok-count.ensures.bound in
    (whole ∙ ap (λ (t : List ℕ). kept ++ t) (take_none n c.read_octets.new.buffer none) ∙ append-nil kept ∙ moved, c.in_ok-count.ensures.octets.1 none (omega (arith, few)))

pub returns-in_err-count-clause-text : goal.returns-in_err-count-clause-text
returns-in_err-count-clause-text g c =
    let octets = c.move_to_front.new.octets in
    let len = c.self.inside.end - c.self.inside.start in
    let kept = slice_range octets 0 len in
    let moved : kept ≡ c.args.self.now.unread = c.move_to_front.ensures ∙ ap (λ (r : Reading). r.unread) c.self.view_is in
    let left = g.S.OctetSource.left in
    let same = put_back octets c.read_octets.new.buffer 0 len _ (omega arith) (omega (arith, c.self.invariant.1)) ∙ moved in
    subst (λ (t : List ℕ). Keeps (prepend_known c.args.self.now.unread (left c.args.source.now)) (prepend_known t (left c.read_octets.new.self))) (sym same)
    (keeps_prepended c.args.self.now.unread (left c.args.source.now) (left c.read_octets.new.self) c.in_err-count.ensures.octets)
