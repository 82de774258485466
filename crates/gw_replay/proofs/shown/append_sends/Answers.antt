use Rattle.std.proofs.Common.{◌∙◌, ◌+◌, ◌++◌, ◌≤◌, ◌≡◌, ℕ, List, sym, ap, subst, length, vec_len, vec_capacity}
use Rattle.std.specs.Prelude.{OnOk}
use Rattle.gw_replay.specs.Shown.{sends_text}
use Rattle.gw_replay.proofs.ShownLemmas.{batches_text}
use Rattle.gw_replay.proofs.shown.append_sends.Goals as goal

pub returns-clause-ok : goal.returns-clause-ok
returns-clause-ok c =
    let same = sym (batches_text c.batches.result.now) ∙ ap sends_text c.batches.ensures.all in
    subst (λ (text : List ℕ). OnOk c.append_batches.result (c.append_batches.new.out.items ≡ c.args.out.now.items ++ text)) same
    c.append_batches.ensures.ok

pub returns-clause-room : goal.returns-clause-room
returns-clause-room c = λ room.
    let same = ap sends_text (sym c.batches.ensures.all) ∙ batches_text c.batches.result.now in
    c.append_batches.ensures.room (subst (λ (text : List ℕ). vec_len c.args.out.now + length text ≤ vec_capacity c.args.out.now) same room)
