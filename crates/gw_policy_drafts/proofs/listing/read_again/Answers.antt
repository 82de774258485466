use Rattle.std.proofs.Common.{◌≡◌, ◌∙◌, ℕ, List, Ok, length, refl, subst, sym}
use Rattle.std.proofs.lemmas.Bool.{eqb-true}
use Rattle.std.proofs.lemmas.List.{nil_from_length}
use Rattle.gw_policy_text.specs.Document.{configuration}
use Rattle.gw_policy_drafts.proofs.listing.read_again.Goals as goal

pub returns-then-is_listed : goal.returns-then-is_listed
returns-then-is_listed c =
    let empty : length c.rules-2.result.now ≡ 0 = eqb-true (length c.rules-2.result.now) 0 (sym c.if-is_empty.ensures) in
    record {
      front = c.args.front.now;
      bare = c.in_ok-bare.bare;
      reads_bare = c.in_ok-bare.ensures;
      none = sym (c.rules-2.ensures.rules ∙ c.rules.ensures.rules) ∙ nil_from_length c.rules-2.result.now empty;
      back = c.in_ok-back.back;
      reads_back =
          subst (λ (text : List ℕ). configuration text ≡ Ok c.in_ok-back.back) (c.deref.ensures.value ∙ c.in_ok-text.ensures)
          c.in_ok-back.ensures;
      rules = c.if-is_listed.ensures.rules refl;
      notes = c.if-is_listed.ensures.notes refl;
      audits = c.if-is_listed.ensures.audits refl;
      sets = c.if-is_listed.ensures.sets refl;
      written = c.if-is_listed.ensures.written refl;
    }
