use Rattle.std.proofs.Common.{◌≡◌, ◌∙◌, sym, ap, subst, Ok, List, ◌∷◌, [], ◌++◌, ◌-◌, Bool, ◌&&◌, refl}
use Rattle.std.specs.Option.{option_map}
use Rattle.gw_rules.specs.Ask.{Ask}
use Rattle.gw_rules.specs.RuleList.{allows}
use Rattle.gw_codecs.specs.services.Multi.{reference_view}
use Rattle.gw_codecs.specs.services.MultiReading.{references_at}
use Rattle.gw_codecs.specs.declared.services.next.Next.{Next}
use Rattle.gw_codecs.specs.services.internal.Next.{next_view}
use Rattle.gw_codecs.specs.tags.Object.{object_view}
use Rattle.gw_relay.specs.Named.{multi_asks, reference_ask}
use Rattle.gw_relay.specs.internal.Taken.{AreAsked}
use Rattle.gw_relay.proofs.NamedLemmas.{asked_behind, asked_one, last_asks, more_asks, read_more, unread}
use Rattle.gw_relay.proofs.named.+authorize_references.Goals as goal

pub returns-in_default-clause-asked : goal.returns-in_default-clause-asked
returns-in_default-clause-asked g t c = λ reads rules stands.
    let unread = unread c.args.left (option_map object_view c.args.current) c.args.octets.now c.in_default.field-0 c.in_default.ensures.step in
    absurd cc

pub returns-in-Finished-clause-asked : goal.returns-in-Finished-clause-asked
returns-in-Finished-clause-asked g t c = λ reads rules stands.
    let r = reference_view c.in-Ok.reference in
    let old = c.args.asker.now in
    let new = c.authorize.new.self in
    let current = option_map object_view c.args.current in
    let step = c.in-Ok.ensures.step ∙ ap (λ (next : Next). Ok (r, next_view next)) c.in-Finished.is in
    let answer = c.in_ok-is_allowed.ensures.answer rules stands ∙ ap (allows rules) c.reference_ask-ask.ensures in
    let kept = c.in_ok-is_allowed.ensures.kept rules stands
    ∙ ap (λ (ask : Ask). g.A.Asker.kept old ++ g.A.Asker.kept_of rules (ask ∷ [])) c.reference_ask-ask.ensures in
    let one = asked_one g.A.Asker.kept g.A.Asker.kept_of rules (reference_ask c.args.route.now r) old new c.in_ok-is_allowed.is_allowed answer kept in
    subst (λ (asks : List Ask). AreAsked g.A.Asker.kept g.A.Asker.kept_of rules asks old new c.in_ok-is_allowed.is_allowed)
    (sym (last_asks c.args.route.now c.args.left current c.args.octets.now r step)) one

pub returns-then-is_allowed-clause-asked : goal.returns-then-is_allowed-clause-asked
returns-then-is_allowed-clause-asked g t c = λ reads rules stands.
    let r = reference_view c.in-Ok.reference in
    let old = c.args.asker.now in
    let mid = c.authorize.new.self in
    let new = c.authorize_references.new.asker in
    let current = option_map object_view c.args.current in
    let place = option_map object_view c.in-More.current in
    let rest = c.in-More.rest.now in
    let step = c.in-Ok.ensures.step ∙ ap (λ (next : Next). Ok (r, next_view next)) c.in-More.is in
    let answer = c.in_ok-is_allowed.ensures.answer rules stands ∙ ap (allows rules) c.reference_ask-ask.ensures in
    let kept = c.in_ok-is_allowed.ensures.kept rules stands
    ∙ ap (λ (ask : Ask). g.A.Asker.kept old ++ g.A.Asker.kept_of rules (ask ∷ [])) c.reference_ask-ask.ensures in
    let others = sym (read_more c.args.left current place c.args.octets.now rest r step) ∙ reads in
    let behind = c.in_ok-are_allowed-in-More.ensures.asked others rules (c.in_ok-is_allowed.ensures.stays rules stands) in
    let asks = multi_asks c.args.route.now (references_at (c.args.left - 1) place rest) in
    let are = c.in_ok-are_allowed-in-More.are_allowed in
    let both = asked_behind g.A.Asker.kept g.A.Asker.kept_of g.met.A.Asker.kept_both rules (reference_ask c.args.route.now r) asks old mid new c.in_ok-is_allowed.is_allowed are answer kept behind in
    subst (λ (all : List Ask). AreAsked g.A.Asker.kept g.A.Asker.kept_of rules all old new are)
    (sym (more_asks c.args.route.now c.args.left current place c.args.octets.now rest r step reads))
    (subst (λ (b : Bool). AreAsked g.A.Asker.kept g.A.Asker.kept_of rules (reference_ask c.args.route.now r ∷ asks) old new (b && are)) c.if-is_allowed.true both)

pub returns-else-is_allowed-clause-asked : goal.returns-else-is_allowed-clause-asked
returns-else-is_allowed-clause-asked g t c = λ reads rules stands.
    let r = reference_view c.in-Ok.reference in
    let old = c.args.asker.now in
    let mid = c.authorize.new.self in
    let new = c.authorize_references.new.asker in
    let current = option_map object_view c.args.current in
    let place = option_map object_view c.in-More.current in
    let rest = c.in-More.rest.now in
    let step = c.in-Ok.ensures.step ∙ ap (λ (next : Next). Ok (r, next_view next)) c.in-More.is in
    let answer = c.in_ok-is_allowed.ensures.answer rules stands ∙ ap (allows rules) c.reference_ask-ask.ensures in
    let kept = c.in_ok-is_allowed.ensures.kept rules stands
    ∙ ap (λ (ask : Ask). g.A.Asker.kept old ++ g.A.Asker.kept_of rules (ask ∷ [])) c.reference_ask-ask.ensures in
    let others = sym (read_more c.args.left current place c.args.octets.now rest r step) ∙ reads in
    let behind = c.in_ok-are_allowed-in-More.ensures.asked others rules (c.in_ok-is_allowed.ensures.stays rules stands) in
    let asks = multi_asks c.args.route.now (references_at (c.args.left - 1) place rest) in
    let are = c.in_ok-are_allowed-in-More.are_allowed in
    let both = asked_behind g.A.Asker.kept g.A.Asker.kept_of g.met.A.Asker.kept_both rules (reference_ask c.args.route.now r) asks old mid new c.in_ok-is_allowed.is_allowed are answer kept behind in
    let first = c.in_ok-is_allowed.is_allowed in
    let none : (first && are) ≡ first = rw c.if-is_allowed.false refl in
    subst (λ (all : List Ask). AreAsked g.A.Asker.kept g.A.Asker.kept_of rules all old new first)
    (sym (more_asks c.args.route.now c.args.left current place c.args.octets.now rest r step reads))
    (subst (λ (b : Bool). AreAsked g.A.Asker.kept g.A.Asker.kept_of rules (reference_ask c.args.route.now r ∷ asks) old new b) none both)
