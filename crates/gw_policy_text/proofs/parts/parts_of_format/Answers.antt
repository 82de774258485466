use Rattle.std.proofs.Common.{refl, ◌≡◌, ◌||◌, ◌&&◌, not, codes, length, Some, Ok, Err, Result, true, sym, ap, ◌∙◌}
use Rattle.toml.specs.View.{table_view}
use Rattle.std.proofs.lemmas.Bool.{and_from}
use Rattle.std.specs.List.{list_all}
use Rattle.std.specs.Option.{ok_or}
use Rattle.gw_addr.proofs.Reading.{ok_is}
use Rattle.gw_rules.specs.Format.{names_stations}
use Rattle.gw_configuration.specs.declared.fault.ConfigFault.TheVariants.{Range}
use Rattle.gw_configuration.specs.Configuration.{Configuration, is_named, is_plain, policing_of}
use Rattle.gw_policy_text.specs.Document.{parts_of_format}
use Rattle.gw_policy_text.specs.Parts.{routes_at}
use Rattle.gw_policy_text.proofs.Limits.{counts_kept, plain_parts, within_limits}
use Rattle.gw_policy_text.proofs.parts.parts_of_format.Goals as goal

no_fault : {A F : Type 0} (fault : F) (x : A) → ◌≡◌ {A = Result A F} (Err fault) (Ok x) → ⊥
no_fault fault x e = cc

pub returns : goal.returns
returns c =
    let policy = c.in_ok-policy.policy in
    let parts : Configuration = record { format = c.args.format; announce = c.in_ok-announce.announce; device = c.in_ok-device.device; ports = c.in_ok-ports.ports; routes = c.in_ok-routes.routes; objects = c.in_ok-objects.objects; rules = policy.rules; tables = policy.tables; notes = policy.notes; audits = policy.audits; written = policy.written; sets = policy.sets; assertions = policy.assertions } in
    let counts = counts_kept parts c.in_ok-ports.ensures.some c.in_ok-ports.ensures.most c.in_ok-routes.ensures.most c.in_ok-objects.ensures.most (rw (sym c.len.ensures) c.in_ok-routes.ensures.by) in
    let named = and_from (is_named parts.device.name) (list_all (λ o. is_named o.name) parts.objects) c.in_ok-device.ensures.named c.in_ok-objects.ensures.named in
    let plain : (names_stations parts.format || (not parts.announce && is_plain parts.ports (policing_of parts))) ≡ true =
    plain_parts parts.format parts.announce parts.ports policy c.in_ok-announce.ensures.plain c.in_ok-ports.ensures.plain c.in_ok-policy.ensures.plain in
    let made : c.new.result ≡ Some parts = within_limits parts c.new.result c.new.ensures counts named c.in_ok-ports.ensures.managed c.in_ok-policy.ensures.kept c.in_ok-policy.ensures.asserted plain in
    let same : c.in_ok-ok_or.field-0 ≡ parts = ok_is _ _ (sym c.in_ok-ok_or.was ∙ c.ok_or.ensures.value ∙ ap (λ made. ok_or made Range) made) in
    let ways : routes_at (length c.in_ok-ports.ports) (codes "route") (table_view c.args.top.now) ≡ Ok c.in_ok-routes.routes =
    ap (λ count. routes_at count (codes "route") (table_view c.args.top.now)) (sym c.len.ensures) ∙ c.in_ok-routes.ensures.routes in
    let read : parts_of_format c.args.format (table_view c.args.top.now) ≡ Ok parts = rw (c.in_ok-announce.ensures.announce, c.in_ok-device.ensures.device, c.in_ok-ports.ensures.ports, ways, c.in_ok-objects.ensures.objects, c.in_ok-policy.ensures.policy) refl in
    read ∙ ap Ok (sym same)

pub returns-in_err-ok_or : goal.returns-in_err-ok_or
returns-in_err-ok_or c =
    let policy = c.in_ok-policy.policy in
    let parts : Configuration = record { format = c.args.format; announce = c.in_ok-announce.announce; device = c.in_ok-device.device; ports = c.in_ok-ports.ports; routes = c.in_ok-routes.routes; objects = c.in_ok-objects.objects; rules = policy.rules; tables = policy.tables; notes = policy.notes; audits = policy.audits; written = policy.written; sets = policy.sets; assertions = policy.assertions } in
    let counts = counts_kept parts c.in_ok-ports.ensures.some c.in_ok-ports.ensures.most c.in_ok-routes.ensures.most c.in_ok-objects.ensures.most (rw (sym c.len.ensures) c.in_ok-routes.ensures.by) in
    let named = and_from (is_named parts.device.name) (list_all (λ o. is_named o.name) parts.objects) c.in_ok-device.ensures.named c.in_ok-objects.ensures.named in
    let plain : (names_stations parts.format || (not parts.announce && is_plain parts.ports (policing_of parts))) ≡ true =
    plain_parts parts.format parts.announce parts.ports policy c.in_ok-announce.ensures.plain c.in_ok-ports.ensures.plain c.in_ok-policy.ensures.plain in
    let made : c.new.result ≡ Some parts = within_limits parts c.new.result c.new.ensures counts named c.in_ok-ports.ensures.managed c.in_ok-policy.ensures.kept c.in_ok-policy.ensures.asserted plain in
    absurd (no_fault _ _ (sym c.in_err-ok_or.was ∙ c.ok_or.ensures.value ∙ ap (λ made. ok_or made Range) made))
