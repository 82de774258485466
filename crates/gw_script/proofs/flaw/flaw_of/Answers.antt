use Rattle.std.proofs.Common.{◌≡◌, ◌+◌, ◌≤◌, rules}
use Rattle.gw_script.specs.Flaw.{HasEnd, IsEven, IsOdd}
use Rattle.gw_script.proofs.FlawLemmas.{has_port, no_form, no_octets, some_of}
use Rattle.gw_script.proofs.flaw.flaw_of.Goals as goal

pub returns-in_default : goal.returns-in_default
returns-in_default c =
    let end : HasEnd c.args.line.now = record { most = c.requires.most; no_return = search rules } in
    no_form c.args.ports c.args.line.now end c.requires.no_event (search rules)

pub returns-in-Some-behind_address : goal.returns-in-Some-behind_address
returns-in-Some-behind_address c =
    let line = c.args.line.now in
    let end : HasEnd line = record { most = c.requires.most; no_return = search rules } in
    let names = some_of c.port_of.result (λ port. (1 ≤ port) × (port ≤ c.args.ports) × (c.in-Some.first ≡ 48 + port)) c.if-is_none.ensures c.port_of.ensures.found in
    let port = has_port c.args.ports line c.in-Some.first names.0 c.in-Some.rest.now end c.in-Some.ensures.found names.1 in
    let sender = c.in-Some-behind_address.ensures.found in
    no_octets c.args.ports line c.in-Some.rest.now c.in-Some-behind_address.text.now sender.0 IsOdd c.requires.no_event port sender.1 sender.2
    c.if-text-ne0.true

pub returns-in-Some-2 : goal.returns-in-Some-2
returns-in-Some-2 c =
    let line = c.args.line.now in
    let end : HasEnd line = record { most = c.requires.most; no_return = search rules } in
    let names = some_of c.port_of.result (λ port. (1 ≤ port) × (port ≤ c.args.ports) × (c.in-Some.first ≡ 48 + port)) c.if-is_none.ensures c.port_of.ensures.found in
    let port = has_port c.args.ports line c.in-Some.first names.0 c.in-Some.rest.now end c.in-Some.ensures.found names.1 in
    let sender = c.in-Some-behind_address.ensures.found in
    no_octets c.args.ports line c.in-Some.rest.now c.in-Some-behind_address.text.now sender.0 IsEven c.requires.no_event port sender.1 sender.2
    c.if-text-ne0.false
