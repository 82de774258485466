use Rattle.std.proofs.Common.{◌≤◌, List, ℕ, ap, arith, drop, length, take}
use Rattle.gw_policy_text.proofs.faults_lemmas.Explanations.{no_document_at}
use Rattle.gw_policy_text.proofs.faults.diagnosis.no_document_words.Goals as goal

pub returns : goal.returns
returns c =
    let text = c.args.document.now in
    let place = c.in-Some.span.start in
    let within : place ≤ length text = omega (arith, c.in-Err.ensures.span, c.in-Some.ensures.range) in
    let octets = c.as_bytes.result.now in
    no_document_at text place (take place octets) (drop place octets) c.message.result.now c.error_words.result within
    (ap (λ (t : List ℕ). take place t) c.as_bytes.ensures.value) (ap (λ (t : List ℕ). drop place t) c.as_bytes.ensures.value)
    c.error_words.ensures
