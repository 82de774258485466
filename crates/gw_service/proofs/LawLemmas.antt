-- The rules and the checksum in force, and the numbers of denials.
use Rattle.std.proofs.Common.{◌≡◌, ◌∙◌, ℕ, ◌+◌, ◌<◌, ◌≤◌, List, [], ◌∷◌, Bool, Option, Some, None, Ok, refl, sym, ap, subst, arith}
use Rattle.std.specs.List.{AllByRecursion}
use Rattle.std.specs.Prelude.{◌^◌, true, false, nat_le, if◌then◌else◌}
use Rattle.std.proofs.Common.{leb-false, leb-true}
use Rattle.std.proofs.lemmas.List.Elements.{All-from_recursion}
use Rattle.gw_rules.specs.Authorizer.{denied_of}
use Rattle.gw_rules.specs.declared.refusal.Refusal.{Refusal}
use Rattle.gw_core.specs.Asks.{asks_for}
use Rattle.gw_core.specs.Receive.{Origin as Sender, origin, receive}
use Rattle.gw_core.specs.declared.event.Counts.{Counts}
use Rattle.gw_service.specs.Counts.{GoesOnAfter, GoesOnFrom, counts_after, greater, less}
use Rattle.gw_log_words.proofs.LastLemmas.{finds_last}
use Rattle.gw_audit.specs.declared.denial.Denial.{Denial}
use Rattle.gw_configuration.specs.Configuration.{Configuration}
use Rattle.gw_core.specs.Denials.{denials_from, denials_of}
use Rattle.gw_core.specs.Effects.{effects_at}
use Rattle.gw_core.specs.History.{next, state_from}
use Rattle.gw_core.specs.State.{State}
use Rattle.gw_notices.specs.declared.reload.ReloadCounts.{ReloadCounts}
use Rattle.gw_rules.specs.declared.rule.Rule.{Rule}
use Rattle.gw_script.specs.Event.{Event}
use Rattle.gw_turns.specs.Serve.{Turn, events_of}
use Rattle.gw_turns.specs.Stretch.{GoOn, Moment}
use Rattle.gw_service.specs.Chain.{AreLinks, IsLink, IsLooked, Link, Look, Manner, Stage, Standing}
use Rattle.gw_service.specs.Chain.{ended, inquired, passed_over, refused, served, stopping, taken_over, ticked, unrequested, withheld}
use Rattle.gw_service.specs.Edition.{IsEdition}
use Rattle.gw_service.specs.Laws.{ChecksumIsInForce, HasItsChecksum, HasItsRules, NumbersGoOn, NumbersGoOnAlone, RulesAreInForce, RulesStay}
use Rattle.gw_service.specs.Start.{begun}
use Rattle.gw_state.specs.Saved.{Saved}

-- ---- the rules in force

pub rules_stay : RulesStay
unfolding state_from next
rules_stay w [] = refl
rules_stay w (e ∷ events) = rules_stay (next w e) events

next_rules : (w : State) (e : Event) → (next w e).rules ≡ w.rules
unfolding next
next_rules w e = refl

-- over turns they stay
went_rules : {K : Type 0} (Passes : K → State → Event → K → Bool → Type 0) (a b : Moment K) (turns : List Turn) → GoOn Passes a turns b
    → b.scene.gateway.rules ≡ a.scene.gateway.rules
went_rules Passes a b turns went =
    ap (λ (w : State). w.rules) went.went.gateway ∙ rules_stay a.scene.gateway (events_of turns)

-- what comes of a request leaves the rules of the configuration in force
looked_rules : {K : Type 0} (Adopts : K → Configuration → State → K → Type 0) (c d : Configuration) (s t : Standing K) (look : Look)
    → IsLooked Adopts c s look d t
    → s.gateway.rules ≡ c.rules → t.gateway.rules ≡ d.rules
looked_rules Adopts c d s t unrequested is has =
    ap (λ (w : State). w.rules) is.stays.gateway ∙ has ∙ sym (ap (λ (x : Configuration). x.rules) is.stays.config)
looked_rules Adopts c d s t passed_over is has =
    ap (λ (w : State). w.rules) is.stays.gateway ∙ has ∙ sym (ap (λ (x : Configuration). x.rules) is.stays.config)
looked_rules Adopts c d s t stopping is has =
    ap (λ (w : State). w.rules) is.stays.gateway ∙ has ∙ sym (ap (λ (x : Configuration). x.rules) is.stays.config)
looked_rules Adopts c d s t (inquired answer) is has =
    ap (λ (w : State). w.rules) is.stays.gateway ∙ has ∙ sym (ap (λ (x : Configuration). x.rules) is.stays.config)
looked_rules Adopts c d s t (refused read f line) is has =
    ap (λ (w : State). w.rules) is.stays.gateway ∙ has ∙ sym (ap (λ (x : Configuration). x.rules) is.stays.config)
looked_rules Adopts c d s t (taken_over text new) is has =
    ap (λ (w : State). w.rules) is.gateway ∙ sym (ap (λ (x : Configuration). x.rules) is.config)

link_rules : {K : Type 0} (manner : Manner K) (s t : Stage K) (link : Link) → IsLink manner s link t → HasItsRules s → HasItsRules t
link_rules manner s t (served turns) is has =
    went_rules manner.Passes s.now t.now turns is.went ∙ has ∙ sym (ap (λ (x : Configuration). x.rules) is.config)
link_rules manner s t (ticked turns look text) is has =
    looked_rules manner.Adopts s.config t.config _ _ look is.done.looked (went_rules manner.Passes s.now is.then turns is.went ∙ has)
link_rules manner s t (withheld turns event text) is has =
    ap (λ (w : State). w.rules) is.last.logged.taken.gateway ∙ next_rules is.then.scene.gateway event
    ∙ went_rules manner.Passes s.now is.then turns is.went ∙ has ∙ sym (ap (λ (x : Configuration). x.rules) is.config)
link_rules manner s t (ended turns text) is has = absurd is

pub rules_in_force : {K : Type 0} (manner : Manner K) → RulesAreInForce manner
unfolding AreLinks
rules_in_force manner s t [] chain has = subst (λ (x : Stage _). HasItsRules x) (sym chain) has
rules_in_force manner s t (link ∷ links) chain has =
    rules_in_force manner chain.0 t links chain.2 (link_rules manner s chain.0 link chain.1 has)

-- ---- the checksum in force

abbrev HasChecksum : Configuration → ReloadCounts → Type 0
HasChecksum c counts = (text : List ℕ) × IsEdition text (record { config = c; checksum = counts.checksum })

-- it stays with the configuration
checksum_stays : (c d : Configuration) (before after : ReloadCounts) → d ≡ c → after.checksum ≡ before.checksum → HasChecksum c before
    → HasChecksum d after
checksum_stays c d before after is_config is_checksum has =
    (has.0, record { config = has.1.config ∙ ap Ok (sym is_config); checksum = is_checksum ∙ has.1.checksum })

-- what comes of a request leaves the checksum of the configuration in force
looked_checksum : {K : Type 0} (Adopts : K → Configuration → State → K → Type 0) (c d : Configuration) (s t : Standing K) (look : Look)
    → IsLooked Adopts c s look d t → HasChecksum c s.counts → HasChecksum d t.counts
looked_checksum Adopts c d s t unrequested is has =
    checksum_stays c d s.counts t.counts is.stays.config (ap (λ (x : ReloadCounts). x.checksum) is.counts) has
looked_checksum Adopts c d s t passed_over is has =
    checksum_stays c d s.counts t.counts is.stays.config (ap (λ (x : ReloadCounts). x.checksum) is.counts) has
looked_checksum Adopts c d s t stopping is has =
    checksum_stays c d s.counts t.counts is.stays.config (ap (λ (x : ReloadCounts). x.checksum) is.counts) has
looked_checksum Adopts c d s t (inquired answer) is has =
    checksum_stays c d s.counts t.counts is.stays.config (ap (λ (x : ReloadCounts). x.checksum) is.counts) has
looked_checksum Adopts c d s t (refused read f line) is has =
    checksum_stays c d s.counts t.counts is.stays.config (ap (λ (x : ReloadCounts). x.checksum) is.counts) has
looked_checksum Adopts c d s t (taken_over text new) is has =
    (text, record { config = is.reads ∙ ap Ok (sym is.config); checksum = ap (λ (x : ReloadCounts). x.checksum) is.counts })

link_checksum : {K : Type 0} (manner : Manner K) (s t : Stage K) (link : Link) → IsLink manner s link t → HasItsChecksum s
    → HasItsChecksum t
link_checksum manner s t (served turns) is has =
    checksum_stays s.config t.config s.counts t.counts is.config (ap (λ (x : ReloadCounts). x.checksum) is.counts) has
link_checksum manner s t (ticked turns look text) is has = looked_checksum manner.Adopts s.config t.config _ _ look is.done.looked has
link_checksum manner s t (withheld turns event text) is has =
    checksum_stays s.config t.config s.counts t.counts is.config (ap (λ (x : ReloadCounts). x.checksum) is.counts) has
link_checksum manner s t (ended turns text) is has = absurd is

pub checksum_in_force : {K : Type 0} (manner : Manner K) → ChecksumIsInForce manner
unfolding AreLinks
checksum_in_force manner s t [] chain has = subst (λ (x : Stage _). HasItsChecksum x) (sym chain) has
checksum_in_force manner s t (link ∷ links) chain has =
    checksum_in_force manner chain.0 t links chain.2 (link_checksum manner s chain.0 link chain.1 has)

-- ---- the numbers of denials

-- the greater of two numbers is at least each of them, and the less of two is the first if that isn't above the second
greater_by : (a b : ℕ) (test : Bool) → nat_le a b ≡ test → (a ≤ (if test then b else a)) × (b ≤ (if test then b else a))
greater_by a b true is = (leb-true a b is, omega arith)
greater_by a b false is = (omega arith, omega (arith, leb-false a b is))

is_greater : (a b : ℕ) → (a ≤ greater a b) × (b ≤ greater a b)
is_greater a b = greater_by a b (nat_le a b) refl

less_by : (a b : ℕ) (test : Bool) → a ≤ b → nat_le a b ≡ test → (if test then a else b) ≡ a
less_by a b true most is = refl
less_by a b false most is =
    let no : ⊥ = omega (arith, most, leb-false a b is) in absurd no

is_less : (a b : ℕ) → a ≤ b → less a b ≡ a
is_less a b most = less_by a b (nat_le a b) most refl

-- denials are numbered up from the first number
numbered_from : (m n : ℕ) (rules : List Rule) (number tick : ℕ) (from : Sender) (refusals : List Refusal) → m < number → n < number
    → AllByRecursion (λ (d : Denial). (m < d.number) × (n < d.number)) (denials_from rules number tick from refusals)
numbered_from m n rules number tick from [] is_m is_n = tt
numbered_from m n rules number tick from (refusal ∷ refusals) is_m is_n =
    ((is_m, is_n), numbered_from m n rules (number + 1) tick from refusals (omega (arith, is_m)) (omega (arith, is_n)))

numbered : (m n : ℕ) (rules : List Rule) (number tick : ℕ) (from : Option Sender) (refusals : List Refusal) → m < number → n < number
    → AllByRecursion (λ (d : Denial). (m < d.number) × (n < d.number)) (denials_of rules number tick from refusals)
numbered m n rules number tick None refusals is_m is_n = tt
numbered m n rules number tick (Some from) refusals is_m is_n = numbered_from m n rules number tick from refusals is_m is_n

pub numbers_above : NumbersGoOn
unfolding effects_at
numbers_above counts later text shown w e from showable shows most is =
    let found = finds_last text shown shows in
    let goes : GoesOnAfter counts found.0 later = subst (λ (line : Option (List ℕ)). GoesOnFrom counts line later) found.1 from in
    let after : later ≡ counts_after counts shown = goes.denial shown showable found.2 in
    let number : later.denials ≡ greater counts.denials (less shown.number (2 ^ 63)) = ap (λ (k : Counts). k.denials) after in
    let least = is_greater counts.denials (less shown.number (2 ^ 63)) in
    let same = is_less shown.number (2 ^ 63) most in
    let received = receive w e in
    All-from_recursion (λ (d : Denial). (counts.denials < d.number) × (shown.number < d.number)) (effects_at w e).denials
    (numbered counts.denials shown.number w.rules (w.denials + 1) w.ticks (origin received)
    (denied_of w.rules (asks_for w.rules w.relay w.device received)) (omega (arith, least.0, number, is)) (omega (arith, least.1, same, number, is)))

above_from : (m : ℕ) (rules : List Rule) (number tick : ℕ) (from : Sender) (refusals : List Refusal) → m < number
    → AllByRecursion (λ (d : Denial). m < d.number) (denials_from rules number tick from refusals)
above_from m rules number tick from [] more = tt
above_from m rules number tick from (refusal ∷ refusals) more =
    (more, above_from m rules (number + 1) tick from refusals (omega (arith, more)))

above : (m : ℕ) (rules : List Rule) (number tick : ℕ) (from : Option Sender) (refusals : List Refusal) → m < number
    → AllByRecursion (λ (d : Denial). m < d.number) (denials_of rules number tick from refusals)
above m rules number tick None refusals more = tt
above m rules number tick (Some from) refusals more = above_from m rules number tick from refusals more

pub numbers_above_alone : NumbersGoOnAlone
unfolding effects_at
numbers_above_alone c s w e begins =
    let number : w.denials ≡ s.counts.denials = ap (λ (x : State). x.denials) begins.state ∙ ap (λ (k : Counts). k.denials) begins.from
    ∙ ap (λ (n : Option Saved). (begun c n).denials) begins.is in
    let received = receive w e in
    All-from_recursion (λ (d : Denial). s.counts.denials < d.number) (effects_at w e).denials
    (above s.counts.denials w.rules (w.denials + 1) w.ticks (origin received)
    (denied_of w.rules (asks_for w.rules w.relay w.device received)) (omega (arith, number)))
