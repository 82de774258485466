-- Links one after the other, and what they reported.
use Rattle.std.proofs.Common.{◌≡◌, ◌∙◌, ℕ, ◌+◌, ◌<◌, List, [], ◌∷◌, ◌++◌, Option, Some, None, refl, sym, ap, subst, length, arith, inr, inl}
use Rattle.std.specs.Io.KnownBytes.{Appends, Keeps}
use Rattle.std.proofs.KnownBytes.{Appends-kept}
use Rattle.std.proofs.lemmas.List.{append-nil, flat_map_more, length-append}
use Rattle.std.specs.Option.{option_map_or}
use Rattle.std.specs.Prelude.{Result, Ok, Err, Bool, true, false, IfOk, IfSome}
use Rattle.std.specs.Global.{Vec}
use Rattle.gw_configuration.specs.Configuration.{Configuration}
use Rattle.gw_core.specs.Resumed.{carried, saved, saved_of}
use Rattle.gw_state.specs.Saved.{Origin, origin_of}
use Rattle.gw_script.specs.Event.{Event}
use Rattle.gw_script.specs.Event as event
use Rattle.gw_script.specs.declared.sink.WriteFailed.{WriteFailed}
use Rattle.gw_turns.specs.Announcing.{with_due}
use Rattle.gw_turns.specs.declared.announcing.Announcing.{Announcing}
use Rattle.gw_turns.specs.Stretch.{EndsAtTick, EndsAtTurns, EndsFaulty, EndsStretch, EndsWithheld, GoOn, Moment, moment}
use Rattle.gw_turns.specs.declared.stretch.StretchEnd.{StretchEnd}
use Rattle.gw_turns.specs.declared.serving.ServeFault.{ServeFault}
use Rattle.gw_turns.specs.declared.serving.ServeFault.TheVariants as serving
use Rattle.gw_core.specs.State.{State}
use Rattle.gw_turns.specs.Serve.{Turn, count_fault, count_turn, counts_after, empty_turn, failed_turn, lost_event, scene, taken_event}
use Rattle.gw_wire.specs.Wire.{Call}
use Rattle.gw_turns.specs.declared.serving.Served.{Served}
use Rattle.gw_turns.specs.declared.tally.DropTally.{DropTally}
use Rattle.gw_system.proofs.RequestLemmas.{goes_two}
use Rattle.gw_system.specs.Requests.{Asking, Exchange, GoesOn, answered, asked, asked_by, asked_for, asked_to_say}
use Rattle.gw_system.specs.declared.request.Request.{Request}
use Rattle.gw_system.specs.declared.reading.ReadFailure.{ReadFailure}
use Rattle.gw_service.specs.Chain.{Advances, AdvancesBy, AreLinks, Edge, IsLink, IsLooked, IsNotedWith, IsTicked, Link, Look, Looks, Manner, Runs, RunsUnsynced, Stage, chain_text, end_of, is_stopping, link_text, look_text}
use Rattle.gw_service.specs.Chain.{ended, inquired, passed_over, refused, served, standing, stopping, taken_over, ticked, unrequested}
use Rattle.gw_service.specs.declared.running.RunEnd.{RunEnd}
use Rattle.gw_service.specs.declared.running.RunEnd.TheVariants as end
use Rattle.gw_notices.specs.Notices.{IsStatusAnswer}
use Rattle.gw_service.specs.Keeping.{IsSuccessor}
use Rattle.gw_service.specs.Kept.{status_or}
use Rattle.gw_notices.specs.Reload.{IsRefusalLine, refusal_line, with_refused, with_taken_over}
use Rattle.gw_service.specs.Reload.{IsRefused, IsReloaded, taken_over_line}
use Rattle.gw_service.specs.declared.reload.Adopted.{Adopted}
use Rattle.gw_notices.specs.declared.reload.ReloadCounts.{ReloadCounts}
use Rattle.gw_notices.specs.declared.reload.ReloadFault.{ReloadFault}
use Rattle.gw_notices.specs.declared.reload.ReloadFault.TheVariants as faults
use Rattle.gw_notices.proofs.AppendLemmas.{appends_nothing, appends_two}

-- one link more
pub links_more : {K : Type 0} (manner : Manner K) (s : Stage K) (links : List Link) (t u : Stage K) (link : Link)
    → AreLinks manner s links t → IsLink manner t link u → AreLinks manner s (links ++ link ∷ []) u
unfolding AreLinks
links_more {K} manner s [] t u link chain is = (u, subst (λ (x : Stage K). IsLink manner x link u) chain is, refl)
links_more manner s (first ∷ links) t u link chain is =
    (chain.0, chain.1, links_more manner chain.0 links t u link chain.2 is)

-- no link
pub links_none : {K : Type 0} (manner : Manner K) (s : Stage K) → AreLinks manner s [] s
unfolding AreLinks
links_none manner s = refl

-- what one link more reported
pub text_more : (links : List Link) (link : Link) → chain_text links ++ link_text link ≡ chain_text (links ++ link ∷ [])
text_more links link = flat_map_more link_text [] links link

-- as many turns more are counted as were done
pub turns_counted : (s : Served) (turns : List Turn) → (counts_after s turns).turns ≡ s.turns + length turns
unfolding counts_after
turns_counted s [] = omega arith
turns_counted s (empty_turn ∷ turns) = let more = turns_counted (count_turn s empty_turn) turns in omega (arith, more)
turns_counted s (failed_turn ∷ turns) = let more = turns_counted (count_turn s failed_turn) turns in omega (arith, more)
turns_counted s (lost_event e ∷ turns) = let more = turns_counted (count_turn s (lost_event e)) turns in omega (arith, more)
turns_counted s (taken_event e tries ∷ turns) =
    let more = turns_counted (count_turn s (taken_event e tries)) turns in omega (arith, more)

-- ---- a request

-- a configuration that is taken over, and what is answered and reported of it
pub taken_so : {K : Type 0} (Adopts : K → Configuration → State → K → Type 0) (o : Origin) (w : State) (k l : K)
    (read : Result (Option (List ℕ)) ReadFailure) (made : Adopted) (first middle last : Asking) (line : List ℕ)
    (counts then : ReloadCounts) (announcing due : Announcing) (Never : Type 0) (held holds : Option (List ℕ)) {L : Type 0}
    (Takes : L → List ℕ → Result (Unit {0}) WriteFailed → L → Type 0) (log log_then : L) (written : Result (Unit {0}) WriteFailed) (report : List ℕ)
    → IsReloaded w o read made
    → ((c : Configuration) → IsSuccessor c made.successor → Adopts k c made.gateway l) → GoesOn first middle (asked read ∷ []) → GoesOn middle last (answered line ∷ [])
    → line ≡ made.line.items → then ≡ with_taken_over counts w.ticks made.checksum → due ≡ with_due announcing
    → (Never → Appends held holds line) → Takes log line written log_then
    → Looks (IsLooked Adopts) (IsNotedWith Takes log log_then false report) o (standing w k first counts announcing) made.origin
    (standing made.gateway l last then due) Never held holds
taken_so {K} Adopts o w k l (Ok (Some text)) made first middle last line counts then announcing due Never held holds Takes log log_then written report is
    adopts asks answers is_line is_counts is_due records noted = λ c is_origin.
    let new = is.edition.config in
    let same : saved_of o w ≡ saved c w = ap (λ (x : Origin). saved_of x w) is_origin in
    let is_text : line ≡ taken_over_line w new (saved c w) = is_line ∙ is.adopted.line ∙ ap (taken_over_line w new) same in (
      new,
      taken_over text new,
      is.adopted.origin,
      record {
        config = refl;
        reads = is.reads.config;
        ports = is.ports;
        gateway = is.adopted.gateway ∙ ap (carried new) same;
        keeper = adopts new is.adopted.successor;
        requests = subst (λ (t : List ℕ). GoesOn first last (asked (Ok (Some text)) ∷ answered t ∷ [])) is_text
            (goes_two first middle last (asked (Ok (Some text))) (answered line) asks answers);
        counts = is_counts ∙ ap (with_taken_over counts w.ticks) (is.adopted.checksum ∙ is.reads.checksum);
        announcing = is_due;
      },
      λ never. subst (λ (t : List ℕ). Appends held holds t) is_text (records never),
      (((written, subst (λ (t : List ℕ). Takes log t written log_then) is_text noted), refl), tt),
    )
taken_so Adopts o w k l (Ok None) made first middle last line counts then announcing due Never held holds Takes log log_then written report is adopts asks
    answers is_line is_counts is_due records noted =
    absurd is
taken_so Adopts o w k l (Err failure) made first middle last line counts then announcing due Never held holds Takes log log_then written report is adopts
    asks answers is_line is_counts is_due records noted =
    absurd is

-- one that isn't
pub refused_so : {K : Type 0} (Adopts : K → Configuration → State → K → Type 0) (o : Origin) (w : State) (k : K)
    (read : Result (Option (List ℕ)) ReadFailure) (fault : ReloadFault) (first middle last : Asking) (line : List ℕ)
    (counts then : ReloadCounts) (announcing : Announcing) (Never : Type 0) (held holds : Option (List ℕ)) {L : Type 0}
    (Takes : L → List ℕ → Result (Unit {0}) WriteFailed → L → Type 0) (log log_then : L) (written : Result (Unit {0}) WriteFailed) (report : List ℕ)
    → IsRefused w read fault → IsRefusalLine read fault line
    → GoesOn first middle (asked read ∷ []) → GoesOn middle last (answered line ∷ []) → then ≡ with_refused counts
    → (Never → Appends held holds line) → Takes log line written log_then
    → Looks (IsLooked Adopts) (IsNotedWith Takes log log_then false report) o (standing w k first counts announcing) o (standing w k last then announcing) Never
    held holds
refused_so Adopts o w k read fault first middle last line counts then announcing Never held holds Takes log log_then written report is says asks answers
    is_counts records noted = λ c is_origin. (
      c,
      refused read fault line,
      is_origin,
      record {
        why = is;
        says = says;
        stays = record { config = refl; gateway = refl; keeper = refl; announcing = refl };
        requests = goes_two first middle last (asked read) (answered line) asks answers;
        counts = is_counts;
      },
      records,
      (((written, noted), refl), tt),
    )

-- a request to say what is counted, and its answer
pub inquired_so : {K : Type 0} (Adopts : K → Configuration → State → K → Type 0) (o : Origin) (w : State) (k : K) (first last : Asking)
    (answer : List ℕ) (counts : ReloadCounts) (announcing : Announcing) (Never : Type 0) (held : Option (List ℕ)) {L : Type 0}
    (Takes : L → List ℕ → Result (Unit {0}) WriteFailed → L → Type 0) (log : L) (report : List ℕ)
    → GoesOn first last (asked_to_say ∷ answered answer ∷ []) → IsStatusAnswer report answer
    → Looks (IsLooked Adopts) (IsNotedWith Takes log log false report) o (standing w k first counts announcing) o
    (standing w k last counts announcing) Never held held
inquired_so Adopts o w k first last answer counts announcing Never held Takes log report goes says = λ c is_origin. (
  c,
  inquired answer,
  is_origin,
  record {
    stays = record { config = refl; gateway = refl; keeper = refl; announcing = refl };
    requests = goes;
    counts = refl;
  },
  λ never. appends_nothing held,
  ((refl, refl), says),
)

-- what was taken is a request of this kind
pub asked_so : (a b : Asking) (taken : Option Request) (request : Request) (exchange : Exchange) → taken ≡ Some request
    → asked_for request ≡ exchange → GoesOn a b (asked_by taken ∷ []) → GoesOn a b (exchange ∷ [])
asked_so a b taken request exchange is same goes = subst (λ (x : Exchange). GoesOn a b (x ∷ [])) (ap asked_by is ∙ same) goes

-- it is the report, or says that there was no memory
pub says_status : (report : List ℕ) (text : Result (Vec ℕ) WriteFailed) → IfOk text (λ t. t.items ≡ report)
    → IsStatusAnswer report (status_or text)
says_status report (Ok text) is = inl is
says_status report (Err failed) is = inr refl

-- the line without a place says why
short_line : (read : Result (Option (List ℕ)) ReadFailure) (fault : ReloadFault) → IsRefusalLine read fault (refusal_line fault)
short_line (Ok (Some text)) (faults.Configuration f) = inr refl
short_line (Ok (Some text)) (faults.Unreadable why) = refl
short_line (Ok (Some text)) faults.Ports = refl
short_line (Ok (Some text)) faults.Memory = refl
short_line (Ok None) fault = refl
short_line (Err failure) fault = refl

-- the line with a place, or else that one
pub says_why : (read : Result (Option (List ℕ)) ReadFailure) (fault : ReloadFault) (located : Option (Vec ℕ))
    → IfSome located (λ line. IsRefusalLine read fault line.items)
    → IsRefusalLine read fault (option_map_or (λ line. line.items) located (refusal_line fault))
says_why read fault None is = short_line read fault
says_why read fault (Some line) is = is

-- what is reported of a request is the same with any keeper
pub same_text : {K : Type 0} (c : Configuration) (w : State) (k l : K) (q : Asking) (counts : ReloadCounts) (a : Announcing) (look : Look)
    → look_text c (standing w k q counts a) look ≡ look_text c (standing w l q counts a) look
same_text c w k l q counts a unrequested = refl
same_text c w k l q counts a passed_over = refl
same_text c w k l q counts a stopping = refl
same_text c w k l q counts a (inquired answer) = refl
same_text c w k l q counts a (refused read f line) = refl
same_text c w k l q counts a (taken_over text new) = refl

-- so is what is noted of it
pub same_note : {K L : Type 0} (c : Configuration) (w : State) (k l : K) (q : Asking) (counts : ReloadCounts) (a : Announcing)
    (Takes : L → List ℕ → Result (Unit {0}) WriteFailed → L → Type 0) (log log_then : L) (stops : Bool) (report : List ℕ) (look : Look)
    → IsNotedWith Takes log log_then stops report look (look_text c (standing w k q counts a) look)
    → IsNotedWith Takes log log_then stops report look (look_text c (standing w l q counts a) look)
same_note c w k l q counts a Takes log log_then stops report unrequested noted = noted
same_note c w k l q counts a Takes log log_then stops report passed_over noted = noted
same_note c w k l q counts a Takes log log_then stops report stopping noted = noted
same_note c w k l q counts a Takes log log_then stops report (inquired answer) noted = noted
same_note c w k l q counts a Takes log log_then stops report (refused read f line) noted = noted
same_note c w k l q counts a Takes log log_then stops report (taken_over text new) noted = noted

-- ---- how a stretch ended

-- what keeps all that the log holds changes nothing of turns that were served
pub went_kept : {G : Type 0} (Passes : G → State → Event → G → Bool → Type 0) (a : Moment G) (turns : List Turn) (w : State)
    (held holds : Option (List ℕ)) (calls : Option (List Call)) (g : G) (s : Served) (t : DropTally)
    → GoOn Passes a turns (moment (scene w held calls) g s t) → Keeps held holds → GoOn Passes a turns (moment (scene w holds calls) g s t)
went_kept Passes a turns w held holds calls g s t went kept = record {
  went = record {
    each = went.went.each;
    gateway = went.went.gateway;
    log = Appends-kept _ _ _ _ went.went.log kept;
    calls = went.went.calls;
  };
  guarded = went.guarded;
  counts = went.counts;
  tally = went.tally;
}

-- by its answer
pub ends_as : {K : Type 0} (Passes : K → State → Event → K → Bool → Type 0) (count : ℕ) (a b : Moment K) (answer : Result StretchEnd ServeFault)
    (unwritten : List ℕ) (field pause : StretchEnd) → answer ≡ Ok field → field ≡ pause → EndsStretch Passes count a answer unwritten b
    → EndsStretch Passes count a (Ok pause) unwritten b
ends_as {K} Passes count a b answer unwritten field pause is is_pause ends =
    subst (λ (r : Result StretchEnd ServeFault). EndsStretch Passes count a r unwritten b) (is ∙ ap Ok is_pause) ends

-- ---- a stretch is one turn at least

-- as many turns more are counted as were done
pub went_turns : {K : Type 0} (Passes : K → State → Event → K → Bool → Type 0) (a b : Moment K) (turns : List Turn)
    → GoOn Passes a turns b → b.served.turns ≡ a.served.turns + length turns
went_turns Passes a b turns went = ap (λ (s : Served). s.turns) went.counts ∙ turns_counted a.served turns

pub more_at_turns : {K : Type 0} (Passes : K → State → Event → K → Bool → Type 0) (count : ℕ) (a b : Moment K)
    → EndsAtTurns Passes count a b → 0 < count → a.served.turns < b.served.turns
more_at_turns Passes count a b ends some = omega (arith, some, ends.all, went_turns Passes a b ends.turns ends.went)

pub more_at_tick : {K : Type 0} (Passes : K → State → Event → K → Bool → Type 0) (count : ℕ) (a b : Moment K)
    → EndsAtTick Passes count a b → a.served.turns < b.served.turns
more_at_tick Passes count a b ends =
    let last = taken_event event.Tick ends.tries ∷ [] in
    omega (arith, went_turns Passes a b (ends.turns ++ last) ends.went, length-append ends.turns last)

pub more_withheld : {K : Type 0} (Passes : K → State → Event → K → Bool → Type 0) (count : ℕ) (a b : Moment K)
    → EndsWithheld Passes count a b → a.served.turns < b.served.turns
more_withheld Passes count a b ends =
    let went = went_turns Passes a ends.then ends.turns ends.went in
    let last : b.served.turns ≡ ends.then.served.turns + 1 = ap (λ (s : Served). s.turns) ends.last.counts in
    omega (arith, went, last)

fault_turns : (s : Served) (fault : ServeFault) → (count_fault s fault).turns ≡ s.turns + 1
fault_turns s serving.Log = refl
fault_turns s serving.Memory = refl
fault_turns s serving.CountEnd = refl

pub more_faulty : {K : Type 0} (Passes : K → State → Event → K → Bool → Type 0) (count : ℕ) (a b : Moment K) (fault : ServeFault)
    (unwritten : List ℕ) → EndsFaulty Passes count a fault unwritten b → a.served.turns < b.served.turns
more_faulty Passes count a b fault unwritten ends =
    let went = went_turns Passes a ends.then ends.turns ends.went in
    let last : b.served.turns ≡ (count_fault ends.then.served fault).turns = ap (λ (s : Served). s.turns) ends.last.counts in
    omega (arith, went, last, fault_turns ends.then.served fault)

-- ---- a chain

-- From this stage of each configuration of this origin a chain leads to this one, and what it reported was written.
abbrev pub Chained : {K : Type 0} → Manner K → Origin → (Configuration → Stage K) → Origin → (Configuration → Stage K) → (Never : Type 0)
    → (held holds : Option (List ℕ)) → Type 0
Chained manner o first p now Never held holds =
    (c : Configuration) → o ≡ origin_of c → (d : Configuration) × (links : List Link) × (p ≡ origin_of d)
    × AreLinks manner (first c) links (now d) × (Never → Appends held holds (chain_text links))

pub chained_none : {K : Type 0} (manner : Manner K) (o : Origin) (first : Configuration → Stage K) (Never : Type 0) (held : Option (List ℕ))
    → Chained manner o first o first Never held held
chained_none manner o first Never held =
    λ c is. (c, [], is, links_none manner (first c), λ never. appends_nothing held)

-- what comes of a stretch, from each configuration of this origin
abbrev pub Advanced : {K : Type 0} → Manner K → ℕ → Origin → (Configuration → Stage K) → Result (Option RunEnd) ServeFault → Origin
    → (Configuration → Stage K) → Edge → (Never : Type 0) → (held holds : Option (List ℕ)) → Type 0
Advanced manner count p now result q next edge Never held holds =
    (c : Configuration) → p ≡ origin_of c → (d : Configuration) × (text : List ℕ) × (q ≡ origin_of d)
    × Advances manner count (now c) result text (next d) edge × (Never → Appends held holds text)

pub chained_more : {K : Type 0} (manner : Manner K) (count : ℕ) (o p q : Origin) (first now next : Configuration → Stage K)
    (edge : Edge) (Never Then : Type 0) (held middle holds : Option (List ℕ)) → Chained manner o first p now Never held middle
    → Advanced manner count p now (Ok None) q next edge Then middle holds → (Never → Then)
    → Chained manner o first q next Never held holds
chained_more manner count o p q first now next edge Never Then held middle holds chain advance lasts = λ c is.
    let before = chain c is in
    let after = advance before.0 before.2 in
    let link = after.3.0 in (
      after.0,
      before.1 ++ link ∷ [],
      after.2,
      links_more manner (first c) before.1 (now before.0) (next after.0) link before.3 after.3.1,
      λ never. subst (λ (t : List ℕ). Appends held holds t)
          (ap (λ (t : List ℕ). chain_text before.1 ++ t) after.3.2 ∙ text_more before.1 link)
          (appends_two held middle holds (chain_text before.1) after.1 (before.4 never) (after.4 (lasts never))),
    )

-- what a run leads to, from each configuration of this origin
abbrev pub Ran : {K : Type 0} → Manner K → ℕ → Origin → (Configuration → Stage K) → Result RunEnd ServeFault → Origin
    → (Configuration → Stage K) → (Never : Type 0) → (held holds : Option (List ℕ)) → Type 0
Ran manner count o first result p last Never held holds =
    (c : Configuration) → o ≡ origin_of c → (d : Configuration) × (links : List Link) × (p ≡ origin_of d)
    × Runs manner count (first c) result links (last d) × (Never → Appends held holds (chain_text links))

pub ran_whole : {K : Type 0} (manner : Manner K) (count : ℕ) (o p : Origin) (first last : Configuration → Stage K) (Never : Type 0)
    (held holds : Option (List ℕ)) → Chained manner o first p last Never held holds
    → ((c d : Configuration) → (last d).now.served.turns ≡ (first c).now.served.turns + count)
    → Ran manner count o first (Ok end.Turns) p last Never held holds
ran_whole manner count o p first last Never held holds chain all = λ c is.
    let led = chain c is in
    (led.0, led.1, led.2, record { chain = led.3; turns = all c led.0 }, led.4)

pub ran_to_stop : {K : Type 0} (manner : Manner K) (count left : ℕ) (o p q : Origin) (first now last : Configuration → Stage K)
    (edge : Edge) (Never Then : Type 0) (held middle holds : Option (List ℕ)) → Chained manner o first p now Never held middle
    → Advanced manner left p now (Ok (Some end.Stopped)) q last edge Then middle holds → (Never → Then)
    → Ran manner count o first (Ok end.Stopped) q last Never held holds
ran_to_stop manner count left o p q first now last edge Never Then held middle holds chain advance lasts = λ c is.
    let before = chain c is in
    let after = advance before.0 before.2 in
    let link = ended after.3.0 after.1 in (
      after.0,
      before.1 ++ link ∷ [],
      after.2,
      record { then = now before.0; before = before.1; chain = before.3; turns = after.3.0; text = after.1; stops = after.3.1; is = refl },
      λ never. subst (λ (t : List ℕ). Appends held holds t) (text_more before.1 link)
          (appends_two held middle holds (chain_text before.1) after.1 (before.4 never) (after.4 (lasts never))),
    )

-- the log couldn't be made to last
pub ran_unsynced : {K : Type 0} (manner : Manner K) (count left : ℕ) (o p q : Origin) (first now last : Configuration → Stage K)
    (edge : Edge) (Never Then : Type 0) (held middle holds : Option (List ℕ)) → Chained manner o first p now Never held middle
    → Advanced manner left p now (Ok (Some end.Unsynced)) q last edge Then middle holds → (Never → Then)
    → ((c d : Configuration) → (now d).now.served.turns + left ≡ (first c).now.served.turns + count)
    → Ran manner count o first (Ok end.Unsynced) q last Never held holds
ran_unsynced manner count left o p q first now last edge Never Then held middle holds chain advance lasts most = λ c is.
    let before = chain c is in
    let after = advance before.0 before.2 in
    let out = after.3 in
    let tick = taken_event event.Tick out.tries ∷ [] in
    let turns = out.turns ++ tick in
    let link = served turns in (
      after.0,
      before.1 ++ link ∷ [],
      after.2,
      record {
        then = now before.0;
        before = before.1;
        chain = before.3;
        turns = out.turns;
        tries = out.tries;
        goes = out.goes;
        is = refl;
        most = omega (
          arith,
          most c before.0,
          out.fewer,
          length-append out.turns tick,
          went_turns manner.Passes (now before.0).now (last after.0).now turns out.goes.went,
        );
      },
      λ never. subst (λ (t : List ℕ). Appends held holds t)
          (ap (λ (t : List ℕ). chain_text before.1 ++ t) out.silent ∙ text_more before.1 link)
          (appends_two held middle holds (chain_text before.1) after.1 (before.4 never) (after.4 (lasts never))),
    )

-- its links lead to where it ended
pub unsynced_chain : {K : Type 0} (manner : Manner K) (count : ℕ) (s t : Stage K) (links : List Link) → RunsUnsynced manner count s links t
    → AreLinks manner s links t
unsynced_chain manner count s t links runs =
    let link = served (runs.turns ++ taken_event event.Tick runs.tries ∷ []) in
    subst (λ (l : List Link). AreLinks manner s l t) (sym runs.is) (links_more manner s runs.before runs.then t link runs.chain runs.goes)

-- a run ends so
pub ran_ended : {K : Type 0} (manner : Manner K) (count left : ℕ) (o p q : Origin) (first now last : Configuration → Stage K)
    (edge : Edge) (Never Then : Type 0) (held middle holds : Option (List ℕ)) (how : RunEnd) → Chained manner o first p now Never held middle
    → Advanced manner left p now (Ok (Some how)) q last edge Then middle holds → (Never → Then)
    → ((c d : Configuration) → (now d).now.served.turns + left ≡ (first c).now.served.turns + count)
    → Ran manner count o first (Ok how) q last Never held holds
ran_ended manner count left o p q first now last edge Never Then held middle holds end.Turns chain advance lasts most = λ c is.
    let before = chain c is in
    absurd (advance before.0 before.2).3
ran_ended manner count left o p q first now last edge Never Then held middle holds end.Stopped chain advance lasts most =
    ran_to_stop manner count left o p q first now last edge Never Then held middle holds chain advance lasts
ran_ended manner count left o p q first now last edge Never Then held middle holds end.Unsynced chain advance lasts most =
    ran_unsynced manner count left o p q first now last edge Never Then held middle holds chain advance lasts most

-- what was done after a tick, by whether the gateway is to stop
pub advanced_by : {K : Type 0} (manner : Manner K) (s : Stage K) (turns : List Turn) (look : Look) (text : List ℕ) (t : Stage K) (stops : Bool)
    (edge : Edge) → stops ≡ is_stopping look → edge.behind ≡ false → edge.Lasted → IsTicked manner stops s turns look text t
    → AdvancesBy manner stops s text t edge
advanced_by manner s turns unrequested text t false edge is due lasted done = (ticked turns unrequested text, done, refl, (due, lasted))
advanced_by manner s turns passed_over text t false edge is due lasted done = (ticked turns passed_over text, done, refl, (due, lasted))
advanced_by manner s turns (inquired answer) text t false edge is due lasted done =
    (ticked turns (inquired answer) text, done, refl, (due, lasted))
advanced_by manner s turns (refused read f line) text t false edge is due lasted done =
    (ticked turns (refused read f line) text, done, refl, (due, lasted))
advanced_by manner s turns (taken_over read new) text t false edge is due lasted done =
    (ticked turns (taken_over read new) text, done, refl, (due, lasted))
advanced_by manner s turns stopping text t false edge is due lasted done = absurd cc
advanced_by manner s turns unrequested text t true edge is due lasted done = absurd cc
advanced_by manner s turns passed_over text t true edge is due lasted done = absurd cc
advanced_by manner s turns (inquired answer) text t true edge is due lasted done = absurd cc
advanced_by manner s turns (refused read f line) text t true edge is due lasted done = absurd cc
advanced_by manner s turns (taken_over read new) text t true edge is due lasted done = absurd cc
advanced_by manner s turns stopping text t true edge is due lasted done = (turns, done, (due, lasted))

-- by how it ends then
pub advances_as : {K : Type 0} (manner : Manner K) (count : ℕ) (s : Stage K) (text : List ℕ) (t : Stage K) (stops : Bool) (edge : Edge)
    (ending : Option RunEnd) → ending ≡ end_of stops → AdvancesBy manner stops s text t edge → Advances manner count s (Ok ending) text t edge
advances_as manner count s text t true edge ending is by =
    subst (λ (e : Option RunEnd). Advances manner count s (Ok e) text t edge) (sym is) by
advances_as manner count s text t false edge ending is by =
    subst (λ (e : Option RunEnd). Advances manner count s (Ok e) text t edge) (sym is) by

pub ran_until : {K : Type 0} (manner : Manner K) (count left : ℕ) (o p q : Origin) (first now last : Configuration → Stage K) (fault : ServeFault)
    (edge : Edge) (Never Then : Type 0) (held middle holds : Option (List ℕ)) → Chained manner o first p now Never held middle
    → Advanced manner left p now (Err fault) q last edge Then middle holds → (Never → Then)
    → ((c d : Configuration) → (now d).now.served.turns + left ≡ (first c).now.served.turns + count)
    → Ran manner count o first (Err fault) q last Never held holds
ran_until manner count left o p q first now last fault edge Never Then held middle holds chain advance lasts most = λ c is.
    let before = chain c is in
    let after = advance before.0 before.2 in
    let text : after.1 ≡ [] = after.3.1 in (
      after.0,
      before.1,
      after.2,
      record { then = now before.0; chain = before.3; left = left; most = most c before.0; unwritten = edge.unwritten; ends = after.3.0 },
      λ never. subst (λ (t : List ℕ). Appends held holds t) (append-nil (chain_text before.1))
          (subst (λ (t : List ℕ). Appends held holds (chain_text before.1 ++ t)) text
          (appends_two held middle holds (chain_text before.1) after.1 (before.4 never) (after.4 (lasts never)))),
    )
