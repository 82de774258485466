-- What the program makes of words, from what a parse of them gives.
use Rattle.std.proofs.Common.{◌≡◌, ◌⊎◌, inl, inr, refl, subst, true, List, Result, Ok, Err, []}
use Rattle.clap.specs.Words.{IsAmong, Text, fault_of, is_simple, is_simple_and_free}
use Rattle.clap.specs.declared.error.kind.ErrorKind.{ErrorKind}
use Rattle.clap.specs.declared.error.kind.ErrorKind.TheVariants as parse
use Rattle.clap.proofs.OnLiterals.{clap_on_literals}
use Rattle.gw_tool_line.specs.CommandLine.{AskFor, Chooses, IsAnswer, IsChosen, IsRefusal}
use Rattle.gw_tool_line.specs.Commands.{commands, first_commands, later_commands, middle_commands, most_commands}
use Rattle.gw_tool_line.specs.Requests.{Request, asked_in}
use Rattle.gw_tool_line.specs.declared.command_line.Choice.{Choice}
use Rattle.gw_tool_line.specs.declared.command_line.Choice.TheVariants as choice
use Rattle.gw_command_line.proofs.options_lemmas.ParseLemmas.{memory_shows_nothing, mistake_among, no_kind}
use Rattle.gw_command_line.specs.declared.options.fault.WordsFault.{WordsFault}
use Rattle.gw_command_line.specs.declared.options.fault.WordsFault.TheVariants as fault

-- clap says exactly which kinds of fault the program's words have
pub commands_are_simple : is_simple_and_free commands ≡ true
unfolding clap_on_literals commands most_commands later_commands middle_commands first_commands
commands_are_simple = refl

pub parse_is_simple : is_simple commands ≡ true
unfolding clap_on_literals commands most_commands later_commands middle_commands first_commands
parse_is_simple = refl

-- what is made of a failed parse answers the kinds of fault that it may have
pub refusal_answers : (words : List Text) (k : ErrorKind) (r : Result Choice WordsFault)
    → (k ≡ parse.OutOfMemory) ⊎ IsAmong k (fault_of commands words) → IsRefusal k r → IsAnswer words r
refusal_answers words k (Ok (choice.Help text)) among is =
    (k, mistake_among (fault_of commands words) k among (λ memory. memory_shows_nothing k memory is), is)
refusal_answers words k (Ok (choice.Usage text)) among is = inl (k, mistake_among (fault_of commands words) k among is.2, is)
refusal_answers words k (Err fault.CommandLine) among is = inl (k, mistake_among (fault_of commands words) k among is.2, is)
refusal_answers words k (Err fault.Memory) among is = tt
refusal_answers words k (Ok (choice.Check file explains lints)) among is = absurd is
refusal_answers words k (Ok (choice.CheckJson file)) among is = absurd is
refusal_answers words k (Ok (choice.Migrate file)) among is = absurd is
refusal_answers words k (Ok (choice.Why file counts strict)) among is = absurd is
refusal_answers words k (Ok (choice.Compare old new most steps)) among is = absurd is
refusal_answers words k (Ok (choice.CompareJson old new most)) among is = absurd is
refusal_answers words k (Ok (choice.Log file start)) among is = absurd is
refusal_answers words k (Ok (choice.Objects file)) among is = absurd is
refusal_answers words k (Ok (choice.Judge file strict)) among is = absurd is
refusal_answers words k (Ok (choice.Report file log)) among is = absurd is
refusal_answers words k (Ok (choice.Points file)) among is = absurd is
refusal_answers words k (Ok (choice.Rules file)) among is = absurd is
refusal_answers words k (Ok (choice.Stop file waits)) among is = absurd is
refusal_answers words k (Ok (choice.Status file waits)) among is = absurd is
refusal_answers words k (Ok (choice.Init site)) among is = absurd is
refusal_answers words k (Ok (choice.Ask file from to deed)) among is = absurd is
refusal_answers words k (Ok (choice.State config state)) among is = absurd is
refusal_answers words k (Ok (choice.Reload config file was)) among is = absurd is
refusal_answers words k (Ok (choice.Suggest file fills exact)) among is = absurd is

-- nothing is chosen that neither a request nor a reason is
no_choice : {B : Type 0} (asked : Result Request Text) (choice : Choice) → ((request : Request) → IsChosen (Ok request) (Ok choice) → ⊥)
    → ((line : Text) → IsChosen (Err line) (Ok choice) → ⊥) → IsChosen asked (Ok choice) → B
no_choice (Ok request) choice never none is = absurd (never request is)
no_choice (Err line) choice never none is = absurd (none line is)

-- what is chosen of words that the parser takes answers them
pub taken_answers : (words : List Text) (r : Result Choice WordsFault) → fault_of commands words ≡ [] → IsChosen (asked_in words) r
    → IsAnswer words r
taken_answers words (Ok (choice.Help text)) none is = no_choice (asked_in words) (choice.Help text) (λ r no. no) (λ l no. no) is
taken_answers words (Ok (choice.Usage text)) none is = inr (none, is)
taken_answers words (Err fault.CommandLine) none is = inr (none, is)
taken_answers words (Err fault.Memory) none is = tt
taken_answers words (Ok (choice.Check file explains lints)) none is = (none, is)
taken_answers words (Ok (choice.CheckJson file)) none is = (none, is)
taken_answers words (Ok (choice.Migrate file)) none is = (none, is)
taken_answers words (Ok (choice.Why file counts strict)) none is = (none, is)
taken_answers words (Ok (choice.Compare old new most steps)) none is = (none, is)
taken_answers words (Ok (choice.CompareJson old new most)) none is = (none, is)
taken_answers words (Ok (choice.Log file start)) none is = (none, is)
taken_answers words (Ok (choice.Objects file)) none is = (none, is)
taken_answers words (Ok (choice.Judge file strict)) none is = (none, is)
taken_answers words (Ok (choice.Report file log)) none is = (none, is)
taken_answers words (Ok (choice.Points file)) none is = (none, is)
taken_answers words (Ok (choice.Rules file)) none is = (none, is)
taken_answers words (Ok (choice.Stop file waits)) none is = (none, is)
taken_answers words (Ok (choice.Status file waits)) none is = (none, is)
taken_answers words (Ok (choice.Init site)) none is = (none, is)
taken_answers words (Ok (choice.Ask file from to deed)) none is = (none, is)
taken_answers words (Ok (choice.State config state)) none is = (none, is)
taken_answers words (Ok (choice.Reload config file was)) none is = (none, is)
taken_answers words (Ok (choice.Suggest file fills exact)) none is = (none, is)

-- what is chosen of what is known to be asked for
chosen : (words : List Text) (request : Request) (r : Result Choice WordsFault) → asked_in words ≡ Ok request
    → IsChosen (asked_in words) r → IsChosen (Ok request) r
chosen words request r asks is = subst (λ (o : Result Request Text). IsChosen o r) asks is

-- the answer to words that ask for something is that, or memory ran out
pub chooses : (words : List Text) (request : Request) (r : Result Choice WordsFault) → AskFor words request → IsAnswer words r
    → Chooses request r
chooses words request (Ok (choice.Help text)) asks is = absurd (no_kind (fault_of commands words) is.0 asks.taken is.1)
chooses words request (Ok (choice.Usage text)) asks (inl is) = absurd (no_kind (fault_of commands words) is.0 asks.taken is.1)
chooses words request (Ok (choice.Usage text)) asks (inr is) = absurd (asks.sound (chosen words request (Ok (choice.Usage text)) asks.asked is.1).0)
chooses words request (Err fault.CommandLine) asks (inl is) = no_kind (fault_of commands words) is.0 asks.taken is.1
chooses words request (Err fault.CommandLine) asks (inr is) = chosen words request (Err fault.CommandLine) asks.asked is.1
chooses words request (Err fault.Memory) asks is = tt
chooses words request (Ok (choice.Check file explains lints)) asks is =
    chosen words request (Ok (choice.Check file explains lints)) asks.asked is.1
chooses words request (Ok (choice.CheckJson file)) asks is =
    chosen words request (Ok (choice.CheckJson file)) asks.asked is.1
chooses words request (Ok (choice.Migrate file)) asks is =
    chosen words request (Ok (choice.Migrate file)) asks.asked is.1
chooses words request (Ok (choice.Why file counts strict)) asks is =
    chosen words request (Ok (choice.Why file counts strict)) asks.asked is.1
chooses words request (Ok (choice.Compare old new most steps)) asks is =
    chosen words request (Ok (choice.Compare old new most steps)) asks.asked is.1
chooses words request (Ok (choice.CompareJson old new most)) asks is =
    chosen words request (Ok (choice.CompareJson old new most)) asks.asked is.1
chooses words request (Ok (choice.Log file start)) asks is =
    chosen words request (Ok (choice.Log file start)) asks.asked is.1
chooses words request (Ok (choice.Objects file)) asks is =
    chosen words request (Ok (choice.Objects file)) asks.asked is.1
chooses words request (Ok (choice.Judge file strict)) asks is =
    chosen words request (Ok (choice.Judge file strict)) asks.asked is.1
chooses words request (Ok (choice.Report file log)) asks is =
    chosen words request (Ok (choice.Report file log)) asks.asked is.1
chooses words request (Ok (choice.Points file)) asks is =
    chosen words request (Ok (choice.Points file)) asks.asked is.1
chooses words request (Ok (choice.Rules file)) asks is =
    chosen words request (Ok (choice.Rules file)) asks.asked is.1
chooses words request (Ok (choice.Stop file waits)) asks is =
    chosen words request (Ok (choice.Stop file waits)) asks.asked is.1
chooses words request (Ok (choice.Status file waits)) asks is =
    chosen words request (Ok (choice.Status file waits)) asks.asked is.1
chooses words request (Ok (choice.Init site)) asks is =
    chosen words request (Ok (choice.Init site)) asks.asked is.1
chooses words request (Ok (choice.Ask file from to deed)) asks is =
    chosen words request (Ok (choice.Ask file from to deed)) asks.asked is.1
chooses words request (Ok (choice.State config state)) asks is =
    chosen words request (Ok (choice.State config state)) asks.asked is.1
chooses words request (Ok (choice.Reload config file was)) asks is =
    chosen words request (Ok (choice.Reload config file was)) asks.asked is.1
chooses words request (Ok (choice.Suggest file fills exact)) asks is =
    chosen words request (Ok (choice.Suggest file fills exact)) asks.asked is.1
