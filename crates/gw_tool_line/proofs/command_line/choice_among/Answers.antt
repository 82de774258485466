use Rattle.std.proofs.Common.{◌≡◌, ◌∙◌, ap, ap₂, sym, subst, Some, Result}
use mathlib.Core.Path.{fun_ext}
use Rattle.clap.specs.Words.{Text, all_of, first_of, first_value, found_of, rows_of, subcommand_rows_of}
use Rattle.clap.specs.declared.parser.matches.ArgMatches.TheViews.{out-ArgMatches}
use Rattle.clap.proofs.WalkLemmas.{first_value-rows, raw_values-rows}
use Rattle.gw_tool_line.specs.CommandLine.{IsChosen, values_of}
use Rattle.gw_tool_line.specs.Requests.{AllValues, Request, asked, asked_by, listed}
use Rattle.gw_command_line.specs.options.Values.{Values}
use Rattle.gw_command_line.proofs.options_lemmas.ParseLemmas.{entered_call}
use Rattle.gw_tool_line.proofs.command_line.choice_among.Goals as goal

pub returns-in-Some : goal.returns-in-Some
returns-in-Some c =
    let found = found_of c.in-Some.matches.now in
    let entered : subcommand_rows_of c.args.matches.now ≡ Some (c.in-Some.name.now, rows_of found) =
    entered_call (out-ArgMatches c.args.matches.now).subcommand c.in-Some.name.now (rows_of found) c.in-Some.ensures.name c.in-Some.ensures.rows in
    let values : (λ id. first_of id (rows_of found)) ≡ first_value found = fun_ext (λ id. sym (first_value-rows found id)) in
    let all : (λ id. listed (all_of id (rows_of found))) ≡ values_of found = fun_ext (λ id. ap listed (sym (raw_values-rows found id))) in
    let asks : asked_by (subcommand_rows_of c.args.matches.now) ≡ asked c.in-Some.name.now (first_value found) (values_of found) =
    ap asked_by entered ∙ ap₂ (λ (value : Values) (many : AllValues). asked c.in-Some.name.now value many) values all in
    subst (λ (o : Result Request Text). IsChosen o c.choice_for.result) (sym asks) c.choice_for.ensures
