-- What is asked of a message once it is known who sends it.
use Rattle.std.specs.Prelude.{Bool, List, [], ◌∷◌, ◌++◌, if◌then◌else◌}
use Rattle.std.specs.List.{list_all}
use Rattle.gw_rules.specs.Ask.{Ask}
use Rattle.gw_rules.specs.RuleList.{allows}
use Rattle.gw_rules.specs.declared.format.Format.{Format}
use Rattle.gw_rules.specs.declared.rule.Rule.{Rule}
use Rattle.gw_relay.specs.Entry.{claim_ask, enter_ask}
use Rattle.gw_relay.specs.Message.{Message}

-- of a stranger or not, who speaks for others or not
abbrev pub asks_where : List Rule → Format → Message → Bool → Bool → List Ask
asks_where rules format m is_stranger speaks_for_others =
    let enter = if is_stranger then enter_ask format m ∷ [] else [] in
    let claim = if speaks_for_others then claim_ask format m ∷ [] else [] in
    enter ++ (if list_all (allows rules) enter then claim else [])
