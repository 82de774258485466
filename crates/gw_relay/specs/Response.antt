-- What a step of the relay answers to a message.
use Rattle.std.specs.Prelude.{List, Option}
use Rattle.gw_rules.specs.Ask.{Ask}
use Rattle.gw_relay.specs.Sends.{Sending}
use Rattle.gw_relay.specs.declared.change.Change.{Change}

-- the asks in their order, the sends in theirs, and what is to be committed if there is something
pub record Response : Type 0 where
  pub asks : List Ask
  pub sends : List Sending
  pub change : Option Change
