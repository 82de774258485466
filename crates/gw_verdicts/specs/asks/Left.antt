-- What is left to read of the asks of a text, and how many of its lines show none.
use Rattle.std.specs.Prelude.{ℕ, List, Option, option_map}
use Rattle.gw_verdicts.specs.declared.asks.lent.Lent.{Lent}
use Rattle.gw_verdicts.specs.declared.asks.reader.AskLines.{AskLines}
use Rattle.gw_verdicts.specs.asks.Position.{Rest, rest_at}

abbrev pub rest_in : {R : Type 0} → (R → Option (List ℕ)) → AskLines R → Option Rest
rest_in left asks = rest_at asks.cursor (left asks.source)

-- the octets that are left to give, if it is known what the source has left
abbrev pub asks_left : {R : Type 0} → (R → Option (List ℕ)) → AskLines R → Option (List ℕ)
asks_left left asks = option_map (λ rest. rest.octets) (rest_in left asks)

-- how many lines in all show no ask: those that were passed over and those to come, at most 2^64 - 1
abbrev pub unread_in_all : {R : Type 0} → (R → Option (List ℕ)) → AskLines R → Option ℕ
unread_in_all left asks = option_map (λ rest. rest.unread) (rest_in left asks)

-- how many of them were passed over
abbrev pub unread_by : {R : Type 0} → AskLines R → ℕ
unread_by asks = asks.cursor.unread

-- the octets that a source has left which is lent, if they are known
abbrev pub lent_left : {R : Type 0} → (R → Option (List ℕ)) → Lent R → Option (List ℕ)
lent_left left lent = left lent.source.now
