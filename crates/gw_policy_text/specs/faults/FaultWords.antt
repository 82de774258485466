-- What is reported first of a fault, in words.
use Rattle.std.specs.Prelude.{ℕ, true, false, nat_lt, if◌then◌else◌, List, [], ◌∷◌, ◌++◌, length, codes, decimal}
use Rattle.std.specs.Prelude.{Option, Some, None}
use Rattle.std.specs.Fmt.{signed_decimal}
use Rattle.toml.specs.Data.{Data, string, integer, float, boolean, datetime, array, table}
use Rattle.gw_configuration.specs.declared.fault.ConfigFault.{ConfigFault}
use Rattle.gw_configuration.specs.declared.fault.ConfigFault.TheVariants.{UnknownKey, Missing}
use Rattle.gw_policy_text.specs.keys.Value.{values_of}

-- the words of a value

-- a text, or how long it is
abbrev pub text_words : List ℕ → List ℕ
text_words text =
    if nat_lt 64 (length text) then codes "a text of " ++ decimal (length text) ++ codes " octets"
    else codes "\"" ++ text ++ codes "\""

-- one value
abbrev pub single_words : Data → List ℕ
single_words (integer number) = signed_decimal number
single_words (string text) = text_words text
single_words (boolean true) = codes "true"
single_words (boolean false) = codes "false"
single_words (float _) = codes "a number with a fraction"
single_words (datetime _) = codes "a date or a time"
single_words (array _) = codes "a list"
single_words (table _) = codes "a table"

-- the values of a list of two, or how many a list has
abbrev pub list_words : List Data → List ℕ
list_words (low ∷ high ∷ []) = codes "[" ++ single_words low ++ codes ", " ++ single_words high ++ codes "]"
list_words values = codes "a list of " ++ decimal (length values)

-- a value as it is written in the text
abbrev pub value_words : Data → List ℕ
value_words (array items) = list_words (values_of items)
value_words value = single_words value

-- what is reported first of a fault: that the key is unknown or missing, or else the value that is there
abbrev pub fault_words : ConfigFault → Option Data → List ℕ
fault_words UnknownKey value = codes "is no key of this table"
fault_words Missing value = codes "is missing"
fault_words fault (Some value) = value_words value
fault_words fault None = []
