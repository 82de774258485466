-- Where a fault of a configuration is: what is there, and the words of the place.
use Rattle.std.specs.Prelude.{ℕ, List, [], ◌++◌, codes, decimal, Option, Some, None, option_and_then}
use Rattle.toml.specs.Data.{Data, Members, as_str, as_table, at, get_member}
use Rattle.gw_configuration.specs.declared.located.Place.{Place}
use Rattle.gw_configuration.specs.declared.located.Place.TheVariants.{Text, Top, Device, Port, Peer, Route}
use Rattle.gw_configuration.specs.declared.located.Place.TheVariants.{Object, Set, Rule, Assertion}
use Rattle.gw_configuration.specs.Located.{Located, numbered}
use Rattle.gw_policy_text.specs.Lines.{table_line}

-- what is at a place

-- the table at this position of the list at a key
abbrev pub listed_table : List ℕ → ℕ → Members → Option Members
listed_table key position top = option_and_then as_table (option_and_then (at position) (get_member key top))

-- the table of a place
abbrev pub table_at : Place → Members → Option Members
table_at Text top = None
table_at Top top = Some top
table_at Device top = option_and_then as_table (get_member (codes "device") top)
table_at (Port port) top = listed_table (codes "port") port top
table_at (Peer port peer) top =
    option_and_then (listed_table (codes "peer") peer) (listed_table (codes "port") port top)
table_at (Route route) top = listed_table (codes "route") route top
table_at (Object object) top = listed_table (codes "object") object top
table_at (Set set) top = listed_table (codes "set") set top
table_at (Rule rule) top = listed_table (codes "rule") rule top
table_at (Assertion assertion) top = listed_table (codes "assert") assertion top

-- the text at the key `name`
abbrev pub name_in : Option Members → Option (List ℕ)
name_in found = option_and_then as_str (option_and_then (get_member (codes "name")) found)

-- the name of an object, a set, a rule or an assertion, where it is a text
abbrev pub name_at : Place → Members → Option (List ℕ)
name_at (Object object) top = name_in (table_at (Object object) top)
name_at (Set set) top = name_in (table_at (Set set) top)
name_at (Rule rule) top = name_in (table_at (Rule rule) top)
name_at (Assertion assertion) top = name_in (table_at (Assertion assertion) top)
name_at _ top = None

-- the value, or of a list the item at this position
abbrev pub item_or : Option ℕ → Data → Option Data
item_or None value = Some value
item_or (Some position) value = at position value

-- the value where a fault is
abbrev pub value_at : Located → Members → Option Data
value_at located top =
    option_and_then (item_or located.item) (option_and_then (get_member located.key) (table_at located.place top))

-- the words of a place

-- a table, by its number where there are several
abbrev pub table_words : Place → List ℕ
table_words Text = codes "the text"
table_words Top = []
table_words Device = codes "device"
table_words (Port port) = numbered (codes "port ") port
table_words (Peer port peer) = numbered (codes "port ") port ++ numbered (codes ": peer ") peer
table_words (Route route) = numbered (codes "route ") route
table_words (Object object) = numbered (codes "object ") object
table_words (Set set) = numbered (codes "set ") set
table_words (Rule rule) = numbered (codes "rule ") rule
table_words (Assertion assertion) = numbered (codes "assert ") assertion

-- a name in quotes
abbrev pub name_words : Option (List ℕ) → List ℕ
name_words None = []
name_words (Some name) = codes " \"" ++ name ++ codes "\""

-- the line on which it begins
abbrev pub line_words : Option ℕ → List ℕ
line_words None = []
line_words (Some line) = codes " (line " ++ decimal line ++ codes ")"

-- a table, its name and its line; the one that has the others is left out
abbrev pub table_part : Place → Option (List ℕ) → (line : Option ℕ) → List ℕ
table_part Top name line = []
table_part place name line = table_words place ++ name_words name ++ line_words line ++ codes ": "

-- a key, where the fault has one
abbrev pub key_part : List ℕ → List ℕ
key_part [] = []
key_part key = key ++ codes ": "

-- an item of a list, by its number from 1
abbrev pub item_part : Option ℕ → List ℕ
item_part None = []
item_part (Some position) = numbered (codes "item ") position ++ codes ": "

-- the table of the text, its number from 1, its name and its line, the key, and of a list the item
abbrev pub place_words_at : (line : Option ℕ) → Located → Members → List ℕ
place_words_at line located top =
    table_part located.place (name_at located.place top) line ++ key_part located.key ++ item_part located.item

abbrev pub place_words : Located → Members → (text : List ℕ) → List ℕ
place_words located top text = place_words_at (table_line located.place top text) located top
