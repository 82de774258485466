-- The bodies by which the device answers a ReadProperty and a ReadPropertyMultiple (ISO 16484-5,
-- clauses 15.5.1.2 and 15.7.1.2), as they are written. Values are between what opens and what
-- closes them.
use Rattle.std.specs.Prelude.{ℕ, List, ◌++◌, Option}
use Rattle.gw_codecs.specs.declared.tags.tag.Kind.TheVariants.{Opening, Closing}
use Rattle.gw_codecs.specs.tags.Tag.{canonical}
use Rattle.gw_codecs.specs.tags.List.{context}
use Rattle.gw_codecs.specs.tags.Context.{in_context}
use Rattle.gw_codecs.specs.tags.Number.{unsigned_encoding}
use Rattle.gw_codecs.specs.declared.apdu.writing.ServiceError.{ServiceError}
use Rattle.gw_codecs.specs.apdu.Answers.{class_and_code}
use Rattle.gw_codecs.specs.services.Read.{Read, read_encoding, number_part}

abbrev pub opening : ℕ → List ℕ
opening tag = canonical (context tag Opening)

abbrev pub closing : ℕ → List ℕ
closing tag = canonical (context tag Closing)

-- ReadProperty: [0] object, [1] property, [2] index where it was asked for; then the value between
-- [3] and [3]
abbrev pub read_answer_head : Read → List ℕ
read_answer_head r = read_encoding r ++ opening 3

abbrev pub read_answer_tail : List ℕ
read_answer_tail = closing 3

-- an item of an object in the answer to a ReadPropertyMultiple: [2] property, [3] index where it was
-- asked for. The object's list is opened and closed as in the request (Multi.antt).
abbrev pub item_name : ℕ → Option ℕ → List ℕ
item_name p i = in_context 2 (unsigned_encoding p) ++ number_part 3 i

-- then its value between [4] and [4]
abbrev pub value_item_head : ℕ → Option ℕ → List ℕ
value_item_head p i = item_name p i ++ opening 4

abbrev pub value_item_tail : List ℕ
value_item_tail = closing 4

-- or the class and the code of an error between [5] and [5]
abbrev pub error_item : ℕ → Option ℕ → ServiceError → List ℕ
error_item p i why = item_name p i ++ (opening 5 ++ class_and_code why ++ closing 5)
