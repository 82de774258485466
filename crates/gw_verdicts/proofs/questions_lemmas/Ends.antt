-- The line of a denial ends with a line feed, and without it has the denial's words.
use Rattle.std.proofs.Common.{◌≡◌, ◌∙◌, ℕ, Bool, List, [], ◌∷◌, ◌++◌, None, refl, sym, ap, is_some, codes}
use Rattle.std.specs.Fmt.{decimal}
use Rattle.std.specs.List.{flat_map}
use Rattle.gw_addr.specs.Station.{two_digits}
use Rattle.gw_audit.specs.declared.denial.Denial.{Denial}
use Rattle.gw_audit.specs.Entry.{IsLineOf, IsShowable}
use Rattle.gw_audit.specs.Line.{field_text, line_text, operation_word, stations_of, stations_text}
use Rattle.gw_log_words.specs.Translation.{IsTranslatedAs, TranslatesEach, TranslatesWords}
use Rattle.gw_log_words.specs.Words.{words}

own_of : Denial → List ℕ
own_of d =
    decimal d.number ++ codes " " ++ decimal d.tick ++ codes " " ++ decimal d.port
    ++ codes " " ++ decimal d.source.net ++ codes ":" ++ flat_map two_digits d.source.mac
    ++ codes " " ++ operation_word (is_some d.ask.sender) d.ask.operation
    ++ codes " dst=" ++ field_text d.ask.destination_network
    ++ codes " svc=" ++ field_text d.ask.service
    ++ codes " obj=" ++ field_text d.ask.object_type ++ codes "," ++ field_text d.ask.instance
    ++ codes " prop=" ++ field_text d.ask.property
    ++ codes " prio=" ++ field_text d.ask.priority
    ++ codes " rule=" ++ d.rule ++ stations_text (stations_of d.ask)

line_ends : (d : Denial) → line_text d ≡ own_of d ++ 10 ∷ []
unfolding line_text own_of
line_ends d = refl

-- what is translated of the line without its end is the words
pub own_words : (d : Denial) (is_allowed : Bool) (line own text : List ℕ) → IsShowable d → line ≡ line_text d
    → ((front : List ℕ) (end : ℕ) → line ≡ front ++ end ∷ [] → own ≡ front) → IsTranslatedAs None is_allowed own text
    → TranslatesEach → TranslatesWords → text ≡ words is_allowed d ++ 10 ∷ []
own_words d is_allowed line own text shown is ends translated each words_alone =
    let front : own ≡ own_of d = ends (own_of d) 10 (is ∙ line_ends d) in
    let spelled : IsLineOf own d = ap (λ (t : List ℕ). t ++ 10 ∷ []) front ∙ sym (line_ends d) in
    words_alone is_allowed d text (each None is_allowed d own text shown spelled translated)
