-- The answers to a confirmed request (ISO 16484-5, clauses 20.1.4, 20.1.5 and 20.1.7 to 20.1.9),
-- as they are written.
use Rattle.std.specs.Prelude.{◌≡◌, ℕ, List, [], ◌∷◌, ◌++◌, None, Ok}
use Rattle.gw_codecs.specs.tags.Value.{value_encoding, enumerated}
use Rattle.gw_codecs.specs.declared.apdu.header.Header.{Header}
use Rattle.gw_codecs.specs.declared.apdu.header.Header.TheVariants.{SimpleAck, ComplexAck, Error, Reject, Abort}
use Rattle.gw_codecs.specs.declared.apdu.writing.ServiceError.{ServiceError}
use Rattle.gw_codecs.specs.apdu.Reading.{apdu_at}

abbrev pub simple_ack : ℕ → ℕ → List ℕ
simple_ack invoke service = 0x20 ∷ invoke ∷ service ∷ []

-- the header of a ComplexACK that isn't segmented
abbrev pub complex_ack : ℕ → ℕ → List ℕ
complex_ack invoke service = 0x30 ∷ invoke ∷ service ∷ []

-- an error's class and code (clause 21), one after the other
abbrev pub class_and_code : ServiceError → List ℕ
class_and_code why = value_encoding (enumerated why.class) ++ value_encoding (enumerated why.code)

abbrev pub error : ℕ → ℕ → ServiceError → List ℕ
error invoke service why = 0x50 ∷ invoke ∷ service ∷ [] ++ class_and_code why

abbrev pub reject : ℕ → ℕ → List ℕ
reject invoke reason = 0x60 ∷ invoke ∷ reason ∷ []

-- an Abort by a server: bit 0 of the first octet is set
abbrev pub abort : ℕ → ℕ → List ℕ
abort invoke reason = 0x71 ∷ invoke ∷ reason ∷ []

-- ---- what holds of them

-- the octets are read as this header and these octets after it
abbrev pub ReadAs : List ℕ → Header → List ℕ → Type 0
ReadAs octets header rest = apdu_at octets ≡ Ok (record { header = header; rest = rest })

-- What is written as an answer is read again as that answer.
pub record AnswersAreRead : Type 0 where
  pub simple_acks : (invoke service : ℕ) → ReadAs (simple_ack invoke service) (SimpleAck invoke service) []
  pub complex_acks : (invoke service : ℕ) (body : List ℕ) →
      ReadAs (complex_ack invoke service ++ body) (ComplexAck None invoke service) body
  pub errors : (invoke service : ℕ) (why : ServiceError) →
      ReadAs (error invoke service why) (Error invoke service) (class_and_code why)
  pub rejects : (invoke reason : ℕ) → ReadAs (reject invoke reason) (Reject invoke reason) []
  pub aborts : (invoke reason : ℕ) → ReadAs (abort invoke reason) (Abort invoke reason) []
