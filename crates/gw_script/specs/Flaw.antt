-- What is wrong with a line that writes no event: the first that is, in the order of the flaws.
use Rattle.std.specs.Prelude.{◌≡◌, ◌≢◌, ℕ, ◌+◌, ◌-◌, ◌%◌, ◌≤◌, ◌<◌, List, ◌∷◌, ◌++◌, codes, length, get_or}
use Rattle.gw_addr.specs.declared.bip.BipAddr.{BipAddr}
use Rattle.gw_addr.specs.Address.{IsAddress, text_of}
use Rattle.gw_script.specs.Script.{WritesOctets}
use Rattle.gw_script.specs.declared.flaw.LineFlaw.{LineFlaw}
use Rattle.gw_script.specs.declared.flaw.LineFlaw.TheVariants as flaw

-- a line that ends with a carriage return
abbrev pub EndsWithReturn : List ℕ → Type 0
EndsWithReturn line = (0 < length line) × (get_or line (length line - 1) 0 ≡ 13)

-- a line of at most 4096 octets that doesn't
pub record HasEnd (line : List ℕ) : Type 0 where
  pub most : length line ≤ 4096
  pub no_return : ¬ (EndsWithReturn line)

-- it ends with a carriage return, and isn't too long
pub record HasReturn (line : List ℕ) : Type 0 where
  pub most : length line ≤ 4096
  pub returns : EndsWithReturn line

-- its end is as it must be, it isn't `tick`, and it doesn't begin with a character and a space
pub record HasNoForm (line : List ℕ) : Type 0 where
  pub end : HasEnd line
  pub no_tick : line ≢ codes "tick"
  pub no_begin : (first : ℕ) (rest : List ℕ) → ¬ (line ≡ first ∷ 32 ∷ rest)

-- its end is as it must be, and its first character, which a space follows, is the digit of no port
pub record HasNoPort (ports : ℕ) (line : List ℕ) : Type 0 where
  pub end : HasEnd line
  pub first : ℕ
  pub rest : List ℕ
  pub begins : line ≡ first ∷ 32 ∷ rest
  pub no_port : (port : ℕ) → 1 ≤ port → port ≤ ports → first ≢ 48 + port

-- a line that begins with the digit of a port and a space, which this rest follows; its end is as it must be
pub record HasPort (ports : ℕ) (line rest : List ℕ) : Type 0 where
  pub end : HasEnd line
  pub port : ℕ
  pub first : 1 ≤ port
  pub last : port ≤ ports
  pub begins : line ≡ (48 + port) ∷ 32 ∷ rest

-- no address with a space after it follows its port
pub record HasNoSender (ports : ℕ) (line : List ℕ) : Type 0 where
  pub rest : List ℕ
  pub port : HasPort ports line rest
  pub no_sender : (from : BipAddr) (written : List ℕ) → IsAddress from → ¬ (rest ≡ text_of from ++ 32 ∷ written)

-- what follows its port, the address and a space writes no octets, and is so
pub record HasNoOctets (ports : ℕ) (line : List ℕ) (IsSo : List ℕ → Type 0) : Type 0 where
  pub from : BipAddr
  pub address : IsAddress from
  pub written : List ℕ
  pub port : HasPort ports line (text_of from ++ 32 ∷ written)
  pub no_octets : (octets : List ℕ) → ¬ (WritesOctets written octets)
  pub is_so : IsSo written

-- a text with an odd number of characters, and one with an even number
abbrev pub IsOdd : List ℕ → Type 0
IsOdd text = length text % 2 ≢ 0

abbrev pub IsEven : List ℕ → Type 0
IsEven text = length text % 2 ≡ 0

-- what a flaw says of a line: nothing before it is wrong
abbrev pub IsFlaw : ℕ → List ℕ → LineFlaw → Type 0
IsFlaw ports line flaw.Long = 4096 < length line
IsFlaw ports line flaw.CarriageReturn = HasReturn line
IsFlaw ports line flaw.Form = HasNoForm line
IsFlaw ports line flaw.Port = HasNoPort ports line
IsFlaw ports line flaw.Address = HasNoSender ports line
IsFlaw ports line flaw.OddDigits = HasNoOctets ports line IsOdd
IsFlaw ports line flaw.Digits = HasNoOctets ports line IsEven

-- law: a line has one first flaw
abbrev pub OneFlaw : Type 0
OneFlaw = (ports : ℕ) (line : List ℕ) (a b : LineFlaw) → IsFlaw ports line a → IsFlaw ports line b → a ≡ b
