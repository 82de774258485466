-- What a line that writes no event has and lacks.
use Rattle.std.proofs.Common.{◌≡◌, ◌∙◌, ℕ, ◌+◌, ◌≤◌, List, ◌∷◌, ◌++◌, Option, Some, None, true, ap}
use Rattle.std.specs.Prelude.{IfSome}
use Rattle.std.specs.Option.{is_some}
use Rattle.gw_addr.specs.declared.bip.BipAddr.{BipAddr}
use Rattle.gw_addr.specs.Address.{IsAddress, text_of}
use Rattle.gw_script.specs.Event.{Event, Datagram, Tick}
use Rattle.gw_script.specs.Flaw.{HasEnd, HasNoForm, HasNoOctets, HasPort}
use Rattle.gw_script.specs.Script.{IsLine}

-- what a value that is there is
pub some_of : (r : Option ℕ) (P : ℕ → Type 0) → is_some r ≡ true → IfSome r P → (n : ℕ) × P n
some_of None P is has = absurd cc
some_of (Some n) P is has = (n, has)

-- a line of another form that writes no event isn't `tick`
pub no_form : (ports : ℕ) (line : List ℕ) → HasEnd line → ((e : Event) → ¬ (IsLine ports line e))
    → ((first : ℕ) (rest : List ℕ) → ¬ (line ≡ first ∷ 32 ∷ rest)) → HasNoForm line
no_form ports line end none no_begin =
    record { end = end; no_tick = λ tick. none Tick (record { most = end.most; writes = tick }); no_begin = no_begin }

-- a line whose first character is the digit of a port
pub has_port : (ports : ℕ) (line : List ℕ) (first port : ℕ) (rest : List ℕ) → HasEnd line → line ≡ first ∷ 32 ∷ rest
    → (1 ≤ port) × (port ≤ ports) × (first ≡ 48 + port) → HasPort ports line rest
has_port ports line first port rest end begins names = record {
  end = end;
  port = port;
  first = names.0;
  last = names.1;
  begins = begins ∙ ap (λ (c : ℕ). c ∷ 32 ∷ rest) names.2;
}

-- a line of a port and an address that writes no event has no octets
pub no_octets : (ports : ℕ) (line rest text : List ℕ) (from : BipAddr) (IsSo : List ℕ → Type 0)
    → ((e : Event) → ¬ (IsLine ports line e)) → HasPort ports line rest → IsAddress from → rest ≡ text_of from ++ 32 ∷ text → IsSo text
    → HasNoOctets ports line IsSo
no_octets ports line rest text from IsSo none port address behind so =
    let spelled : line ≡ (48 + port.port) ∷ 32 ∷ (text_of from ++ 32 ∷ text) = port.begins ∙ ap (λ (r : List ℕ). (48 + port.port) ∷ 32 ∷ r) behind in record {
      from = from;
      address = address;
      written = text;
      port = record { end = port.end; port = port.port; first = port.first; last = port.last; begins = spelled };
      no_octets = λ octets writes. none (Datagram port.port from octets) (record {
        most = port.end.most;
        writes = record {
          first = port.first;
          last = port.last;
          address = address;
          written = text;
          writes = writes;
          spelled = spelled;
        };
      });
      is_so = so;
    }
