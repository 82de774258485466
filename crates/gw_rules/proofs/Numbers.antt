-- Numbers that differ for what differs.
use Rattle.std.proofs.Common.{◌≡◌, ◌<◌, arith, ap}
use Rattle.gw_rules.specs.declared.service.Service.{Service}
use Rattle.gw_rules.specs.declared.service.Service.TheVariants.{Confirmed, Unconfirmed, NetworkMessage, BvllFunction, Pdu}
use Rattle.gw_rules.specs.Service.{own_number, service_number}

-- no two services share a number
pub one_service : (a b : Service) → own_number a < 256 → own_number b < 256 → service_number a ≡ service_number b → a ≡ b
one_service (Confirmed m) (Confirmed n) a b e = ap (λ k. Confirmed k) e
one_service (Confirmed m) (Unconfirmed n) a b e = absurd (omega arith)
one_service (Confirmed m) (NetworkMessage n) a b e = absurd (omega arith)
one_service (Confirmed m) (BvllFunction n) a b e = absurd (omega arith)
one_service (Confirmed m) (Pdu n) a b e = absurd (omega arith)
one_service (Unconfirmed m) (Confirmed n) a b e = absurd (omega arith)
one_service (Unconfirmed m) (Unconfirmed n) a b e = let same : m ≡ n = omega arith in ap (λ k. Unconfirmed k) same
one_service (Unconfirmed m) (NetworkMessage n) a b e = absurd (omega arith)
one_service (Unconfirmed m) (BvllFunction n) a b e = absurd (omega arith)
one_service (Unconfirmed m) (Pdu n) a b e = absurd (omega arith)
one_service (NetworkMessage m) (Confirmed n) a b e = absurd (omega arith)
one_service (NetworkMessage m) (Unconfirmed n) a b e = absurd (omega arith)
one_service (NetworkMessage m) (NetworkMessage n) a b e = let same : m ≡ n = omega arith in ap (λ k. NetworkMessage k) same
one_service (NetworkMessage m) (BvllFunction n) a b e = absurd (omega arith)
one_service (NetworkMessage m) (Pdu n) a b e = absurd (omega arith)
one_service (BvllFunction m) (Confirmed n) a b e = absurd (omega arith)
one_service (BvllFunction m) (Unconfirmed n) a b e = absurd (omega arith)
one_service (BvllFunction m) (NetworkMessage n) a b e = absurd (omega arith)
one_service (BvllFunction m) (BvllFunction n) a b e = let same : m ≡ n = omega arith in ap (λ k. BvllFunction k) same
one_service (BvllFunction m) (Pdu n) a b e = absurd (omega arith)
one_service (Pdu m) (Confirmed n) a b e = absurd (omega arith)
one_service (Pdu m) (Unconfirmed n) a b e = absurd (omega arith)
one_service (Pdu m) (NetworkMessage n) a b e = absurd (omega arith)
one_service (Pdu m) (BvllFunction n) a b e = absurd (omega arith)
one_service (Pdu m) (Pdu n) a b e = let same : m ≡ n = omega arith in ap (λ k. Pdu k) same
