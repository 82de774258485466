-- The numbers of services, whose bases are this project's own.
use Rattle.std.specs.Prelude.{ℕ, ◌+◌}
use Rattle.gw_rules.specs.declared.service.Service.{Service}
use Rattle.gw_rules.specs.declared.service.Service.TheVariants.{Confirmed, Unconfirmed, NetworkMessage, BvllFunction}
use Rattle.gw_rules.specs.declared.service.Service.TheVariants.{Pdu}

-- the number under which asks and rules name a service: the base of its kind, and its own number
abbrev pub service_number : Service → ℕ
service_number (Confirmed choice) = choice
service_number (Unconfirmed choice) = 256 + choice
service_number (NetworkMessage kind) = 512 + kind
service_number (BvllFunction function) = 768 + function
service_number (Pdu kind) = 1024 + kind

-- its own number, which the standard gives it among those of its kind
abbrev pub own_number : Service → ℕ
own_number (Confirmed choice) = choice
own_number (Unconfirmed choice) = choice
own_number (NetworkMessage kind) = kind
own_number (BvllFunction function) = function
own_number (Pdu kind) = kind
