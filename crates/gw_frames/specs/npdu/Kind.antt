-- The types of network layer messages that the standard names (clause 6.2.4).
use Rattle.std.specs.Prelude.{ℕ}
use Rattle.gw_frames.specs.declared.npdu.kind.MessageKind.{MessageKind}
use Rattle.gw_frames.specs.declared.npdu.kind.MessageKind.TheVariants as kinds

-- the number of a type
abbrev pub kind_number : MessageKind → ℕ
kind_number kinds.WhoIsRouterToNetwork = 0x00
kind_number kinds.IAmRouterToNetwork = 0x01
kind_number kinds.ICouldBeRouterToNetwork = 0x02
kind_number kinds.RejectMessageToNetwork = 0x03
kind_number kinds.RouterBusyToNetwork = 0x04
kind_number kinds.RouterAvailableToNetwork = 0x05
kind_number kinds.InitializeRoutingTable = 0x06
kind_number kinds.InitializeRoutingTableAck = 0x07
kind_number kinds.EstablishConnectionToNetwork = 0x08
kind_number kinds.DisconnectConnectionToNetwork = 0x09
kind_number kinds.WhatIsNetworkNumber = 0x12
kind_number kinds.NetworkNumberIs = 0x13
