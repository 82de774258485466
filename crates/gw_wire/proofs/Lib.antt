mod DeferLemmas
mod HoldLemmas
mod PortLemmas
mod SpacedLemmas
mod TimedLemmas
mod TurnLemmas
