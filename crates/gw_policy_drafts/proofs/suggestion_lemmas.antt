pub mod FrontLaw
pub mod GivenLaw
pub mod GroupLaw
pub mod LeavingLaw
pub mod LinesLaw
pub mod SuggestLaw
pub mod TextLaw
pub mod Totals
