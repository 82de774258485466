mod AssertingLemmas
mod ChoiceLemmas
mod ComparingLemmas
mod CountLemmas
mod KeptLemmas
mod LinesLemmas
mod SuggestLemmas
