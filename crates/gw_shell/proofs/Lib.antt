mod ChoiceLemmas
mod DecidingLemmas
mod ReplayLemmas
