pub mod DeedLemmas
