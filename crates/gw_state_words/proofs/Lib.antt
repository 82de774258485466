mod Appending
mod TextLaws
pub mod takeover_lemmas
