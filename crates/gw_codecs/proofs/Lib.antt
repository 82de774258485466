pub mod tags_lemmas
pub mod apdu_lemmas
pub mod services_lemmas
pub mod names_lemmas
