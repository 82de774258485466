pub mod PlacesLaw
pub mod permissions_lemmas
pub mod warnings_lemmas
pub mod lint_lemmas
pub mod comparison_lemmas
