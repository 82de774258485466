pub mod BegunLaw
pub mod BeginningLaw
pub mod Putting
pub mod suggestion_lemmas
pub mod migration_lemmas
