pub mod continuity_lemmas
pub mod restoring_lemmas
pub mod keeping_lemmas
