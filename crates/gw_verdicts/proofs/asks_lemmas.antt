pub mod StepLemmas
pub mod LawLemmas
