pub mod MomentExamples
pub mod MomentLemmas
pub mod OnceLemmas
pub mod FieldsLemmas
pub mod LastLemmas
pub mod LawLemmas
pub mod NotedLemmas
pub mod StampLemmas
