pub mod BuildLemmas
pub mod ParseLemmas
pub mod ValueLemmas
