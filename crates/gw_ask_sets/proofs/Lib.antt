pub mod regions_lemmas
pub mod shapes_lemmas
pub mod assertions_lemmas
