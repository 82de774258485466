pub mod bvll_lemmas
pub mod npdu_lemmas
