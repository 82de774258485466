pub mod Repeats
pub mod Twice
pub mod Prefixes
pub mod Keys
pub mod Showing
pub mod sameness_lemmas
