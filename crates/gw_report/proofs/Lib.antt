pub mod Cells
pub mod Owning
pub mod page_lemmas
pub mod points_lemmas
