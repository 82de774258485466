pub mod Numbers
pub mod Trial
pub mod internal
