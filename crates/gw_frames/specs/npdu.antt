pub mod Numbers
pub mod Npdu
pub mod Reading
pub mod Onward
pub mod Kind
pub mod internal
