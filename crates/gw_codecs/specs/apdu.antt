pub mod Numbers
pub mod Apdu
pub mod Reading
pub mod Answers
pub mod Reasons
