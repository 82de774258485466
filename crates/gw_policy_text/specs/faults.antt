pub mod Explanation
pub mod Near
pub mod Place
pub mod FaultWords
pub mod First
pub mod Keys
pub mod Wanted
