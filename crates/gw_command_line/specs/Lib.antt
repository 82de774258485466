pub mod Calls
pub mod CommandLine
pub mod Commands
pub mod Requests
pub mod options
