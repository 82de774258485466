pub mod AskCommand
pub mod Calls
pub mod CommandLine
pub mod Commands
pub mod InitCommand
pub mod Requests
