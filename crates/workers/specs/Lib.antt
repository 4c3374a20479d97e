pub mod Shows
pub mod Logs
pub mod Accounts
pub mod Passes
pub mod Ends
pub mod Threads
pub mod Accounted
