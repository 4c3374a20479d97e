pub mod Holds
pub mod Entries
pub mod Places
pub mod Sends
pub mod Backs
pub mod Owners
pub mod Told
