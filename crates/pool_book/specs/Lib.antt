pub mod Limits
pub mod Pools
pub mod Ranks
pub mod Rooms
pub mod Keys
