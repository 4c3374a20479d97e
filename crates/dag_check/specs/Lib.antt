pub mod Orders
pub mod Searches
pub mod Names
pub mod NameFaults
pub mod Graphs
pub mod Faults
pub mod Reach
pub mod Layouts
