pub mod Sets
pub mod Fields
pub mod Ticks
pub mod Intervals
pub mod Elements
pub mod Grammar
