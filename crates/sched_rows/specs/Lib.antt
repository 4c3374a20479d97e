pub mod Days
pub mod EachMinute
