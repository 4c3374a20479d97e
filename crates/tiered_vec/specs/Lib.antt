pub mod Tiered
pub mod Tiers
