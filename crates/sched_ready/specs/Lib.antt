pub mod Leading
pub mod Shelves
pub mod Due
pub mod Held
pub mod Patched
pub mod Patching
pub mod Kinds
