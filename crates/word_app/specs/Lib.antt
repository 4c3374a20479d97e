pub mod Rules
pub mod App
