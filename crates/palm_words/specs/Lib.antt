pub mod Command
pub mod Items
pub mod Settings
