pub mod Spelled
pub mod Fault
pub mod Commands
pub mod Cutting
pub use Rattle.command_value.specs.Plain
