pub mod Among
pub mod Coverage
pub mod Few
pub mod Items
mod Handing
mod Others
mod Walks
