pub mod ActiveMacros
pub mod Histories
pub mod Laws
pub mod Order
