pub mod Paths
pub mod Statuses
pub mod Tables
pub mod Views
