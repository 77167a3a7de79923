pub mod CachedFiles
pub mod Fronts
pub mod Grown
pub mod Keeping
pub mod SortedNames
pub mod Firsts
