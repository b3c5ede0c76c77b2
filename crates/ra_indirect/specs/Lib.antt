pub mod Buckets
pub mod Growing
pub mod Interned
pub mod Pools
pub mod Trees
