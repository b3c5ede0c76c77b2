pub mod BoardLemmas
pub mod CountLemmas
pub mod PlainLemmas
