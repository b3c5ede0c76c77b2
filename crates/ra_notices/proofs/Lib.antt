pub mod AnyLemmas
pub mod KeyLemmas
pub mod LockLemmas
pub mod PassLemmas
pub mod StandingLemmas
