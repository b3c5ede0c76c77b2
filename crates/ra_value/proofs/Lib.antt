pub mod CountLemmas
mod CountedLemmas
mod GreatestLemmas
mod LawLemmas
mod OrdersLemmas
mod PartsLemmas
mod TurnLemmas
pub mod HitsLemmas
