pub mod CountLemmas
mod GatherLemmas
pub mod GroupsLemmas
mod LawLemmas
mod OrdersLemmas
pub mod HitsLemmas
