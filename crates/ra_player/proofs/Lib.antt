pub mod EndLemmas
pub mod AnswerLemmas
pub mod StatusLemmas
pub mod LeavesLemmas
