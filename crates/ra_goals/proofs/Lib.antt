pub mod ChooseLemmas
