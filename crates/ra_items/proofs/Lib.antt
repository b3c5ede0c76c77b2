pub mod BoardLemmas
pub mod EarnedRuns
pub mod EventLemmas
pub mod ItemLemmas
pub mod ItemStates
pub mod KeptItems
mod ItemsRest
mod Listed
mod MadeRests
mod RestRuns
mod RestSteps
pub mod RestoreLemmas
pub mod RestoredRuns
pub mod RunsLemmas
pub mod SaveLemmas
pub mod SeenItems
pub mod ShapeLemmas
mod SkippedItems
mod StepAt
pub mod WaitingLemmas
