pub mod AcceptedFiles
pub mod DisplayLemmas
pub mod FirstLemmas
mod FormatLemmas
pub mod FrontLemmas
pub mod LineAlone
pub mod MacroLemmas
pub mod ReportLemmas
pub mod ReviewLemmas
pub mod ReviewedSets
pub mod TextLemmas
pub mod WalkLemmas
