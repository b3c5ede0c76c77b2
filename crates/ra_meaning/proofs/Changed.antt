-- The law of a changed set.
pub mod ChangedSets
pub mod ItemByItem
pub mod NamedNumbers
pub mod NamedThings
pub mod ReadByNames
pub mod ReadByOther
pub mod SetTexts
pub mod SharedOwns
pub mod TakenOver
pub mod WorkedChange
