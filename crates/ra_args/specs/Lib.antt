pub mod Words
pub mod JobCommand
pub mod JobWords
pub mod AuthorWords
