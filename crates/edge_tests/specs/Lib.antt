pub mod Change
pub mod LoggedFile
