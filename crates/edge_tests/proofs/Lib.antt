mod Changes
mod LoggedFile
