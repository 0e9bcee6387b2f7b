mod Ended
mod FromFiles
mod Images
mod Saying
mod Surviving
