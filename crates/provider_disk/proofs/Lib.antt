pub mod OpenedLemmas
pub mod OpenedKept
pub mod UponLemmas
pub mod OpenedImages
pub mod Above
pub mod ReadsAbove
