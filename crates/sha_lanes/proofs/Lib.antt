pub mod BlockLaws
pub mod HashLaws
pub mod LaneLaws
