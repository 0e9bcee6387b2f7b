pub mod LaneLaws
pub mod RotationLaws
mod ScheduleLaws
pub mod ShortForms
