pub mod Streams
pub mod Options
pub mod Negotiation
