pub mod Negotiation
pub mod Transmission
pub mod Client
