pub mod Breaches
pub mod Firsts
pub mod Laws
pub mod Mentions
