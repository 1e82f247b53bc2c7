pub mod Trailers
pub mod Laws
