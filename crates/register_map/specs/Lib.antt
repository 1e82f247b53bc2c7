pub mod AccessRule
pub mod AccessRefusals
