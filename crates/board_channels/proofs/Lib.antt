pub mod RetiredPart
