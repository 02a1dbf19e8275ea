pub mod EntityPart
pub mod Control
pub mod DraftWords
