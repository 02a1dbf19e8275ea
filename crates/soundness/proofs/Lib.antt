pub mod GroupLaws
pub mod TableLaws
pub mod ColumnLaws
pub mod StagedLaws
pub mod FlatLaws
pub mod WordLaws
pub mod ForceLaws
pub mod Whole
