pub mod Row
pub mod Turns
pub mod RowLaws
pub mod LeadLaws
