pub mod Quotes
pub mod GridLaws
pub mod NumberLaws
pub mod PriceLaws
pub mod RowLaws
pub mod JobLaws
