pub mod QuotePrintout
pub mod PrintLaws
