pub mod LogTexts
pub mod Memories
pub mod ReportOf
pub mod SummaryOf
pub mod WordTexts
