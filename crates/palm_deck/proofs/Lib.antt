pub mod Examples
pub mod Fields
pub mod ReadsBack
pub mod Records
pub mod Said
pub mod Written
