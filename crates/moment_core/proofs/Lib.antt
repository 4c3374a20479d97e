pub mod DateLemmas
pub mod MonthLemmas
pub mod FormLemmas
pub mod PrintLemmas
