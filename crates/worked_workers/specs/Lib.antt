pub mod ReportRounds
