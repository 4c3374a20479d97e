mod Sums
mod JobSteps
mod ReportSteps
mod Each
