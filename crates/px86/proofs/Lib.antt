mod Building
mod Counts
pub mod Parse
mod Numbers
mod Questions
mod Requests
mod EachFile
mod WentOn
mod CheckSteps
