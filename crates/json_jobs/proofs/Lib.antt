pub mod Outcomes
pub mod ReportsOfPrograms
pub mod EndsAsText
pub mod RunsEndAsText
pub mod Pairs
pub mod HuntsEndAsText
pub mod ExplainedRuns
pub mod QuestionsAsJson
