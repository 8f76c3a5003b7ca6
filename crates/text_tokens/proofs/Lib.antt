pub mod OneMoreDigit
pub mod SplitLine
pub mod SplitToken
pub mod NumbersAreRead
pub mod LinesAndTokensAreRead
pub mod TestsThatPassed
