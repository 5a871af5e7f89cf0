pub mod Weights
pub mod Keys
pub mod InOrder
pub mod Forests
pub mod Reading
pub mod Children
pub mod Paying
pub mod Sums
mod ReadingFiles
pub mod ReadingForests
pub mod ReadingGives
pub mod ReadingGrowth
pub mod ReadingSound
mod ReadingLists
mod ReadingMentions
mod ReadingRests
mod ReadingTrees
pub mod WrittenMarks
pub mod WrittenLines
pub mod ReadBackLines
pub mod ReadBackNodes
pub mod WrittenFiles
pub mod ReadBackTrees
pub mod ReadBackFiles
pub mod ReadBackGrowth
pub mod ReadBackMentions
pub mod ReadBackSteps
pub mod ReadBackWhole
