pub mod Chain
pub mod ChainLaws
pub mod Node
pub mod Stakes
pub mod StakesLaws
pub mod Table
pub mod TableLaws
