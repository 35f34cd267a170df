pub mod Accepted
pub mod Colourings
pub mod DraftViews
pub mod TableViews
pub mod TableSays
pub mod Those
pub mod ViewLaws
