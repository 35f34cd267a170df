pub mod ThoseLaws
pub mod Reaches
pub mod ColouredLaws
pub mod Folded
pub mod Chains
pub mod TableReversal
pub mod DraftReversal
