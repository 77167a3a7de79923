pub mod DepthLemmas
pub mod EndLaws
pub mod NameLaws
pub mod PieceLaws
