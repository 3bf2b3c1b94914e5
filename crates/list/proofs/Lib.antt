pub mod ChildrenLaws
pub mod TypeLaws
