pub mod PlanLaws
mod AheadLaws
mod BoundLaws
mod FactLaws
mod LeafLaws
mod WriteLaws
