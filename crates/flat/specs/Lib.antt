pub mod FlatPlan
pub mod Limited
