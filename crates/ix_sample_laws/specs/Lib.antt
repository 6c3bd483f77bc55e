pub mod Laws
pub mod SamplePlan
pub mod SampleRules
