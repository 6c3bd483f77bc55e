pub mod SampleConforms
pub mod SamplePlanned
