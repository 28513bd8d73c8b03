pub mod Many
pub mod Next
