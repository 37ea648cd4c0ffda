pub mod EventLaws
pub mod EventSizes
pub mod EventRefusals
