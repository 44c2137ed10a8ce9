pub mod NodeConstants
