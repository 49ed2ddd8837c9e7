pub mod Scales
pub mod ScaleLaws
