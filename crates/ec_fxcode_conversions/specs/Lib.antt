pub mod Conversions
pub mod Products
pub mod ConversionLaws
pub mod ProductLaws
