mod Lists
mod StructureReading
mod Voids
