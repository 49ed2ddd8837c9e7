mod Fronts
mod Trials
