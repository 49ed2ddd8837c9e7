-- For all crates above.
pub mod Stops
-- For this crate alone.
mod Asks
mod Traces
mod HistoryMore
mod Stepping
mod Reports
mod Words
mod HookText
mod Rules
mod Places
mod QuietSteps
