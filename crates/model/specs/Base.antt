-- Generic laws: cases, arrays with a point update, sums over a range. Nothing here knows the protocol.
pub mod Cases
pub mod Updates
pub mod Sums
unfoldable pub use Cases.*
unfoldable pub use Updates.*
unfoldable pub use Sums.*
