-- # What the public contracts say
-- The session machine of makefiles
pub mod Sessions
pub use Rattle.mk_edit_language.specs.CommandViews
-- Calls that make an edit of texts
pub mod Applied
-- What a session stores
pub mod StoredSessions
-- Calls in turn
pub mod InTurn
-- Groups of edits that are one call
pub mod Groups
-- Any calls
pub mod Calls
pub mod SessionLaws
pub mod CallerLaws
-- Lookups
pub mod Lookups
pub mod LookupLaws
pub mod Indices
-- What a session does, in bytes and lines alone
pub mod Statement
-- # Vocabulary of private contracts
-- What lookups see
pub mod ValuesSeen
pub mod LineCauses
