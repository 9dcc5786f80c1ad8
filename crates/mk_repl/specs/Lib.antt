-- # What the public contracts say
pub mod AnswerLines
pub mod CommandLines
pub mod InputLines
pub mod QueryTexts
pub mod Quits
pub mod Replies
pub mod Requests
pub mod Reverted
pub mod SessionFaults
pub mod SessionForms
pub mod SessionReplies
pub mod StandingScripts
pub mod Talks
-- # Vocabulary of private contracts
pub mod Answered
pub mod CommandLogs
