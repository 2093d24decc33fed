pub mod Each
pub mod Utf8
pub mod AskCodes
pub mod ReplyTexts
