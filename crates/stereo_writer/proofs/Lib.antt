pub mod SpellingLaws
pub mod SameLaws
pub mod WritingLaws
pub mod WroteLaws
pub mod EntryLaws
pub mod EqualLaws
