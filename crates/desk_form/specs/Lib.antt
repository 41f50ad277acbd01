-- What the contracts of `desk_form` cite.
pub mod Replies
