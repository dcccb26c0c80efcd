mod Replies
mod Texts
