-- To believe, all (document 02, (vii)): Topics, what a body is about; Rights, who may send it by a table of rights; Ours, our table, in the request's words too.
pub mod Topics
pub mod Rights
pub mod Ours
