-- Tables of examples, computed from the definitions. They stand in the same crate, since an edit of a definition is checked with its own
-- crate alone, and it is the tables that refuse it.
pub mod Row
pub mod Cases
pub mod Several
pub mod Further
pub mod Published
pub mod Tables
