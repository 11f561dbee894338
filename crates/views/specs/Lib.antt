-- To be read in this order, beside document 01, "Sets and sequences".
pub mod Choice
pub mod View
pub mod Chain
pub mod Row
