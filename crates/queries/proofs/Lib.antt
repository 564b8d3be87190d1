pub mod CasesPX
mod CasesSet
pub mod Framed
pub mod Origins
pub mod Placing
pub mod Sheets
pub mod Stands
pub mod Valued
pub mod Singly
