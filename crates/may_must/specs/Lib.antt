pub mod MaySearch
