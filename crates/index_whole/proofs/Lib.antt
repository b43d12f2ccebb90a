pub mod SizeLaws
pub mod ListLaws
