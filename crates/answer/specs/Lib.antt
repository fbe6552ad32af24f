pub mod StoreTexts
pub mod Texts
