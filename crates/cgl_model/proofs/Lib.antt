pub mod TermLaws
pub mod ScaleLaws
pub mod RowLaws
pub mod SideLaws
pub mod ColumnLaws
pub mod ListLaws
pub mod BuildLaws
pub mod RiseLaws
pub mod ShapeLaws
pub mod SideListLaws
pub mod RowListLaws
pub mod FormListLaws
pub mod PlaceLaws
mod AbsentLaws
mod RisingLaws
pub mod SideOrderLaws
