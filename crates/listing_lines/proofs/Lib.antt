pub mod Items
pub mod Office
