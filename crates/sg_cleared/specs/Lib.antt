-- What a reader of the law that an honest office is cleared believes.
pub mod Laws
