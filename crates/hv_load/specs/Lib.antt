pub use Rattle.hv_model.specs.Files
pub use Rattle.hv_bundle.specs.Bundle
