-- An event with what its step handed over between its cells.
pub use Rattle.hv_model.specs.declared.entry.Entry.{Entry}
pub use Rattle.hv_rules.specs.Carry.{Carry, nothing}
pub use Rattle.hv_rules.specs.Handed.{handed_over}
