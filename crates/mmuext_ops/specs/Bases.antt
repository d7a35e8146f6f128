-- What a new base does, passed on to those who speak of whole turns.
pub use Rattle.table_bases.specs.declared.words.Base.{Base}
pub use Rattle.table_bases.specs.declared.words.Base.TheVariants.{Kernel, User}
pub use Rattle.table_bases.specs.Asking.{LeavesBase, may_rise, of_base, user_frame}
pub use Rattle.table_bases.specs.Course.{AcquiresTop, ReleasesOld, SetsBase}
