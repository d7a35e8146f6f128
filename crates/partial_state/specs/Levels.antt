-- Levels of page tables.
use Rattle.std.specs.Prelude.{ℕ, zero, suc}
use Rattle.xp_words.specs.declared.kind.PageType.{PageType}
use Rattle.xp_words.specs.declared.kind.PageType.TheVariants as kinds

-- the type of a table of that level; 0 is ordinary memory
abbrev pub level_type : ℕ → PageType
level_type zero = kinds.Writable
level_type (suc zero) = kinds.L1
level_type (suc (suc zero)) = kinds.L2
level_type (suc (suc (suc zero))) = kinds.L3
level_type (suc (suc (suc (suc l)))) = kinds.L4
