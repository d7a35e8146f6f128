-- What is asked of a vCPU whose next operation is one pin.
use Rattle.std.specs.Prelude.{◌≡◌, ◌≤◌, ℕ, false, [], ◌∷◌, length, Some}
use Rattle.xp_words.specs.declared.ops.Call.TheVariants as calls
use Rattle.xp_words.specs.declared.ops.ExtOp.{ExtOp}
use Rattle.xp_words.specs.declared.ops.Op.TheVariants as ops
use Rattle.xp_words.specs.declared.place.Place.TheVariants.{Kind, Life}
use Rattle.xp_board.specs.Readings.{domain_of}
use Rattle.xp_board.specs.Told.{PortValue, told_word}
use Rattle.answer_laws.specs.Alone.{IsAlone}
use Rattle.table_words.specs.OldWords.{old_place}
use Rattle.table_words.specs.declared.old_words.OldWord.TheVariants.{First, Second}
use Rattle.table_law.specs.Lawful.{IsAtRest}
use Rattle.mmuext_ops.specs.Course.{IsPinnedAs}
use Rattle.mmuext_ops.specs.Elements.{ext_element}
use Rattle.mmuext_ops.specs.declared.element.Element.TheVariants.{Pin}
use Rattle.vcpu_turn.specs.Cpus.{Processing, begun, next_of}
use Rattle.vcpu_turn.specs.Turning.{IsOf}

-- A vCPU stands, between its turns, before an operation that is one pin: of frame f, as a table of that level.
pub record BeginsWithPin (v : PortValue) (c : Processing) (f level : ℕ) : Type 0 where
  -- nobody else holds anything, and the machine has no other vCPU
  pub alone : IsAlone v
  pub only : length v.post.machine.vcpu_domain ≡ 1
  -- the port is its own, and it makes turns
  pub port : IsOf v c
  pub runs : c.retired ≡ false
  -- nothing is done of its next operation, and that is a list of this one element
  pub begins : c.at ≡ begun
  pub op : ExtOp
  pub next : next_of c ≡ Some (ops.One (calls.Ext (op ∷ [])))
  pub pins : ext_element op ≡ Pin f level
  -- the level is one of those of tables
  pub low : 1 ≤ level
  pub high : level ≤ 4
  -- nothing is left to be settled: neither of its old words names a frame
  pub first : told_word v (old_place v.post.vcpu First) ≡ 0
  pub second : told_word v (old_place v.post.vcpu Second) ≡ 0
  -- its domain lives
  pub lives : told_word v (Life (domain_of v.post.machine v.post.vcpu)) ≡ 0
  -- the words are at rest: no frame is left unfinished
  pub rest : IsAtRest v.post.machine (told_word v)
  -- the frame is not pinned with the type of that level
  pub free : IsPinnedAs level (told_word v (Kind f)) → ⊥
