-- How a port stands between the parts of a destruction by the only vCPU: by its words alone, whatever is in hand.
use Rattle.std.specs.Prelude.{◌≡◌, ℕ, Result, Ok, Err}
use Rattle.xp_words.specs.declared.reply.Pause.TheVariants.{Due}
use Rattle.xp_words.specs.declared.reply.Stop.{Stop}
use Rattle.xp_words.specs.declared.reply.Stop.TheVariants.{Paused}
use Rattle.xp_board.specs.Told.{Post, PortValue, told_word}
use Rattle.answer_laws.specs.Alone.{IsAlone}
use Rattle.table_words.specs.OldWords.{old_place}
use Rattle.table_words.specs.declared.old_words.OldWord.TheVariants.{First, Second}
use Rattle.table_law.specs.Plain.{Describes, Plain}
use Rattle.release_laws.specs.Pauses.{IsLeft}
use Rattle.solo_ports.specs.Standing.{IsUnkept}

-- nothing is unfinished, and the frames are p
pub record Between (o : Post) (v : PortValue) (p : Plain) : Type 0 where
  pub post : v.post ≡ o
  pub alone : IsAlone v
  pub first : told_word v (old_place o.vcpu First) ≡ 0
  pub second : told_word v (old_place o.vcpu Second) ≡ 0
  pub frames : Describes o.machine (told_word v) p
  pub unkept : IsUnkept o.machine p

-- the release of a table is unfinished, and leaves p
pub record Within (o : Post) (v : PortValue) (p : Plain) : Type 0 where
  pub post : v.post ≡ o
  pub alone : IsAlone v
  pub frame : ℕ
  pub level : ℕ
  pub second : told_word v (old_place o.vcpu Second) ≡ 0
  pub left : IsLeft o.machine v frame level p
  pub unkept : IsUnkept o.machine p

-- a part is done, or the gate paused it within
abbrev pub PartComes : {A : Type 0} → Post → PortValue → Plain → Result A Stop → Type 0
PartComes o w p (Ok a) = Between o w p
PartComes o w p (Err e) = (e ≡ Paused Due) × Within o w p
