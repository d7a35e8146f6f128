-- What an element comes to.
use Rattle.std.specs.Prelude.{◌≡◌, ◌⊎◌, [], Some, None, Result, Ok, Err}
use Rattle.xp_words.specs.KindWords.{kind_fields}
use Rattle.xp_words.specs.declared.reply.Refusal.{Refusal}
use Rattle.xp_words.specs.declared.reply.Refusal.TheVariants as refusals
use Rattle.xp_words.specs.declared.reply.Stop.{Stop}
use Rattle.xp_words.specs.declared.reply.Stop.TheVariants.{Refused, Paused}
use Rattle.xp_board.specs.Told.{PortValue}
use Rattle.table_law.specs.Plain.{sober}
use Rattle.table_twins.specs.Answers.{IsCause}
use Rattle.script_law.specs.Values.{Solo, Frames, IsPinned, IsUnpinned, Numbers, Outcome, Why}
use Rattle.solo_ports.specs.Standing.{Owes}

-- A refusal is for that reason: of a word of a frame that it carries the stamp does not matter, and all other numbers are the same.
abbrev pub IsWhy : Refusal → Why → Type 0
IsWhy r (Frames c) = IsCause r c
IsWhy (refusals.AlreadyPinned w) (IsPinned k) = sober (kind_fields w) ≡ k
IsWhy (refusals.NotPinned w) (IsUnpinned k) = sober (kind_fields w) ≡ k
IsWhy r (Numbers q) = r ≡ q
IsWhy _ _ = ⊥

-- refused, as o is
pub record IsRefusedSo (w : PortValue) (r : Refusal) (o : Outcome) : Type 0 where
  pub why : Why
  pub is : o.refusal ≡ Some why
  pub same : IsWhy r why
  pub none : o.lines ≡ []
  pub owes : Owes w o.left

-- done, as o is
pub record IsDoneSo (w : PortValue) (o : Outcome) : Type 0 where
  pub fine : o.refusal ≡ None
  pub none : o.lines ≡ []
  pub owes : Owes w o.left

-- What an element comes to from x which comes to o at once: done or refused as o, and then o's words are left once it is settled; or paused, before it began or within (`Kept`).
abbrev pub Comes : (PortValue → Solo → Type 0) → PortValue → Solo → Outcome → Result (Unit {0}) Stop → Type 0
Comes Kept w x o (Ok done) = IsDoneSo w o
Comes Kept w x o (Err (Refused r)) = IsRefusedSo w r o
Comes Kept w x o (Err (Paused p)) = Owes w x ⊎ Kept w x

-- What an element that is never paused comes to: done or refused as o, and the words of o are left once what is unfinished is settled.
abbrev pub ComesUnpaused : PortValue → Outcome → Result (Unit {0}) Stop → Type 0
ComesUnpaused w o (Ok done) = IsDoneSo w o
ComesUnpaused w o (Err (Refused r)) = IsRefusedSo w r o
ComesUnpaused w o (Err (Paused p)) = ⊥
