-- What walks alone come to, and the loads by which an update by address finds its table.
use Rattle.std.specs.Prelude.{◌≡◌, ◌⊎◌, ℕ, ◌<◌, Option, Some, None, Result, Ok, Err}
use Rattle.xp_words.specs.Entries.{frame_of}
use Rattle.xp_words.specs.Machine.{Machine}
use Rattle.xp_words.specs.declared.context.LdtBase.{LdtBase}
use Rattle.xp_words.specs.declared.reply.Refusal.{Refusal}
use Rattle.xp_words.specs.declared.reply.Stop.{Stop}
use Rattle.xp_words.specs.declared.reply.Stop.TheVariants.{Refused, Paused}
use Rattle.xp_board.specs.Told.{PortValue}
use Rattle.tlb_walks.specs.Addresses.{walk_refusal}
use Rattle.table_law.specs.Plain.{Plain}
use Rattle.script_law.specs.Values.{Solo, with_frames}
use Rattle.script_law.specs.Walks.{Leads, Stops, Way, table_at, take_touched, touch_unnamed}
use Rattle.solo_ports.specs.Standing.{Clean}

-- the way leads to frame f, one of the machine, and what it leaves is left
pub record IsLed (w : PortValue) (x : Solo) (f : ℕ) (way : Way) : Type 0 where
  pub barrier : Option ℕ
  pub left : Plain
  pub is : way ≡ Leads f barrier left
  pub inside : f < w.post.machine.frames
  pub clean : Clean w (with_frames left x)

-- it stops for that
pub record WalkStops (w : PortValue) (x : Solo) (r : Refusal) (way : Way) : Type 0 where
  pub left : Plain
  pub is : way ≡ Stops r left
  pub clean : Clean w (with_frames left x)

-- A walk, whose answer is its last entry, goes the plain way from x. It is never paused.
abbrev pub WalkComes : PortValue → Solo → Way → Result ℕ Stop → Type 0
WalkComes w x way (Ok entry) = IsLed w x (frame_of entry) way
WalkComes w x way (Err (Refused r)) = WalkStops w x r way
WalkComes w x way (Err (Paused p)) = ⊥

-- Loads lead to the table to which the plain ones lead, or are refused by the address alone, or for what they find.
abbrev pub LoadsCome : Machine → ℕ → Solo → Result ℕ Stop → Type 0
LoadsCome n va x (Ok f) = (walk_refusal va ≡ None) × (table_at n va x (x.own 0) ≡ Ok f) × (f < n.frames)
LoadsCome n va x (Err (Refused r)) = (walk_refusal va ≡ Some r) ⊎ ((walk_refusal va ≡ None) × (table_at n va x (x.own 0) ≡ Err r))
LoadsCome n va x (Err (Paused p)) = ⊥

-- A page of the LDT is touched that no word names: the walk led on, and what is left is to take the frame of that entry as a descriptor page.
pub record IsTouchLed (v w : PortValue) (x : Solo) (d page : ℕ) (b : LdtBase) (entry : ℕ) : Type 0 where
  pub barrier : Option ℕ
  pub left : Plain
  pub is : touch_unnamed v.post.machine d page b x ≡ take_touched v.post.machine d page x (Leads (frame_of entry) barrier left)
  pub inside : frame_of entry < w.post.machine.frames
  pub clean : Clean w (with_frames left x)
