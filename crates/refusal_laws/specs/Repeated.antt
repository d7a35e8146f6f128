-- Acquisitions that were paused, each of them, by the gate.
use Rattle.std.specs.Prelude.{◌≡◌, ◌≢◌, ◌<◌, ◌≤◌, ℕ, true, false, Bool, List, Some, Err}
use Rattle.xp_words.specs.Machine.{Machine}
use Rattle.xp_words.specs.declared.place.Place.{Place}
use Rattle.xp_words.specs.declared.place.Place.TheVariants.{Cell, Life, M2p, Priv, Refs, Vcpu}
use Rattle.xp_words.specs.declared.reply.Pause.TheVariants.{Due}
use Rattle.xp_words.specs.declared.reply.Stop.TheVariants.{Paused}
use Rattle.xp_board.specs.Readings.{is_dead, is_partial, kind_at}
use Rattle.xp_board.specs.Told.{PortValue, is_telling, told_word}
use Rattle.step_maker.specs.Plain.{Words}
use Rattle.partial_state.specs.Levels.{level_type}
use Rattle.table_words.specs.OldWords.{old_place}
use Rattle.table_words.specs.declared.old_words.OldWord.TheVariants.{First}
use Rattle.table_entries.specs.Acquiring.{Acquired}
use Rattle.table_law.specs.Plain.{Plain, Share, share_of}
use Rattle.course_laws.specs.Courses.{FindsAlive}
use Rattle.pause_laws.specs.Calls.{StaysFrom}

-- The next call is one by the same vCPU.
pub record FollowsOn (v w : PortValue) : Type 0 where
  pub stays : StaysFrom v w
  pub vcpu : w.post.vcpu ≡ v.post.vcpu

-- From v, where all words are told, to w one frame was asked for one owner and level in one call or more, each paused; each but the first goes on where the one before it was
-- paused. At w the next one may go on.
pub data PausedCalls (f owner level : ℕ) (v : PortValue) : PortValue → Type 0 where
  first : (u w : PortValue) (answers : List Bool) → is_telling v ≡ true → Acquired v f owner level u answers (Err (Paused Due)) → FindsAlive v u owner → FollowsOn u w → PausedCalls f owner level v w
  again : (x u w : PortValue) (answers : List Bool) → PausedCalls f owner level v x → Acquired x f owner level u answers (Err (Paused Due)) → FindsAlive x u owner → FollowsOn u w → PausedCalls f owner level v w

-- Words that an acquisition does not touch: cells and machine-to-physical words; lives and privileges; and words of vCPUs but those of flushes.
pub data IsUntouched : Place → Type 0 where
  cell : (f i : ℕ) → IsUntouched (Cell f i)
  maps : (f : ℕ) → IsUntouched (M2p f)
  life : (d : ℕ) → IsUntouched (Life d)
  privilege : (d : ℕ) → IsUntouched (Priv d)
  word : (s k : ℕ) → k ≢ 4 → k ≢ 5 → IsUntouched (Vcpu s k)

-- The words m are those of a frame that the owner holds, and whose acquisition as a table of that level is unfinished: it is partial, with its mark.
pub record IsKeptFrame (n : Machine) (m : Words) (f owner level : ℕ) : Type 0 where
  pub inside : f < n.frames
  pub share : Share
  pub held : share_of (m (Refs f)) ≡ Some share
  pub owns : share.owner ≡ owner
  pub counted : 0 < share.count
  pub partial : is_partial (kind_at m f) ≡ true
  pub alive : is_dead (kind_at m f) ≡ false
  pub unlive : (kind_at m f).validated ≡ false
  pub kind : (kind_at m f).kind ≡ level_type level
  pub kept : (kind_at m f).kept ≡ true
  pub unpinned : (kind_at m f).pinned ≡ false
  pub few : (kind_at m f).progress ≤ 512

-- So it is at u behind paused calls; what they do not touch, the first old word too, is as before them.
pub record IsKeptTable (f owner level : ℕ) (v u : PortValue) : Type 0 where
  pub machine : u.post.machine ≡ v.post.machine
  pub vcpu : u.post.vcpu ≡ v.post.vcpu
  pub telling : is_telling u ≡ true
  pub frame : IsKeptFrame u.post.machine (told_word u) f owner level
  pub same : (q : Place) → IsUntouched q → told_word u q ≡ told_word v q
  pub first : told_word u (old_place u.post.vcpu First) ≡ told_word v (old_place v.post.vcpu First)

-- The first of them found the frame dead, as the plain value p has it that describes the words before it: of that owner, and not pinned.
pub record IsDeadFrame (n : Machine) (p : Plain) (f owner : ℕ) : Type 0 where
  pub inside : f < n.frames
  pub share : Share
  pub held : p.shares f ≡ Some share
  pub owns : share.owner ≡ owner
  pub room : share.count < n.limit
  pub dead : is_dead (p.kinds f) ≡ true
  pub unpinned : (p.kinds f).pinned ≡ false
