-- How far the destruction of a domain by the only vCPU has come, and what it comes to.
use Rattle.std.specs.Prelude.{◌≡◌, ◌≢◌, ℕ, zero, suc, ◌+◌, ◌-◌, ◌<◌, ◌≤◌, List, [], ◌∷◌, ◌++◌, length, Some, None, Result, Ok, Err}
use Rattle.xp_words.specs.Machine.{Machine}
use Rattle.xp_words.specs.declared.reply.LogLine.{LogLine}
use Rattle.xp_words.specs.declared.reply.Stop.{Stop}
use Rattle.xp_words.specs.declared.reply.Stop.TheVariants.{Refused, Paused}
use Rattle.xp_board.specs.Told.{PortValue}
use Rattle.table_law.specs.Plain.{Plain, share_of}
use Rattle.domain_destroy.specs.Coming.{left_at, seen_to}
use Rattle.domain_destroy.specs.Course.{LeftFrame, left_lines}
use Rattle.domain_destroy.specs.declared.place.DestroyAt.{DestroyAt}
use Rattle.domain_destroy.specs.declared.place.DestroyAt.TheVariants.{Begins, Clears, Checks, Lists}
use Rattle.script_law.specs.Destroying.{buried, destroy, left_below, stripped}
use Rattle.script_law.specs.Values.{Left, Line, Outcome, Solo, Whose}
use Rattle.solo_ports.specs.Coming.{IsRefusedSo}
use Rattle.solo_ports.specs.Standing.{Clean, Owes, whose}

-- ---- what is left to do from a place
-- k frames from frame f on
unfoldable pub strip_from : ℕ → ℕ → ℕ → Plain → Plain
strip_from d f zero p = p
strip_from d f (suc k) p = strip_from d (f + 1) k (stripped d f p)

-- the frames as they are listed: those below the place are stripped already
abbrev pub stripped_at : Machine → ℕ → DestroyAt → Plain → Plain
stripped_at n d Checks p = p
stripped_at n d (Lists frame left) p = p
stripped_at n d (Clears frame) p = strip_from d frame (n.frames - frame) p
stripped_at n d _ p = strip_from d 0 n.frames p

-- the whole outcome, from the plain value at the place; behind the beginning its life word does not matter
abbrev pub destroy_rest : Whose → ℕ → DestroyAt → Solo → Outcome
destroy_rest w d Begins s = destroy w d s
destroy_rest w d at s = buried w.machine d (stripped_at w.machine d at s.frames) s

-- the lines of the frames that are listed there
abbrev pub lines_to : ℕ → DestroyAt → Plain → List Line
lines_to d (Lists frame left) p = left_below d p frame
lines_to d _ p = []

-- ---- lines
abbrev pub IsLeftLine : LeftFrame → Line → Type 0
IsLeftLine x (Left f s) = (x.frame ≡ f) × (share_of x.word ≡ Some s)
IsLeftLine x _ = ⊥

abbrev pub AreLeft : List LeftFrame → List Line → Type 0
AreLeft [] [] = Unit {0}
AreLeft (x ∷ xs) (l ∷ ls) = IsLeftLine x l × AreLeft xs ls
AreLeft _ _ = ⊥

-- ---- how far it has come
-- behind the beginning: the domain is one of the machine's, and not the own one
abbrev pub IsOtherThen : Whose → ℕ → DestroyAt → Type 0
IsOtherThen w d Begins = Unit {0}
IsOtherThen w d at = (d < length w.machine.page_limit) × (w.domain ≢ d)

-- The destruction of domain d, operation number op, has come to that place, and comes to o, whole: from where the plain value is s. The log was `before` as it began.
pub record GoesOnDying (w : Whose) (d op : ℕ) (at : DestroyAt) (before log : List LogLine) (s : Solo) (o : Outcome) : Type 0 where
  pub other : IsOtherThen w d at
  pub comes : destroy_rest w d at s ≡ o
  pub made : List LeftFrame
  pub logged : log ≡ before ++ left_lines op made
  pub lines : AreLeft made (lines_to d at s.frames)
  pub counts : left_at at ≡ length (lines_to d at s.frames)
  pub inside : seen_to at ≤ w.machine.frames

-- ---- what a turn of it comes to
pub record IsDestroyedSo (w : PortValue) (op : ℕ) (before log : List LogLine) (left : ℕ) (o : Outcome) : Type 0 where
  pub fine : o.refusal ≡ None
  pub value : left ≡ o.value
  pub made : List LeftFrame
  pub logged : log ≡ before ++ left_lines op made
  pub lines : AreLeft made o.lines
  pub clean : Clean w o.left

pub record IsPausedSo (w : PortValue) (d op : ℕ) (to : DestroyAt) (before log : List LogLine) (o : Outcome) : Type 0 where
  pub s : Solo
  pub owes : Owes w s
  pub goes_on : GoesOnDying (whose w) d op to before log s o
  -- it is not the own domain
  pub apart : (whose w).domain ≢ d

-- Done or refused as o; or paused, and it goes on for the same o. Refused, it logged nothing.
abbrev pub ComesDying : PortValue → ℕ → ℕ → DestroyAt → List LogLine → List LogLine → Outcome → Result ℕ Stop → Type 0
ComesDying w d op to before log o (Ok left) = IsDestroyedSo w op before log left o
ComesDying w d op to before log o (Err (Refused r)) = IsRefusedSo w r o × (log ≡ before)
ComesDying w d op to before log o (Err (Paused p)) = IsPausedSo w d op to before log o
