-- The destruction of a domain by another one.
use Rattle.std.specs.Prelude.{ℕ, zero, suc, ◌+◌, ◌==◌, ◌||◌, ◌++◌, not, nat_lt, if◌then◌else◌, Bool, List, [], ◌∷◌, length, Option, Some, None}
use Rattle.xp_words.specs.Machine.{Machine}
use Rattle.xp_words.specs.PageTypes.{type_number}
use Rattle.xp_words.specs.declared.kind.KindWord.{KindWord}
use Rattle.xp_words.specs.declared.reply.Refusal.{Refusal}
use Rattle.xp_words.specs.declared.reply.Refusal.TheVariants.{Dying, NoDomain, NoPrivilege}
use Rattle.xp_board.specs.Readings.{has_now}
use Rattle.table_words.specs.Pins.{unpinned_kind}
use Rattle.table_law.specs.Plain.{Plain, Share, with_kind}
use Rattle.table_law.specs.Release.{let_go}
use Rattle.script_law.specs.Memory.{is_allocated_to, is_owned_by, unmarked}
use Rattle.script_law.specs.Repeats.{each_below}
use Rattle.script_law.specs.Values.{Solo, Whose, Outcome, Left, Line, allowed, put_at}

-- ---- why it is refused: there is no such domain; the own one has no privilege over it, as over itself; it is being destroyed, or dead
abbrev pub destroy_refusal : Whose → ℕ → Solo → Option Refusal
destroy_refusal w d s =
    if not (nat_lt d (length w.machine.page_limit)) then Some NoDomain
    else if (d == w.domain) || not (has_now d (s.privileges w.domain)) then Some (NoPrivilege w.domain d)
    else if not (s.lives d == 0) then Some (Dying d (s.lives d))
    else None

-- ---- one of its frames: its pin is taken off and the tree let go, and then the allocated mark with its reference
abbrev pub unpinned : ℕ → KindWord → Plain → Plain
unpinned g k p = if k.pinned then let_go (type_number k.kind) g (with_kind g (unpinned_kind k) p) else p

abbrev pub unallocated : ℕ → ℕ → Plain → Plain
unallocated d g p = if is_allocated_to d (p.shares g) then unmarked g (p.shares g) p else p

abbrev pub stripped : ℕ → ℕ → Plain → Plain
stripped d g p = if is_owned_by d (p.shares g) then unallocated d g (unpinned g (p.kinds g) p) else p

-- ---- what it leaves: the frames that are the domain's still, since another domain's tables map them, in order
abbrev pub left_line : ℕ → ℕ → Option Share → List Line
left_line d g None = []
left_line d g (Some s) = if s.owner == d then Left g s ∷ [] else []

unfoldable pub left_below : ℕ → Plain → ℕ → List Line
left_below d p zero = []
left_below d p (suc g) = left_below d p g ++ left_line d g (p.shares g)

-- The vCPUs of the domain are stopped and name nothing: where the own vCPU is the only one there are none. The life word of a dead domain is 255.
abbrev pub buried : Machine → ℕ → Plain → Solo → Outcome
buried n d p s =
    record { refusal = None; value = length (left_below d p n.frames); lines = left_below d p n.frames; left = record s { frames = p; lives = put_at d 255 s.lives } }

abbrev pub destroy : Whose → ℕ → Solo → Outcome
destroy w d s = allowed (destroy_refusal w d s) s (buried w.machine d (each_below w.machine.frames (stripped d) s.frames) s)
