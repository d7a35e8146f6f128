-- Whose tables and frames a number names, and what refuses that.
use Rattle.std.specs.Prelude.{◌≡◌, ◌≢◌, ◌⊎◌, ℕ, ◌-◌, ◌/◌, ◌%◌, ◌^◌, ◌<◌, ◌≤◌, ◌==◌, ◌||◌, nat_lt, not, if◌then◌else◌, true, false, List, [], ◌∷◌, ◌++◌, length, Option, Some, None, Result, Ok, Err, IsTrue}
use Rattle.xp_words.specs.Machine.{Machine}
use Rattle.xp_words.specs.Places.{sizes_of}
use Rattle.xp_words.specs.declared.place.Place.TheVariants.{Life, Priv}
use Rattle.xp_words.specs.declared.reply.Refusal.{Refusal}
use Rattle.xp_words.specs.declared.reply.Refusal.TheVariants.{BadRange, Dying, NoDomain, NoPrivilege}
use Rattle.xp_board.specs.declared.step.Act.TheVariants.{Load}
use Rattle.xp_board.specs.Readings.{has_now}
use Rattle.xp_board.specs.Steps.{some_since}
use Rattle.xp_board.specs.Told.{PortValue, is_telling, told_word}
use Rattle.step_maker.specs.Plain.{Leaves, Words}
use Rattle.step_maker.specs.Asked.{Request, of_frame}
use Rattle.step_maker.specs.Visits.{Visit, visit, Does}
use Rattle.foreign_map.specs.declared.owners.Owners.{Owners}

-- ---- the number
-- the tables' owner, from bits 16 on; and the frames' owner, by bits 0 to 15
abbrev pub tables_of : ℕ → ℕ → ℕ
tables_of caller foreign = if foreign / 2 ^ 16 == 0 then caller else foreign / 2 ^ 16 - 1

abbrev pub frames_of : ℕ → ℕ → ℕ
frames_of caller foreign = if foreign % 2 ^ 16 == 0x7ff0 then caller else foreign % 2 ^ 16

-- what the number alone refuses: it has more than 32 bits, or names no domain
abbrev pub by_number : Machine → ℕ → ℕ → Option Refusal
by_number n caller foreign =
    if not (nat_lt foreign (2 ^ 32)) then Some BadRange
    else if not (nat_lt (tables_of caller foreign) (length n.page_limit)) || not (nat_lt (frames_of caller foreign) (length n.page_limit)) then Some NoDomain
    else None

-- a call that names these two domains
abbrev pub of_owners : Machine → ℕ → ℕ → Request
of_owners n caller foreign =
    record (of_frame 0 (tables_of caller foreign) None) {
      names = λ g. false;
      by_numbers = by_number n caller foreign;
      over = λ d. (d == tables_of caller foreign) || (d == frames_of caller foreign);
    }

-- ---- by its steps
abbrev pub saw_privileges : ℕ → ℕ → Visit
saw_privileges d x = visit (Priv d) Load x

abbrev pub saw_life : ℕ → ℕ → Visit
saw_life d x = visit (Life d) Load x

-- The caller may name domain d, or that is refused: d is none; the caller is found without privilege over it; or it is found dying. Of
-- itself nothing is looked at.
pub data Admits (n : Machine) (caller d : ℕ) : Option Refusal → List Visit → Type 0 where
  own : d ≡ caller → Admits n caller d None []
  missing : d ≢ caller → length n.page_limit ≤ d → Admits n caller d (Some NoDomain) []
  barred : (x : ℕ) → d ≢ caller → d < length n.page_limit → has_now d x ≡ false → Admits n caller d (Some (NoPrivilege caller d)) (saw_privileges caller x ∷ [])
  dying : (x y : ℕ) → d ≢ caller → d < length n.page_limit → has_now d x ≡ true → y ≢ 0 → Admits n caller d (Some (Dying d y)) (saw_life d y ∷ saw_privileges caller x ∷ [])
  alive : (x : ℕ) → d ≢ caller → d < length n.page_limit → has_now d x ≡ true → Admits n caller d None (saw_life d 0 ∷ saw_privileges caller x ∷ [])

-- The tables' owner may map frames of the other one, or that is refused. What the caller may is admitted already.
pub data OverOf (caller tables frames : ℕ) : Option Refusal → List Visit → Type 0 where
  same : tables ≡ frames → OverOf caller tables frames None []
  of_caller : tables ≡ caller → OverOf caller tables frames None []
  forbidden : (x : ℕ) → tables ≢ caller → tables ≢ frames → has_now frames x ≡ false → OverOf caller tables frames (Some (NoPrivilege tables frames)) (saw_privileges tables x ∷ [])
  allowed : (x : ℕ) → tables ≢ caller → tables ≢ frames → has_now frames x ≡ true → OverOf caller tables frames None (saw_privileges tables x ∷ [])

-- the first check that refuses decides
pub data OwnersBy (n : Machine) (caller foreign : ℕ) : Result Owners Refusal → List Visit → Type 0 where
  above : 2 ^ 32 ≤ foreign → OwnersBy n caller foreign (Err BadRange) []
  no_tables : (x : Refusal) (vs : List Visit) → foreign < 2 ^ 32 → Admits n caller (tables_of caller foreign) (Some x) vs → OwnersBy n caller foreign (Err x) vs
  no_frames : (x : Refusal) (vs us : List Visit) → foreign < 2 ^ 32 → Admits n caller (tables_of caller foreign) None vs → Admits n caller (frames_of caller foreign) (Some x) us →
      OwnersBy n caller foreign (Err x) (us ++ vs)
  apart : (x : Refusal) (vs us ws : List Visit) → foreign < 2 ^ 32 → Admits n caller (tables_of caller foreign) None vs → Admits n caller (frames_of caller foreign) None us →
      OverOf caller (tables_of caller foreign) (frames_of caller foreign) (Some x) ws → OwnersBy n caller foreign (Err x) (ws ++ (us ++ vs))
  had : (vs us ws : List Visit) → foreign < 2 ^ 32 → Admits n caller (tables_of caller foreign) None vs → Admits n caller (frames_of caller foreign) None us →
      OverOf caller (tables_of caller foreign) (frames_of caller foreign) None ws →
      OwnersBy n caller foreign (Ok (record { tables = tables_of caller foreign; frames = frames_of caller foreign })) (ws ++ (us ++ vs))

abbrev pub FoundOwners : PortValue → PortValue → ℕ → ℕ → Result Owners Refusal → Type 0
FoundOwners v w caller foreign answer = Does v w (λ vs. OwnersBy v.post.machine caller foreign answer vs)

-- ---- one domain, and one over another
-- the number is that of a domain that the caller may name, or that is refused
abbrev pub AdmitsBy : Machine → ℕ → ℕ → Result ℕ Refusal → List Visit → Type 0
AdmitsBy n caller d (Ok k) vs = (k ≡ d) × Admits n caller d None vs
AdmitsBy n caller d (Err x) vs = Admits n caller d (Some x) vs

abbrev pub AdmitsFound : PortValue → PortValue → ℕ → ℕ → Result ℕ Refusal → Type 0
AdmitsFound v w caller d answer = Does v w (λ vs. AdmitsBy v.post.machine caller d answer vs)

abbrev pub AllowsBy : ℕ → ℕ → ℕ → Result (Unit {0}) Refusal → List Visit → Type 0
AllowsBy caller tables frames (Ok done) vs = OverOf caller tables frames None vs
AllowsBy caller tables frames (Err x) vs = OverOf caller tables frames (Some x) vs

abbrev pub AllowsFound : PortValue → PortValue → ℕ → ℕ → ℕ → Result (Unit {0}) Refusal → Type 0
AllowsFound v w caller tables frames answer = Does v w (λ vs. AllowsBy caller tables frames answer vs)

-- ---- what is known then
-- both are domains of the machine; and where they are two, the privilege of the one over the other was found in this turn
pub record MayMapFor (w : PortValue) (o : Owners) : Type 0 where
  pub tables : o.tables < length w.post.machine.page_limit
  pub frames : o.frames < length w.post.machine.page_limit
  pub over : (o.frames ≡ o.tables) ⊎ IsTrue (some_since (sizes_of w.post.machine) w.holdings.turn (Priv o.tables) (has_now o.frames) w.holdings.steps)

-- ---- on a board that tells all words
abbrev pub admit : Machine → Words → ℕ → ℕ → Option Refusal
admit n m caller d =
    if d == caller then None
    else if not (nat_lt d (length n.page_limit)) then Some NoDomain
    else if not (has_now d (m (Priv caller))) then Some (NoPrivilege caller d)
    else if not (m (Life d) == 0) then Some (Dying d (m (Life d)))
    else None

abbrev pub allow : Words → ℕ → ℕ → ℕ → Option Refusal
allow m caller tables frames = if (tables == caller) || (tables == frames) then None else if has_now frames (m (Priv tables)) then None else Some (NoPrivilege tables frames)

abbrev pub or_then : Option Refusal → Option Refusal → Option Refusal
or_then (Some x) other = Some x
or_then None other = other

abbrev pub refuse_owners : Machine → Words → ℕ → ℕ → Option Refusal
refuse_owners n m caller foreign =
    if not (nat_lt foreign (2 ^ 32)) then Some BadRange
    else or_then (admit n m caller (tables_of caller foreign))
    (or_then (admit n m caller (frames_of caller foreign)) (allow m caller (tables_of caller foreign) (frames_of caller foreign)))

abbrev pub owners_answer : ℕ → ℕ → Option Refusal → Result Owners Refusal
owners_answer caller foreign (Some x) = Err x
owners_answer caller foreign None = Ok (record { tables = tables_of caller foreign; frames = frames_of caller foreign })

abbrev pub TwinOwners : PortValue → PortValue → ℕ → ℕ → Result Owners Refusal → Type 0
TwinOwners v w caller foreign answer = is_telling v ≡ true → (answer ≡ owners_answer caller foreign (refuse_owners v.post.machine (told_word v) caller foreign)) × Leaves w (told_word v)
