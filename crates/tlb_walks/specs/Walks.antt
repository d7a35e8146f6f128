-- Page walks, by the words that they find: which entries are loaded, which bits are set in them, and how a walk ends.
use Rattle.std.specs.Prelude.{◌≡◌, ◌≢◌, ℕ, ◌-◌, ◌<◌, ◌==◌, ◌&&◌, not, is_some, if◌then◌else◌, Bool, true, false, List, [], ◌++◌, Option, Some, None, Result, Ok, Err}
use Rattle.xp_words.specs.Entries.{is_bit, frame_of}
use Rattle.xp_words.specs.Machine.{Machine}
use Rattle.xp_words.specs.Places.{number, sizes_of}
use Rattle.xp_words.specs.declared.place.Place.TheVariants.{Vcpu, Cell}
use Rattle.xp_words.specs.declared.reply.Pause.TheVariants.{Lost}
use Rattle.xp_words.specs.declared.reply.Refusal.{Refusal}
use Rattle.xp_words.specs.declared.reply.Refusal.TheVariants.{NotMapped}
use Rattle.xp_words.specs.declared.reply.Stop.{Stop}
use Rattle.xp_words.specs.declared.reply.Stop.TheVariants.{Refused, Paused}
use Rattle.xp_board.specs.declared.step.Act.TheVariants.{Load, Cas}
use Rattle.xp_board.specs.declared.step.Mark.TheVariants as marks
use Rattle.xp_board.specs.declared.step.StepKind.TheVariants as steps
use Rattle.xp_board.specs.FillSteps.{with_bit}
use Rattle.step_maker.specs.Licences.{is_unmapped}
use Rattle.step_maker.specs.Visits.{Visit, visit_as, Only, Then, Where}
use Rattle.tlb_walks.specs.Addresses.{index_of, walk_refusal}
use Rattle.tlb_walks.specs.declared.walks.Walked.{Walked}

-- the word of a vCPU that names the top table of the user or of the kernel
abbrev pub top_word : Bool → ℕ
top_word user = if user then 1 else 0

-- the first entry, from level 4 down, whose bit 1 is 0: with one more entry
abbrev pub barrier_with : Option ℕ → ℕ → Option ℕ
barrier_with (Some b) w = Some b
barrier_with None w = if is_bit 1 w then None else Some w

-- whether a walk sets the dirty bit at that level: for a write, in the last entry, where no entry bars it
abbrev pub dirties : Bool → ℕ → Option ℕ → Bool
dirties write level barrier = write && (not (is_some barrier) && (level == 1))

-- the entry with the bits that a walk needs in it: accessed, bit 5; and dirty, bit 6, where it sets that
abbrev pub with_needed : Bool → ℕ → Option ℕ → ℕ → ℕ
with_needed write level barrier w = if dirties write level barrier then with_bit 6 (with_bit 5 w) else with_bit 5 w

-- ---- one entry
abbrev pub saw_entry : ℕ → ℕ → ℕ → Visit
saw_entry table i w = visit_as steps.Fill (Cell table i) Load w

abbrev pub sets_bits : ℕ → ℕ → ℕ → ℕ → ℕ → Visit
sets_bits table i w new found = visit_as steps.Touch (Cell table i) (Cas w new) found

-- Entry i of that table is loaded, and found as w. Right after that, where it is present and lacks bits that the walk needs, it is
-- exchanged for itself with these, `new`; the exchange found `found`.
abbrev pub EntryBy : ℕ → ℕ → ℕ → ℕ → ℕ → List Visit → Type 0
EntryBy table i w new found vs = Then (Only (saw_entry table i w)) (Where (is_bit 0 w && not (new == w)) (Only (sets_bits table i w new found))) vs

-- How a walk ends with this entry: the last one answers the word as it was loaded; one that is not present, or names no frame of the
-- machine, refuses it; a lost exchange ends it at once.
abbrev pub EndsAt : Machine → ℕ → ℕ → ℕ → Option ℕ → ℕ → ℕ → ℕ → Result Walked Stop → Type 0
EndsAt n table i level barrier w new found (Ok r) = (level ≡ 1) × (is_unmapped n w ≡ false) × (found ≡ w) × (r.entry ≡ w) × (r.barrier ≡ barrier)
EndsAt n table i level barrier w new found (Err (Refused (NotMapped l e))) = (l ≡ level) × (e ≡ w) × (is_unmapped n w ≡ true) × (found ≡ w)
EndsAt n table i level barrier w new found (Err (Paused (Lost place e x))) =
    (place ≡ number (sizes_of n) (Cell table i)) × (e ≡ w) × (x ≡ found) × (is_bit 0 w ≡ true) × (new ≢ w) × (found ≢ w)
EndsAt n table i level barrier w new found (Err _) = ⊥

-- ---- from a table down
-- The entries of a walk from that table down, at that level: it ends with this one; or this one is present, names a frame of the machine
-- and has its bits, and the walk goes on in the table that it names, one level lower.
pub data PathBy (n : Machine) (va : ℕ) (write : Bool) (answer : Result Walked Stop) : ℕ → ℕ → Option ℕ → List Visit → Type 0 where
  ends : (level table : ℕ) (barrier : Option ℕ) (vs : List Visit) (w found : ℕ) →
      EntryBy table (index_of va level) w (with_needed write level (barrier_with barrier w) w) found vs →
      EndsAt n table (index_of va level) level (barrier_with barrier w) w (with_needed write level (barrier_with barrier w) w) found answer →
      PathBy n va write answer level table barrier vs
  goes : (level table : ℕ) (barrier : Option ℕ) (vs first rest : List Visit) (w : ℕ) → 1 < level → is_unmapped n w ≡ false →
      EntryBy table (index_of va level) w (with_needed write level (barrier_with barrier w) w) w first →
      PathBy n va write answer (level - 1) (frame_of w) (barrier_with barrier w) rest → vs ≡ rest ++ first → PathBy n va write answer level table barrier vs

-- ---- the whole walk
abbrev pub base_visit : ℕ → Bool → Bool → ℕ → Visit
base_visit s user write base = record { place = Vcpu s (top_word user); act = Load; kind = steps.Fill; mark = Some (marks.Walk write); found = base }

-- Of vCPU s, by these steps, the newest first: none, where the address alone refuses it; the load of the base alone, where that names no
-- table; or that load, and then the entries from the top table down.
pub data WalkBy (n : Machine) (s : ℕ) (user : Bool) (va : ℕ) (write : Bool) (answer : Result Walked Stop) (vs : List Visit) : Type 0 where
  barred : (x : Refusal) → walk_refusal va ≡ Some x → answer ≡ Err (Refused x) → vs ≡ [] → WalkBy n s user va write answer vs
  baseless : walk_refusal va ≡ None → answer ≡ Err (Refused (NotMapped 5 0)) → Only (base_visit s user write 0) vs → WalkBy n s user va write answer vs
  walks : (base : ℕ) → walk_refusal va ≡ None → base ≢ 0 → Then (Only (base_visit s user write base)) (PathBy n va write answer 4 (base - 1) None) vs →
      WalkBy n s user va write answer vs
